-- The rounds of an assign's bindings, said without the algorithm: which bindings stand in each, and how many rounds hold any.
-- Assumes nothing.
use Rattle.std.specs.Prelude.{ℕ, zero, suc, Bool, not, ◌&&◌, List, [], ◌++◌, eqb, length}
use Rattle.ordering.specs.Items.{Item, indices_from, is_empty, any, keep, gives, needed, ready}

-- the indices, rising, of the bindings that pass a test
abbrev pub those : List Item → (ℕ → Bool) → List ℕ
those bs f = keep f (indices_from 0 (length bs))

-- the round after the first k, whose bindings are `before`. Round 1 holds the bindings that need nothing; a later round those not yet placed whose
-- needs are all provided by the rounds before it.
unfoldable pub round_after : List Item → ℕ → List ℕ → List ℕ
round_after bs zero before = those bs (λ i. is_empty (needed bs i))
round_after bs (suc k) before = those bs (λ i. not (any (eqb i) before) && ready bs before i)

-- the bindings of the first k rounds
unfoldable pub up_to : List Item → ℕ → List ℕ
up_to bs zero = []
up_to bs (suc k) = up_to bs k ++ round_after bs k (up_to bs k)

-- those of round k; the rounds are counted from 1
unfoldable pub round : List Item → ℕ → List ℕ
round bs zero = []
round bs (suc k) = round_after bs k (up_to bs k)

-- how many rounds are nonempty; none is after as many as there are bindings (`rounds_exact` of proofs/Rounds.antt)
unfoldable pub rounds : List Item → ℕ
rounds bs = length (keep (λ k. not (is_empty (round bs k))) (indices_from 1 (length bs)))

-- unfolds with every definition of this file, and of Items.antt
unfoldable pub computing_rounds : Unit {0}
unfolding gives needed ready round_after up_to round rounds
computing_rounds = tt
