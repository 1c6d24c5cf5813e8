-- A row in which an index changes places twice; an empty list, which counts as ordered; rounds; and four answers that `OrderMeans` rules out.
-- Assumes nothing.
use Prim.Native.Nat.{ℕ}
use native.Mathlib.Omega.{arith}
use mathlib.Core.Path.{◌≡◌, refl}
use mathlib.Core.List.Memᴰ
use mathlib.Core.List.{List, [], ◌∷◌}
use mathlib.Core.Logic.{inl, inr}
use Rattle.std.specs.Prelude.{Some}
use Rattle.names.specs.CallAnswer.{accepted_answer}
use Rattle.names.specs.Names.{Bytes, computing_names}
use Rattle.names.specs.Refusals.{refusing}
use Rattle.names.specs.declared.Reason.TheVariants.{Deadlock}
use Rattle.names.specs.declared.Place.{Place}
use Rattle.records.specs.Records.{Body}
use Rattle.ordering.specs.Items.{Item}
use Rattle.ordering.specs.Lawful.{Lawful, Full, NoOrder}
use Rattle.ordering.specs.OrderCall.{bindings_of}
use Rattle.ordering.specs.OrderMeans.{IsAssign, OrderMeans}
use Rattle.ordering.specs.Rounds.{computing_rounds, round, rounds}
use Rattle.ordering.specs.Toposort.{computing_toposort, ordered, deadlock, toposort}
use Rattle.ordering.specs.Words.{items}
use Rattle.ordering.proofs.OrderAnswers.{one_assign}
use Rattle.ordering.proofs.Toposort.{sound, no_order}

-- a binding that provides x, and whose body mentions those names
abbrev binds : ℕ → List Bytes → Item
binds x needs = record { needs = needs; has = (x ∷ []) ∷ [] }

-- the row 0 1 2 3 where 1 and 3 go first: 1 changes places with 0, then 3 with the 0 that now stands second
abbrev pairs : List Item
pairs = binds 1 ((2 ∷ []) ∷ []) ∷ binds 2 [] ∷ binds 3 ((4 ∷ []) ∷ []) ∷ binds 4 [] ∷ []

four : toposort pairs ≡ ordered (1 ∷ 3 ∷ 2 ∷ 0 ∷ [])
unfolding computing_toposort computing_names
four = refl

-- its two rounds
four_rounds : (rounds pairs ≡ 2) × (round pairs 1 ≡ 1 ∷ 3 ∷ []) × (round pairs 2 ≡ 0 ∷ 2 ∷ []) × (round pairs 3 ≡ [])
unfolding computing_rounds computing_names
four_rounds = (refl, refl, refl, refl)

empty : Full [] []
unfolding computing_toposort
empty = sound [] [] refl

-- two bindings that need each other, and two of which the first needs the second
abbrev crossed : List Item
crossed = binds 1 ((2 ∷ []) ∷ []) ∷ binds 2 ((1 ∷ []) ∷ []) ∷ []

abbrev chained : List Item
chained = binds 1 ((2 ∷ []) ∷ []) ∷ binds 2 [] ∷ []

-- one that needs only itself stands in no round; one whose body mentions a name that no binding provides needs nothing
itself : (rounds (binds 1 ((1 ∷ []) ∷ []) ∷ []) ≡ 0) × (round (binds 1 ((1 ∷ []) ∷ []) ∷ binds 2 ((9 ∷ []) ∷ []) ∷ []) 1 ≡ 1 ∷ [])
unfolding computing_rounds computing_names
itself = (refl, refl)

-- no bindings, no rounds; nor where each needs the other; three that need each the one after it stand in three
counts : (rounds [] ≡ 0) × (rounds crossed ≡ 0) × (rounds (binds 1 ((2 ∷ []) ∷ []) ∷ binds 2 ((3 ∷ []) ∷ []) ∷ binds 3 [] ∷ []) ≡ 3)
unfolding computing_rounds computing_names
counts = (refl, refl, refl)

chained_rounds : rounds chained ≡ 2
unfolding computing_rounds computing_names
chained_rounds = refl

crossed_stuck : toposort crossed ≡ deadlock (0 ∷ 1 ∷ [])
unfolding computing_toposort computing_names
crossed_stuck = refl

module _ {input : Bytes} {a : Body} (is : IsAssign input a) (c : ℕ) where
  -- no answer: with 5 a stuck binding is left out
  left_out : (p : Place) → items (bindings_of a) ≡ crossed → ¬ OrderMeans input (record { refusal = Some (refusing Deadlock p); counter = c; rounds = 0; len = 1 }, 0 ∷ [])
  left_out p e m =
      let s = m.stuck refl in
      let n : NoOrder crossed (0 ∷ []) = rw (← e, ← one_assign s.0 a s.1 is) s.2 in
      let i = (n.stuck 1).1 (((no_order crossed (0 ∷ 1 ∷ []) crossed_stuck).stuck 1).0 (Memᴰ.tail (Memᴰ.head refl))) in
      elim (Memᴰ.cases_cons i) [ inl z ↦ omega arith | inr q ↦ Memᴰ.not-nil q ]

  -- no answer: with 0 what a binding needs comes later
  later : (turns : ℕ) → items (bindings_of a) ≡ chained → ¬ OrderMeans input (accepted_answer c turns 2, 0 ∷ 1 ∷ [])
  unfolding Lawful
  later turns e m =
      let s = m.order refl in
      let f : Full chained (0 ∷ 1 ∷ []) = rw (← e, ← one_assign s.0 a s.1 is) s.2 in
      Memᴰ.not-nil (f.lawful 0 (omega arith) (2 ∷ []) (record { mentioned = Memᴰ.head refl; by = 1; provided = Memᴰ.head refl })).1

  -- no answer: with 0 a round that holds no binding is counted
  blank : items (bindings_of a) ≡ chained → ¬ OrderMeans input (accepted_answer c 3 2, 1 ∷ 0 ∷ [])
  blank e m =
      let s = m.order refl in
      let r : 3 ≡ rounds chained = rw (← e, ← one_assign s.0 a s.1 is) s.3 in
      omega (arith, chained_rounds)

  -- no answer: a deadlock with a round
  stuck_round : (p : Place) (l : Bytes) → ¬ OrderMeans input (record { refusal = Some (refusing Deadlock p); counter = c; rounds = 1; len = 2 }, l)
  stuck_round p l m = let r = m.none (λ z. omega arith) in omega arith
