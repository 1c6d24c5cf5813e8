-- The search for a need of one binding that is not met, from place to place.
-- Assumes nothing.
use Prim.Native.Nat.{ℕ, zero, suc, ◌+◌, ◌-◌, ◌≤◌, ◌<◌}
use native.Mathlib.Nat.{le_of_suc-le-suc, not-suc-le-zero}
use native.Mathlib.Numerals.{add-one}
use native.Mathlib.Omega.{arith}
use mathlib.Core.Path.{◌≡◌, refl, sym, ap, ap₂, ◌∙◌}
use mathlib.Core.Bool.{Bool, true, false}
use mathlib.Core.List.{List, [], ◌∷◌, map}
use lib.Bits.{bit_and}
use lib.ListN.{length, get_or, take, drop, drop_of_length-le, length-map}
use lib.Seq.{drop-cons, get_or-drop, get_or-take}
use Rattle.names.specs.Names.{Bytes}
use Rattle.ordering.specs.Items.{Item, ready, item_at, any, all, gives, needed}
use Rattle.ordering.specs.Needs.{bits, marks, providers, TurnStart}
use Rattle.ordering.proofs.Bits.{none_gives, some_gives}

map_at : {A B : Type 0} (f : A → B) (l : List A) (n : ℕ) (d : A) (e : B) → n < length l → get_or (map f l) n e ≡ f (get_or l n d)
map_at f [] n d e h = absurd (not-suc-le-zero h)
map_at f (x ∷ xs) zero d e h = refl
map_at f (x ∷ xs) (suc n) d e h = map_at f xs n d e (le_of_suc-le-suc h)

-- the indices of `done` provide all that the binding with index i needs, but for the first m names
unfoldable pub met_from : List Item → List ℕ → ℕ → ℕ → Bool
met_from bs done i m = all (λ x. any (λ j. gives x (item_at bs j)) done) (drop m (needed bs i))

pub none_seen : (bs : List Item) (done : List ℕ) (i : ℕ) → ready bs done i ≡ met_from bs done i 0
unfolding ready met_from
none_seen bs done i = refl

module _ {bs : List Item} {needs starts row : List ℕ} {placed done : ℕ} (g : TurnStart bs needs starts row placed done) (i k : ℕ) (lt : i < length bs) (from : get_or starts i 0 ≤ k) where
  abbrev passed : ℕ
  passed = k - get_or starts i 0

  abbrev name : Bytes
  name = get_or (needed bs i) passed []

  module _ (to : k < get_or starts (i + 1) 0) where
    within : passed < length (needed bs i)
    within = omega (arith, g.at.next i lt, rw add-one at to)

    need_at : get_or needs k 0 ≡ providers bs name
    need_at =
        let l : List ℕ = map (providers bs) (needed bs i) in
        let s : ℕ = get_or starts i 0 in
        let e : k ≡ s + passed = omega arith in
        ap (λ n. get_or needs n 0) e
        ∙ sym (get_or-drop s needs passed 0)
        ∙ sym (get_or-take (length l) (drop s needs) passed 0 (rw length-map within))
        ∙ ap (λ xs. get_or xs passed 0) (g.at.there i lt).there
        ∙ map_at (providers bs) (needed bs i) passed [] 0 within

    test_is : bit_and (get_or needs k 0) done ≡ bit_and (providers bs name) (bits (marks (length bs) (take placed row)))
    test_is = ap₂ bit_and need_at (g.marked ∙ rw g.size)

    -- a missing provider: the binding is not ready
    pub not_met : bit_and (get_or needs k 0) done ≡ 0 → met_from bs (take placed row) i passed ≡ false
    unfolding met_from
    not_met e = rw (drop-cons (needed bs i) passed [] within, none_gives bs name (take placed row) (sym test_is ∙ e))

    pub one_met : (bit_and (get_or needs k 0) done ≡ 0 → ⊥) → met_from bs (take placed row) i passed ≡ met_from bs (take placed row) i (k + 1 - get_or starts i 0)
    unfolding met_from
    one_met h =
        let e : k + 1 - get_or starts i 0 ≡ suc passed = omega arith in
        rw (e, drop-cons (needed bs i) passed [] within, some_gives bs name (take placed row) (λ z. h (test_is ∙ z)))

  pub all_met : get_or starts (i + 1) 0 ≤ k → met_from bs (take placed row) i passed ≡ true
  unfolding met_from
  all_met h =
      let l : length (needed bs i) ≤ passed = omega (arith, g.at.next i lt, rw add-one at h) in
      rw (drop_of_length-le (needed bs i) l)
