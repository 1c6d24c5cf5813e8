-- The shortest signed bytes of a number, by their first two. Assumes nothing.
use mathlib.Core.Path.{◌≡◌, refl, ap, sym, ◌∙◌}
use mathlib.Core.Bool.{Bool, true, false, not, ◌||◌}
use mathlib.Core.List.{[], ◌∷◌}
use Prim.Native.Nat.{ℕ, ◌≤◌}
use native.Mathlib.Omega.{arith}
use lib.Dec.{leb, ltb}
use lib.ListN.{length, get_or}
use borrow.Author.Tests.{ltb-true, ltb-false, le-leb, lt-leb, ne_eqb}
use Rattle.names.specs.Names.{Bytes}
use Rattle.records.specs.ReadFields.{shortest}

not_below : (a b : ℕ) → not (ltb a b) ≡ leb b a
not_below a b = go (ltb a b) refl
  where
    go : (t : Bool) → ltb a b ≡ t → not t ≡ leb b a
    go true q = sym (lt-leb b a (ltb-true a b q))
    go false q = sym (le-leb b a (ltb-false a b q))

not_from : (a b : ℕ) → not (leb b a) ≡ ltb a b
not_from a b = ap not (sym (not_below a b)) ∙ twice (ltb a b)
  where
    twice : (t : Bool) → not (not t) ≡ t
    twice true = refl
    twice false = refl

or_false : (b : Bool) → (b || false) ≡ b
or_false true = refl
or_false false = refl

pub shortest_none : (v : Bytes) → length v ≡ 0 → shortest v ≡ false
unfolding shortest
shortest_none [] q = refl
shortest_none (a ∷ v) q = absurd (omega arith)

pub shortest_one : (v : Bytes) → length v ≡ 1 → shortest v ≡ true
unfolding shortest
shortest_one [] q = absurd (omega arith)
shortest_one (a ∷ []) q = refl
shortest_one (a ∷ b ∷ v) q = absurd (omega arith)

-- a first byte 00, FF, or another
pub shortest_low : (v : Bytes) → 2 ≤ length v → get_or v 0 0 ≡ 0 → shortest v ≡ leb 128 (get_or v 1 0)
unfolding shortest
shortest_low [] l q = absurd (omega arith)
shortest_low (a ∷ []) l q = absurd (omega arith)
shortest_low (a ∷ b ∷ v) l q = rw q (ap not (or_false (ltb b 128)) ∙ not_below b 128)

pub shortest_high : (v : Bytes) → 2 ≤ length v → get_or v 0 0 ≡ 255 → shortest v ≡ ltb (get_or v 1 0) 128
unfolding shortest
shortest_high [] l q = absurd (omega arith)
shortest_high (a ∷ []) l q = absurd (omega arith)
shortest_high (a ∷ b ∷ v) l q = rw q (not_from b 128)

pub shortest_other : (v : Bytes) → 2 ≤ length v → (get_or v 0 0 ≡ 0 → ⊥) → (get_or v 0 0 ≡ 255 → ⊥) → shortest v ≡ true
unfolding shortest
shortest_other [] l p q = absurd (omega arith)
shortest_other (a ∷ []) l p q = absurd (omega arith)
shortest_other (a ∷ b ∷ v) l p q = rw (ne_eqb a 0 p, ne_eqb a 255 q)
