-- Scope: which bindings of a let may be used in each binding body and in its body. In a binding body: of a let none of its own, of a let* those before it, of an
-- assign those placed before it in an order of them all. In the body: all of them. The comments at `LetFormKind` and `LetData` (comptypes.rs) say it of let and
-- let*, the specification of assign.
-- Assumes nothing.
use Rattle.std.specs.Prelude.{List, ◌≡◌, ℕ, ◌<◌, length, get_or}
use Rattle.records.specs.declared.Kind.{Kind}
use Rattle.records.specs.declared.Kind.TheVariants.{Parallel, Sequential, Assign}

-- a place in a let: the body of the binding with this index, or the let's body
pub data Spot : Type 0 where
  in_binding : ℕ → Spot
  in_let_body : Spot

-- j is placed before i in the order o
pub record PlacedBefore (o : List ℕ) (j i : ℕ) : Type 0 where
  pub earlier : ℕ
  pub later : ℕ
  pub rising : earlier < later
  pub within : later < length o
  pub first : get_or o earlier 0 ≡ j
  pub second : get_or o later 0 ≡ i

-- of a let's n bindings the one with index j is in scope at this place; o is the order of an assign, and plays no part in a let or a let*
unfoldable pub InScope : Kind → (n : ℕ) → (o : List ℕ) → (j : ℕ) → Spot → Type 0
InScope Parallel n o j (in_binding i) = ⊥
InScope Sequential n o j (in_binding i) = (j < i) × (i < n)
InScope Assign n o j (in_binding i) = PlacedBefore o j i
InScope k n o j in_let_body = j < n
