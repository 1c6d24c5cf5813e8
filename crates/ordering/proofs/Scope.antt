-- Lawful orders of an assign's bindings, by scope. Assumes nothing.
use mathlib.Core.List.{List}
use mathlib.Core.Logic.{◌↔◌}
use native.Mathlib.Omega.{arith}
use Prim.Native.Nat.{ℕ, ◌<◌}
use lib.ListN.{length, get_or}
use Rattle.names.specs.Names.{Bytes}
use Rattle.records.specs.declared.Kind.TheVariants.{Assign}
use Rattle.ordering.specs.Items.{Item}
use Rattle.ordering.specs.Lawful.{◌is_in◌, Provides, Needs, OfAll, Lawful, Full}
use Rattle.ordering.specs.Scope.{in_binding, InScope}
use Rattle.ordering.proofs.Lists.{in_at, at_in, at_in_take, in_take_at}

-- each bound name that a binding's body needs is provided by a binding in scope there
abbrev pub NeedsInScope : List Item → List ℕ → Type 0
NeedsInScope bs o = (i : ℕ) → i < length bs → (x : Bytes) → Needs bs i x → (j : ℕ) × InScope Assign (length bs) o j (in_binding i) × Provides bs j x

module _ (bs : List Item) (o : List ℕ) where
  -- what stands before i in a lawful order is in scope there
  lawful_scope : Lawful bs o → (i : ℕ) → i is_in o → (x : Bytes) → Needs bs i x → (j : ℕ) × InScope Assign (length bs) o j (in_binding i) × Provides bs j x
  unfolding Lawful InScope
  lawful_scope h i m x n =
      let (k, lt, e) = in_at 0 m in
      let (j, before, p) = h k lt x (rw e n) in
      let (a, within, less, first) = in_take_at k o 0 before in
      (j, record { earlier = a; later = k; rising = less; within = lt; first = first; second = e }, p)

  -- where no index stands twice, what is in scope at an index stands before it
  scope_lawful : OfAll (length bs) o → NeedsInScope bs o → Lawful bs o
  unfolding Lawful InScope
  scope_lawful all h k lt x n =
      let (j, s, p) = h (get_or o k 0) (all.some.below _ (at_in o k 0 lt)) x n in
      let e = all.some.once s.later k s.within lt s.second in
      (j, rw (← s.first) (at_in_take o k s.earlier 0 (omega (arith, s.rising, s.within)) (omega (arith, s.rising))), p)

  -- an order is full exactly when it is one of all the bindings and each bound name that a binding's body needs is provided by a binding in scope there
  pub full_by_scope : Full bs o ↔ (OfAll (length bs) o × NeedsInScope bs o)
  full_by_scope =
      (λ f. (f.all, λ i lt. lawful_scope f.lawful i (f.all.every i lt)), λ s. record { all = s.0; lawful = scope_lawful s.0 s.1 })
