-- `ordering::needs::truthy` meets its contract. Assumes nothing.
use native.Mathlib.Omega.{arith}
use mathlib.Core.Path.{◌≡◌, ap}
use mathlib.Core.Bool.{not}
use mathlib.Core.Logic.{◌⊎◌, inl, inr}
use Rattle.records.specs.declared.NameView.{NameView}
use Rattle.records.specs.declared.SexpView.{SexpView}
use Rattle.records.specs.declared.SexpView.TheVariants.{Integer, Text, Atom}
use Rattle.records.proofs.AnySexp.{Leaf, integer, text, name, leaf_places}
use Rattle.ordering.proofs.Sexps.{nil_truth, leaf_truth, pair_truth, no_truth}
use Rattle.ordering.proofs.needs.truthy.Goals as goal

-- the bytes of an SI, SQ or SA
leaf : {b : NameView} {v : SexpView} → (v ≡ Integer b) ⊎ ((v ≡ Text b) ⊎ (v ≡ Atom b)) → Leaf b v
leaf (inl e) = rw e integer
leaf (inr (inl e)) = rw e text
leaf (inr (inr e)) = rw e name

pub slice_bounds-all_zero-count : goal.slice_bounds-all_zero-count
slice_bounds-all_zero-count c = (leaf_places (leaf c.in-Integer.is) c.sexp_view.ensures.places).forward

pub slice_bounds-all_zero-end : goal.slice_bounds-all_zero-end
slice_bounds-all_zero-end c = omega (arith, (leaf_places (leaf c.in-Integer.is) c.sexp_view.ensures.places).within)

pub returns-in-Nil : goal.returns-in-Nil
returns-in-Nil c t w k = nil_truth t w k (rw c.in-Nil.is at c.sexp_view.ensures)

pub returns-in-Pair : goal.returns-in-Pair
returns-in-Pair c t w k =
    elim c.in-Pair.is [
      | inl e ↦ pair_truth t w k (rw e.1 at c.sexp_view.ensures)
      | inr e ↦ no_truth t w k (rw e at c.sexp_view.ensures)
    ]

pub returns-in-Integer : goal.returns-in-Integer
returns-in-Integer c t w k = leaf_truth t w k (leaf c.in-Integer.is) c.sexp_view.ensures (ap not c.all_zero.ensures)
