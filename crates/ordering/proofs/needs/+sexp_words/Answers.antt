-- `ordering::needs::sexp_needs` and `child_sexp` meet their contracts. What falls is the length left. Assumes nothing.
use Prim.Native.Nat.{ℕ}
use native.Mathlib.Omega.{arith}
use mathlib.Core.Path.{◌≡◌}
use mathlib.Core.Logic.{◌⊎◌, inl, inr}
use borrow.Author.Rules.{rules}
use Rattle.names.specs.Names.{Bytes}
use Rattle.records.specs.Views.{SeesSexp}
use Rattle.records.specs.declared.NameView.{NameView}
use Rattle.records.specs.declared.SexpView.{SexpView}
use Rattle.records.specs.declared.SexpView.TheVariants.{Pair, Integer, Text, Atom}
use Rattle.records.proofs.AnySexp.{Leaf, integer, text, name, leaf_places}
use Rattle.ordering.proofs.Sexps.{lists_part, pair_lists, leaf_lists, nil_lists, no_lists}
use Rattle.ordering.proofs.needs.+sexp_words.Goals as goal

-- the view, where it is told which one it is
paired : {s : Bytes} {v : SexpView} {h : ℕ} → v ≡ Pair h → SeesSexp s v → SeesSexp s (Pair h)
paired e x = rw e at x

-- the bytes of an SI, SQ or SA
leaf : {b : NameView} {v : SexpView} → (v ≡ Integer b) ⊎ ((v ≡ Text b) ⊎ (v ≡ Atom b)) → Leaf b v
leaf (inl e) = rw e integer
leaf (inr (inl e)) = rw e text
leaf (inr (inr e)) = rw e name

pub child_sexp-returns : goal.child_sexp-returns
child_sexp-returns t c = lists_part c.requires c.sexp_needs.ensures

pub sexp_needs-child_sexp-tail-requires : goal.sexp_needs-child_sexp-tail-requires
sexp_needs-child_sexp-tail-requires t c = let p = (paired c.in-Pair.is c.sexp_view.ensures).places in (omega (arith, p.0, p.1), search rules)

pub sexp_needs-child_sexp-requires : goal.sexp_needs-child_sexp-requires
sexp_needs-child_sexp-requires t c = let p = (paired c.in-Pair.is c.sexp_view.ensures).places in (omega (arith, p.0), search rules)

pub sexp_needs-slice_bounds-word-count : goal.sexp_needs-slice_bounds-word-count
sexp_needs-slice_bounds-word-count t c = omega (arith, (leaf_places (leaf c.in-Integer.is) c.sexp_view.ensures.places).forward)

pub sexp_needs-slice_bounds-word-end : goal.sexp_needs-slice_bounds-word-end
sexp_needs-slice_bounds-word-end t c = omega (arith, (leaf_places (leaf c.in-Integer.is) c.sexp_view.ensures.places).within)

pub sexp_needs-returns-in-Nil : goal.sexp_needs-returns-in-Nil
sexp_needs-returns-in-Nil t c = nil_lists (rw c.in-Nil.is at c.sexp_view.ensures)

pub sexp_needs-returns-in-Pair : goal.sexp_needs-returns-in-Pair
sexp_needs-returns-in-Pair t c = pair_lists (paired c.in-Pair.is c.sexp_view.ensures) c.child_sexp-tail.ensures c.child_sexp.ensures

pub sexp_needs-returns-in-Unknown : goal.sexp_needs-returns-in-Unknown
sexp_needs-returns-in-Unknown t c = no_lists (rw c.in-Unknown.is at c.sexp_view.ensures)

pub sexp_needs-returns-in-Integer : goal.sexp_needs-returns-in-Integer
sexp_needs-returns-in-Integer t c = leaf_lists (leaf c.in-Integer.is) c.sexp_view.ensures c.word.ensures
