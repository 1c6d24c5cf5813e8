-- `ordering::provides::sexp_names` meets its contract. What falls is the length of the bytes left. Assumes nothing.
use Prim.Native.Nat.{ℕ}
use native.Mathlib.Omega.{arith}
use mathlib.Core.Path.{◌≡◌}
use mathlib.Core.Logic.{◌⊎◌, inl, inr}
use borrow.Author.Rules.{rules}
use Rattle.names.specs.Names.{Bytes}
use Rattle.records.specs.Views.{SeesSexp}
use Rattle.records.specs.declared.NameView.{NameView}
use Rattle.records.specs.declared.SexpView.{SexpView}
use Rattle.records.specs.declared.SexpView.TheVariants.{Nil, Pair, Integer, Text, Atom}
use Rattle.records.proofs.AnySexp.{Leaf, integer, text, name}
use Rattle.ordering.proofs.Patterns.{leaf_in, leaf_names, nil_in, nil_names, no_names, head_in, pair_names}
use Rattle.ordering.proofs.provides.+sexp_names.Goals as goal

-- the view, where it is told which one it is
nil : {s : Bytes} {v : SexpView} {h : ℕ} → v ≡ Nil h → SeesSexp s v → SeesSexp s (Nil h)
nil e x = rw e at x

paired : {s : Bytes} {v : SexpView} {h : ℕ} → v ≡ Pair h → SeesSexp s v → SeesSexp s (Pair h)
paired e x = rw e at x

-- the bytes of an SI, SQ or SA
leaf : {b : NameView} {v : SexpView} → (v ≡ Integer b) ⊎ ((v ≡ Text b) ⊎ (v ≡ Atom b)) → Leaf b v
leaf (inl e) = rw e integer
leaf (inr (inl e)) = rw e text
leaf (inr (inr e)) = rw e name

pub overflow_add-result : goal.overflow_add-result
overflow_add-result t c = omega (arith, nil_in c.args.a.now c.args.at (search rules) (nil c.in-Nil.is c.sexp_view.ensures))

pub overflow_add-at : goal.overflow_add-at
overflow_add-at t c = omega (arith, (head_in c.args.a.now c.args.at (search rules) (paired c.in-Pair.is c.sexp_view.ensures)).1)

pub sexp_names-tail-requires : goal.sexp_names-tail-requires
sexp_names-tail-requires t c =
    let h = head_in c.args.a.now c.args.at (search rules) (paired c.in-Pair.is c.sexp_view.ensures) in
    (omega arith, (omega arith, omega arith, omega arith))

pub sexp_names-requires : goal.sexp_names-requires
sexp_names-requires t c =
    let p = head_in c.args.a.now c.args.at (search rules) (paired c.in-Pair.is c.sexp_view.ensures) in
    let h = c.sexp_names-tail.ensures in
    (omega arith, (omega arith, omega arith, omega arith))

pub overflow_add-start : goal.overflow_add-start
overflow_add-start t c = let i = leaf_in c.args.a.now c.args.at (search rules) c.sexp_view.ensures (leaf c.in-Integer.is) in omega arith

pub overflow_add-end : goal.overflow_add-end
overflow_add-end t c = let i = leaf_in c.args.a.now c.args.at (search rules) c.sexp_view.ensures (leaf c.in-Integer.is) in omega arith

pub entry-requires : goal.entry-requires
entry-requires t c = let i = leaf_in c.args.a.now c.args.at (search rules) c.sexp_view.ensures (leaf c.in-Integer.is) in (omega arith, omega arith)

pub returns-in-Nil : goal.returns-in-Nil
returns-in-Nil t c = nil_names _ _ (search rules) (nil c.in-Nil.is c.sexp_view.ensures)

pub returns-in-Pair : goal.returns-in-Pair
returns-in-Pair t c = pair_names _ _ (search rules) (paired c.in-Pair.is c.sexp_view.ensures) c.sexp_names-tail.ensures c.sexp_names.ensures

pub returns-in-Unknown : goal.returns-in-Unknown
returns-in-Unknown t c = no_names _ _ (search rules) (rw c.in-Unknown.is at c.sexp_view.ensures)

pub returns-in-Integer : goal.returns-in-Integer
returns-in-Integer t c = leaf_names _ _ (search rules) c.sexp_view.ensures (leaf c.in-Integer.is) (search rules) (search rules) c.entry.ensures
