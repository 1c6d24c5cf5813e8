-- `crate::plans::is_atom` meets its contract. Assumes nothing.
use mathlib.Core.Path.{sym, subst}
use Rattle.walk.specs.Plans.{IsAtom}
use Rattle.walk.proofs.ProperLists.{not_atom, the_atom}
use Rattle.walk.proofs.plans.is_atom.Goals as goal

pub returns-in_default : goal.returns-in_default
returns-in_default c = not_atom c.in_default.not-Atom c.sexp_view-v.ensures

pub returns : goal.returns
returns c =
    let x = rw c.in-Atom.is at c.sexp_view-v.ensures in
    subst (IsAtom c.args.s.now c.args.word.now) (sym c.same.ensures) (the_atom x)
