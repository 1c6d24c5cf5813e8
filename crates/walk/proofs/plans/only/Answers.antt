-- `crate::plans::only` meets its contract. Assumes nothing.
use Rattle.walk.proofs.ProperLists.{onlys_left, onlys_one, onlys_none}
use Rattle.walk.proofs.plans.only.Goals as goal

pub returns-in_default : goal.returns-in_default
returns-in_default c = onlys_left c.in_default.not-Pair c.sexp_view-v.ensures

pub returns-then-nilp : goal.returns-then-nilp
returns-then-nilp c = onlys_one (rw c.in-Pair.is at c.sexp_view-v.ensures) c.skip_sexp.ensures c.nilp.ensures c.if-nilp.true

pub returns : goal.returns
returns c = onlys_none (rw c.in-Pair.is at c.sexp_view-v.ensures) c.skip_sexp.ensures c.nilp.ensures c.if-nilp.false
