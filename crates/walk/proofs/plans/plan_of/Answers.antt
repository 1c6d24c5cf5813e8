-- `crate::plans::plan_of` meets its contract. Assumes nothing.
use Rattle.walk.specs.declared.Quasi.TheVariants.{Ignored, Outside, Inside}
use Rattle.walk.proofs.ProperLists.{head_at, left_inside, left_outside, left_ignored, pair_plans}
use Rattle.walk.proofs.plans.plan_of.Goals as goal

pub returns-in-Ignored : goal.returns-in-Ignored
returns-in-Ignored c = left_ignored c.in_default.not-Pair c.sexp_view-v.ensures c.in-Ignored.is

pub returns-in-Outside : goal.returns-in-Outside
returns-in-Outside c = left_outside c.in_default.not-Pair c.sexp_view-v.ensures c.in-Outside.is

pub returns-in-Inside : goal.returns-in-Inside
returns-in-Inside c = left_inside c.in_default.not-Pair c.sexp_view-v.ensures c.skip_sexp.ensures c.in-Inside.is

pub in_cons-requires : goal.in_cons-requires
in_cons-requires c = head_at (rw c.in-Pair.is at c.sexp_view-v.ensures)

pub in_cons-requires-in-Outside-quasi : goal.in_cons-requires-in-Outside-quasi
in_cons-requires-in-Outside-quasi c = head_at (rw c.in-Pair.is at c.sexp_view-v.ensures)

pub in_qq-requires : goal.in_qq-requires
in_qq-requires c = head_at (rw c.in-Pair.is at c.sexp_view-v.ensures)

pub returns-in-Ignored-quasi : goal.returns-in-Ignored-quasi
returns-in-Ignored-quasi c = pair_plans Ignored (rw c.in-Pair.is at c.sexp_view-v.ensures) c.in-Ignored-quasi.is c.in_cons.ensures

pub returns-in-Outside-quasi : goal.returns-in-Outside-quasi
returns-in-Outside-quasi c = pair_plans Outside (rw c.in-Pair.is at c.sexp_view-v.ensures) c.in-Outside-quasi.is c.in_cons-in-Outside-quasi.ensures

pub returns-in-Inside-quasi : goal.returns-in-Inside-quasi
returns-in-Inside-quasi c = pair_plans Inside (rw c.in-Pair.is at c.sexp_view-v.ensures) c.in-Inside-quasi.is c.in_qq.ensures
