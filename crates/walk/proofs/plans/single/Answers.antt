-- `crate::plans::single` meets its contract. Assumes nothing.
use Rattle.walk.proofs.ProperLists.{singles_none, singles_one}
use Rattle.walk.proofs.plans.single.Goals as goal

pub returns-in_err-x : goal.returns-in_err-x
returns-in_err-x c = rw c.from_residual.ensures (singles_none c.requires c.skip_sexp.ensures c.only.ensures c.in_err-x.was)

pub returns : goal.returns
returns c = singles_one c.requires c.skip_sexp.ensures c.only.ensures c.in_ok-x.was
