-- `crate::call::single_helper` meets its contract. Assumes nothing.
use Rattle.walk.proofs.Demand.{helper_assigns}
use Rattle.walk.proofs.RenameLaws.{told}
use Rattle.walk.proofs.call.single_helper.Goals as goal

pub returns : goal.returns
returns c = let k = told c.rename.ensures (helper_assigns _ _ _ _ _) in record { res_after = k.0; assigns_ordered = k.1 }
