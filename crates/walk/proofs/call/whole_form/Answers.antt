-- `crate::call::whole_form` meets its contract. Assumes nothing.
use Rattle.walk.proofs.Demand.{whole_assigns}
use Rattle.walk.proofs.RenameLaws.{told}
use Rattle.walk.proofs.call.whole_form.Goals as goal

pub returns : goal.returns
returns c = let k = told c.rename.ensures (whole_assigns _ _ _ _ _) in record { res_after = k.0; assigns_ordered = k.1 }
