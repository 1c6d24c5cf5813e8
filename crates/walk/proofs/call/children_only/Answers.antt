-- `crate::call::children_only` meets its contract. Assumes nothing.
use Rattle.walk.proofs.Demand.{children_assigns}
use Rattle.walk.proofs.RenameLaws.{told}
use Rattle.walk.proofs.call.children_only.Goals as goal

pub returns : goal.returns
returns c = let k = told c.rename.ensures (children_assigns _ _ _ _ _) in record { res_after = k.0; assigns_ordered = k.1 }
