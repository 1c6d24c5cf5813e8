-- `crate::helpers::constant_view` meets its contract. Assumes nothing.
use Rattle.records.proofs.Views.{sees_constant}
use Rattle.records.proofs.helpers.constant_view.Goals as goal

pub returns : goal.returns
returns c = sees_constant c.past_head.ensures c.named.ensures
