-- `crate::past::name_view` meets its contract. Assumes nothing.
use Rattle.records.proofs.Views.{sees_name}
use Rattle.records.proofs.past.name_view.Goals as goal

pub returns : goal.returns
returns c = sees_name c.counted_view.ensures.sees_counted
