-- `crate::past::integer_view` meets its contract. Assumes nothing.
use Rattle.records.proofs.Views.{sees_integer}
use Rattle.records.proofs.past.integer_view.Goals as goal

pub returns : goal.returns
returns c = sees_integer c.counted_view.ensures.sees_counted
