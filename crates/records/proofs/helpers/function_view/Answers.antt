-- `crate::helpers::function_view` meets its contract. Assumes nothing.
use Rattle.records.proofs.Views.{sees_function}
use Rattle.records.proofs.helpers.function_view.Goals as goal

pub returns : goal.returns
returns c = sees_function c.past_head.ensures c.past_bytes.ensures.past c.with_args.ensures
