-- `crate::bodies::call_view` meets its contract. Assumes nothing.
use Rattle.records.proofs.Views.{sees_call}
use Rattle.records.proofs.bodies.call_view.Goals as goal

pub returns : goal.returns
returns c = sees_call c.past_head-at.ensures c.byte_at-count.ensures c.past_bytes-first.ensures.past
