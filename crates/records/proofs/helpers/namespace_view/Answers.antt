-- `crate::helpers::namespace_view` meets its contract. Assumes nothing.
use Rattle.records.proofs.Views.{sees_namespace}
use Rattle.records.proofs.helpers.namespace_view.Goals as goal

pub returns : goal.returns
returns c = sees_namespace c.past_head.ensures c.named-v.ensures c.byte_at-count.ensures c.past_bytes-first.ensures.past
