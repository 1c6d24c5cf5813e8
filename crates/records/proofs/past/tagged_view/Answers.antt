-- `crate::past::tagged_view` meets its contract. Assumes nothing.
use Rattle.records.proofs.Views.{sees_tagged}
use Rattle.records.proofs.past.tagged_view.Goals as goal

pub returns : goal.returns
returns c = sees_tagged c.byte_at-tag.ensures c.past_bytes-next.ensures.past
