-- `crate::skip::past_named` meets its contract. Assumes nothing.
use Rattle.records.proofs.SkipLaws.{named_past}
use Rattle.records.proofs.skip.past_named.Goals as goal

pub returns : goal.returns
returns c = named_past c.past_name.ensures c.past_raw.ensures
