-- `crate::helpers::named` meets its contract. Assumes nothing.
use Rattle.records.proofs.Views.{past_named}
use Rattle.records.proofs.helpers.named.Goals as goal

pub returns : goal.returns
returns c = past_named c.past_name-raw.ensures c.past_raw-next.ensures
