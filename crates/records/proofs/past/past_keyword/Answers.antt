-- `crate::past::past_keyword` meets its contract. Assumes nothing.
use Rattle.records.proofs.FieldEnds.{keyword_past}
use Rattle.records.proofs.past.past_keyword.Goals as goal

pub returns : goal.returns
returns c = keyword_past c.past_optional.ensures
