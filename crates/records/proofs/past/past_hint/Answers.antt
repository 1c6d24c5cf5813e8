-- `crate::past::past_hint` meets its contract. Assumes nothing.
use Rattle.records.proofs.FieldEnds.{hint_past}
use Rattle.records.proofs.past.past_hint.Goals as goal

pub returns : goal.returns
returns c = hint_past c.past_optional.ensures
