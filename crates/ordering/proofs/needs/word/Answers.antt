-- `ordering::needs::word` meets its contract. Assumes nothing.
use Rattle.ordering.proofs.NeedLaws.{name_unneeded, name_listed}
use Rattle.ordering.proofs.needs.word.Goals as goal

pub returns-then-bits-ne0 : goal.returns-then-bits-ne0
returns-then-bits-ne0 c = name_listed c.providers-bits.ensures c.if-bits-ne0.true c.push.ensures

pub returns-else-bits-ne0 : goal.returns-else-bits-ne0
returns-else-bits-ne0 c = name_unneeded c.providers-bits.ensures c.if-bits-ne0.false
