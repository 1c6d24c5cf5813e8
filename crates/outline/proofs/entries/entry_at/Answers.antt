-- `outline::entries::entry_at` meets its contract. Assumes nothing.
use Rattle.outline.proofs.EntryLaws.{entry_read}
use Rattle.outline.proofs.entries.entry_at.Goals as goal

pub returns : goal.returns
returns c e small at = entry_read e small at c.number.ensures.value c.number-2.ensures.value c.number-3.ensures.value
