-- `commands::check::records_in` meets its contract: work memory has room for an entry for each byte of the input. Assumes nothing.
use Rattle.commands.proofs.Records.{counts_records}
use Rattle.commands.proofs.check.records_in.Goals as goal

pub returns : goal.returns
returns c = counts_records c.index_input.ensures
