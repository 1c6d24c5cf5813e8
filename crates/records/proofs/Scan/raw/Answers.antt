-- `records::Scan::raw` meets its contract. Assumes nothing.
use Rattle.records.proofs.FieldLaws.{reads_raw}
use Rattle.records.proofs.Scan.raw.Goals as goal

pub returns-clause-reads : goal.returns-clause-reads
returns-clause-reads c = reads_raw c.counted.ensures.reads
