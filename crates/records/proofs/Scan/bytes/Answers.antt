-- `records::Scan::bytes` meets its contract. Assumes nothing.
use borrow.Author.Rules.{rules}
use Rattle.records.proofs.Scans.{reads_short, reads_enough}
use Rattle.records.proofs.Scan.bytes.Goals as goal

pub returns-then-self-n-clause-reads : goal.returns-then-self-n-clause-reads
returns-then-self-n-clause-reads c = search (rules, reads_short)

pub returns-clause-reads : goal.returns-clause-reads
returns-clause-reads c = search (rules, reads_enough)
