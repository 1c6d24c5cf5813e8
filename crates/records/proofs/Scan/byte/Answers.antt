-- `records::Scan::byte` meets its contract. Assumes nothing.
use Rattle.records.proofs.Exact.{exact_next}
use Rattle.records.proofs.Scans.{same_err}
use Rattle.records.proofs.FieldLaws.{one_byte, byte_there}
use Rattle.records.proofs.Scan.byte.Goals as goal

pub returns-in_err-bytes-clause-reads : goal.returns-in_err-bytes-clause-reads
returns-in_err-bytes-clause-reads c = rw (same_err c.from_residual.ensures.1) (one_byte c.in_err-bytes.ensures.reads)

pub bounds-self-at : goal.bounds-self-at
bounds-self-at c = rw c.in_ok-bytes.ensures.reads.same (byte_there exact_next (one_byte c.in_ok-bytes.ensures.reads))

pub returns-clause-reads : goal.returns-clause-reads
returns-clause-reads c = one_byte c.in_ok-bytes.ensures.reads
