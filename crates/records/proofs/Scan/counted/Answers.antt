-- `records::Scan::counted` meets its contract. Assumes nothing.
use Rattle.records.specs.ReadFields.{counted}
use Rattle.records.proofs.Scans.{reads_stop, left_err, same_err}
use Rattle.records.proofs.FieldLaws.{reads_counted, counted_there}
use Rattle.records.proofs.Scan.counted.Goals as goal

pub returns-in_err-bytes-clause-reads : goal.returns-in_err-bytes-clause-reads
unfolding counted
returns-in_err-bytes-clause-reads c = reads_stop _ c.in_err-bytes.ensures.reads (left_err _ _ _ c.from_residual.ensures.1)

pub number-n-requires : goal.number-n-requires
number-n-requires c = (c.requires, rw c.in_ok-bytes.ensures.reads.same (counted_there _ c.in_ok-bytes.ensures.reads))

pub returns-in_err-bytes-2-clause-reads : goal.returns-in_err-bytes-2-clause-reads
returns-in_err-bytes-2-clause-reads c = rw (same_err c.from_residual-in_err-bytes-2.ensures.1) (reads_counted _ c.in_ok-bytes.ensures.reads _ (rw c.in_ok-bytes.ensures.reads.same at c.number-n.ensures.value) c.in_err-bytes-2.ensures.reads)

pub returns-clause-reads : goal.returns-clause-reads
returns-clause-reads c = reads_counted _ c.in_ok-bytes.ensures.reads _ (rw c.in_ok-bytes.ensures.reads.same at c.number-n.ensures.value) c.in_ok-bytes-2.ensures.reads
