-- `records::Scan::at_most` meets its contract. Assumes nothing.
use Rattle.records.specs.ReadFields.{at_most}
use Rattle.records.proofs.Scans.{reads_stop, left_err}
use Rattle.records.proofs.FieldLaws.{at_most_over, at_most_fine}
use Rattle.records.proofs.Scan.at_most.Goals as goal

pub returns-in_err-b-clause-reads : goal.returns-in_err-b-clause-reads
unfolding at_most
returns-in_err-b-clause-reads c = λ f q. reads_stop _ c.in_err-b.ensures.reads (left_err _ _ _ c.from_residual.ensures.1)

pub returns-then-b-most-clause-reads : goal.returns-then-b-most-clause-reads
returns-then-b-most-clause-reads c = λ f q. at_most_over _ f c.in_ok-b.ensures.reads (rw c.in_ok-b.ensures.byte at c.if-b-most.true) (rw q c.refused.ensures)

pub returns-clause-reads : goal.returns-clause-reads
returns-clause-reads c = λ f q. at_most_fine _ f c.in_ok-b.ensures.reads (rw c.in_ok-b.ensures.byte at c.if-b-most.false)
