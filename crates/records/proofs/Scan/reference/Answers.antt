-- `records::Scan::reference` meets its contract. Assumes nothing.
use Rattle.records.proofs.Scans.{left_err}
use Rattle.records.proofs.Chains.{past, stop}
use Rattle.records.proofs.KindLaws.{reads_reference}
use Rattle.records.proofs.Scan.reference.Goals as goal

pub returns-in_err-loc : goal.returns-in_err-loc
returns-in_err-loc c = reads_reference (stop c.in_err-loc.ensures.reads (left_err _ _ _ c.from_residual.ensures.1))

pub returns-in_err-name : goal.returns-in_err-name
returns-in_err-name c = reads_reference (past c.in_ok-loc.ensures.reads (stop c.in_err-name.ensures.reads (left_err _ _ _ c.from_residual-in_err-name.ensures.1)))

pub returns : goal.returns
returns c = reads_reference (past c.in_ok-loc.ensures.reads (past c.in_ok-name.ensures.reads c.raw.ensures.reads))
