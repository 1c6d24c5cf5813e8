-- `records::Scan::sexp` meets its contract. Assumes nothing.
use Rattle.records.proofs.Scans.{started}
use Rattle.records.proofs.Scan.sexp.Goals as goal

pub returns-clause-reads : goal.returns-clause-reads
returns-clause-reads c = λ z. started z c.child_sexp.ensures.reads
