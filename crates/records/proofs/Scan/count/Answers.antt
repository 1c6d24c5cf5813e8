-- `records::Scan::count` meets its contract. Assumes nothing.
use mathlib.Core.Path.{refl}
use Rattle.records.specs.ReadFields.{over_limit, fault_reason}
use Rattle.records.proofs.Scan.count.Goals as goal

pub returns-clause-reads : goal.returns-clause-reads
unfolding fault_reason
returns-clause-reads c = c.at_most.ensures.reads over_limit refl
