-- `records::Scan::optional_loc` meets its contract. Assumes nothing.
use mathlib.Core.Path.{refl}
use Rattle.records.specs.ReadFields.{malformed, fault_reason, optional_loc}
use Rattle.records.proofs.Scans.{reads_stop, left_err, same_err}
use Rattle.records.proofs.FieldLaws.{optional_absent, optional_present}
use Rattle.records.proofs.Scan.optional_loc.Goals as goal

pub returns-in_err-at_most-clause-reads : goal.returns-in_err-at_most-clause-reads
unfolding fault_reason optional_loc
returns-in_err-at_most-clause-reads c = reads_stop _ (c.in_err-at_most.ensures.reads malformed refl) (left_err _ _ _ c.from_residual.ensures.1)

pub returns-in_err-loc-clause-reads : goal.returns-in_err-loc-clause-reads
unfolding fault_reason
returns-in_err-loc-clause-reads c = rw (same_err c.from_residual-in_err-loc.ensures.1) (optional_present _ (c.in_ok-at_most.ensures.reads malformed refl) (rw c.in_ok-at_most.ensures.byte at c.if-branch-least.true) c.in_err-loc.ensures.reads)

pub returns-in_ok-loc-clause-reads : goal.returns-in_ok-loc-clause-reads
unfolding fault_reason
returns-in_ok-loc-clause-reads c = optional_present _ (c.in_ok-at_most.ensures.reads malformed refl) (rw c.in_ok-at_most.ensures.byte at c.if-branch-least.true) c.in_ok-loc.ensures.reads

pub returns-else-branch-least-clause-reads : goal.returns-else-branch-least-clause-reads
unfolding fault_reason
returns-else-branch-least-clause-reads c = optional_absent _ (c.in_ok-at_most.ensures.reads malformed refl) (rw c.in_ok-at_most.ensures.byte at c.if-branch-least.false)
