-- `records::Scan::pattern` meets its contract. Assumes nothing.
use mathlib.Core.Path.{refl}
use Rattle.records.specs.Read.{pattern_of}
use Rattle.records.specs.ReadFields.{malformed, fault_reason}
use Rattle.records.proofs.Scans.{reads_stop, left_err}
use Rattle.records.proofs.SexpLaws.{pattern_name, pattern_complex}
use Rattle.records.proofs.Scan.pattern.Goals as goal

pub returns-in_err-at_most : goal.returns-in_err-at_most
unfolding fault_reason pattern_of
returns-in_err-at_most c = reads_stop _ (c.in_err-at_most.ensures.reads malformed refl) (left_err _ _ _ c.from_residual.ensures.1)

pub returns-then-branch-eq0 : goal.returns-then-branch-eq0
unfolding fault_reason
returns-then-branch-eq0 c = pattern_name (c.in_ok-at_most.ensures.reads malformed refl) (rw c.in_ok-at_most.ensures.byte at c.if-branch-eq0.true) c.name.ensures.reads

pub returns : goal.returns
unfolding fault_reason
returns c = pattern_complex (c.in_ok-at_most.ensures.reads malformed refl) (rw c.in_ok-at_most.ensures.byte at c.if-branch-eq0.false) c.child_sexp.ensures.reads
