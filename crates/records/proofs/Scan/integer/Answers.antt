-- `records::Scan::integer` meets its contract. Assumes nothing.
use mathlib.Core.Path.{sym, ◌∙◌}
use native.Mathlib.Omega.{arith}
use Rattle.records.specs.ReadFields.{integer}
use Rattle.records.proofs.Scans.{reads_stop, left_err}
use Rattle.records.proofs.FieldLaws.{integer_part, integer_shortest, integer_longer}
use Rattle.records.proofs.Scan.integer.Goals as goal

pub returns-in_err-counted-clause-reads : goal.returns-in_err-counted-clause-reads
unfolding integer
returns-in_err-counted-clause-reads c = reads_stop _ c.in_err-counted.ensures.reads (left_err _ _ _ c.from_residual.ensures.1)

pub slice_bounds-shortest-count : goal.slice_bounds-shortest-count
slice_bounds-shortest-count c = integer_part c.in_ok-counted.ensures.reads

pub slice_bounds-shortest-start : goal.slice_bounds-shortest-start
slice_bounds-shortest-start c = omega (arith, integer_part c.in_ok-counted.ensures.reads, c.counted.new.self.in_bounds)

pub returns-then-not-shortest-clause-reads : goal.returns-then-not-shortest-clause-reads
returns-then-not-shortest-clause-reads c = integer_longer c.in_ok-counted.ensures.reads (sym (rw c.in_ok-counted.ensures.reads.same at c.shortest.ensures) ∙ c.if-not-shortest.true) c.refused.ensures

pub returns-clause-reads : goal.returns-clause-reads
returns-clause-reads c = integer_shortest c.in_ok-counted.ensures.reads (sym (rw c.in_ok-counted.ensures.reads.same at c.shortest.ensures) ∙ c.if-not-shortest.false)
