-- The bindings passed are at most the entries passed.
use Rattle.std.proofs.Common.{◌≤◌}
use Rattle.commands.proofs.provided.print.Given as goal

abbrev pub invariant-loop-entry : goal.invariant-loop-entry
invariant-loop-entry g l = l.bindings ≤ l.entry-index
