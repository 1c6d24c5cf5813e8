-- The columns passed are at most the bindings passed.
use Rattle.std.proofs.Common.{◌+◌, ◌≤◌}
use Rattle.commands.proofs.order.print_ordered.Given as goal

abbrev pub invariant-loop-i : goal.invariant-loop-i
invariant-loop-i g l = l.column ≤ l.i-index + 1
