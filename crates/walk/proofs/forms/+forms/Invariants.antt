-- What falls in the cycle of the rules on H records and CF, 16 times the levels that are left and a phase; and what holds at each helper. Assumes nothing.
use Prim.Native.Nat.{◌+◌, ◌*◌}
use Rattle.walk.proofs.HelperTurns.{Turning}
use Rattle.walk.proofs.forms.+forms.Given as goal

abbrev pub decreases-after : goal.decreases-after
decreases-after l = 16 * l.t.depth + 0

abbrev pub decreases-args_compileform : goal.decreases-args_compileform
decreases-args_compileform l = 16 * l.t.depth + 1

abbrev pub decreases-args_helperform : goal.decreases-args_helperform
decreases-args_helperform l = 16 * l.t.depth + 1

abbrev pub decreases-both : goal.decreases-both
decreases-both l = 16 * l.t.depth + 8

abbrev pub decreases-by_rule : goal.decreases-by_rule
decreases-by_rule l = 16 * l.t.depth + 2

abbrev pub decreases-child : goal.decreases-child
decreases-child l = 16 * l.t.depth + 3

abbrev pub decreases-helpers : goal.decreases-helpers
decreases-helpers l = 16 * l.t.depth + 4

abbrev pub decreases-in_compileform : goal.decreases-in_compileform
decreases-in_compileform l = 16 * l.t.depth + 1

abbrev pub decreases-in_helperform : goal.decreases-in_helperform
decreases-in_helperform l = 16 * l.t.depth + 1

abbrev pub decreases-listed : goal.decreases-listed
decreases-listed l = 16 * l.t.depth + 5

abbrev pub decreases-parts : goal.decreases-parts
decreases-parts l = 16 * l.t.depth + 6

abbrev pub decreases-renewed : goal.decreases-renewed
decreases-renewed l = 16 * l.t.depth + 0

abbrev pub decreases-rest : goal.decreases-rest
decreases-rest l = 16 * l.t.depth + 7

-- the code's counter is `l.counter-2`; `l.counter` says how many turns are done
abbrev pub invariant-helpers-loop : goal.invariant-helpers-loop
invariant-helpers-loop l = Turning l.way l.count l.sum l.t l.initial.mem l.mem l.at l.to l.held l.counter-2 l.counter
