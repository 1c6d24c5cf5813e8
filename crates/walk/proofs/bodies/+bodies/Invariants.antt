-- What falls in the cycle of Own and In-body: 16 times the levels that are left, and the phase; and what holds in its loops. Assumes nothing.
use Rattle.walk.proofs.AssignTurns.{Looping as Looping_assign_all}
use Rattle.walk.proofs.LetMiddle.{Looping as Looping_binds}
use Rattle.walk.proofs.Turns.{Looping as Looping_each}
use Prim.Native.Nat.{◌+◌, ◌*◌}
use Rattle.walk.specs.AssignWalks.{BindingsReady}
use Rattle.walk.specs.LetWalks.{AllReady}
use Rattle.walk.proofs.bodies.+bodies.Given as goal

abbrev pub decreases-args_bodyform : goal.decreases-args_bodyform
decreases-args_bodyform l = 16 * l.t.depth + 8

abbrev pub decreases-lets : goal.decreases-lets
decreases-lets l = 16 * l.t.depth + 7

abbrev pub decreases-both : goal.decreases-both
decreases-both l = 16 * l.t.depth + 10

abbrev pub decreases-assign : goal.decreases-assign
decreases-assign l = 16 * l.t.depth + 6

abbrev pub decreases-assign_one : goal.decreases-assign_one
decreases-assign_one l = 16 * l.t.depth + 13

abbrev pub decreases-bind : goal.decreases-bind
decreases-bind l = 16 * l.t.depth + 11

abbrev pub decreases-binds : goal.decreases-binds
decreases-binds l = 16 * l.t.depth + 12

abbrev pub decreases-call : goal.decreases-call
decreases-call l = 16 * l.t.depth + 7

abbrev pub decreases-rest : goal.decreases-rest
decreases-rest l = 16 * l.t.depth + 6

abbrev pub decreases-complex : goal.decreases-complex
decreases-complex l = 16 * l.t.depth + 12

abbrev pub decreases-nested : goal.decreases-nested
decreases-nested l = 16 * l.t.depth + 5

abbrev pub decreases-either : goal.decreases-either
decreases-either l = 16 * l.t.depth + 9

abbrev pub decreases-each : goal.decreases-each
decreases-each l = 16 * l.t.depth + 10

abbrev pub decreases-in_bodyform : goal.decreases-in_bodyform
decreases-in_bodyform l = 16 * l.t.depth + 8

abbrev pub decreases-in_lambda : goal.decreases-in_lambda
decreases-in_lambda l = 16 * l.t.depth + 7

abbrev pub decreases-in_let : goal.decreases-in_let
decreases-in_let l = 16 * l.t.depth + 7

abbrev pub decreases-lambda : goal.decreases-lambda
decreases-lambda l = 16 * l.t.depth + 7

abbrev pub decreases-named : goal.decreases-named
decreases-named l = 16 * l.t.depth + 11

abbrev pub decreases-sorted : goal.decreases-sorted
decreases-sorted l = 16 * l.t.depth + 5

abbrev pub decreases-over : goal.decreases-over
decreases-over l = 16 * l.t.depth + 9

abbrev pub decreases-parallel : goal.decreases-parallel
decreases-parallel l = 16 * l.t.depth + 4

abbrev pub decreases-bound : goal.decreases-bound
decreases-bound l = 16 * l.t.depth + 3

abbrev pub decreases-redo : goal.decreases-redo
decreases-redo l = 16 * l.t.depth + 10

abbrev pub decreases-assign_all : goal.decreases-assign_all
decreases-assign_all l = 16 * l.t.depth + 14

abbrev pub decreases-chain : goal.decreases-chain
decreases-chain l = 16 * l.t.depth + 6

abbrev pub decreases-tail : goal.decreases-tail
decreases-tail l = 16 * l.t.depth + 10

abbrev pub decreases-moved : goal.decreases-moved
decreases-moved l = 16 * l.t.depth + 4

abbrev pub invariant-assign_all-loop-index : goal.invariant-assign_all-loop-index
invariant-assign_all-loop-index l = (p : BindingsReady l.initial.mem l.row l.starts l.t) → Looping_assign_all p l.mem l.top l.sum l.map l.counter l.index-index

-- `l.counter` is how many turns are done, and `l.counter-2` what the code calls `counter`
abbrev pub invariant-binds-loop : goal.invariant-binds-loop
invariant-binds-loop l =
    (p : AllReady l.initial.mem l.count l.aside l.held l.t l.owning) → Looping_binds p l.mem l.at l.to l.pattern l.sum l.counter-2 l.counter

abbrev pub invariant-each-loop-i : goal.invariant-each-loop-i
invariant-each-loop-i l = Looping_each l.owning l.count l.t l.initial.mem l.mem l.at l.sum l.counter l.i
