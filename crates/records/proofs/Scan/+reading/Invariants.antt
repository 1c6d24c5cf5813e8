-- What falls in the reader of B, BB, H and CF records: 16 times the levels that are left, and the phase, which is larger for a record than for what it goes
-- on to. What stays in its loop is that a reading is one of the same bytes and comes to where the definition of reading comes. Assumes nothing.
use Rattle.std.specs.Prelude.{Result}
use Rattle.names.specs.declared.Refusal.{Refusal}
use mathlib.Core.Path.{◌≡◌}
use Prim.Native.Nat.{◌+◌, ◌*◌, ◌-◌}
use Rattle.records.proofs.Goes.{weight}
use Rattle.records.specs.Scan.{times_of as times-reader, Goes}
use Rattle.records.specs.declared.Scan.{Scan}
use Rattle.records.proofs.Scan.+reading.Given as goal

abbrev pub decreases-binding : goal.decreases-binding
decreases-binding l = 16 * l.x.room + 5

abbrev pub decreases-body : goal.decreases-body
decreases-body l = 16 * l.x.room + 2

abbrev pub decreases-call : goal.decreases-call
decreases-call l = 16 * l.x.room + 11

abbrev pub decreases-child : goal.decreases-child
decreases-child l = 16 * l.x.room + (4 + weight l.family)

abbrev pub decreases-constant : goal.decreases-constant
decreases-constant l = 16 * l.x.room + 11

abbrev pub decreases-form : goal.decreases-form
decreases-form l = 16 * l.x.room + 2

abbrev pub decreases-function : goal.decreases-function
decreases-function l = 16 * l.x.room + 11

abbrev pub decreases-helper : goal.decreases-helper
decreases-helper l = 16 * l.x.room + 2

abbrev pub decreases-lambda : goal.decreases-lambda
decreases-lambda l = 16 * l.x.room + 11

abbrev pub decreases-let_after : goal.decreases-let_after
decreases-let_after l = 16 * l.x.room + 9

abbrev pub decreases-let_form : goal.decreases-let_form
decreases-let_form l = 16 * l.x.room + 10

abbrev pub decreases-macro_form : goal.decreases-macro_form
decreases-macro_form l = 16 * l.x.room + 11

abbrev pub decreases-many : goal.decreases-many
decreases-many l = 16 * l.x.room + (6 + weight l.family)

abbrev pub decreases-mod_form : goal.decreases-mod_form
decreases-mod_form l = 16 * l.x.room + 11

abbrev pub decreases-namespace : goal.decreases-namespace
decreases-namespace l = 16 * l.x.room + 11

abbrev pub decreases-record : goal.decreases-record
decreases-record l = 16 * l.x.room + (3 + weight l.family)

abbrev pub decreases-tail : goal.decreases-tail
decreases-tail l = 16 * l.x.room + 5

abbrev pub decreases-times : goal.decreases-times
decreases-times l = 16 * l.x.room + (5 + weight l.family)

-- what goes on from the reading over the records left goes on from the first over all
abbrev pub invariant-times-loop : goal.invariant-times-loop
invariant-times-loop l =
    record { same : l.self.s ≡ l.initial.self.s; goes : (r : Result Scan Refusal) → Goes (times-reader (l.n - l.counter) l.family) l.x l.self r → Goes (times-reader l.n l.family) l.x l.initial.self r }
