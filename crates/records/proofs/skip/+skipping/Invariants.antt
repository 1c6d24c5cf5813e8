-- The B, BB, H and CF records of `crate::skip`: every member of the cycle meets its contract. What falls is the length of the bytes that are left. Assumes nothing.
use Prim.Native.Nat.{◌+◌, ◌*◌, ◌-◌, ◌≤◌}
use lib.ListN.{length}
use Rattle.names.specs.Segments.{At}
use Rattle.records.specs.Parts.{family_part, list_part}
use Rattle.records.proofs.Parts.{Left}
use Rattle.records.proofs.skip.+skipping.Given as goal

abbrev pub decreases-after : goal.decreases-after
decreases-after l = 4 * (length l.s.now - l.at) + 5

abbrev pub decreases-binding : goal.decreases-binding
decreases-binding l = 4 * length l.s.now + 2

abbrev pub decreases-body : goal.decreases-body
decreases-body l = 4 * length l.s.now + 2

abbrev pub decreases-form : goal.decreases-form
decreases-form l = 4 * length l.s.now + 2

abbrev pub decreases-helper : goal.decreases-helper
decreases-helper l = 4 * length l.s.now + 2

abbrev pub decreases-many : goal.decreases-many
decreases-many l = 4 * (length l.s.now - l.at) + 6

abbrev pub decreases-past_record : goal.decreases-past_record
decreases-past_record l = 4 * (length l.s.now - l.at) + 4

abbrev pub decreases-skip : goal.decreases-skip
decreases-skip l = 4 * length l.s.now + 3

abbrev pub decreases-tail : goal.decreases-tail
decreases-tail l = 4 * (length l.s.now - l.at) + 5

abbrev pub invariant-after-loop : goal.invariant-after-loop
invariant-after-loop vars =
    let l = list_part (family_part vars.family) vars.n in
    (vars.at ≤ vars.end) × (vars.end ≤ length vars.s) × ((ts : l.0) → l.2 ts → At vars.s vars.at (l.1 ts) → Left (family_part vars.family) vars.s vars.end vars.counter vars.n (vars.at + length (l.1 ts)))
