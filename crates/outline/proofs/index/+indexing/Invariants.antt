-- `crate::index`: every member of the cycle meets its contract. What falls is the length of the bytes: a child starts behind a mark. Assumes nothing.
use Prim.Native.Nat.{◌+◌, ◌*◌}
use lib.ListN.{length, drop}
use Rattle.outline.specs.Shape.{FieldsAre}
use Rattle.outline.proofs.ReachedLaws.{Many, Onward}
use Rattle.outline.proofs.index.+indexing.Given as goal

abbrev pub decreases-Listing::child : goal.decreases-Listing::child
decreases-Listing::child l = 5 * length l.self.now.bytes.now

abbrev pub decreases-Listing::field : goal.decreases-Listing::field
decreases-Listing::field l = 5 * length l.self.now.bytes.now + 2

abbrev pub decreases-Listing::fields : goal.decreases-Listing::fields
decreases-Listing::fields l = 5 * length l.self.now.bytes.now + 3

abbrev pub decreases-Listing::pattern : goal.decreases-Listing::pattern
decreases-Listing::pattern l = 5 * length l.self.now.bytes.now + 1

abbrev pub decreases-Listing::several : goal.decreases-Listing::several
decreases-Listing::several l = 5 * length l.self.now.bytes.now + 1

abbrev pub decreases-Listing::tail : goal.decreases-Listing::tail
decreases-Listing::tail l = 5 * length l.self.now.bytes.now + 1

abbrev pub decreases-index : goal.decreases-index
decreases-index l = 5 * length l.s.now + 4

abbrev pub invariant-Listing::fields-loop-f : goal.invariant-Listing::fields-loop-f
invariant-Listing::fields-loop-f l = Onward (FieldsAre l.row) (FieldsAre (drop l.f-index l.row)) l.initial.self l.self

abbrev pub invariant-Listing::several-loop : goal.invariant-Listing::several-loop
invariant-Listing::several-loop l = Onward (Many 0 l.n) (Many l.counter l.n) l.initial.self l.self
