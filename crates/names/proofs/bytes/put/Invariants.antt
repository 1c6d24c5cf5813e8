-- `names::bytes::put` meets its contract. The invariant: the first `i` bytes are written.
use Prim.Native.Nat.{◌≤◌}
use lib.ListN.{length}
use Rattle.names.specs.Segments.{Filled}
use Rattle.names.proofs.bytes.put.Given as goal

abbrev pub invariant-loop-i : goal.invariant-loop-i
invariant-loop-i l = (l.i ≤ length l.src) × Filled l.initial.out l.out l.at l.src l.i
