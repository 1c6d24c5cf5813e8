-- `names::make::digit_count` meets its contract. The invariant: the digits counted and those of `left` are one more than those of n.
use mathlib.Core.Path.{◌≡◌}
use Prim.Native.Nat.{◌+◌, ◌≤◌}
use lib.ListN.{length}
use Rattle.names.specs.Names.{decimal}
use Rattle.names.proofs.make.digit_count.Given as goal

abbrev pub invariant-loop-left : goal.invariant-loop-left
invariant-loop-left l = (l.count + length (decimal l.left) ≡ length (decimal l.n) + 1) × (length (decimal l.n) ≤ 20)

abbrev pub decreases-loop-left : goal.decreases-loop-left
decreases-loop-left l = l.left
