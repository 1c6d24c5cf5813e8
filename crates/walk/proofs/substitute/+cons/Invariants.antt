-- `crate::substitute::alone`, `pair` and `rename` meet their contracts. What falls is how deep SC may nest. Assumes nothing.
use Prim.Native.Nat.{◌+◌, ◌*◌}
use Rattle.walk.proofs.substitute.+cons.Given as goal

abbrev pub decreases-alone : goal.decreases-alone
decreases-alone l = 2 * l.task.depth

abbrev pub decreases-pair : goal.decreases-pair
decreases-pair l = 2 * l.task.depth

abbrev pub decreases-rename : goal.decreases-rename
decreases-rename l = 2 * l.task.depth + 1
