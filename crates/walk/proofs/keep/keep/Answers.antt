-- `crate::keep::keep` meets its contract. Assumes nothing.
use native.Mathlib.Omega.{arith}
use Rattle.walk.proofs.Substitutes.{bytes_kept, bytes_over_long}
use Rattle.walk.proofs.keep.keep.Goals as goal

pub returns-then-task-n : goal.returns-then-task-n
returns-then-task-n c = bytes_over_long (cc) c.if-task-n.true (omega arith)

pub returns : goal.returns
returns c = bytes_kept c.copy.ensures c.if-task-n.false c.requires.0 c.requires.1
