-- `crate::past::past_head` meets its contract. Assumes nothing.
use native.Mathlib.Omega.{arith}
use Rattle.records.proofs.Views.{head_short, head_there}
use Rattle.records.proofs.past.past_head.Goals as goal

pub returns-then-s-lt-HEAD_WIDTH : goal.returns-then-s-lt-HEAD_WIDTH
returns-then-s-lt-HEAD_WIDTH c = head_short (omega arith)

pub returns : goal.returns
returns c = head_there (omega arith)
