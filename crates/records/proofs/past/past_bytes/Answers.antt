-- `crate::past::past_bytes` meets its contract. Assumes nothing.
use borrow.Author.Rules.{rules}
use native.Mathlib.Omega.{arith}
use Rattle.records.proofs.Parts.{fixed_past, fixed_short}
use Rattle.records.proofs.past.past_bytes.Goals as goal

pub returns-then-s-at : goal.returns-then-s-at
returns-then-s-at c = fixed_short (search rules) (search rules)

pub returns : goal.returns
returns c = fixed_past (omega arith)
