-- `names::bytes::compare` meets its contract. Assumes nothing.
use native.Mathlib.Omega.{arith}
use Rattle.names.proofs.Compare.{lengths_differ, alike_none, alike_more, found_same, found_other}
use Rattle.names.proofs.bytes.compare.Goals as goal

pub returns-then-len-b : goal.returns-then-len-b
returns-then-len-b c = lengths_differ _ _ c.if-len-b.true

pub loop-ending-init : goal.loop-ending-init
loop-ending-init c = alike_none _ _ c.if-len-b.false

pub returns-then-a-i : goal.returns-then-a-i
returns-then-a-i c = found_other c.loop-ending.invariant _ (omega arith) c.if-a-i.true

pub loop-ending-preserved : goal.loop-ending-preserved
loop-ending-preserved c = alike_more c.loop-ending.invariant _ (omega arith) c.if-a-i.false

pub returns : goal.returns
returns c = found_same c.loop-ending.invariant (omega arith)
