-- `names::make::digit_count` meets its contract. The invariant: the digits counted and those of `left` are one more than those of n.
-- Assumes nothing.
use native.Mathlib.Omega.{arith}
use Rattle.names.proofs.Digits.{decimal_length_one, decimal_length_more, decimal_length_u64}
use Rattle.names.proofs.make.digit_count.Goals as goal

pub loop-left-init : goal.loop-left-init
loop-left-init c = omega (arith, decimal_length_u64 c.args.n (omega arith))

pub loop-left-preserved : goal.loop-left-preserved
loop-left-preserved c = omega (arith, decimal_length_more c.loop-left.left (omega arith))

pub returns : goal.returns
returns c = omega (arith, decimal_length_one c.loop-left.left (omega arith))
