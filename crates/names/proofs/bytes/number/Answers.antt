-- `names::bytes::number` meets its contract. Assumes nothing.
use Rattle.std.proofs.Common.{refl, arith}
use native.Mathlib.Nat.{pow-suc}
use Prim.Native.Nat.{suc}
use Rattle.names.specs.Names.{number_of, number_after}
use Rattle.names.proofs.Fields.{number_fits, number_read}
use Rattle.names.proofs.bytes.number.Goals as goal

pub loop-byte-init : goal.loop-byte-init
unfolding number_of number_after
loop-byte-init c = (refl, omega arith)

pub overflow_mul-n : goal.overflow_mul-n
overflow_mul-n c =
    let i = c.loop-byte.byte-index in omega (arith, c.loop-byte.invariant.1, pow-suc 256 i, number_fits (suc i) (omega arith))

pub loop-byte-preserved : goal.loop-byte-preserved
loop-byte-preserved c = rw c.from.ensures (number_read c.args.s.now c.args.at c.args.width c.requires.1 (λ j. (c.type_inv.s j).fits) c.loop-byte.invariant (omega arith))
