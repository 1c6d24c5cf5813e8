-- `names::make::gensym_len` meets its contract. Assumes nothing.
use native.Mathlib.Omega.{arith}
use Prim.Native.Nat.{◌+◌}
use Rattle.names.specs.Names.{ascii}
use Rattle.names.proofs.Digits.{decimal_length_u64}
use Rattle.names.proofs.Gensym.{gensym_length}
use Rattle.names.proofs.make.gensym_len.Goals as goal

pub overflow_add-result-2 : goal.overflow_add-result-2
overflow_add-result-2 c = omega (arith, decimal_length_u64 (c.args.counter + 1) (omega arith))

pub returns : goal.returns
unfolding ascii
returns c = let a = c.args in omega (arith, gensym_length a.name.now a.counter)
