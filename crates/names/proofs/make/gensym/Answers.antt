-- `names::make::gensym` meets its contract. Assumes nothing.
use native.Mathlib.Omega.{arith}
use Rattle.names.specs.Names.{ascii}
use Rattle.names.proofs.Gensym.{gensym_length, gensym_written}
use Rattle.names.proofs.make.gensym.Goals as goal

pub put-requires : goal.put-requires
put-requires c = omega (arith, gensym_length c.args.name.now c.args.counter)

pub put-requires-2 : goal.put-requires-2
unfolding ascii
put-requires-2 c = omega (arith, gensym_length c.args.name.now c.args.counter)

pub put_decimal-requires : goal.put_decimal-requires
unfolding ascii
put_decimal-requires c = omega (arith, gensym_length c.args.name.now c.args.counter)

pub returns-clause-out_after : goal.returns-clause-out_after
unfolding ascii
returns-clause-out_after c =
    gensym_written _ _ c.put.ensures c.put-2.ensures c.put_decimal.ensures c.requires.counter_in_bounds
