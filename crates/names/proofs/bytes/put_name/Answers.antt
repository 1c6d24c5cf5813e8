-- `names::bytes::put_name` meets its contract. Assumes nothing.
use native.Mathlib.Omega.{arith}
use Rattle.names.proofs.Fields.{name_field_length, name_filled}
use Rattle.names.proofs.bytes.put_name.Goals as goal

pub put_number-requires : goal.put_number-requires
put_number-requires c = let l = name_field_length c.args.name.now in (omega arith, omega arith)

pub put-requires : goal.put-requires
put-requires c = omega (arith, name_field_length c.args.name.now)

pub returns : goal.returns
returns c = name_filled _ c.put_number.ensures c.put.ensures c.requires.1
