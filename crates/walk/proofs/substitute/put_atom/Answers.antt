-- `crate::substitute::put_atom` meets its contract. Assumes nothing.
use native.Mathlib.Omega.{arith}
use Rattle.walk.proofs.Substitutes.{named_length, written_atom}
use Rattle.walk.proofs.substitute.put_atom.Goals as goal

pub returns : goal.returns
returns c =
    written_atom c.args.name.now c.copy.ensures c.put_name.ensures (omega arith) c.requires.name_in_bounds
    (omega (arith, named_length c.args.mem.now c.args.name.now (omega arith)))
