-- `walk::desugar::put_let` meets its contract. Assumes nothing.
use mathlib.Core.Path.{refl}
use Rattle.names.specs.Names.{ascii}
use Rattle.records.specs.Records.{byte, kind_field}
use Rattle.walk.proofs.DesugarLaws.{let_written}
use Rattle.walk.proofs.desugar.put_let.Goals as goal

pub returns : goal.returns
unfolding ascii kind_field byte
returns c =
    let p = c.requires in
    let_written c.put.ensures c.copy.ensures c.put-2.ensures c.copy-2.ensures refl
    refl refl p.head_width_le_n.0 p.head_width_le_n.1 p.n_in_bounds
