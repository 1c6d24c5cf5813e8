-- `names::bytes::same` meets its contract: it hands on what `compare` says. Assumes nothing.
use mathlib.Core.Path.{ap}
use Rattle.names.specs.declared.Compared.{Compared}
use Rattle.names.proofs.bytes.same.Goals as goal

pub returns : goal.returns
returns c = ap (λ (r : Compared). r.equal) c.compare-c.ensures
