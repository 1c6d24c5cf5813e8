-- `exports::read::read_as` meets its contract. Assumes nothing.
use Rattle.exports.specs.Linked.{read_as}
use Rattle.exports.proofs.read.read_as.Goals as goal

pub returns : goal.returns
unfolding read_as
returns c = c.open_input.ensures
