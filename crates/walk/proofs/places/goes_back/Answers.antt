-- `walk::places::goes_back` meets its contract. Assumes nothing.
use Rattle.std.proofs.Common.{arith}
use Rattle.std.proofs.lemmas.Grind.{common_steps}
use Rattle.walk.specs.CallWalks.{backs}
use Rattle.walk.proofs.places.goes_back.Goals as goal

pub returns-then-owning : goal.returns-then-owning
unfolding backs
returns-then-owning c = rw c.if-owning.true

pub returns : goal.returns
unfolding backs
returns c = rw c.if-owning.false (grind (arith, common_steps))
