-- `names::call::refused` meets its contract. Assumes nothing.
use mathlib.Core.Path.{refl}
use Rattle.names.specs.CallAnswer.{refused_answer}
use Rattle.names.proofs.call.refused.Goals as goal

pub returns : goal.returns
unfolding refused_answer
returns c buffer = refl
