-- `commands::waits::has_word` meets its contract: the entry says a place in s, and there is room for what the body needs. Assumes nothing.
use mathlib.Core.Path.{refl, ap}
use native.Mathlib.Omega.{arith}
use lib.ListN.{length}
use Rattle.commands.proofs.Given.{given_one}
use Rattle.commands.proofs.Waiting.{tells_word}
use Rattle.commands.proofs.waits.has_word.Goals as goal

-- no entry, or no body, stands there
pub returns-then-start-end : goal.returns-then-start-end
returns-then-start-end c top b x v at e = absurd (omega (arith, at.fits, e.there.fits, e.ends))

pub invariant_of-lone : goal.invariant_of-lone
invariant_of-lone c = record { given = given_one _ (omega arith) (omega arith) }

pub returns : goal.returns
returns c = tells_word _ refl refl c.body_needs.ensures c.new-needs.ensures.count (ap length c.new-needs.ensures.items)
