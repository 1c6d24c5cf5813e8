-- `commands::ready::ready` meets its contract: each need is tested. Assumes nothing.
use mathlib.Core.Path.{ap, ◌∙◌}
use native.Mathlib.Omega.{arith}
use borrow.Author.Rules.{rules}
use borrow.Author.Tests.{tests}
use lib.ListN.{length}
use Rattle.std.specs.List.{list_all}
use Rattle.std.proofs.lemmas.Iterator.{YieldsList-from_slice}
use Rattle.std.proofs.lemmas.Iterator.Search.{all_from_yields_List}
use Rattle.commands.proofs.Readiness.{met, tells_ready}
use Rattle.commands.proofs.ready.ready.Goals as goal

-- no body stands there
pub returns-then-body-s : goal.returns-then-body-s
returns-then-body-s c top bs b placed v at p m = absurd (omega (arith, at.fits))

pub returns : goal.returns
returns c =
    tells_ready c.body_needs.ensures c.new-needs.ensures.count (ap length c.new-needs.ensures.items)
    (all_from_yields_List (met c.args.before) _ _ _ c.all.ensures.ran (YieldsList-from_slice c.listed.result.now cc) (λ x b q k. search (rules, tests)) ∙ ap (list_all (met c.args.before)) c.listed.ensures)
