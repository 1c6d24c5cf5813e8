-- `exports::read::read_kind` meets its contract. Assumes nothing.
use mathlib.Core.Path.{ap, ◌∙◌}
use borrow.Author.Rules.{rules}
use Rattle.std.specs.Prelude.{Err}
use Rattle.exports.specs.Linked.{read_call}
use Rattle.exports.proofs.ToldAnswers.{other_kind}
use Rattle.exports.proofs.read.read_kind.Goals as goal

pub returns-in-0 : goal.returns-in-0
unfolding read_call
returns-in-0 c = rw c.in-0.is c.read_as.ensures

pub returns-in-1 : goal.returns-in-1
unfolding read_call
returns-in-1 c = rw c.in-1.is c.read_as-in-1.ensures

pub returns-in-2 : goal.returns-in-2
unfolding read_call
returns-in-2 c = rw c.in-2.is c.read_as-in-2.ensures

pub returns-in_default : goal.returns-in_default
returns-in_default c = ap Err c.placeless.ensures ∙ other_kind _ _ _ (search rules) (search rules) (search rules)
