-- `records::input::read_input` meets its contract, by that of `opened`. Assumes nothing.
use mathlib.Core.Path.{ap, ◌∙◌}
use Rattle.records.proofs.Scans.{same_err}
use Rattle.records.proofs.InputLaws.{from_any, opening_any}
use Rattle.records.proofs.input.read_input.Goals as goal

pub returns-in_err-opened : goal.returns-in_err-opened
returns-in_err-opened c = same_err c.from_residual.ensures.1 ∙ ap from_any c.in_err-opened.ensures ∙ opening_any _ _ _ _ _

pub returns : goal.returns
returns c = ap from_any c.in_ok-opened.ensures ∙ opening_any _ _ _ _ _
