-- `records::input::open_input` meets its contract, by that of `opened`. Assumes nothing.
use mathlib.Core.Path.{ap, sym, ◌∙◌}
use Rattle.records.proofs.Scans.{same_err}
use Rattle.std.specs.Prelude.{Ok, Err}
use Rattle.names.specs.Refusals.{refusing}
use Rattle.names.specs.declared.Reason.TheVariants.{ModInBinding}
use Rattle.records.proofs.InputLaws.{from_first_mod, opening_no_mod}
use Rattle.records.proofs.input.open_input.Goals as goal

pub returns-in_err-p : goal.returns-in_err-p
returns-in_err-p c = same_err c.from_residual.ensures.1 ∙ ap from_first_mod c.in_err-p.ensures ∙ opening_no_mod _ _ _ _ _

pub returns-in-Some : goal.returns-in-Some
returns-in-Some c =
    ap Err (c.refusing.ensures ∙ ap (refusing ModInBinding) c.place_at.ensures) ∙ ap from_first_mod (ap Ok (sym c.in-Some.is) ∙ c.in_ok-p.ensures) ∙ opening_no_mod _ _ _ _ _

pub returns-in-None : goal.returns-in-None
returns-in-None c = ap from_first_mod (ap Ok (sym c.in-None.is) ∙ c.in_ok-p.ensures) ∙ opening_no_mod _ _ _ _ _
