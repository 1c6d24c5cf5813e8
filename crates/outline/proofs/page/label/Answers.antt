-- `outline::page::label` meets its contract. Assumes nothing.
use mathlib.Core.Path.{sym, ◌∙◌}
use Rattle.outline.proofs.NamePlaces.{label_unmarked, label_nowhere, label_at, label_complex, label_pattern}
use Rattle.outline.proofs.page.label.Goals as goal

pub returns-in_err-first_mark : goal.returns-in_err-first_mark
returns-in_err-first_mark c = rw c.from_residual.ensures (label_unmarked c.in_err-first_mark.ensures)

pub returns-in_err-at : goal.returns-in_err-at
returns-in_err-at c =
    rw c.from_residual-in_err-at.ensures (label_nowhere _ c.in_ok-first_mark.ensures c.in_err-at.ensures.value)

pub returns-in-At : goal.returns-in-At
returns-in-At c =
    label_at _ c.in_ok-first_mark.ensures (rw c.in-At.is at c.in_ok-at.ensures.value) c.named.ensures

pub returns-in-Pattern : goal.returns-in-Pattern
returns-in-Pattern c =
    label_pattern _ c.in_ok-first_mark.ensures (rw c.in-Pattern.is at c.in_ok-at.ensures.value) (sym c.byte_at.ensures ∙ c.if-byte_at-eq0.true) c.named-in-Pattern.ensures

pub returns-in-Pattern-2 : goal.returns-in-Pattern-2
returns-in-Pattern-2 c =
    label_complex _ c.in_ok-first_mark.ensures (rw c.in-Pattern.is at c.in_ok-at.ensures.value) (rw c.byte_at.ensures at c.if-byte_at-eq0.false)
