-- `outline::page::character` meets its contract. Assumes nothing.
use mathlib.Core.Path.{◌∙◌}
use native.Mathlib.Omega.{arith}
use Rattle.outline.proofs.Characters.{front_shown, mark_shown, gap_shown, name_behind}
use Rattle.outline.proofs.page.character.Goals as goal

pub returns-then-i-front : goal.returns-then-i-front
returns-then-i-front c = front_shown _ _ _ _ c.if-i-front.true

pub returns-then-j-lt-MARK_WIDTH : goal.returns-then-j-lt-MARK_WIDTH
returns-then-j-lt-MARK_WIDTH c =
    mark_shown _ _ _ _ c.if-i-front.false c.requires.1 c.if-j-lt-MARK_WIDTH.true

pub returns-then-j-eq-MARK_WIDTH : goal.returns-then-j-eq-MARK_WIDTH
returns-then-j-eq-MARK_WIDTH c =
    gap_shown _ _ _ _ c.if-i-front.false c.requires.1 c.if-j-eq-MARK_WIDTH.true

pub returns : goal.returns
returns c = c.shown_at.ensures ∙ name_behind _ _ _ _ c.if-i-front.false c.requires.1 (omega arith)
