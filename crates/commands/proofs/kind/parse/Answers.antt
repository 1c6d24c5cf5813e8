-- `commands::kind::parse` meets its contract. Assumes nothing.
use mathlib.Core.Path.{sym, ◌∙◌}
use Rattle.names.specs.Names.{ascii}
use Rattle.commands.proofs.Words.{kind_assign, kind_form, kind_helper, kind_none}
use Rattle.commands.proofs.kind.parse.Goals as goal

pub returns-then-same : goal.returns-then-same
unfolding ascii
returns-then-same c = sym (kind_form _ (sym c.same.ensures ∙ c.if-same.true))

pub returns-then-same-2 : goal.returns-then-same-2
unfolding ascii
returns-then-same-2 c =
    sym
    (kind_helper _
    (sym c.same.ensures ∙ c.if-same.false)
    (sym c.same-2.ensures ∙ c.if-same-2.true))

pub returns-then-same-3 : goal.returns-then-same-3
unfolding ascii
returns-then-same-3 c =
    sym
    (kind_assign _
    (sym c.same.ensures ∙ c.if-same.false)
    (sym c.same-2.ensures ∙ c.if-same-2.false)
    (sym c.same-3.ensures ∙ c.if-same-3.true))

pub returns : goal.returns
unfolding ascii
returns c =
    sym
    (kind_none _
    (sym c.same.ensures ∙ c.if-same.false)
    (sym c.same-2.ensures ∙ c.if-same-2.false)
    (sym c.same-3.ensures ∙ c.if-same-3.false))
