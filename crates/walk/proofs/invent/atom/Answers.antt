-- `crate::invent::atom` meets its contract. Assumes nothing.
use mathlib.Core.Path.{sym, ◌∙◌}
use Rattle.names.specs.Names.{ascii}
use Rattle.walk.proofs.InventLaws.{invents_drawn, invents_kept}
use Rattle.walk.proofs.invent.atom.Goals as goal

pub returns-then-same-clause-invents_atom : goal.returns-then-same-clause-invents_atom
unfolding ascii
returns-then-same-clause-invents_atom c = invents_kept (sym c.same.ensures ∙ c.if-same.true)

pub returns-clause-invents_atom : goal.returns-clause-invents_atom
unfolding ascii
returns-clause-invents_atom c =
    let a = c.args in
    invents_drawn a.mem.now _ a.name.start a.name.end a.len a.counter c.push.result (sym c.same.ensures ∙ c.if-same.false) c.push.ensures.pushes
