-- `ordering::needs::pattern_needs` meets its contract. Assumes nothing.
use Rattle.ordering.proofs.Bodies.{name_reaches, complex_reaches}
use Rattle.ordering.proofs.needs.pattern_needs.Goals as goal

pub returns-then-v-eq0 : goal.returns-then-v-eq0
returns-then-v-eq0 c =
    name_reaches c.tagged_view-v.ensures c.if-v-eq0.true c.name_view-w.ensures c.word.ensures

pub returns : goal.returns
returns c =
    complex_reaches c.tagged_view-v.ensures c.if-v-eq0.false c.child_sexp.ensures
