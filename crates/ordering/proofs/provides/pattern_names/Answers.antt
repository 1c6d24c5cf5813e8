-- `ordering::provides::pattern_names` meets its contract. Assumes nothing.
use borrow.Author.Rules.{rules}
use Rattle.ordering.proofs.Patterns.{no_pattern, name_names, complex_names}
use Rattle.ordering.proofs.provides.pattern_names.Goals as goal

pub returns-then-at-a : goal.returns-then-at-a
returns-then-at-a c = no_pattern _ _ (search rules) (search rules)

pub returns-then-a-at-eq0 : goal.returns-then-a-at-eq0
returns-then-a-at-eq0 c =
    name_names _ _ (search rules) (search rules) c.if-a-at-eq0.true c.name_view-v.ensures c.entry.ensures

pub returns : goal.returns
returns c =
    complex_names _ _ c.if-a-at-eq0.false c.sexp_names.ensures
