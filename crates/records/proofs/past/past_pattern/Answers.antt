-- `crate::past::past_pattern` meets its contract. Assumes nothing.
use Rattle.records.proofs.FieldEnds.{name_pattern_past, sexp_pattern_past}
use Rattle.records.proofs.past.past_pattern.Goals as goal

pub returns-then-v-eq0 : goal.returns-then-v-eq0
returns-then-v-eq0 c = name_pattern_past c.tagged_view-v.ensures c.if-v-eq0.true c.past_name.ensures

pub returns : goal.returns
returns c = sexp_pattern_past c.tagged_view-v.ensures c.if-v-eq0.false c.past_sexp.ensures
