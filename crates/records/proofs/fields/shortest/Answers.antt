-- `records::fields::shortest` meets its contract. Assumes nothing.
use mathlib.Core.Path.{sym}
use native.Mathlib.Omega.{arith}
use Rattle.records.proofs.Shortest.{shortest_none, shortest_one, shortest_low, shortest_high, shortest_other}
use Rattle.records.proofs.fields.shortest.Goals as goal

pub returns-then-v-eq0 : goal.returns-then-v-eq0
returns-then-v-eq0 c = sym (shortest_none _ c.if-v-eq0.true)

pub returns-then-v-eq1 : goal.returns-then-v-eq1
returns-then-v-eq1 c = sym (shortest_one _ c.if-v-eq1.true)

pub returns-then-v-eq0-2 : goal.returns-then-v-eq0-2
returns-then-v-eq0-2 c = sym (shortest_low _ (omega arith) c.if-v-eq0-2.true)

pub returns-then-v : goal.returns-then-v
returns-then-v c = sym (shortest_high _ (omega arith) c.if-v.true)

pub returns : goal.returns
returns c = sym (shortest_other _ (omega arith) c.if-v-eq0-2.false c.if-v.false)
