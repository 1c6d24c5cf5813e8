-- `ordering::call::order_of` meets its contract. Assumes nothing.
use mathlib.Core.Path.{ap, sym, ◌∙◌}
use native.Mathlib.Omega.{arith}
use Rattle.names.specs.Refusals.{place_at}
use Rattle.ordering.proofs.OrderLaws.{order_short, let_count, loc_fits, answer_stuck, answer_found}
use Rattle.ordering.proofs.call.order_of.Goals as goal

pub returns-then-res-from : goal.returns-then-res-from
returns-then-res-from c = λ k l w h bs b t.
    c.refused.ensures _ ∙ rw c.placeless.ensures (sym (order_short _ _ k l w h bs b (omega (arith, let_count c.let_view-v.ensures t))))

pub number-requires : goal.number-requires
number-requires c = (omega arith, loc_fits c.let_view-v.ensures c.requires.some_let.6)

pub stuck-requires : goal.stuck-requires
stuck-requires c =
    let t = c.requires.some_let in
    let o = c.toposort_assign_bindings-o.ensures _ _ _ _ _ _ t.6 in
    (o.few, o.row, o.placed, omega (arith, o.count, let_count c.let_view-v.ensures t.6))

pub ordered-requires : goal.ordered-requires
ordered-requires c =
    let t = c.requires.some_let in
    let o = c.toposort_assign_bindings-o.ensures _ _ _ _ _ _ t.6 in
    (o.few, o.row, omega (arith, o.count, let_count c.let_view-v.ensures t.6))

pub returns-then-o : goal.returns-then-o
returns-then-o c = λ k l w h bs b t.
    answer_stuck c.let_view-v.ensures t _ _ (c.toposort_assign_bindings-o.ensures k l w h bs b t) (omega arith) c.if-o.true
    (c.place_at-place.ensures ∙ ap place_at c.number.ensures.value) c.stuck.ensures

pub returns-else-o : goal.returns-else-o
returns-else-o c = λ k l w h bs b t.
    answer_found c.let_view-v.ensures t _ _ (c.toposort_assign_bindings-o.ensures k l w h bs b t) (omega arith) c.if-o.false c.ordered.ensures
