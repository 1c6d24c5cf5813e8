-- `ordering::assign::toposort_assign_bindings` meets its contract. Assumes nothing.
use mathlib.Core.Path.{refl, sym, ◌∙◌}
use native.Mathlib.Omega.{arith}
use lib.Seq.{length-take-le}
use Rattle.ordering.proofs.Bound.{let_bound, bound_of, ordered_in}
use Rattle.ordering.proofs.assign.toposort_assign_bindings.Goals as goal

pub slice_bounds-bodies-end : goal.slice_bounds-bodies-end
slice_bounds-bodies-end c = (let_bound c.from-count.ensures c.let_view-v.ensures c.requires.some_let.6).1

pub slice_bounds-order_bindings-end-2 : goal.slice_bounds-order_bindings-end-2
slice_bounds-order_bindings-end-2 c = sym (length-take-le _ _ (let_bound c.from-count.ensures c.let_view-v.ensures c.requires.some_let.6).1)

pub slice_bounds-row-end : goal.slice_bounds-row-end
slice_bounds-row-end c = (let_bound c.from-count.ensures c.let_view-v.ensures c.requires.some_let.6).1

pub slice_bounds-order_bindings-end-5 : goal.slice_bounds-order_bindings-end-5
slice_bounds-order_bindings-end-5 c = sym (length-take-le _ _ (let_bound c.from-count.ensures c.let_view-v.ensures c.requires.some_let.6).1)

pub order_bindings-r-requires : goal.order_bindings-r-requires
order_bindings-r-requires c =
    let w = let_bound c.from-count.ensures c.let_view-v.ensures c.requires.some_let.6 in
    let size = length-take-le _ _ w.1 in
    let bodies = length-take-le _ _ w.1 in
    record { s_len_bound = (c.requires.s_len_bound, refl, refl); bodies_len = (bodies ∙ sym size, omega (arith, size, w.1), omega (arith, size, w.1)); bound = (_, bound_of _ (sym size) w.0) }

pub returns : goal.returns
returns c =
    λ k l w h bs b t.
    let x = let_bound c.from-count.ensures c.let_view-v.ensures t in
    let size = length-take-le _ _ x.1 in
    let g = c.order_bindings-r in
    ordered_in _ _ x.0 (g.auto.row ∙ size) refl x.1 g.ensures.placed_in_bounds (g.ensures.sorts_bindings _ (bound_of _ (sym size) x.0))
