-- `crate::scopes::make_bindings_unique` meets its contract. The invariant: as many bindings as turns have their new patterns and their map. Assumes nothing.
use Rattle.std.proofs.lemmas.Result.{err_from_is_err_and}
use native.Mathlib.Omega.{arith}
use mathlib.Core.Path.{refl}
use Rattle.walk.proofs.ManyPatterns.{drawing_starts, drawing_ends, drawing_next, next_places, next_asked, next_stopped, next_some, next_size, next_sums, next_drawing}
use Rattle.walk.proofs.scopes.make_bindings_unique.Goals as goal

pub loop-init : goal.loop-init
loop-init c = drawing_starts c.requires

pub overflow_add-p : goal.overflow_add-p
overflow_add-p c =
    let i = c.loop.invariant in
    let x = next_places i (drawing_next i c.loop-test.true) in
    omega (arith, x.0, x.1, x.3, x.4, x.5, c.well_formed)

pub overflow_sub-top : goal.overflow_sub-top
overflow_sub-top c = (next_places c.loop.invariant (drawing_next c.loop.invariant c.loop-test.true)).4

pub bounds-mem-p : goal.bounds-mem-p
bounds-mem-p c =
    let i = c.loop.invariant in
    let x = next_places i (drawing_next i c.loop-test.true) in
    omega (arith, x.0, x.1, x.3)

pub slice_bounds-make_binding_unique-count : goal.slice_bounds-make_binding_unique-count
slice_bounds-make_binding_unique-count c =
    let i = c.loop.invariant in
    let x = next_places i (drawing_next i c.loop-test.true) in
    omega (arith, x.0, x.1, x.3)

pub slice_bounds-make_binding_unique-start : goal.slice_bounds-make_binding_unique-start
slice_bounds-make_binding_unique-start c =
    let i = c.loop.invariant in
    let x = next_places i (drawing_next i c.loop-test.true) in
    omega (arith, x.0, x.1, x.3)

pub overflow_sub-to : goal.overflow_sub-to
overflow_sub-to c =
    let i = c.loop.invariant in
    let x = next_places i (drawing_next i c.loop-test.true) in
    omega (arith, x.0, x.1)

pub overflow_sub-t : goal.overflow_sub-t
overflow_sub-t c = c.loop.invariant.within

pub make_binding_unique-requires : goal.make_binding_unique-requires
make_binding_unique-requires c = next_asked c.loop.invariant (drawing_next c.loop.invariant c.loop-test.true)

pub returns-in_err-d : goal.returns-in_err-d
returns-in_err-d c =
    let i = c.loop.invariant in
    let n = drawing_next i c.loop-test.true in
    let e = err_from_is_err_and c.from_residual.result c.from_residual.ensures.1 in
    rw (e.1, e.2) (next_stopped i n c.make_binding_unique.ensures _ c.in_err-d.was)

pub summed-sum-requires : goal.summed-sum-requires
summed-sum-requires c =
    let i = c.loop.invariant in
    let n = drawing_next i c.loop-test.true in
    next_some i n c.make_binding_unique.ensures _ _ _ _ c.in_ok-d.was

pub overflow_add-sum : goal.overflow_add-sum
overflow_add-sum c =
    let i = c.loop.invariant in
    let n = drawing_next i c.loop-test.true in
    let s = next_sums i n c.make_binding_unique.ensures _ _ _ _ c.in_ok-d.was refl c.summed-sum.ensures in
    omega (arith, s.0, i.ready.longest)

pub overflow_add-to : goal.overflow_add-to
overflow_add-to c =
    let i = c.loop.invariant in
    let n = drawing_next i c.loop-test.true in
    let s = next_sums i n c.make_binding_unique.ensures _ _ _ _ c.in_ok-d.was refl c.summed-sum.ensures in
    omega (arith, s.1, (next_places i n).5, c.well_formed)

pub overflow_add-map : goal.overflow_add-map
overflow_add-map c =
    let i = c.loop.invariant in
    let n = drawing_next i c.loop-test.true in
    let s = next_sums i n c.make_binding_unique.ensures _ _ _ _ c.in_ok-d.was refl c.summed-sum.ensures in
    omega (arith, s.1, (next_places i n).5, c.well_formed)

pub overflow_add-p-in-loop : goal.overflow_add-p-in-loop
overflow_add-p-in-loop c =
    let i = c.loop.invariant in
    let n = drawing_next i c.loop-test.true in
    let x = next_places i n in
    let s = next_sums i n c.make_binding_unique.ensures _ _ _ _ c.in_ok-d.was refl c.summed-sum.ensures in
    omega (arith, s.2, x.1, x.3, x.5, c.well_formed)

pub past_record-at-requires : goal.past_record-at-requires
past_record-at-requires c =
    let i = c.loop.invariant in
    let n = drawing_next i c.loop-test.true in
    let x = next_places i n in
    let s = next_sums i n c.make_binding_unique.ensures _ _ _ _ c.in_ok-d.was refl c.summed-sum.ensures in
    omega (arith, s.2, x.1, x.3, next_size i n c.make_binding_unique.ensures)

pub loop-preserved : goal.loop-preserved
loop-preserved c =
    let i = c.loop.invariant in
    let n = drawing_next i c.loop-test.true in
    next_drawing i n c.make_binding_unique.ensures _ _ _ _ c.in_ok-d.was refl c.summed-sum.ensures c.past_record-at.ensures

pub overflow_sub-result : goal.overflow_sub-result
overflow_sub-result c = omega (arith, c.loop.invariant.to_is)

pub returns : goal.returns
returns c = drawing_ends c.loop.invariant c.loop-test.false
