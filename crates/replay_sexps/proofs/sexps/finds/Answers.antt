-- `replay_sexps::sexps::finds` meets its contract: two S records stand in a form without helpers whose body is a BV. Assumes nothing.
use native.Mathlib.Omega.{arith}
use Rattle.records.proofs.Marks.{body_placed}
use Rattle.replay_sexps.proofs.CaseLaws.{bare, two}
use Rattle.replay_sexps.proofs.sexps.finds.Goals as goal

pub slice_bounds-body_mark-count : goal.slice_bounds-body_mark-count
slice_bounds-body_mark-count c = omega (arith, (bare c.form_view-v.ensures (omega arith) _ c.requires.form_in.1).body_there.fits)

pub slice_bounds-body_mark-start : goal.slice_bounds-body_mark-start
slice_bounds-body_mark-start c = omega (arith, (bare c.form_view-v.ensures (omega arith) _ c.requires.form_in.1).body_there.fits)

pub slice_bounds-quote_view-count : goal.slice_bounds-quote_view-count
slice_bounds-quote_view-count c = omega (arith, (bare c.form_view-v.ensures (omega arith) _ c.requires.form_in.1).body_there.fits)

pub slice_bounds-quote_view-start : goal.slice_bounds-quote_view-start
slice_bounds-quote_view-start c = omega (arith, (bare c.form_view-v.ensures (omega arith) _ c.requires.form_in.1).body_there.fits)

pub overflow_add-at : goal.overflow_add-at
overflow_add-at c =
    let w = two (bare c.form_view-v.ensures (omega arith) _ c.requires.form_in.1) (body_placed c.in-Some-Value.field-0-is c.in-Some-Value.ensures) c.quote_view.ensures.sees_value in
    omega (arith, w.3.target.fits)

pub draws-requires-clause-sexps_in : goal.draws-requires-clause-sexps_in
draws-requires-clause-sexps_in c =
    let w = two (bare c.form_view-v.ensures (omega arith) _ c.requires.form_in.1) (body_placed c.in-Some-Value.field-0-is c.in-Some-Value.ensures) c.quote_view.ensures.sees_value in
    (w.0, w.1, w.3)

pub returns : goal.returns
returns c e f h =
    let w = two (bare c.form_view-v.ensures (omega arith) f h) (body_placed c.in-Some-Value.field-0-is c.in-Some-Value.ensures) c.quote_view.ensures.sees_value in
    record { pattern = w.0; target = w.1; form = w.2; told = c.draws.ensures e w.0 w.1 w.3 }
