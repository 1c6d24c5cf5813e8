-- `ordering::assign::find_names` meets its contract. The invariant: what is found after j bindings. Assumes nothing.
use mathlib.Core.Path.{refl, ap, ◌∙◌}
use native.Mathlib.Omega.{arith}
use borrow.Author.Rules.{rules}
use lib.ListN.{length, length-set}
use Rattle.ordering.proofs.Bound.{found_none, next_body, found_step, found_all}
use Rattle.ordering.proofs.EntryLaws.{room_same, room_then}
use Rattle.ordering.proofs.assign.find_names.Goals as goal

pub loop-body-init : goal.loop-body-init
loop-body-init c = (omega arith, room_same, refl, λ bs b. found_none bs c.new-listed.ensures.count b.there)

pub binding_names-requires : goal.binding_names-requires
binding_names-requires c =
    let w = c.requires.bound in
    (omega (arith, (c.loop-body.invariant.3 w.0 w.1).rest.fits), c.requires.s_len_bound.0)

pub past_record-at-requires : goal.past_record-at-requires
past_record-at-requires c =
    let l = c.loop-body in
    let w = c.requires.bound in
    next_body (l.invariant.3 w.0 w.1) w.1.valid.1 (omega (arith, w.1.count)) c.requires.s_len_bound.0 (l.invariant.1.size ∙ ap length c.new-listed.ensures.items ∙ c.requires.s_len_bound.1) c.binding_names.ensures

pub loop-body-smaller : goal.loop-body-smaller
loop-body-smaller c = omega (arith, length-set c.loop-body.bodies c.loop-body.body-index c.binding_names.result)

pub loop-body-preserved : goal.loop-body-preserved
loop-body-preserved c =
    let l = c.loop-body in
    let g = c.binding_names in
    let size = l.invariant.1.size ∙ ap length c.new-listed.ensures.items ∙ c.requires.s_len_bound.1 in (
      omega (arith, length-set l.bodies l.body-index g.result),
      room_then l.invariant.1 g.ensures.room,
      length-set l.bodies l.body-index _ ∙ l.invariant.2,
      λ bs b. found_step (l.invariant.3 bs b) b.valid.1 (omega (arith, b.count)) c.requires.s_len_bound.0 size g.ensures (omega arith) c.past_record-at.ensures,
    )

pub returns : goal.returns
returns c =
    λ bs b.
    let l = c.loop-body in
    let f = l.invariant.3 bs b in
    let size = l.invariant.1.size ∙ ap length c.new-listed.ensures.items ∙ c.requires.s_len_bound.1 in
    found_all f b.valid.1 (omega (arith, b.count)) (omega (arith, f.rest.fits, c.requires.s_len_bound.0)) size (search rules)
