-- `ordering::assign::find_needs` meets its contract. The invariant: what is collected after j bodies. Assumes nothing.
use mathlib.Core.Path.{◌≡◌, refl, ap, ◌∙◌}
use native.Mathlib.Omega.{arith}
use borrow.Author.Rules.{rules}
use Prim.Native.Nat.{◌≤◌, ◌<◌}
use lib.ListN.{length, length-set}
use Rattle.ordering.specs.Assign.{all_needs}
use Rattle.ordering.proofs.Bound.{starts_of}
use Rattle.ordering.proofs.Collected.{collected_none, collected_next, body_added, collected_starts, collected_all}
use Rattle.ordering.proofs.EntryLaws.{room_same, room_then}
use Rattle.ordering.proofs.assign.find_needs.Goals as goal

pub loop-j-init : goal.loop-j-init
loop-j-init c = (room_same, refl, λ bs b. collected_none bs c.new-listed.ensures.count)

pub bounds-starts-j : goal.bounds-starts-j
bounds-starts-j c = omega (arith, c.loop-j.invariant.1, c.requires.bodies_len_bound.1)

pub slice_bounds-body_needs-count : goal.slice_bounds-body_needs-count
slice_bounds-body_needs-count c =
    let w = c.requires.collectable in
    omega (arith, (w.1.bodies_at.there c.loop-j.j (omega (arith, w.1.size))).fits)

pub slice_bounds-body_needs-start : goal.slice_bounds-body_needs-start
slice_bounds-body_needs-start c =
    let w = c.requires.collectable in
    omega (arith, (w.1.bodies_at.there c.loop-j.j (omega (arith, w.1.size))).fits)

pub loop-j-preserved : goal.loop-j-preserved
loop-j-preserved c =
    let l = c.loop-j in
    let g = c.body_needs in (
      room_then l.invariant.0 g.ensures.room,
      length-set l.starts l.j l.listed.count ∙ l.invariant.1,
      λ bs b.
          let f = l.invariant.2 bs b in
          let lt : l.j < length bs = omega (arith, b.size) in
          let fits : length (all_needs bs bs) ≤ length l.listed.items.now = omega (arith, b.fits, l.invariant.0.size, ap length c.new-listed.ensures.items) in
          collected_next f lt fits (omega (arith, l.invariant.1, c.requires.bodies_len_bound.1)) (body_added f lt fits b.provisions b.bodies_at g.ensures),
    )

pub returns : goal.returns
returns c =
    let l = c.loop-j in
    let e : length c.args.bodies.now ≡ l.j = omega arith in
    let room : l.j < length l.starts = omega (arith, l.invariant.1, c.requires.bodies_len_bound.1) in
    let w = c.requires.collectable in
    rw e record {
      starts = starts_of _ (w.1.size ∙ e)
          (collected_starts (l.invariant.2 w.0 w.1) (omega (arith, w.1.size)) room (omega (arith, w.1.size, c.requires.bodies_len_bound.0)) (omega (arith, w.1.fits, l.invariant.0.size, ap length c.new-listed.ensures.items)) (search rules));
      finds_needs = λ bs b. collected_all (l.invariant.2 bs b) (omega (arith, b.size)) room (search rules);
    }
