-- `ordering::assign::order_bindings` meets its contract. Assumes nothing.
use mathlib.Core.Path.{◌≡◌, refl, sym, ◌∙◌}
use native.Mathlib.Omega.{arith}
use lib.ListN.{length}
use lib.Seq.{length-take-le}
use Rattle.ordering.specs.Words.{items, toposort_assign_bindings}
use Rattle.ordering.proofs.Bound.{bound_of, starts_of, collectable}
use Rattle.ordering.proofs.Collected.{items_length, provisions_given}
use Rattle.ordering.proofs.assign.order_bindings.Goals as goal

pub find_names-n-requires : goal.find_names-n-requires
find_names-n-requires c =
    let p = c.requires in
    record { s_len_bound = (p.s_len_bound.0, p.s_len_bound.1); bound = (p.bound.0, bound_of _ (sym p.bodies_len.0) p.bound.1) }

pub slice_bounds-given-end : goal.slice_bounds-given-end
slice_bounds-given-end c =
    let p = c.requires in
    (c.find_names-n.ensures p.bound.0 (bound_of _ (sym p.bodies_len.0) p.bound.1)).few

pub slice_bounds-given-end-2 : goal.slice_bounds-given-end-2
slice_bounds-given-end-2 c =
    let p = c.requires in
    sym (length-take-le _ _ (c.find_names-n.ensures p.bound.0 (bound_of _ (sym p.bodies_len.0) p.bound.1)).few)

pub invariant_of-given : goal.invariant_of-given
invariant_of-given c =
    let p = c.requires in
    let f = c.find_names-n.ensures p.bound.0 (bound_of _ (sym p.bodies_len.0) p.bound.1) in
    record { given = provisions_given _ _ _ f.provisions (omega (arith, p.bound.1.count, p.bodies_len.1)) }

pub find_needs-requires : goal.find_needs-requires
find_needs-requires c =
    let p = c.requires in
    let g = c.find_names-n in
    let b = bound_of _ (sym p.bodies_len.0) p.bound.1 in
    let size : length c.args.bodies.now ≡ length g.new.bodies = omega arith in
    record { bodies_len_bound = (omega arith, omega arith); collectable = (p.bound.0, collectable _ refl refl (g.ensures p.bound.0 b) b size p.s_len_bound.0 p.s_len_bound.2) }

pub toposort-requires : goal.toposort-requires
toposort-requires c =
    starts_of _ (omega arith) c.find_needs.ensures.starts

pub returns : goal.returns
unfolding toposort_assign_bindings
returns c =
    let p = c.requires in
    let g = c.find_names-n in
    let size : length c.args.bodies.now ≡ length g.new.bodies = omega arith in
    let o = c.toposort.ensures in
    record {
      placed_in_bounds = o.placed_in_bounds.0;
      sorts_bindings = λ bs b.
          let b' = bound_of _ (sym p.bodies_len.0) b in
          o.sorts_items (items bs) (items_length bs ∙ b.count) (c.find_needs.ensures.finds_needs bs (collectable _ refl refl (g.ensures bs b') b' size p.s_len_bound.0 p.s_len_bound.2));
    }
