-- `crate::substitute::alone`, `pair` and `rename` meet their contracts. What falls is how deep SC may nest. Assumes nothing.
use native.Mathlib.Omega.{arith}
use mathlib.Core.Path.{subst}
use Rattle.std.proofs.lemmas.Result.{err_from_is_err_and}
use Rattle.names.proofs.Frames.{movable_up}
use Rattle.records.specs.Records.{sexp_bytes}
use Rattle.walk.specs.Plans.{substitution, Plans}
use Rattle.walk.proofs.Pairs.{low, levels, no_room, head_asks, first_refused, first_done, tail_asks, second_refused, second_fits, both_done}
use Rattle.walk.proofs.PlanLaws.{plan_says, renamed_atom, element_deep, alone_asks, alone_refused, alone_done}
use Rattle.walk.proofs.Substitutes.{trees_kept}
use Rattle.walk.proofs.substitute.+cons.Goals as goal

-- `alone`
pub alone-rename-requires : goal.alone-rename-requires
alone-rename-requires t c =
    let rule = substitution c.args.quasi in (
      omega (arith, element_deep rule c.requires.plans c.requires.asks, c.decreases),
      alone_asks rule c.requires.plans c.requires.asks,
    )

pub alone-returns-in_err-s : goal.alone-returns-in_err-s
alone-returns-in_err-s t c =
    let e = err_from_is_err_and c.from_residual.result c.from_residual.ensures.1 in
    rw (e.1, e.2) (alone_refused (substitution c.args.quasi) c.requires.plans c.requires.asks c.rename.ensures _ c.in_err-s.was)

pub alone-returns : goal.alone-returns
alone-returns t c = alone_done (substitution c.args.quasi) c.requires.plans c.requires.asks c.rename.ensures _ _ _ c.in_ok-s.was

-- `pair`
pub pair-returns-then-task-at : goal.pair-returns-then-task-at
pair-returns-then-task-at t c = no_room (substitution c.args.quasi) c.requires.pair_at_start (cc) c.if-task-at.true

pub pair-copy-requires : goal.pair-copy-requires
pair-copy-requires t c =
    let p = c.requires in
    movable_up (low (substitution c.args.quasi) p.pair_at_start p.asks) (omega (arith, p.asks.room, c.if-task-at.false))

pub pair-overflow_sub-depth : goal.pair-overflow_sub-depth
pair-overflow_sub-depth t c = omega (arith, levels (substitution c.args.quasi) c.requires.pair_at_start c.requires.asks)

pub pair-rename-requires : goal.pair-rename-requires
pair-rename-requires t c =
    let p = c.requires in
    let rule = substitution c.args.quasi in
    (omega (arith, c.decreases, levels rule p.pair_at_start p.asks), head_asks rule p.pair_at_start p.asks c.copy.ensures c.if-task-at.false)

pub pair-returns-in_err-h : goal.pair-returns-in_err-h
pair-returns-in_err-h t c =
    let p = c.requires in
    let e = err_from_is_err_and c.from_residual.result c.from_residual.ensures.1 in
    rw (e.1, e.2) (first_refused (substitution c.args.quasi) p.pair_at_start p.asks c.copy.ensures c.if-task-at.false c.rename.ensures _ c.in_err-h.was)

-- the first part is done
pub pair-overflow_add-t : goal.pair-overflow_add-t
pair-overflow_add-t t c =
    let p = c.requires in
    let k = first_done (substitution c.args.quasi) p.pair_at_start p.asks c.copy.ensures c.if-task-at.false c.rename.ensures c.in_ok-h.was in
    omega (arith, k.below, p.asks.room, c.well_formed)

pub pair-overflow_add-q : goal.pair-overflow_add-q
pair-overflow_add-q t c =
    let p = c.requires in
    let k = first_done (substitution c.args.quasi) p.pair_at_start p.asks c.copy.ensures c.if-task-at.false c.rename.ensures c.in_ok-h.was in
    omega (arith, k.short, p.asks.room, c.well_formed)

pub pair-overflow_add-second : goal.pair-overflow_add-second
pair-overflow_add-second t c =
    let p = c.requires in
    let k = first_done (substitution c.args.quasi) p.pair_at_start p.asks c.copy.ensures c.if-task-at.false c.rename.ensures c.in_ok-h.was in
    omega (arith, k.short, p.asks.room, c.well_formed)

pub pair-overflow_sub-second : goal.pair-overflow_sub-second
pair-overflow_sub-second t c =
    let p = c.requires in
    let k = first_done (substitution c.args.quasi) p.pair_at_start p.asks c.copy.ensures c.if-task-at.false c.rename.ensures c.in_ok-h.was in
    omega (arith, k.below)

pub pair-overflow_sub-second-2 : goal.pair-overflow_sub-second-2
pair-overflow_sub-second-2 t c =
    let p = c.requires in
    let k = first_done (substitution c.args.quasi) p.pair_at_start p.asks c.copy.ensures c.if-task-at.false c.rename.ensures c.in_ok-h.was in
    omega (arith, k.short)

pub pair-slice_bounds-rename-count-2 : goal.pair-slice_bounds-rename-count-2
pair-slice_bounds-rename-count-2 t c =
    let p = c.requires in
    let k = first_done (substitution c.args.quasi) p.pair_at_start p.asks c.copy.ensures c.if-task-at.false c.rename.ensures c.in_ok-h.was in
    omega (arith, k.tail.fits)

pub pair-slice_bounds-rename-start-2 : goal.pair-slice_bounds-rename-start-2
pair-slice_bounds-rename-start-2 t c =
    let p = c.requires in
    let k = first_done (substitution c.args.quasi) p.pair_at_start p.asks c.copy.ensures c.if-task-at.false c.rename.ensures c.in_ok-h.was in
    omega (arith, k.tail.fits)

pub pair-rename-requires-2 : goal.pair-rename-requires-2
pair-rename-requires-2 t c =
    let p = c.requires in
    let rule = substitution c.args.quasi in (
      omega (arith, c.decreases, levels rule p.pair_at_start p.asks),
      tail_asks rule p.pair_at_start p.asks c.copy.ensures c.if-task-at.false c.rename.ensures c.in_ok-h.was,
    )

-- and the second
pub pair-returns-in_err-u : goal.pair-returns-in_err-u
pair-returns-in_err-u t c =
    let p = c.requires in
    let e = err_from_is_err_and c.from_residual-in_err-u.result c.from_residual-in_err-u.ensures.1 in
    rw (e.1, e.2) (second_refused (substitution c.args.quasi) p.pair_at_start p.asks c.copy.ensures c.if-task-at.false c.rename.ensures c.in_ok-h.was c.rename-2.ensures _ c.in_err-u.was)

pub pair-overflow_add-result : goal.pair-overflow_add-result
pair-overflow_add-result t c =
    let p = c.requires in
    let k = second_fits (substitution c.args.quasi) p.pair_at_start p.asks c.copy.ensures c.if-task-at.false c.rename.ensures c.in_ok-h.was c.rename-2.ensures c.in_ok-u.was in
    omega (arith, k.0, p.asks.room, c.well_formed)

pub pair-overflow_add-result-2 : goal.pair-overflow_add-result-2
pair-overflow_add-result-2 t c =
    let p = c.requires in
    let k = second_fits (substitution c.args.quasi) p.pair_at_start p.asks c.copy.ensures c.if-task-at.false c.rename.ensures c.in_ok-h.was c.rename-2.ensures c.in_ok-u.was in
    omega (arith, k.1, p.asks.room, c.well_formed)

pub pair-returns : goal.pair-returns
pair-returns t c =
    let p = c.requires in
    both_done (substitution c.args.quasi) p.pair_at_start p.asks c.copy.ensures c.if-task-at.false c.rename.ensures c.in_ok-h.was c.rename-2.ensures c.in_ok-u.was

-- `rename`, by its plan
pub rename-returns-in-Kept : goal.rename-returns-in-Kept
rename-returns-in-Kept t c =
    let rule = substitution c.args.quasi in
    let k = subst (Plans rule c.args.mem.now) c.in-Kept.is c.plan_of.ensures in
    trees_kept sexp_bytes rule c.keep.ensures (λ m a there w. let y = plan_says rule k a w there in (y.0, y.1 m))

pub rename-returns-in-ByMap : goal.rename-returns-in-ByMap
rename-returns-in-ByMap t c =
    let rule = substitution c.args.quasi in
    renamed_atom rule (subst (Plans rule c.args.mem.now) c.in-ByMap.is c.plan_of.ensures) c.rename_atom.ensures
