-- `crate::desugar::nested` meets its contract. What falls is the number of bindings left. Assumes nothing.
use native.Mathlib.Omega.{arith}
use mathlib.Core.Path.{◌≡◌}
use Prim.Native.Nat.{ℕ, ◌<◌}
use Rattle.std.proofs.lemmas.Result.{err_from_is_err_and}
use Rattle.walk.proofs.DesugarLaws.{body_left, nests_none, here, first_low, nested_no_room, rest_asks, nested_sums, nested_refused, nested_done}
use Rattle.walk.proofs.desugar.+nested.Goals as goal

-- a binding is left
some : {n : ℕ} → (n ≡ 0 → ⊥) → 0 < n
some h = omega arith

pub keep_body-requires : goal.keep_body-requires
keep_body-requires t c = body_left c.if-left-eq0.true c.requires

pub returns-then-left-eq0 : goal.returns-then-left-eq0
returns-then-left-eq0 t c = nests_none c.if-left-eq0.true c.keep_body.ensures

pub overflow_add-head : goal.overflow_add-head
overflow_add-head t c =
    omega (arith, first_low c.skip-n.ensures (some c.if-left-eq0.false) c.requires, c.requires.room, (here c.skip-n.ensures (some c.if-left-eq0.false) c.requires).there.fits, c.well_formed)

pub returns-then-task-head : goal.returns-then-task-head
returns-then-task-head t c =
    nested_no_room c.skip-n.ensures (some c.if-left-eq0.false) (cc) c.if-task-head.true

pub put_let-requires : goal.put_let-requires
put_let-requires t c =
    record {
      head_width_le_n = ((here c.skip-n.ensures (some c.if-left-eq0.false) c.requires).long, first_low c.skip-n.ensures (some c.if-left-eq0.false) c.requires);
      n_in_bounds = omega (arith, c.if-task-head.false, c.requires.room);
    }

pub nested-requires : goal.nested-requires
nested-requires t c =
    (omega (arith, (some c.if-left-eq0.false), c.decreases), rest_asks c.skip-n.ensures (some c.if-left-eq0.false) c.requires c.put_let.ensures c.if-task-head.false)

pub overflow_add-result : goal.overflow_add-result
overflow_add-result t c =
    omega (arith, nested_sums c.skip-n.ensures (some c.if-left-eq0.false) c.requires c.put_let.ensures c.if-task-head.false c.nested.ensures _ _ _ c.in_ok-s.was, c.requires.room, c.well_formed)

pub overflow_add-result-2 : goal.overflow_add-result-2
overflow_add-result-2 t c =
    omega (arith, nested_sums c.skip-n.ensures (some c.if-left-eq0.false) c.requires c.put_let.ensures c.if-task-head.false c.nested.ensures _ _ _ c.in_ok-s.was, c.requires.room, c.well_formed)

pub returns-in_err-s : goal.returns-in_err-s
returns-in_err-s t c =
    let p = err_from_is_err_and c.from_residual.result c.from_residual.ensures.1 in
    rw (p.1, p.2) (nested_refused c.skip-n.ensures (some c.if-left-eq0.false) c.requires c.put_let.ensures c.if-task-head.false c.nested.ensures _ c.in_err-s.was)

pub returns : goal.returns
returns t c =
    nested_done c.skip-n.ensures (some c.if-left-eq0.false) c.requires c.put_let.ensures c.if-task-head.false c.nested.ensures _ _ _ c.in_ok-s.was
