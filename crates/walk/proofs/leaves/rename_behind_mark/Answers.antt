-- `crate::leaves::rename_behind_mark` meets its contract. Assumes nothing.
use native.Mathlib.Omega.{arith}
use Rattle.std.proofs.lemmas.Result.{err_from_is_err_and}
use Rattle.walk.proofs.LeafLaws.{mark_no_room, behind_asks, behind_sums, behind_refused, behind_done}
use Rattle.walk.proofs.leaves.rename_behind_mark.Goals as goal

pub returns-then-task-lt-MARK_WIDTH : goal.returns-then-task-lt-MARK_WIDTH
returns-then-task-lt-MARK_WIDTH c = mark_no_room (cc) c.if-task-lt-MARK_WIDTH.true

pub rename_atom-requires : goal.rename_atom-requires
rename_atom-requires c = behind_asks c.requires c.copy.ensures c.if-task-lt-MARK_WIDTH.false

pub overflow_add-result : goal.overflow_add-result
overflow_add-result c =
    omega (arith, behind_sums c.requires c.copy.ensures c.if-task-lt-MARK_WIDTH.false c.rename_atom.ensures _ _ _ c.in_ok-s.was)

pub overflow_add-result-2 : goal.overflow_add-result-2
overflow_add-result-2 c =
    omega (arith, behind_sums c.requires c.copy.ensures c.if-task-lt-MARK_WIDTH.false c.rename_atom.ensures _ _ _ c.in_ok-s.was)

pub returns-in_err-s : goal.returns-in_err-s
returns-in_err-s c =
    let p = err_from_is_err_and c.from_residual.result c.from_residual.ensures.1 in
    rw (p.1, p.2) (behind_refused c.requires c.copy.ensures c.if-task-lt-MARK_WIDTH.false c.rename_atom.ensures _ c.in_err-s.was)

pub returns : goal.returns
returns c = behind_done c.requires c.copy.ensures c.if-task-lt-MARK_WIDTH.false c.rename_atom.ensures _ _ _ c.in_ok-s.was
