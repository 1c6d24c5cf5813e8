-- `crate::desugar::desugar_sequential_let_bindings` meets its contract. Assumes nothing.
use native.Mathlib.Omega.{arith}
use Rattle.std.proofs.lemmas.Result.{err_from_is_err_and}
use Rattle.walk.proofs.DesugarLaws.{let_low, let_asks, let_refused, let_done, let_read}
use Rattle.walk.proofs.desugar.desugar_sequential_let_bindings.Goals as goal

pub overflow_sub-free : goal.overflow_sub-free
overflow_sub-free c = omega (arith, let_low c.let_view-v.ensures c.requires)

pub nested-requires : goal.nested-requires
nested-requires c = let_asks c.let_view-v.ensures c.requires

pub overflow_add-result : goal.overflow_add-result
overflow_add-result c = omega (arith, let_read c.let_view-v.ensures c.requires c.nested.ensures _ _ _ c.in_ok-s.was)

pub returns-in_err-s : goal.returns-in_err-s
returns-in_err-s c =
    let p = err_from_is_err_and c.from_residual.result c.from_residual.ensures.1 in
    rw (p.1, p.2) (let_refused c.let_view-v.ensures c.requires c.nested.ensures _ c.in_err-s.was)

pub returns : goal.returns
returns c = let_done c.let_view-v.ensures c.requires c.nested.ensures _ _ _ c.in_ok-s.was
