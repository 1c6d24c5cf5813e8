-- `crate::scopes::new_name` meets its contract. Assumes nothing.
use native.Mathlib.Omega.{arith}
use Rattle.std.proofs.lemmas.Result.{err_from_is_err_and}
use Rattle.walk.proofs.PatternLaws.{name_starts, name_asked, name_stopped, name_places, name_moves, name_made}
use Rattle.walk.proofs.scopes.new_name.Goals as goal

pub number-requires : goal.number-requires
number-requires c = (omega arith, name_starts c.requires)

pub push-requires : goal.push-requires
push-requires c = name_asked c.requires c.number.ensures.value

pub returns-in_err-g : goal.returns-in_err-g
returns-in_err-g c =
    let e = err_from_is_err_and c.from_residual.result c.from_residual.ensures.1 in
    rw (e.1, e.2) (name_stopped c.requires c.number.ensures.value _ _ c.push.ensures.grown c.push.ensures.pushes _ c.in_err-g.was)

pub overflow_sub-made-2 : goal.overflow_sub-made-2
overflow_sub-made-2 c = omega (arith, name_places c.requires c.number.ensures.value _ _ c.push.ensures.grown c.push.ensures.pushes _ c.in_ok-g.was)

pub overflow_sub-at : goal.overflow_sub-at
overflow_sub-at c = omega (arith, name_places c.requires c.number.ensures.value _ _ c.push.ensures.grown c.push.ensures.pushes _ c.in_ok-g.was)

pub bounds-mem-free : goal.bounds-mem-free
bounds-mem-free c = omega (arith, name_places c.requires c.number.ensures.value _ _ c.push.ensures.grown c.push.ensures.pushes _ c.in_ok-g.was)

pub copy-requires : goal.copy-requires
copy-requires c = name_moves c.requires c.number.ensures.value _ _ c.push.ensures.grown c.push.ensures.pushes _ c.in_ok-g.was

pub returns : goal.returns
returns c = name_made c.requires c.number.ensures.value _ _ c.push.ensures.grown c.push.ensures.pushes _ c.in_ok-g.was c.copy.ensures
