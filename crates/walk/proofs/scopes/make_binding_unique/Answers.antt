-- `crate::scopes::make_binding_unique` meets its contract. Assumes nothing.
use native.Mathlib.Omega.{arith}
use Rattle.std.proofs.lemmas.Result.{err_from_is_err_and}
use Rattle.walk.proofs.PatternLaws.{pattern_starts, name_ready, complex_here, complex_args, complex_stopped, complex_sums, complex_drawn}
use Rattle.walk.proofs.scopes.make_binding_unique.Goals as goal

pub bounds-mem-0 : goal.bounds-mem-0
bounds-mem-0 c = (pattern_starts c.requires).0

pub new_name-requires : goal.new_name-requires
new_name-requires c = name_ready c.requires c.if-mem-eq0.true

pub returns-then-mem-eq0 : goal.returns-then-mem-eq0
returns-then-mem-eq0 c = c.new_name.ensures c.args.f

pub bounds-mem-free : goal.bounds-mem-free
bounds-mem-free c = (pattern_starts c.requires).1

pub new_args-requires : goal.new_args-requires
new_args-requires c = complex_args c.requires (complex_here c.requires c.if-mem-eq0.false)

pub overflow_add-result : goal.overflow_add-result
overflow_add-result c =
    omega (arith, complex_sums c.requires (complex_here c.requires c.if-mem-eq0.false) c.new_args.ensures _ _ _ _ c.in_ok-d.was, c.well_formed)

pub overflow_add-result-2 : goal.overflow_add-result-2
overflow_add-result-2 c =
    omega (arith, complex_sums c.requires (complex_here c.requires c.if-mem-eq0.false) c.new_args.ensures _ _ _ _ c.in_ok-d.was, c.well_formed)

pub returns-in_err-d : goal.returns-in_err-d
returns-in_err-d c =
    let e = err_from_is_err_and c.from_residual.result c.from_residual.ensures.1 in
    rw (e.1, e.2) (complex_stopped c.requires (complex_here c.requires c.if-mem-eq0.false) c.new_args.ensures _ c.in_err-d.was)

pub returns : goal.returns
returns c = complex_drawn c.requires (complex_here c.requires c.if-mem-eq0.false) c.new_args.ensures _ _ _ _ c.in_ok-d.was
