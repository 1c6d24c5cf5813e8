-- Own and In-body meet their contracts. What falls is 16 times the levels that are left, and the phase. Assumes nothing.
use native.Mathlib.Omega.{arith}
use mathlib.Core.Path.{ap, sym, ◌∙◌}
use Rattle.records.specs.declared.Kind.TheVariants.{Parallel, Sequential, Assign}
use Rattle.std.specs.declared.result.Result.TheVariants.{Err}
use borrow.Author.Rules.{rules}
use Rattle.records.specs.declared.BodyMark.TheVariants.{Let, Quoted, Call, Mod, Lambda}
use Rattle.records.proofs.Marks.{body_placed, body_other}
use Rattle.walk.proofs.Dispatch.{binder_marked, quoted_marked, call_marked, mod_marked, lambda_marked, kept_marked, value_marked, walks_as, asks_kept, asks_kind, own_keeps, in_keeps, in_renames}
use Rattle.walk.proofs.Results.{ready_as}
use Rattle.walk.proofs.LetKinds.{kind_there, ready_kind, ready_parallel, walks_kind}
use Rattle.walk.proofs.BothLaws as both_laws
use Rattle.walk.proofs.CallLaws as call_laws
use Rattle.walk.proofs.Turns as each_laws
use Rattle.walk.proofs.TailLaws as tail_laws
use Rattle.walk.proofs.LetParallel as parallel_laws
use Rattle.walk.proofs.LetPatterned as bound_laws
use Rattle.walk.proofs.LetMiddle.{loop_starts, loop_ends, turn}
use Rattle.walk.proofs.LetTurns as turn_laws
use Rattle.walk.proofs.BindLaws as bind_laws
use Rattle.walk.proofs.LetInBody as in_let_laws
use Rattle.std.proofs.lemmas.Result.{err_from_is_err_and}
use Rattle.walk.proofs.bodies.+bodies.Goals as goal
use mathlib.Core.Logic.{inr}
use mathlib.Core.Path.{refl, sym}
use lib.Seq.{length-take-le}
use Rattle.names.proofs.Frames.{movable_up}
use Rattle.walk.proofs.AssignLaws as assign_laws
use Rattle.walk.proofs.AssignTurns as assign_all_laws
use Rattle.walk.proofs.BindingLaws as assign_one_laws
use Rattle.walk.proofs.CapturedLaws as rest_laws
use Rattle.walk.proofs.DesugaredRuns as nested_laws
use Rattle.walk.proofs.InLambdaLaws as in_lambda_laws
use Rattle.walk.proofs.LambdaLaws as lambda_laws
use Rattle.walk.proofs.NamedLaws as named_laws
use Rattle.walk.proofs.OrderedLaws as sorted_laws
use Rattle.walk.proofs.RemakeLaws as redo_laws
use Rattle.walk.proofs.SequentialLaws as chain_laws
use Rattle.walk.proofs.TurnedLaws as moved_laws

pub args_bodyform-lets-requires : goal.args_bodyform-lets-requires
args_bodyform-lets-requires t c = (omega (arith, c.decreases), ready_as c.requires (binder_marked (body_placed c.in-Some-Let.field-0-is c.in-Some-Let.ensures) c.requires.tree c.requires.there refl))

pub args_bodyform-call-requires : goal.args_bodyform-call-requires
args_bodyform-call-requires t c = (omega (arith, c.decreases), ready_as c.requires (call_marked (body_placed c.in-Some-Call.field-0-is c.in-Some-Call.ensures) c.requires.tree c.requires.there refl))

pub args_bodyform-lambda-requires : goal.args_bodyform-lambda-requires
args_bodyform-lambda-requires t c = (omega (arith, c.decreases), ready_as c.requires (lambda_marked (body_placed c.in-Some-Lambda.field-0-is c.in-Some-Lambda.ensures) c.requires.tree c.requires.there refl))

pub args_bodyform-keep_body-requires : goal.args_bodyform-keep_body-requires
args_bodyform-keep_body-requires t c = asks_kept c.requires

pub args_bodyform-returns-in-Some-Let : goal.args_bodyform-returns-in-Some-Let
args_bodyform-returns-in-Some-Let t c = walks_as c.requires (binder_marked (body_placed c.in-Some-Let.field-0-is c.in-Some-Let.ensures) c.requires.tree c.requires.there refl) c.lets.ensures

pub args_bodyform-returns-in-Some-Call : goal.args_bodyform-returns-in-Some-Call
args_bodyform-returns-in-Some-Call t c = walks_as c.requires (call_marked (body_placed c.in-Some-Call.field-0-is c.in-Some-Call.ensures) c.requires.tree c.requires.there refl) c.call.ensures

pub args_bodyform-returns-in-Some-Lambda : goal.args_bodyform-returns-in-Some-Lambda
args_bodyform-returns-in-Some-Lambda t c = walks_as c.requires (lambda_marked (body_placed c.in-Some-Lambda.field-0-is c.in-Some-Lambda.ensures) c.requires.tree c.requires.there refl) c.lambda.ensures

pub args_bodyform-returns-in_default : goal.args_bodyform-returns-in_default
args_bodyform-returns-in_default t c =
    let e = c.body_mark.ensures in
    own_keeps c.requires (kept_marked refl c.requires.tree c.requires.there (body_other Let e (search rules)) (body_other Call e (search rules)) (body_other Lambda e (search rules))) c.keep_body.ensures

pub assign-slice_bounds-toposort_assign_bindings-end : goal.assign-slice_bounds-toposort_assign_bindings-end
assign-slice_bounds-toposort_assign_bindings-end t c = assign_laws.cut_fits c.requires

pub assign-slice_bounds-toposort_assign_bindings-end-2 : goal.assign-slice_bounds-toposort_assign_bindings-end-2
assign-slice_bounds-toposort_assign_bindings-end-2 t c = sym (assign_laws.cut_size c.requires)

pub assign-toposort_assign_bindings-o-requires : goal.assign-toposort_assign_bindings-o-requires
assign-toposort_assign_bindings-o-requires t c = let a = assign_laws.order_asks c.requires in record { s_len_bound = a.0; some_let = a.1 }

pub assign-number-loc-requires : goal.assign-number-loc-requires
assign-number-loc-requires t c = (omega arith, omega (arith, assign_laws.loc_fits c.requires))

pub assign-returns-then-o : goal.assign-returns-then-o
assign-returns-then-o t c = assign_laws.deadlock_refused c.requires c.toposort_assign_bindings-o.ensures c.if-o.true c.number-loc.ensures.value c.place_at.ensures c.refusing.ensures

pub assign-sorted-requires : goal.assign-sorted-requires
assign-sorted-requires t c = (omega (arith, c.decreases), assign_laws.order_known c.requires c.toposort_assign_bindings-o.ensures (omega (arith, c.if-o.false)))

pub assign_all-loop-index-init : goal.assign_all-loop-index-init
assign_all-loop-index-init t c = assign_all_laws.loop_starts

pub assign_all-overflow_sub-n : goal.assign_all-overflow_sub-n
assign_all-overflow_sub-n t c = rw c.from-i.ensures (
    let p = c.requires in omega (arith, assign_all_laws.end_is p (c.loop-index.invariant p) (omega arith)))

pub assign_all-slice_bounds-assign_one-count : goal.assign_all-slice_bounds-assign_one-count
assign_all-slice_bounds-assign_one-count t c = rw c.from-i.ensures (
    let p = c.requires in
    let l = c.loop-index.invariant p in
    omega (arith, assign_all_laws.next_below p l (omega arith), assign_all_laws.next_room p l (omega arith)))

pub assign_all-slice_bounds-assign_one-start : goal.assign_all-slice_bounds-assign_one-start
assign_all-slice_bounds-assign_one-start t c = rw c.from-i.ensures (
    let p = c.requires in
    let l = c.loop-index.invariant p in
    omega (arith, assign_all_laws.next_below p l (omega arith), assign_all_laws.next_room p l (omega arith)))

pub assign_all-overflow_sub-next : goal.assign_all-overflow_sub-next
assign_all-overflow_sub-next t c = rw c.from-i.ensures (
    let p = c.requires in omega (arith, assign_all_laws.next_below p (c.loop-index.invariant p) (omega arith)))

pub assign_all-assign_one-requires : goal.assign_all-assign_one-requires
assign_all-assign_one-requires t c = rw c.from-i.ensures (
    let p = c.requires in (omega (arith, c.decreases), assign_all_laws.next_ready p (c.loop-index.invariant p) (omega arith)))

pub assign_all-returns-in_err-one : goal.assign_all-returns-in_err-one
assign_all-returns-in_err-one t c = rw c.from-i.ensures (
    let p = c.requires in
    let e = err_from_is_err_and c.from_residual.result c.from_residual.ensures.1 in
    rw (e.1, e.2) (assign_all_laws.turn_refused p (c.loop-index.invariant p) (omega arith) (rw c.from-i.ensures at c.assign_one.ensures) _ c.in_err-one.was))

pub assign_all-overflow_sub-top : goal.assign_all-overflow_sub-top
assign_all-overflow_sub-top t c = let p = c.requires in omega (arith, assign_all_laws.top_room p (c.loop-index.invariant p) (omega arith) (rw c.from-i.ensures at c.assign_one.ensures) c.in_ok-one.was)

pub assign_all-copy-requires : goal.assign_all-copy-requires
assign_all-copy-requires t c = rw c.from-i.ensures (
    let p = c.requires in
    let l = c.loop-index.invariant p in
    let n = assign_all_laws.move_fits p l (omega arith) (rw c.from-i.ensures at c.assign_one.ensures) c.in_ok-one.was in
    let o = assign_all_laws.top_low p l in
    record { source = omega (arith, n); target = omega (arith, n, o); safe = inr (omega (arith, o)) })

pub assign_all-loop-index-preserved : goal.assign_all-loop-index-preserved
assign_all-loop-index-preserved t c = λ p. assign_all_laws.turn_done p (c.loop-index.invariant p) (omega arith) (rw c.from-i.ensures at c.assign_one.ensures) c.in_ok-one.was (rw c.from-i.ensures at c.copy.ensures)

pub assign_all-overflow_sub-result : goal.assign_all-overflow_sub-result
assign_all-overflow_sub-result t c = let p = c.requires in omega (arith, assign_all_laws.top_low p (c.loop-index.invariant p))

pub assign_all-returns : goal.assign_all-returns
assign_all-returns t c = let p = c.requires in assign_all_laws.loop_ends p (c.loop-index.invariant p) (omega arith)

pub assign_one-bounds-mem-10 : goal.assign_one-bounds-mem-10
assign_one-bounds-mem-10 t c = let h = assign_one_laws.head_fits c.requires in omega (arith, h)

pub assign_one-copy-requires : goal.assign_one-copy-requires
assign_one-copy-requires t c = let h = assign_one_laws.head_fits c.requires in movable_up (omega (arith, h.1)) (omega (arith, h.2, h.3))

pub assign_one-returns-then-mem-eq0 : goal.assign_one-returns-then-mem-eq0
assign_one-returns-then-mem-eq0 t c = assign_one_laws.name_made c.requires c.if-mem-eq0.true c.copy.ensures

pub assign_one-copy-requires-2 : goal.assign_one-copy-requires-2
assign_one-copy-requires-2 t c = let h = assign_one_laws.head_fits c.requires in movable_up (omega (arith, h.0, h.1)) (omega (arith, h.0, h.2, h.3))

pub assign_one-complex-requires : goal.assign_one-complex-requires
assign_one-complex-requires t c = (omega (arith, c.decreases), assign_one_laws.complex_ready c.requires c.if-mem-eq0.false c.copy-2.ensures)

pub assign_one-returns-in_err-m : goal.assign_one-returns-in_err-m
assign_one-returns-in_err-m t c =
    let e = err_from_is_err_and c.from_residual.result c.from_residual.ensures.1 in
    rw (e.1, e.2) (assign_one_laws.binding_refused c.requires c.if-mem-eq0.false c.copy-2.ensures c.complex.ensures _ c.in_err-m.was)

pub assign_one-overflow_add-result : goal.assign_one-overflow_add-result
assign_one-overflow_add-result t c = let p = c.requires in omega (arith, p.ready.longest, assign_one_laws.binding_short p c.if-mem-eq0.false c.copy-2.ensures c.complex.ensures c.in_ok-m.was)

pub assign_one-returns : goal.assign_one-returns
assign_one-returns t c = assign_one_laws.binding_done c.requires c.if-mem-eq0.false c.copy-2.ensures c.complex.ensures c.in_ok-m.was

pub bind-returns-then-owning : goal.bind-returns-then-owning
bind-returns-then-owning t c = λ p. bind_laws.own_bound p c.if-owning.true c.args_bodyform.ensures

pub bind-returns : goal.bind-returns
bind-returns t c = λ p. bind_laws.in_bound p c.if-owning.false c.in_bodyform.ensures

pub binds-loop-init : goal.binds-loop-init
binds-loop-init t c = λ p. loop_starts p

pub binds-overflow_add-at : goal.binds-overflow_add-at
binds-overflow_add-at t c =
    let u = turn c.requires (c.loop.invariant c.requires) c.loop-test.true in
    omega (arith, (turn_laws.pattern_at u).fits, u.mid.frame.size, c.well_formed)

pub binds-past_pattern-body-requires : goal.binds-past_pattern-body-requires
binds-past_pattern-body-requires t c =
    let u = turn c.requires (c.loop.invariant c.requires) c.loop-test.true in
    omega (arith, (turn_laws.pattern_at u).fits)

pub binds-put_head-n-requires : goal.binds-put_head-n-requires
binds-put_head-n-requires t c = turn_laws.head_ready (turn c.requires (c.loop.invariant c.requires) c.loop-test.true) c.past_pattern-body.ensures

pub binds-overflow_add-to : goal.binds-overflow_add-to
binds-overflow_add-to t c =
    let u = turn c.requires (c.loop.invariant c.requires) c.loop-test.true in
    omega (arith, turn_laws.wide u, turn_laws.ends u, (turn_laws.w u c.past_pattern-body.ensures c.put_head-n.ensures).size, u.mid.frame.size, c.well_formed)

pub binds-overflow_sub-pattern : goal.binds-overflow_sub-pattern
binds-overflow_sub-pattern t c =
    let u = turn c.requires (c.loop.invariant c.requires) c.loop-test.true in
    omega (arith, turn_laws.head_wrote u c.past_pattern-body.ensures c.put_head-n.ensures)

pub binds-overflow_add-pattern : goal.binds-overflow_add-pattern
binds-overflow_add-pattern t c =
    let u = turn c.requires (c.loop.invariant c.requires) c.loop-test.true in
    omega (arith, turn_laws.patterns_fit u c.past_pattern-body.ensures c.put_head-n.ensures, u.mid.frame.size, c.well_formed)

pub binds-overflow_sub-free : goal.binds-overflow_sub-free
binds-overflow_sub-free t c =
    let u = turn c.requires (c.loop.invariant c.requires) c.loop-test.true in
    omega (arith, turn_laws.place u c.past_pattern-body.ensures c.put_head-n.ensures)

pub binds-bind-requires : goal.binds-bind-requires
binds-bind-requires t c =
    let u = turn c.requires (c.loop.invariant c.requires) c.loop-test.true in
    (omega (arith, c.decreases), turn_laws.bind_ready u c.past_pattern-body.ensures c.put_head-n.ensures)

pub binds-returns-in_err-s : goal.binds-returns-in_err-s
binds-returns-in_err-s t c =
    λ p.
    let u = turn p (c.loop.invariant p) c.loop-test.true in
    let e = err_from_is_err_and c.from_residual.result c.from_residual.ensures.1 in
    rw (e.1, e.2) (turn_laws.turn_refused u c.past_pattern-body.ensures c.put_head-n.ensures c.bind.ensures _ c.in_err-s.was)

pub binds-overflow_add-sum : goal.binds-overflow_add-sum
binds-overflow_add-sum t c =
    let u = turn c.requires (c.loop.invariant c.requires) c.loop-test.true in
    omega (arith, turn_laws.turn_short u c.past_pattern-body.ensures c.put_head-n.ensures c.bind.ensures _ _ _ c.in_ok-s.was, u.mid.within, c.requires.longest)

pub binds-returns-then-t-sum : goal.binds-returns-then-t-sum
binds-returns-then-t-sum t c = λ p.
    let u = turn p (c.loop.invariant p) c.loop-test.true in
    turn_laws.turn_over u c.past_pattern-body.ensures c.put_head-n.ensures c.bind.ensures _ _ _ c.in_ok-s.was _ c.over_long.ensures c.if-t-sum.true

pub binds-overflow_add-at-in-loop : goal.binds-overflow_add-at-in-loop
binds-overflow_add-at-in-loop t c =
    let u = turn c.requires (c.loop.invariant c.requires) c.loop-test.true in
    omega (
      arith,
      turn_laws.turn_read u c.past_pattern-body.ensures c.put_head-n.ensures c.bind.ensures _ _ _ c.in_ok-s.was,
      turn_laws.low u,
      turn_laws.low_to u,
      turn_laws.wide u,
      turn_laws.ends u,
      u.mid.frame.size,
      c.well_formed,
    )

pub binds-overflow_add-to-in-loop : goal.binds-overflow_add-to-in-loop
binds-overflow_add-to-in-loop t c =
    let u = turn c.requires (c.loop.invariant c.requires) c.loop-test.true in
    omega (arith, turn_laws.turn_wrote u c.past_pattern-body.ensures c.put_head-n.ensures c.bind.ensures _ _ _ c.in_ok-s.was, u.mid.frame.size, c.well_formed)

pub binds-loop-preserved : goal.binds-loop-preserved
binds-loop-preserved t c = λ p.
    let u = turn p (c.loop.invariant p) c.loop-test.true in
    turn_laws.turn_done u c.past_pattern-body.ensures c.put_head-n.ensures c.bind.ensures _ _ _ c.in_ok-s.was (omega (arith, c.if-t-sum.false))

pub binds-overflow_sub-result : goal.binds-overflow_sub-result
binds-overflow_sub-result t c = omega (arith, (c.loop.invariant c.requires).mid.writes)

pub binds-returns : goal.binds-returns
binds-returns t c = λ p. loop_ends p (c.loop.invariant p) (omega (arith, c.loop-test.false))

pub both-args_bodyform-requires : goal.both-args_bodyform-requires
both-args_bodyform-requires t c = (omega (arith, c.decreases), both_laws.own_ready c.requires)

pub both-returns-in_err-own : goal.both-returns-in_err-own
both-returns-in_err-own t c =
    let e = err_from_is_err_and c.from_residual.result c.from_residual.ensures.1 in
    rw (e.1, e.2) (both_laws.own_refused c.requires c.args_bodyform.ensures _ c.in_err-own.was)

pub both-overflow_add-sum : goal.both-overflow_add-sum
both-overflow_add-sum t c = omega (arith, both_laws.own_short c.requires c.args_bodyform.ensures _ _ _ c.in_ok-own.was, c.requires.held, c.requires.ready.longest)

pub both-returns-then-t-sum : goal.both-returns-then-t-sum
both-returns-then-t-sum t c = both_laws.own_too_long c.requires c.args_bodyform.ensures _ _ _ c.in_ok-own.was _ c.over_long.ensures c.if-t-sum.true

pub both-over-requires : goal.both-over-requires
both-over-requires t c = (omega (arith, c.decreases), both_laws.then_ready c.requires c.args_bodyform.ensures _ _ _ c.in_ok-own.was (omega (arith, c.if-t-sum.false)))

pub both-returns : goal.both-returns
both-returns t c = both_laws.both_over c.requires c.args_bodyform.ensures _ _ _ c.in_ok-own.was (omega (arith, c.if-t-sum.false)) c.over.ensures

pub bound-overflow_sub-depth : goal.bound-overflow_sub-depth
bound-overflow_sub-depth t c = bound_laws.deep c.requires

pub bound-binds-requires : goal.bound-binds-requires
bound-binds-requires t c = (omega (arith, c.decreases, bound_laws.deep c.requires), bound_laws.all_ready c.requires c.copy.ensures)

pub bound-returns-in_err-all : goal.bound-returns-in_err-all
bound-returns-in_err-all t c =
    λ p.
    let e = err_from_is_err_and c.from_residual.result c.from_residual.ensures.1 in
    rw (e.1, e.2) (bound_laws.bindings_refused p c.copy.ensures c.binds.ensures _ c.in_err-all.was)

pub bound-overflow_add-q : goal.bound-overflow_add-q
bound-overflow_add-q t c = omega (arith, bound_laws.reads c.requires c.copy.ensures c.binds.ensures _ _ _ _ c.in_ok-all.was, c.well_formed)

pub bound-overflow_add-w : goal.bound-overflow_add-w
bound-overflow_add-w t c = omega (arith, bound_laws.written c.requires c.copy.ensures c.binds.ensures _ _ _ _ c.in_ok-all.was, c.well_formed)

pub bound-overflow_add-behind : goal.bound-overflow_add-behind
bound-overflow_add-behind t c = omega (arith, bound_laws.written c.requires c.copy.ensures c.binds.ensures _ _ _ _ c.in_ok-all.was, c.well_formed)

pub bound-overflow_sub-behind : goal.bound-overflow_sub-behind
bound-overflow_sub-behind t c = omega (arith, bound_laws.past c.requires c.copy.ensures c.binds.ensures _ _ _ _ c.in_ok-all.was)

pub bound-slice_bounds-both-count : goal.bound-slice_bounds-both-count
bound-slice_bounds-both-count t c = omega (arith, bound_laws.reads c.requires c.copy.ensures c.binds.ensures _ _ _ _ c.in_ok-all.was)

pub bound-slice_bounds-both-start : goal.bound-slice_bounds-both-start
bound-slice_bounds-both-start t c = omega (arith, bound_laws.reads c.requires c.copy.ensures c.binds.ensures _ _ _ _ c.in_ok-all.was)

pub bound-both-requires : goal.bound-both-requires
bound-both-requires t c =
    (omega (arith, c.decreases, bound_laws.deep c.requires), bound_laws.both_ready c.requires c.copy.ensures c.binds.ensures _ _ _ _ c.in_ok-all.was)

pub bound-returns-in_err-body : goal.bound-returns-in_err-body
bound-returns-in_err-body t c =
    λ p.
    let e = err_from_is_err_and c.from_residual-in_err-body.result c.from_residual-in_err-body.ensures.1 in
    rw (e.1, e.2) (bound_laws.body_refused p c.copy.ensures c.binds.ensures _ _ _ _ c.in_ok-all.was c.both.ensures _ c.in_err-body.was)

pub bound-overflow_add-q-2 : goal.bound-overflow_add-q-2
bound-overflow_add-q-2 t c =
    let p = c.requires in
    omega (arith, (bound_laws.body_sizes p c.copy.ensures c.binds.ensures _ _ _ _ c.in_ok-all.was c.both.ensures _ _ _ _ c.in_ok-body.was).0, p.room, bound_laws.aside_end p, c.well_formed)

pub bound-overflow_add-w-2 : goal.bound-overflow_add-w-2
bound-overflow_add-w-2 t c =
    omega (arith, (bound_laws.body_sizes c.requires c.copy.ensures c.binds.ensures _ _ _ _ c.in_ok-all.was c.both.ensures _ _ _ _ c.in_ok-body.was).1, c.well_formed)

pub bound-returns : goal.bound-returns
bound-returns t c =
    λ p. bound_laws.let_finished p c.copy.ensures c.binds.ensures _ _ _ _ c.in_ok-all.was c.both.ensures _ _ _ _ c.in_ok-body.was c.finished.ensures

pub call-copy-requires : goal.call-copy-requires
call-copy-requires t c = call_laws.head_moves c.call_view-v.ensures c.requires

pub call-overflow_sub-below : goal.call-overflow_sub-below
call-overflow_sub-below t c = call_laws.levels c.call_view-v.ensures c.requires

pub call-each-requires : goal.call-each-requires
call-each-requires t c = (omega (arith, c.decreases, call_laws.levels c.call_view-v.ensures c.requires), call_laws.elements_ready c.call_view-v.ensures c.requires c.copy.ensures)

pub call-returns-in_err-all : goal.call-returns-in_err-all
call-returns-in_err-all t c =
    let e = err_from_is_err_and c.from_residual.result c.from_residual.ensures.1 in
    rw (e.1, e.2) (call_laws.elements_refused c.call_view-v.ensures c.requires c.copy.ensures c.each.ensures _ c.in_err-all.was)

pub call-overflow_add-q : goal.call-overflow_add-q
call-overflow_add-q t c =
    omega (arith, call_laws.tail_starts c.call_view-v.ensures c.requires c.copy.ensures c.each.ensures _ _ _ _ c.in_ok-all.was, c.well_formed, c.requires.room)

pub call-overflow_add-w : goal.call-overflow_add-w
call-overflow_add-w t c =
    omega (arith, call_laws.call_short c.call_view-v.ensures c.requires c.copy.ensures c.each.ensures _ _ _ _ c.in_ok-all.was, c.requires.longest)

pub call-overflow_add-behind : goal.call-overflow_add-behind
call-overflow_add-behind t c =
    omega (arith, call_laws.some_wide c.call_view-v.ensures c.requires c.copy.ensures c.each.ensures _ _ _ _ c.in_ok-all.was, c.well_formed)

pub call-overflow_sub-behind : goal.call-overflow_sub-behind
call-overflow_sub-behind t c =
    omega (arith, call_laws.tail_starts c.call_view-v.ensures c.requires c.copy.ensures c.each.ensures _ _ _ _ c.in_ok-all.was)

pub call-slice_bounds-tail-count : goal.call-slice_bounds-tail-count
call-slice_bounds-tail-count t c =
    let x = c.call_view-v.ensures in
    let f = c.copy.ensures in
    let g = c.each.ensures in
    let e = c.in_ok-all.was in
    omega (arith, call_laws.tail_starts x c.requires f g _ _ _ _ e, call_laws.some_wide x c.requires f g _ _ _ _ e, (call_laws.middle_frame x c.requires f g).size)

pub call-slice_bounds-tail-start : goal.call-slice_bounds-tail-start
call-slice_bounds-tail-start t c =
    let x = c.call_view-v.ensures in
    let f = c.copy.ensures in
    let g = c.each.ensures in
    let e = c.in_ok-all.was in
    omega (arith, call_laws.tail_starts x c.requires f g _ _ _ _ e, call_laws.some_wide x c.requires f g _ _ _ _ e, (call_laws.middle_frame x c.requires f g).size)

pub call-tail-requires : goal.call-tail-requires
call-tail-requires t c =
    let x = c.call_view-v.ensures in
    (omega (arith, c.decreases, call_laws.levels x c.requires), call_laws.tail_ready x c.requires c.copy.ensures c.each.ensures _ _ _ _ c.in_ok-all.was)

pub call-returns-in_err-last : goal.call-returns-in_err-last
call-returns-in_err-last t c =
    let e = err_from_is_err_and c.from_residual-in_err-last.result c.from_residual-in_err-last.ensures.1 in
    rw (e.1, e.2) (call_laws.tail_refused c.call_view-v.ensures c.requires c.copy.ensures c.each.ensures _ _ _ _ c.in_ok-all.was c.tail.ensures _ c.in_err-last.was)

pub call-overflow_add-q-2 : goal.call-overflow_add-q-2
call-overflow_add-q-2 t c =
    omega (arith, call_laws.call_sums c.call_view-v.ensures c.requires c.copy.ensures c.each.ensures _ _ _ _ c.in_ok-all.was c.tail.ensures _ _ _ _ c.in_ok-last.was, c.requires.longest)

pub call-overflow_add-w-2 : goal.call-overflow_add-w-2
call-overflow_add-w-2 t c =
    let x = c.call_view-v.ensures in
    omega (
      arith,
      call_laws.call_short x c.requires c.copy.ensures c.each.ensures _ _ _ _ c.in_ok-all.was,
      call_laws.call_sums x c.requires c.copy.ensures c.each.ensures _ _ _ _ c.in_ok-all.was c.tail.ensures _ _ _ _ c.in_ok-last.was,
      c.requires.longest,
    )

pub call-returns : goal.call-returns
call-returns t c =
    call_laws.call_finished c.call_view-v.ensures c.requires c.copy.ensures c.each.ensures _ _ _ _ c.in_ok-all.was c.tail.ensures _ _ _ _ c.in_ok-last.was c.finished.ensures

pub chain-desugar_sequential_let_bindings-requires : goal.chain-desugar_sequential_let_bindings-requires
chain-desugar_sequential_let_bindings-requires t c = chain_laws.sequential_asks c.requires

pub chain-returns-in_err-lets : goal.chain-returns-in_err-lets
chain-returns-in_err-lets t c =
    let e = err_from_is_err_and c.from_residual.result c.from_residual.ensures.1 in
    rw (e.1, e.2) (chain_laws.sequential_long c.requires c.desugar_sequential_let_bindings.ensures _ c.in_err-lets.was)

pub chain-nested-requires : goal.chain-nested-requires
chain-nested-requires t c =
    let p = c.requires in
    (omega (arith, c.decreases), chain_laws.nested_ready p c.desugar_sequential_let_bindings.ensures _ _ _ c.in_ok-lets.was (chain_laws.seen_count p.tree p.good p.there c.let_view-v.ensures))

pub chain-returns-in_err-s : goal.chain-returns-in_err-s
chain-returns-in_err-s t c =
    let p = c.requires in
    let n = chain_laws.seen_count p.tree p.good p.there c.let_view-v.ensures in
    let e = err_from_is_err_and c.from_residual-in_err-s.result c.from_residual-in_err-s.ensures.1 in
    rw (e.1, e.2) (chain_laws.sequential_refused p c.desugar_sequential_let_bindings.ensures _ _ _ c.in_ok-lets.was n c.nested.ensures _ c.in_err-s.was)

pub chain-copy-requires : goal.chain-copy-requires
chain-copy-requires t c =
    let p = c.requires in
    let n = chain_laws.seen_count p.tree p.good p.there c.let_view-v.ensures in
    chain_laws.sequential_moves p c.desugar_sequential_let_bindings.ensures _ _ _ c.in_ok-lets.was n c.nested.ensures _ _ _ c.in_ok-s.was

pub chain-returns : goal.chain-returns
chain-returns t c =
    let p = c.requires in
    let n = chain_laws.seen_count p.tree p.good p.there c.let_view-v.ensures in
    chain_laws.sequential_done p c.desugar_sequential_let_bindings.ensures _ _ _ c.in_ok-lets.was n c.nested.ensures _ _ _ c.in_ok-s.was c.copy.ensures

pub complex-invent_new_names_sexp-requires : goal.complex-invent_new_names_sexp-requires
complex-invent_new_names_sexp-requires t c = named_laws.drawable c.requires

pub complex-returns-in_err-g : goal.complex-returns-in_err-g
complex-returns-in_err-g t c =
    let e = err_from_is_err_and c.from_residual.result c.from_residual.ensures.1 in
    rw (e.1, e.2) (named_laws.invent_refused c.requires c.invent_new_names_sexp.ensures _ c.in_err-g.was)

pub complex-named-requires : goal.complex-named-requires
complex-named-requires t c = (omega (arith, c.decreases), named_laws.named_ready c.requires c.invent_new_names_sexp.ensures c.in_ok-g.was)

pub complex-returns : goal.complex-returns
complex-returns t c = named_laws.complex_done c.requires c.invent_new_names_sexp.ensures c.in_ok-g.was c.named.ensures

pub each-loop-i-init : goal.each-loop-i-init
each-loop-i-init t c = each_laws.loop_starts c.requires

pub each-either-requires : goal.each-either-requires
each-either-requires t c = (omega (arith, c.decreases), each_laws.turn_ready c.loop-i.invariant c.loop-i-test.true)

pub each-returns-in_err-s : goal.each-returns-in_err-s
each-returns-in_err-s t c =
    let e = err_from_is_err_and c.from_residual.result c.from_residual.ensures.1 in
    rw (e.1, e.2) (each_laws.turn_refused c.loop-i.invariant c.loop-i-test.true c.either.ensures _ c.in_err-s.was)

pub each-overflow_add-sum : goal.each-overflow_add-sum
each-overflow_add-sum t c =
    let x = c.loop-i.invariant in
    omega (arith, each_laws.turn_short x c.loop-i-test.true c.either.ensures _ _ _ c.in_ok-s.was, x.held, x.asked.longest)

pub each-returns-then-t-sum : goal.each-returns-then-t-sum
each-returns-then-t-sum t c = each_laws.turn_too_long c.loop-i.invariant c.loop-i-test.true c.either.ensures _ _ _ c.in_ok-s.was _ c.over_long.ensures c.if-t-sum.true

pub each-put_back-sum-requires : goal.each-put_back-sum-requires
each-put_back-sum-requires t c = each_laws.turn_back c.loop-i.invariant c.loop-i-test.true c.either.ensures _ _ _ c.in_ok-s.was _

pub each-overflow_add-at : goal.each-overflow_add-at
each-overflow_add-at t c = omega (arith, each_laws.turn_read c.loop-i.invariant c.loop-i-test.true c.either.ensures _ _ _ c.in_ok-s.was, c.well_formed)

pub each-loop-i-preserved : goal.each-loop-i-preserved
each-loop-i-preserved t c =
    each_laws.turn_on c.loop-i.invariant c.loop-i-test.true c.either.ensures _ _ _ c.in_ok-s.was (omega (arith, c.if-t-sum.false)) c.goes_back.ensures c.put_back-sum.ensures

pub each-returns : goal.each-returns
each-returns t c = each_laws.loop_ends c.loop-i.invariant c.loop-i-test.false

pub in_bodyform-in_let-requires : goal.in_bodyform-in_let-requires
in_bodyform-in_let-requires t c = (omega (arith, c.decreases), ready_as c.requires (binder_marked (body_placed c.in-Some-Let.field-0-is c.in-Some-Let.ensures) c.requires.tree c.requires.there refl))

pub in_bodyform-rename_quoted-requires : goal.in_bodyform-rename_quoted-requires
in_bodyform-rename_quoted-requires t c = asks_kind c.requires (quoted_marked (body_placed c.in-Some-Quoted.field-0-is c.in-Some-Quoted.ensures) c.requires.tree c.requires.there refl)

pub in_bodyform-call-requires : goal.in_bodyform-call-requires
in_bodyform-call-requires t c = (omega (arith, c.decreases), ready_as c.requires (call_marked (body_placed c.in-Some-Call.field-0-is c.in-Some-Call.ensures) c.requires.tree c.requires.there refl))

pub in_bodyform-keep_body-requires : goal.in_bodyform-keep_body-requires
in_bodyform-keep_body-requires t c = asks_kept c.requires

pub in_bodyform-in_lambda-requires : goal.in_bodyform-in_lambda-requires
in_bodyform-in_lambda-requires t c = (omega (arith, c.decreases), ready_as c.requires (lambda_marked (body_placed c.in-Some-Lambda.field-0-is c.in-Some-Lambda.ensures) c.requires.tree c.requires.there refl))

pub in_bodyform-rename_value-requires : goal.in_bodyform-rename_value-requires
in_bodyform-rename_value-requires t c =
    let e = c.body_mark.ensures in
    asks_kind c.requires (value_marked refl c.requires.tree c.requires.there (body_other Let e (search rules)) (body_other Quoted e (search rules)) (body_other Call e (search rules)) (body_other Mod e (search rules)) (body_other Lambda e (search rules)))

pub in_bodyform-returns-in-Some-Let : goal.in_bodyform-returns-in-Some-Let
in_bodyform-returns-in-Some-Let t c = walks_as c.requires (binder_marked (body_placed c.in-Some-Let.field-0-is c.in-Some-Let.ensures) c.requires.tree c.requires.there refl) c.in_let.ensures

pub in_bodyform-returns-in-Some-Quoted : goal.in_bodyform-returns-in-Some-Quoted
in_bodyform-returns-in-Some-Quoted t c = in_renames c.requires (quoted_marked (body_placed c.in-Some-Quoted.field-0-is c.in-Some-Quoted.ensures) c.requires.tree c.requires.there refl) c.rename_quoted.ensures

pub in_bodyform-returns-in-Some-Call : goal.in_bodyform-returns-in-Some-Call
in_bodyform-returns-in-Some-Call t c = walks_as c.requires (call_marked (body_placed c.in-Some-Call.field-0-is c.in-Some-Call.ensures) c.requires.tree c.requires.there refl) c.call.ensures

pub in_bodyform-returns-in-Some-Mod : goal.in_bodyform-returns-in-Some-Mod
in_bodyform-returns-in-Some-Mod t c = in_keeps c.requires (mod_marked (body_placed c.in-Some-Mod.field-0-is c.in-Some-Mod.ensures) c.requires.tree c.requires.there refl) c.keep_body.ensures

pub in_bodyform-returns-in-Some-Lambda : goal.in_bodyform-returns-in-Some-Lambda
in_bodyform-returns-in-Some-Lambda t c = walks_as c.requires (lambda_marked (body_placed c.in-Some-Lambda.field-0-is c.in-Some-Lambda.ensures) c.requires.tree c.requires.there refl) c.in_lambda.ensures

pub in_bodyform-returns-in_default : goal.in_bodyform-returns-in_default
in_bodyform-returns-in_default t c =
    let e = c.body_mark.ensures in
    in_renames c.requires (value_marked refl c.requires.tree c.requires.there (body_other Let e (search rules)) (body_other Quoted e (search rules)) (body_other Call e (search rules)) (body_other Mod e (search rules)) (body_other Lambda e (search rules))) c.rename_value.ensures

pub in_lambda-copy-requires : goal.in_lambda-copy-requires
in_lambda-copy-requires t c = in_lambda_laws.head_moves c.requires c.lambda_view-v.ensures

pub in_lambda-slice_bounds-in_bodyform-count : goal.in_lambda-slice_bounds-in_bodyform-count
in_lambda-slice_bounds-in_bodyform-count t c = let z = in_lambda_laws.widths c.requires c.lambda_view-v.ensures in omega (arith, c.copy.ensures.frame.size)

pub in_lambda-slice_bounds-in_bodyform-start : goal.in_lambda-slice_bounds-in_bodyform-start
in_lambda-slice_bounds-in_bodyform-start t c = let z = in_lambda_laws.widths c.requires c.lambda_view-v.ensures in omega (arith, c.copy.ensures.frame.size)

pub in_lambda-overflow_sub-behind : goal.in_lambda-overflow_sub-behind
in_lambda-overflow_sub-behind t c = let z = in_lambda_laws.widths c.requires c.lambda_view-v.ensures in omega arith

pub in_lambda-overflow_sub-behind-2 : goal.in_lambda-overflow_sub-behind-2
in_lambda-overflow_sub-behind-2 t c = let z = in_lambda_laws.widths c.requires c.lambda_view-v.ensures in omega arith

pub in_lambda-in_bodyform-requires : goal.in_lambda-in_bodyform-requires
in_lambda-in_bodyform-requires t c =
    let z = in_lambda_laws.widths c.requires c.lambda_view-v.ensures in
    (omega (arith, c.decreases), in_lambda_laws.captures_ready c.requires c.lambda_view-v.ensures c.copy.ensures)

pub in_lambda-returns-in_err-made : goal.in_lambda-returns-in_err-made
in_lambda-returns-in_err-made t c =
    let e = err_from_is_err_and c.from_residual.result c.from_residual.ensures.1 in
    rw (e.1, e.2) (in_lambda_laws.lambda_refused c.requires c.lambda_view-v.ensures c.copy.ensures c.in_bodyform.ensures _ c.in_err-made.was)

pub in_lambda-rest-requires : goal.in_lambda-rest-requires
in_lambda-rest-requires t c = (omega (arith, c.decreases), in_lambda_laws.captured_ready c.requires c.lambda_view-v.ensures c.copy.ensures c.in_bodyform.ensures _ _ _ c.in_ok-made.was)

pub in_lambda-returns : goal.in_lambda-returns
in_lambda-returns t c = in_lambda_laws.lambda_answers c.requires c.lambda_view-v.ensures c.copy.ensures c.in_bodyform.ensures _ _ _ c.in_ok-made.was c.rest.ensures

pub in_let-copy-requires : goal.in_let-copy-requires
in_let-copy-requires t c = in_let_laws.copy_moves c.let_view-v.ensures c.requires

pub in_let-overflow_sub-below : goal.in_let-overflow_sub-below
in_let-overflow_sub-below t c = in_let_laws.deep c.let_view-v.ensures c.requires

pub in_let-binds-requires : goal.in_let-binds-requires
in_let-binds-requires t c =
    let x = c.let_view-v.ensures in
    (omega (arith, c.decreases, in_let_laws.deep x c.requires), in_let_laws.all_ready x c.requires c.copy.ensures)

pub in_let-returns-in_err-all : goal.in_let-returns-in_err-all
in_let-returns-in_err-all t c =
    let e = err_from_is_err_and c.from_residual.result c.from_residual.ensures.1 in
    rw (e.1, e.2) (in_let_laws.bindings_refused c.let_view-v.ensures c.requires c.copy.ensures c.binds.ensures _ c.in_err-all.was)

pub in_let-overflow_add-q : goal.in_let-overflow_add-q
in_let-overflow_add-q t c =
    omega (arith, in_let_laws.reads c.let_view-v.ensures c.requires c.copy.ensures c.binds.ensures _ _ _ _ c.in_ok-all.was, c.well_formed)

pub in_let-overflow_add-w : goal.in_let-overflow_add-w
in_let-overflow_add-w t c =
    omega (arith, in_let_laws.written c.let_view-v.ensures c.requires c.copy.ensures c.binds.ensures _ _ _ _ c.in_ok-all.was, c.requires.longest)

pub in_let-overflow_add-behind : goal.in_let-overflow_add-behind
in_let-overflow_add-behind t c =
    let x = c.let_view-v.ensures in
    omega (arith, in_let_laws.written x c.requires c.copy.ensures c.binds.ensures _ _ _ _ c.in_ok-all.was, in_let_laws.wide x c.requires, c.well_formed)

pub in_let-overflow_sub-behind : goal.in_let-overflow_sub-behind
in_let-overflow_sub-behind t c =
    omega (arith, in_let_laws.past c.let_view-v.ensures c.requires c.copy.ensures c.binds.ensures _ _ _ _ c.in_ok-all.was)

pub in_let-slice_bounds-in_bodyform-count : goal.in_let-slice_bounds-in_bodyform-count
in_let-slice_bounds-in_bodyform-count t c =
    omega (arith, in_let_laws.reads c.let_view-v.ensures c.requires c.copy.ensures c.binds.ensures _ _ _ _ c.in_ok-all.was)

pub in_let-slice_bounds-in_bodyform-start : goal.in_let-slice_bounds-in_bodyform-start
in_let-slice_bounds-in_bodyform-start t c =
    omega (arith, in_let_laws.reads c.let_view-v.ensures c.requires c.copy.ensures c.binds.ensures _ _ _ _ c.in_ok-all.was)

pub in_let-in_bodyform-requires : goal.in_let-in_bodyform-requires
in_let-in_bodyform-requires t c =
    let x = c.let_view-v.ensures in
    (omega (arith, c.decreases, in_let_laws.deep x c.requires), in_let_laws.body_ready x c.requires c.copy.ensures c.binds.ensures _ _ _ _ c.in_ok-all.was)

pub in_let-returns-in_err-body : goal.in_let-returns-in_err-body
in_let-returns-in_err-body t c =
    let e = err_from_is_err_and c.from_residual-in_err-body.result c.from_residual-in_err-body.ensures.1 in
    rw (e.1, e.2) (in_let_laws.body_refused c.let_view-v.ensures c.requires c.copy.ensures c.binds.ensures _ _ _ _ c.in_ok-all.was c.in_bodyform.ensures _ c.in_err-body.was)

pub in_let-overflow_add-all : goal.in_let-overflow_add-all
in_let-overflow_add-all t c =
    let x = c.let_view-v.ensures in
    let p = c.requires in
    let e = c.in_ok-all.was in
    omega (
      arith,
      (in_let_laws.body_sizes x p c.copy.ensures c.binds.ensures _ _ _ _ e c.in_bodyform.ensures _ _ _ c.in_ok-body.was).1,
      in_let_laws.summed x p c.copy.ensures c.binds.ensures _ _ _ _ e,
      p.longest,
      c.well_formed,
    )

pub in_let-returns-then-t-all : goal.in_let-returns-then-t-all
in_let-returns-then-t-all t c =
    in_let_laws.body_over c.let_view-v.ensures c.requires c.copy.ensures c.binds.ensures _ _ _ _ c.in_ok-all.was c.in_bodyform.ensures _ _ _ c.in_ok-body.was c.if-t-all.true (ap Err c.over_long.ensures)

pub in_let-overflow_add-q-2 : goal.in_let-overflow_add-q-2
in_let-overflow_add-q-2 t c =
    let x = c.let_view-v.ensures in
    let p = c.requires in
    omega (
      arith,
      (in_let_laws.body_sizes x p c.copy.ensures c.binds.ensures _ _ _ _ c.in_ok-all.was c.in_bodyform.ensures _ _ _ c.in_ok-body.was).0,
      in_let_laws.wide x p,
      c.well_formed,
    )

pub in_let-overflow_add-w-2 : goal.in_let-overflow_add-w-2
in_let-overflow_add-w-2 t c =
    omega (
      arith,
      (in_let_laws.body_sizes c.let_view-v.ensures c.requires c.copy.ensures c.binds.ensures _ _ _ _ c.in_ok-all.was c.in_bodyform.ensures _ _ _ c.in_ok-body.was).1,
      c.well_formed,
    )

pub in_let-returns : goal.in_let-returns
in_let-returns t c =
    in_let_laws.let_finished c.let_view-v.ensures c.requires c.copy.ensures c.binds.ensures _ _ _ _ c.in_ok-all.was c.in_bodyform.ensures _ _ _ c.in_ok-body.was (omega (arith, c.if-t-all.false)) c.finished.ensures

pub lambda-copy-requires : goal.lambda-copy-requires
lambda-copy-requires t c =
    let x = lambda_laws.lambda_copies c.requires (lambda_laws.lambda_here c.lambda_view-v.ensures c.requires) in
    movable_up (omega (arith, x.0)) (omega (arith, x.1))

pub lambda-new_args-requires : goal.lambda-new_args-requires
lambda-new_args-requires t c = lambda_laws.lambda_args c.requires (lambda_laws.lambda_here c.lambda_view-v.ensures c.requires) c.copy.ensures

pub lambda-returns-in_err-new : goal.lambda-returns-in_err-new
lambda-returns-in_err-new t c =
    let e = err_from_is_err_and c.from_residual.result c.from_residual.ensures.1 in
    rw (e.1, e.2) (lambda_laws.lambda_stopped c.requires (lambda_laws.lambda_here c.lambda_view-v.ensures c.requires) c.copy.ensures c.new_args.ensures _ c.in_err-new.was)

pub lambda-overflow_add-q : goal.lambda-overflow_add-q
lambda-overflow_add-q t c =
    let p = c.requires in
    omega (arith, lambda_laws.lambda_places p (lambda_laws.lambda_here c.lambda_view-v.ensures p) c.copy.ensures c.new_args.ensures _ _ _ _ c.in_ok-new.was)

pub lambda-overflow_add-w : goal.lambda-overflow_add-w
lambda-overflow_add-w t c =
    let p = c.requires in
    omega (arith, lambda_laws.lambda_places p (lambda_laws.lambda_here c.lambda_view-v.ensures p) c.copy.ensures c.new_args.ensures _ _ _ _ c.in_ok-new.was)

pub lambda-overflow_add-behind : goal.lambda-overflow_add-behind
lambda-overflow_add-behind t c =
    let p = c.requires in
    omega (arith, lambda_laws.lambda_places p (lambda_laws.lambda_here c.lambda_view-v.ensures p) c.copy.ensures c.new_args.ensures _ _ _ _ c.in_ok-new.was)

pub lambda-overflow_sub-behind : goal.lambda-overflow_sub-behind
lambda-overflow_sub-behind t c =
    let p = c.requires in
    omega (arith, lambda_laws.lambda_places p (lambda_laws.lambda_here c.lambda_view-v.ensures p) c.copy.ensures c.new_args.ensures _ _ _ _ c.in_ok-new.was)

pub lambda-overflow_sub-behind-2 : goal.lambda-overflow_sub-behind-2
lambda-overflow_sub-behind-2 t c = omega (arith, (lambda_laws.lambda_here c.lambda_view-v.ensures c.requires).level)

pub lambda-slice_bounds-both-count : goal.lambda-slice_bounds-both-count
lambda-slice_bounds-both-count t c =
    let p = c.requires in
    omega (arith, lambda_laws.lambda_places p (lambda_laws.lambda_here c.lambda_view-v.ensures p) c.copy.ensures c.new_args.ensures _ _ _ _ c.in_ok-new.was)

pub lambda-slice_bounds-both-start : goal.lambda-slice_bounds-both-start
lambda-slice_bounds-both-start t c =
    let p = c.requires in
    omega (arith, lambda_laws.lambda_places p (lambda_laws.lambda_here c.lambda_view-v.ensures p) c.copy.ensures c.new_args.ensures _ _ _ _ c.in_ok-new.was)

pub lambda-both-requires : goal.lambda-both-requires
lambda-both-requires t c =
    let p = c.requires in
    let h = lambda_laws.lambda_here c.lambda_view-v.ensures p in
    (omega (arith, c.decreases, h.level), lambda_laws.lambda_both p h c.copy.ensures c.new_args.ensures _ _ _ _ c.in_ok-new.was)

pub lambda-returns-in_err-body : goal.lambda-returns-in_err-body
lambda-returns-in_err-body t c =
    let p = c.requires in
    let e = err_from_is_err_and c.from_residual-in_err-body.result c.from_residual-in_err-body.ensures.1 in
    rw (e.1, e.2) (lambda_laws.lambda_halted p (lambda_laws.lambda_here c.lambda_view-v.ensures p) c.copy.ensures c.new_args.ensures _ _ _ _ c.in_ok-new.was c.both.ensures _ c.in_err-body.was)

pub lambda-overflow_add-q-2 : goal.lambda-overflow_add-q-2
lambda-overflow_add-q-2 t c =
    let p = c.requires in
    omega (arith, lambda_laws.lambda_sums p (lambda_laws.lambda_here c.lambda_view-v.ensures p) c.copy.ensures c.new_args.ensures _ _ _ _ c.in_ok-new.was c.both.ensures _ _ _ _ c.in_ok-body.was)

pub lambda-overflow_add-w-2 : goal.lambda-overflow_add-w-2
lambda-overflow_add-w-2 t c =
    let p = c.requires in
    omega (arith, lambda_laws.lambda_sums p (lambda_laws.lambda_here c.lambda_view-v.ensures p) c.copy.ensures c.new_args.ensures _ _ _ _ c.in_ok-new.was c.both.ensures _ _ _ _ c.in_ok-body.was)

pub lambda-returns : goal.lambda-returns
lambda-returns t c =
    let p = c.requires in
    lambda_laws.lambda_finished p (lambda_laws.lambda_here c.lambda_view-v.ensures p) c.copy.ensures c.new_args.ensures _ _ _ _ c.in_ok-new.was c.both.ensures _ _ _ _ c.in_ok-body.was c.finished.ensures

pub lets-bounds-mem-2 : goal.lets-bounds-mem-2
lets-bounds-mem-2 t c = kind_there c.requires

pub lets-parallel-requires : goal.lets-parallel-requires
lets-parallel-requires t c = (omega (arith, c.decreases), ready_parallel c.requires (sym c.from.ensures ∙ c.in-Parallel.is))

pub lets-chain-requires : goal.lets-chain-requires
lets-chain-requires t c = (omega (arith, c.decreases), ready_kind c.requires Sequential (sym c.from.ensures ∙ c.in-Sequential.is))

pub lets-assign-requires : goal.lets-assign-requires
lets-assign-requires t c = (omega (arith, c.decreases), ready_kind c.requires Assign (sym c.from.ensures ∙ c.in-Assign.is))

pub lets-returns-in-Parallel : goal.lets-returns-in-Parallel
lets-returns-in-Parallel t c = walks_kind Parallel (sym c.from.ensures ∙ c.in-Parallel.is) c.parallel.ensures

pub lets-returns-in-Sequential : goal.lets-returns-in-Sequential
lets-returns-in-Sequential t c = walks_kind Sequential (sym c.from.ensures ∙ c.in-Sequential.is) c.chain.ensures

pub lets-returns-in-Assign : goal.lets-returns-in-Assign
lets-returns-in-Assign t c = walks_kind Assign (sym c.from.ensures ∙ c.in-Assign.is) c.assign.ensures

pub moved-copy-requires : goal.moved-copy-requires
moved-copy-requires t c = let p = c.requires in movable_up (omega (arith, moved_laws.low p)) (omega (arith, moved_laws.wide p, p.wrote))

pub moved-copy-requires-2 : goal.moved-copy-requires-2
moved-copy-requires-2 t c =
    let p = c.requires in
    let n = c.copy.ensures.frame.size in
    record { source = omega (arith, n, moved_laws.wide p, p.wrote); target = omega (arith, n, moved_laws.wide p, p.wrote); safe = inr (omega (arith, p.wrote)) }

pub moved-slice_bounds-both-count : goal.moved-slice_bounds-both-count
moved-slice_bounds-both-count t c = let p = c.requires in omega (arith, moved_laws.low p, moved_laws.wide p, c.copy.ensures.frame.size, c.copy-2.ensures.frame.size)

pub moved-slice_bounds-both-start : goal.moved-slice_bounds-both-start
moved-slice_bounds-both-start t c = let p = c.requires in omega (arith, moved_laws.low p, moved_laws.wide p, c.copy.ensures.frame.size, c.copy-2.ensures.frame.size)

pub moved-overflow_sub-behind : goal.moved-overflow_sub-behind
moved-overflow_sub-behind t c = omega (arith, moved_laws.low c.requires)

pub moved-overflow_sub-behind-2 : goal.moved-overflow_sub-behind-2
moved-overflow_sub-behind-2 t c = omega (arith, moved_laws.deep c.requires)

pub moved-both-requires : goal.moved-both-requires
moved-both-requires t c = let p = c.requires in (omega (arith, c.decreases, moved_laws.deep p), moved_laws.both_ready p c.copy.ensures c.copy-2.ensures)

pub moved-returns-in_err-last : goal.moved-returns-in_err-last
moved-returns-in_err-last t c =
    let e = err_from_is_err_and c.from_residual.result c.from_residual.ensures.1 in
    rw (e.1, e.2) (moved_laws.turned_refused c.requires c.copy.ensures c.copy-2.ensures c.both.ensures _ c.in_err-last.was)

pub moved-overflow_add-body : goal.moved-overflow_add-body
moved-overflow_add-body t c =
    let p = c.requires in
    omega (arith, moved_laws.body_short p c.copy.ensures c.copy-2.ensures c.both.ensures c.in_ok-last.was)

pub moved-overflow_add-first-2 : goal.moved-overflow_add-first-2
moved-overflow_add-first-2 t c =
    let p = c.requires in
    omega (arith, moved_laws.body_short p c.copy.ensures c.copy-2.ensures c.both.ensures c.in_ok-last.was, p.wrote, p.ready.longest)

pub moved-returns : goal.moved-returns
moved-returns t c = moved_laws.turned_done c.requires c.copy.ensures c.copy-2.ensures c.both.ensures c.in_ok-last.was c.finished.ensures

pub named-args_bodyform-requires : goal.named-args_bodyform-requires
named-args_bodyform-requires t c = (omega (arith, c.decreases), named_laws.own_ready c.requires)

pub named-returns-in_err-own : goal.named-returns-in_err-own
named-returns-in_err-own t c =
    let e = err_from_is_err_and c.from_residual.result c.from_residual.ensures.1 in
    rw (e.1, e.2) (named_laws.own_refused c.requires c.args_bodyform.ensures _ c.in_err-own.was)

pub named-overflow_add-sum : goal.named-overflow_add-sum
named-overflow_add-sum t c = let p = c.requires in omega (arith, p.held, p.ready.longest, named_laws.own_short p c.args_bodyform.ensures c.in_ok-own.was)

pub named-returns-then-t-sum : goal.named-returns-then-t-sum
named-returns-then-t-sum t c = named_laws.own_over c.requires c.args_bodyform.ensures c.in_ok-own.was c.over_long.ensures c.if-t-sum.true

pub named-redo-requires : goal.named-redo-requires
named-redo-requires t c = (omega (arith, c.decreases), named_laws.remake_ready c.requires c.args_bodyform.ensures c.in_ok-own.was (omega (arith, c.if-t-sum.false)))

pub named-returns : goal.named-returns
named-returns t c = named_laws.named_done c.requires c.args_bodyform.ensures c.in_ok-own.was (omega (arith, c.if-t-sum.false)) c.redo.ensures

pub nested-overflow_sub-depth : goal.nested-overflow_sub-depth
nested-overflow_sub-depth t c = nested_laws.none_level _ c.if-count-eq0.true c.requires

pub nested-args_bodyform-requires : goal.nested-args_bodyform-requires
nested-args_bodyform-requires t c =
    let z = c.if-count-eq0.true in
    (omega (arith, c.decreases, nested_laws.none_level _ z c.requires), nested_laws.none_ready _ z c.requires)

pub nested-returns-then-count-eq0 : goal.nested-returns-then-count-eq0
nested-returns-then-count-eq0 t c = nested_laws.none_walks _ c.if-count-eq0.true c.requires c.args_bodyform.ensures

pub nested-parallel-requires : goal.nested-parallel-requires
nested-parallel-requires t c = (omega (arith, c.decreases), nested_laws.some_ready _ c.if-count-eq0.false c.requires)

pub nested-returns : goal.nested-returns
nested-returns t c = nested_laws.some_walks _ c.if-count-eq0.false c.parallel.ensures

pub over-returns-in_err-inner : goal.over-returns-in_err-inner
over-returns-in_err-inner t c =
    let e = err_from_is_err_and c.from_residual.result c.from_residual.ensures.1 in
    rw (e.1, e.2) (both_laws.over_refused c.args.read c.requires c.in_bodyform.ensures _ c.in_err-inner.was)

pub over-returns-then-t-sum : goal.over-returns-then-t-sum
over-returns-then-t-sum t c = both_laws.over_too_long c.args.read c.requires c.in_bodyform.ensures _ _ _ c.in_ok-inner.was _ c.over_long.ensures c.if-t-sum.true

pub over-copy-requires : goal.over-copy-requires
over-copy-requires t c = both_laws.over_moves c.args.read c.requires c.in_bodyform.ensures _ _ _ c.in_ok-inner.was

pub over-returns : goal.over-returns
over-returns t c = both_laws.over_done c.args.read c.requires c.in_bodyform.ensures _ _ _ c.in_ok-inner.was (omega (arith, c.if-t-sum.false)) c.copy.ensures

pub parallel-overflow_sub-aside : goal.parallel-overflow_sub-aside
parallel-overflow_sub-aside t c = parallel_laws.aside_short c.let_view-v.ensures c.requires c.let_room.ensures

pub parallel-make_bindings_unique-requires : goal.parallel-make_bindings_unique-requires
parallel-make_bindings_unique-requires t c = parallel_laws.patterns_ready c.let_view-v.ensures c.requires c.let_room.ensures

pub parallel-returns-in_err-new : goal.parallel-returns-in_err-new
parallel-returns-in_err-new t c =
    let e = err_from_is_err_and c.from_residual.result c.from_residual.ensures.1 in
    rw (e.1, e.2) (parallel_laws.patterns_refused c.let_view-v.ensures c.requires c.let_room.ensures c.make_bindings_unique.ensures _ c.in_err-new.was)

pub parallel-bound-requires : goal.parallel-bound-requires
parallel-bound-requires t c =
    (omega (arith, c.decreases), parallel_laws.patterned_ready c.let_view-v.ensures c.requires c.let_room.ensures c.make_bindings_unique.ensures _ _ _ _ c.in_ok-new.was)

pub parallel-returns : goal.parallel-returns
parallel-returns t c =
    parallel_laws.parallel_done c.let_view-v.ensures c.requires c.let_room.ensures c.make_bindings_unique.ensures _ _ _ _ c.in_ok-new.was c.bound.ensures

pub redo-rename_in_cons-requires : goal.redo-rename_in_cons-requires
redo-rename_in_cons-requires t c = redo_laws.pattern_asks c.requires

pub redo-returns-in_err-pattern : goal.redo-returns-in_err-pattern
redo-returns-in_err-pattern t c =
    let e = err_from_is_err_and c.from_residual.result c.from_residual.ensures.1 in
    rw (e.1, e.2) (redo_laws.pattern_refused c.requires c.rename_in_cons.ensures _ c.in_err-pattern.was)

pub redo-in_bodyform-requires : goal.redo-in_bodyform-requires
redo-in_bodyform-requires t c = (omega (arith, c.decreases), redo_laws.in_ready c.requires c.rename_in_cons.ensures c.in_ok-pattern.was)

pub redo-returns-in_err-body : goal.redo-returns-in_err-body
redo-returns-in_err-body t c =
    let e = err_from_is_err_and c.from_residual-in_err-body.result c.from_residual-in_err-body.ensures.1 in
    rw (e.1, e.2) (redo_laws.in_refused c.requires c.rename_in_cons.ensures c.in_ok-pattern.was c.in_bodyform.ensures _ c.in_err-body.was)

pub redo-overflow_add-sum-2 : goal.redo-overflow_add-sum-2
redo-overflow_add-sum-2 t c =
    let p = c.requires in
    omega (arith, redo_laws.pattern_fits p c.rename_in_cons.ensures c.in_ok-pattern.was, redo_laws.in_short p c.rename_in_cons.ensures c.in_ok-pattern.was c.in_bodyform.ensures c.in_ok-body.was, p.longest)

pub redo-returns-then-t-sum : goal.redo-returns-then-t-sum
redo-returns-then-t-sum t c = redo_laws.in_over c.requires c.rename_in_cons.ensures c.in_ok-pattern.was c.in_bodyform.ensures c.in_ok-body.was c.over_long.ensures c.if-t-sum.true

pub redo-copy-requires : goal.redo-copy-requires
redo-copy-requires t c =
    let n = redo_laws.move_fits c.requires c.rename_in_cons.ensures c.in_ok-pattern.was c.in_bodyform.ensures c.in_ok-body.was in
    record { source = omega (arith, n); target = omega (arith, n); safe = inr (omega arith) }

pub redo-returns : goal.redo-returns
redo-returns t c = redo_laws.remake_done c.requires c.rename_in_cons.ensures c.in_ok-pattern.was c.in_bodyform.ensures c.in_ok-body.was c.copy.ensures (omega (arith, c.if-t-sum.false))

pub rest-rename_in_cons-requires : goal.rest-rename_in_cons-requires
rest-rename_in_cons-requires t c = rest_laws.capture_args_asks (rest_laws.setting c.requires)

pub rest-returns-in_err-renamed : goal.rest-returns-in_err-renamed
rest-returns-in_err-renamed t c =
    let e = err_from_is_err_and c.from_residual.result c.from_residual.ensures.1 in
    rw (e.1, e.2) (rest_laws.captured_refused c.requires c.rename_in_cons.ensures _ c.in_err-renamed.was)

pub rest-overflow_add-q-3 : goal.rest-overflow_add-q-3
rest-overflow_add-q-3 t c =
    omega (arith, rest_laws.before_fits (rest_laws.setting c.requires) c.rename_in_cons.ensures _ _ _ c.in_ok-renamed.was)

pub rest-copy-requires : goal.rest-copy-requires
rest-copy-requires t c = rest_laws.captures_move (rest_laws.setting c.requires) c.rename_in_cons.ensures _ _ _ c.in_ok-renamed.was

pub rest-overflow_add-to : goal.rest-overflow_add-to
rest-overflow_add-to t c =
    omega (arith, rest_laws.before_fits (rest_laws.setting c.requires) c.rename_in_cons.ensures _ _ _ c.in_ok-renamed.was)

pub rest-overflow_add-to-2 : goal.rest-overflow_add-to-2
rest-overflow_add-to-2 t c =
    omega (arith, rest_laws.before_fits (rest_laws.setting c.requires) c.rename_in_cons.ensures _ _ _ c.in_ok-renamed.was)

pub rest-copy-requires-2 : goal.rest-copy-requires-2
rest-copy-requires-2 t c = rest_laws.args_move (rest_laws.setting c.requires) c.rename_in_cons.ensures _ _ _ c.in_ok-renamed.was c.copy.ensures

pub rest-overflow_add-behind : goal.rest-overflow_add-behind
rest-overflow_add-behind t c =
    omega (arith, rest_laws.before_fits (rest_laws.setting c.requires) c.rename_in_cons.ensures _ _ _ c.in_ok-renamed.was)

pub rest-overflow_sub-behind : goal.rest-overflow_sub-behind
rest-overflow_sub-behind t c =
    omega (arith, rest_laws.before_fits (rest_laws.setting c.requires) c.rename_in_cons.ensures _ _ _ c.in_ok-renamed.was)

pub rest-overflow_sub-behind-2 : goal.rest-overflow_sub-behind-2
rest-overflow_sub-behind-2 t c = let z = rest_laws.widths (rest_laws.setting c.requires) in omega arith

pub rest-slice_bounds-both-count : goal.rest-slice_bounds-both-count
rest-slice_bounds-both-count t c =
    let h = rest_laws.setting c.requires in
    let l = (rest_laws.args_move h c.rename_in_cons.ensures _ _ _ c.in_ok-renamed.was c.copy.ensures).target in
    omega (arith, rest_laws.before_fits h c.rename_in_cons.ensures _ _ _ c.in_ok-renamed.was, c.copy-2.ensures.frame.size)

pub rest-slice_bounds-both-start : goal.rest-slice_bounds-both-start
rest-slice_bounds-both-start t c =
    let h = rest_laws.setting c.requires in
    let l = (rest_laws.args_move h c.rename_in_cons.ensures _ _ _ c.in_ok-renamed.was c.copy.ensures).target in
    omega (arith, rest_laws.before_fits h c.rename_in_cons.ensures _ _ _ c.in_ok-renamed.was, c.copy-2.ensures.frame.size)

pub rest-both-requires : goal.rest-both-requires
rest-both-requires t c =
    let p = c.requires in
    let h = rest_laws.setting p in
    let z = rest_laws.widths h in
    (omega (arith, c.decreases), rest_laws.both_ready h c.rename_in_cons.ensures _ _ _ c.in_ok-renamed.was c.copy.ensures c.copy-2.ensures p.counts p.longest)

pub rest-returns-in_err-last : goal.rest-returns-in_err-last
rest-returns-in_err-last t c =
    let e = err_from_is_err_and c.from_residual-in_err-last.result c.from_residual-in_err-last.ensures.1 in
    rw (e.1, e.2) (rest_laws.captured_stopped c.requires c.rename_in_cons.ensures _ _ _ c.in_ok-renamed.was c.copy.ensures c.copy-2.ensures c.both.ensures _ c.in_err-last.was)

pub rest-overflow_add-written : goal.rest-overflow_add-written
rest-overflow_add-written t c =
    omega (arith, rest_laws.sums (rest_laws.setting c.requires) c.rename_in_cons.ensures _ _ _ c.in_ok-renamed.was c.copy.ensures c.copy-2.ensures c.both.ensures _ _ _ _ c.in_ok-last.was)

pub rest-overflow_add-written-2 : goal.rest-overflow_add-written-2
rest-overflow_add-written-2 t c =
    omega (arith, rest_laws.sums (rest_laws.setting c.requires) c.rename_in_cons.ensures _ _ _ c.in_ok-renamed.was c.copy.ensures c.copy-2.ensures c.both.ensures _ _ _ _ c.in_ok-last.was)

pub rest-overflow_add-written-3 : goal.rest-overflow_add-written-3
rest-overflow_add-written-3 t c =
    omega (arith, rest_laws.sums (rest_laws.setting c.requires) c.rename_in_cons.ensures _ _ _ c.in_ok-renamed.was c.copy.ensures c.copy-2.ensures c.both.ensures _ _ _ _ c.in_ok-last.was)

pub rest-overflow_add-written-4 : goal.rest-overflow_add-written-4
rest-overflow_add-written-4 t c =
    omega (arith, rest_laws.sums (rest_laws.setting c.requires) c.rename_in_cons.ensures _ _ _ c.in_ok-renamed.was c.copy.ensures c.copy-2.ensures c.both.ensures _ _ _ _ c.in_ok-last.was)

pub rest-overflow_add-body : goal.rest-overflow_add-body
rest-overflow_add-body t c =
    omega (arith, rest_laws.sums (rest_laws.setting c.requires) c.rename_in_cons.ensures _ _ _ c.in_ok-renamed.was c.copy.ensures c.copy-2.ensures c.both.ensures _ _ _ _ c.in_ok-last.was)

pub rest-returns : goal.rest-returns
rest-returns t c =
    rest_laws.captured_done c.requires c.rename_in_cons.ensures _ _ _ c.in_ok-renamed.was c.copy.ensures c.copy-2.ensures c.both.ensures _ _ _ _ c.in_ok-last.was c.finished.ensures

pub sorted-overflow_sub-behind : goal.sorted-overflow_sub-behind
sorted-overflow_sub-behind t c = omega (arith, sorted_laws.deep c.requires)

pub sorted-assign_all-requires : goal.sorted-assign_all-requires
sorted-assign_all-requires t c =
    let p = c.requires in
    (omega (arith, c.decreases, sorted_laws.deep p), sorted_laws.bindings_ready p c.let_view-v.ensures _ _ (length-take-le _ _ (omega (arith, p.few))) c.binding_starts.ensures)

pub sorted-returns-in_err-all : goal.sorted-returns-in_err-all
sorted-returns-in_err-all t c =
    let p = c.requires in
    let e = err_from_is_err_and c.from_residual.result c.from_residual.ensures.1 in
    rw (e.1, e.2) (sorted_laws.bindings_refused p c.let_view-v.ensures _ _ (length-take-le _ _ (omega (arith, p.few))) c.binding_starts.ensures c.assign_all.ensures _ c.in_err-all.was)

pub sorted-moved-requires : goal.sorted-moved-requires
sorted-moved-requires t c =
    let p = c.requires in (
      omega (arith, c.decreases),
      sorted_laws.turned_ready p c.let_view-v.ensures _ _ (length-take-le _ _ (omega (arith, p.few))) c.binding_starts.ensures c.assign_all.ensures c.in_ok-all.was,
    )

pub sorted-returns : goal.sorted-returns
sorted-returns t c =
    let p = c.requires in
    sorted_laws.ordered_done p c.let_view-v.ensures _ _ (length-take-le _ _ (omega (arith, p.few))) c.binding_starts.ensures c.assign_all.ensures c.in_ok-all.was c.moved.ensures

pub tail-bounds-mem-0 : goal.tail-bounds-mem-0
tail-bounds-mem-0 t c = omega (arith, tail_laws.byte_fits c.requires)

pub tail-bounds-mem-to : goal.tail-bounds-mem-to
tail-bounds-mem-to t c = omega (arith, tail_laws.byte_fits c.requires)

pub tail-returns-then-tag-eq0 : goal.tail-returns-then-tag-eq0
tail-returns-then-tag-eq0 t c = tail_laws.no_tail_walks c.requires c.if-tag-eq0.true

pub tail-either-requires : goal.tail-either-requires
tail-either-requires t c = (omega (arith, c.decreases), tail_laws.tail_ready c.requires c.if-tag-eq0.false)

pub tail-returns-in_err-s : goal.tail-returns-in_err-s
tail-returns-in_err-s t c =
    let e = err_from_is_err_and c.from_residual.result c.from_residual.ensures.1 in
    rw (e.1, e.2) (tail_laws.tail_refused c.requires c.if-tag-eq0.false c.either.ensures _ c.in_err-s.was)

pub tail-overflow_add-sum : goal.tail-overflow_add-sum
tail-overflow_add-sum t c =
    omega (arith, (tail_laws.tail_sums c.requires c.if-tag-eq0.false c.either.ensures _ _ _ c.in_ok-s.was).1, c.requires.held, c.requires.ready.longest)

pub tail-returns-then-t-sum : goal.tail-returns-then-t-sum
tail-returns-then-t-sum t c = tail_laws.tail_too_long c.requires c.if-tag-eq0.false c.either.ensures _ _ _ c.in_ok-s.was _ c.over_long.ensures c.if-t-sum.true

pub tail-overflow_add-result : goal.tail-overflow_add-result
tail-overflow_add-result t c =
    omega (arith, (tail_laws.tail_sums c.requires c.if-tag-eq0.false c.either.ensures _ _ _ c.in_ok-s.was).0, c.requires.ready.longest)

pub tail-returns : goal.tail-returns
tail-returns t c = tail_laws.tail_done c.requires c.if-tag-eq0.false c.either.ensures _ _ _ c.in_ok-s.was (omega (arith, c.if-t-sum.false))
