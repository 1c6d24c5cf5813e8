-- The rules on H records and CF meet their contracts. Assumes nothing.
use mathlib.Core.Bool.{true, false}
use mathlib.Core.Path.{◌≡◌, refl}
use native.Mathlib.Omega.{arith}
use Prim.Native.Nat.{ℕ}
use Rattle.std.proofs.lemmas.Result.{err_from_is_err_and}
use Rattle.names.specs.Maps.{NameMap}
use Rattle.names.specs.Names.{Bytes}
use Rattle.names.proofs.Frames.{movable_up}
use Rattle.records.specs.StepAnswer.{Outcome}
use Rattle.walk.specs.FormWalks.{TreeOf, TreeReady, by_args, AfterReady, RenewedReady}
use Rattle.walk.specs.declared.Child.{Child}
use Rattle.walk.specs.declared.Child.TheVariants.{Bodyform, Helperform, Compileform}
use Rattle.walk.specs.declared.Rest.{Rest}
use Rattle.walk.specs.declared.Rest.TheVariants.{OneBody, OneForm, Listed, Parts}
use Rattle.walk.specs.declared.Task.{Task}
use Rattle.walk.specs.declared.Way.{Way}
use Rattle.walk.specs.declared.Way.TheVariants.{Further}
use Rattle.walk.proofs.AfterLaws.{after_copies, after_rest, after_stopped, after_sums, after_finished}
use Rattle.walk.proofs.BothRestLaws.{own_ready, own_refused, own_ends, further_ready, further_refused, further_moves, both_walks}
use Rattle.walk.proofs.ChildLaws.{ready_at, walks_at, child_refused, child_sumable, child_counted}
use Rattle.walk.proofs.FormDispatch.{constant_kept, macro_kept, macro_renewed, function_kept, function_renewed, namespace_kept, namespace_counted, own_kept, in_kept}
use Rattle.walk.proofs.FormParts.{form_opens, form_renews, form_counted}
use Rattle.walk.proofs.HelperTurns.{turns_start, turns_end, wide, turn_low, turn_ready, turn_refused, turn_on}
use Rattle.walk.proofs.ListedLaws.{helpers_ready, listed_refused as list_refused, listed_sums, listed_done}
use Rattle.walk.proofs.Opening.{Keeping, Renewing, opened_within, opened, closed}
use Rattle.walk.proofs.PartsLaws.{listed_ready, listed_refused, listed_read, listed_short, listed_ends, body_ready, body_refused, body_read, body_short, parts_walk}
use borrow.Author.Rules.{rules}
use Rattle.records.specs.declared.HelperMark.TheVariants.{Constant, Macro, Function, Namespace}
use Rattle.records.proofs.Marks.{helper_placed, helper_other}
use Rattle.walk.proofs.RenewedLaws.{renewed_copies, renewed_args, renewed_stopped, renewed_places, renewed_both, renewed_halted, renewed_sums, renewed_finished}
use Rattle.walk.proofs.RestKinds.{rest_as, rest_walks, body_asks, form_asks}
use Rattle.walk.proofs.WayLaws.{own_fresh, in_fresh}
use Rattle.walk.proofs.forms.+forms.Goals as goal

-- what `after` asks of a record that opens as a head and a rest
keeps : {k : Child} {rest : Rest} {way : Way} {mem : Bytes} {t : Task} {at : ℕ} {answer : NameMap → TreeOf k → Outcome (TreeOf k)} → (way ≡ Further → ⊥)
    → (p : TreeReady k (by_args way) mem t) → Keeping k rest way answer t at p.tree → AfterReady rest way mem at t
keeps fresh p o = record { fresh = fresh; within = opened_within p o; ready = opened p o }

-- and `renewed`, of one with args before its rest
renews : {k : Child} {rest : Rest} {mem : Bytes} {t : Task} {at : ℕ} (p : TreeReady k true mem t) → Renewing k rest t at p.tree → RenewedReady rest mem at t
renews p o = record { within = opened_within p o; ready = opened p o }

-- `args_helperform`

pub args_helperform-after-requires : goal.args_helperform-after-requires
args_helperform-after-requires t c =
    (omega arith, keeps own_fresh c.requires (constant_kept (helper_placed c.in-Some-Constant.field-0-is c.in-Some-Constant.ensures) c.requires refl c.constant_view-v.ensures))

pub args_helperform-renewed-requires : goal.args_helperform-renewed-requires
args_helperform-renewed-requires t c =
    (omega arith, renews c.requires (macro_renewed (helper_placed c.in-Some-Macro.field-0-is c.in-Some-Macro.ensures) c.requires refl c.macro_view-v.ensures))

pub args_helperform-renewed-requires-in-Some-Function : goal.args_helperform-renewed-requires-in-Some-Function
args_helperform-renewed-requires-in-Some-Function t c =
    (omega arith, renews c.requires (function_renewed (helper_placed c.in-Some-Function.field-0-is c.in-Some-Function.ensures) c.requires refl c.function_view-v.ensures))

pub args_helperform-overflow_sub-v : goal.args_helperform-overflow_sub-v
args_helperform-overflow_sub-v t c = namespace_counted (helper_placed c.in-Some-Namespace.field-0-is c.in-Some-Namespace.ensures) c.requires refl c.namespace_view-v.ensures

pub args_helperform-after-requires-in-Some-Namespace : goal.args_helperform-after-requires-in-Some-Namespace
args_helperform-after-requires-in-Some-Namespace t c =
    (omega arith, keeps own_fresh c.requires (namespace_kept (helper_placed c.in-Some-Namespace.field-0-is c.in-Some-Namespace.ensures) c.requires refl c.namespace_view-v.ensures))

pub args_helperform-returns-in-Some-Constant : goal.args_helperform-returns-in-Some-Constant
args_helperform-returns-in-Some-Constant t c =
    closed c.requires (constant_kept (helper_placed c.in-Some-Constant.field-0-is c.in-Some-Constant.ensures) c.requires refl c.constant_view-v.ensures) c.after.ensures

pub args_helperform-returns-in-Some-Macro : goal.args_helperform-returns-in-Some-Macro
args_helperform-returns-in-Some-Macro t c =
    closed c.requires (macro_renewed (helper_placed c.in-Some-Macro.field-0-is c.in-Some-Macro.ensures) c.requires refl c.macro_view-v.ensures) c.renewed.ensures

pub args_helperform-returns-in-Some-Function : goal.args_helperform-returns-in-Some-Function
args_helperform-returns-in-Some-Function t c =
    closed c.requires (function_renewed (helper_placed c.in-Some-Function.field-0-is c.in-Some-Function.ensures) c.requires refl c.function_view-v.ensures) c.renewed-in-Some-Function.ensures

pub args_helperform-returns-in-Some-Namespace : goal.args_helperform-returns-in-Some-Namespace
args_helperform-returns-in-Some-Namespace t c =
    closed c.requires (namespace_kept (helper_placed c.in-Some-Namespace.field-0-is c.in-Some-Namespace.ensures) c.requires refl c.namespace_view-v.ensures) c.after-in-Some-Namespace.ensures

pub args_helperform-returns-in_default : goal.args_helperform-returns-in_default
args_helperform-returns-in_default t c =
    let e = c.helper_mark.ensures in
    own_kept refl c.keep_helper.ensures (helper_other Constant e (search rules)) (helper_other Macro e (search rules)) (helper_other Function e (search rules)) (helper_other Namespace e (search rules))

-- `in_helperform`

pub in_helperform-after-requires : goal.in_helperform-after-requires
in_helperform-after-requires t c =
    (omega arith, keeps in_fresh c.requires (constant_kept (helper_placed c.in-Some-Constant.field-0-is c.in-Some-Constant.ensures) c.requires refl c.constant_view-v.ensures))

pub in_helperform-after-requires-in-Some-Macro : goal.in_helperform-after-requires-in-Some-Macro
in_helperform-after-requires-in-Some-Macro t c =
    (omega arith, keeps in_fresh c.requires (macro_kept (helper_placed c.in-Some-Macro.field-0-is c.in-Some-Macro.ensures) c.requires refl c.macro_view-v.ensures))

pub in_helperform-after-requires-in-Some-Function : goal.in_helperform-after-requires-in-Some-Function
in_helperform-after-requires-in-Some-Function t c =
    (omega arith, keeps in_fresh c.requires (function_kept (helper_placed c.in-Some-Function.field-0-is c.in-Some-Function.ensures) c.requires refl c.function_view-v.ensures))

pub in_helperform-returns-in-Some-Constant : goal.in_helperform-returns-in-Some-Constant
in_helperform-returns-in-Some-Constant t c =
    closed c.requires (constant_kept (helper_placed c.in-Some-Constant.field-0-is c.in-Some-Constant.ensures) c.requires refl c.constant_view-v.ensures) c.after.ensures

pub in_helperform-returns-in-Some-Macro : goal.in_helperform-returns-in-Some-Macro
in_helperform-returns-in-Some-Macro t c =
    closed c.requires (macro_kept (helper_placed c.in-Some-Macro.field-0-is c.in-Some-Macro.ensures) c.requires refl c.macro_view-v.ensures) c.after-in-Some-Macro.ensures

pub in_helperform-returns-in-Some-Function : goal.in_helperform-returns-in-Some-Function
in_helperform-returns-in-Some-Function t c =
    closed c.requires (function_kept (helper_placed c.in-Some-Function.field-0-is c.in-Some-Function.ensures) c.requires refl c.function_view-v.ensures) c.after-in-Some-Function.ensures

pub in_helperform-returns-in_default : goal.in_helperform-returns-in_default
in_helperform-returns-in_default t c =
    let e = c.helper_mark.ensures in
    in_kept refl c.keep_helper.ensures (helper_other Constant e (search rules)) (helper_other Macro e (search rules)) (helper_other Function e (search rules))

-- `args_compileform` and `in_compileform`

pub args_compileform-renewed-requires : goal.args_compileform-renewed-requires
args_compileform-renewed-requires t c =
    let p = c.requires in (omega arith, renews p (form_renews c.args.t c.form_view-v.ensures p.tree p.good p.there))

pub args_compileform-returns : goal.args_compileform-returns
args_compileform-returns t c =
    let p = c.requires in closed p (form_renews c.args.t c.form_view-v.ensures p.tree p.good p.there) c.renewed.ensures

pub in_compileform-overflow_sub-v : goal.in_compileform-overflow_sub-v
in_compileform-overflow_sub-v t c = let p = c.requires in form_counted c.args.t c.form_view-v.ensures p.tree p.good p.there

pub in_compileform-after-requires : goal.in_compileform-after-requires
in_compileform-after-requires t c =
    let p = c.requires in (omega arith, keeps in_fresh p (form_opens c.args.t c.form_view-v.ensures p.tree p.good p.there))

pub in_compileform-returns : goal.in_compileform-returns
in_compileform-returns t c =
    let p = c.requires in closed p (form_opens c.args.t c.form_view-v.ensures p.tree p.good p.there) c.after.ensures

-- `after`

pub after-copy-requires : goal.after-copy-requires
after-copy-requires t c = let x = after_copies c.requires in movable_up (omega (arith, x.0)) (omega (arith, x.1))

pub after-rest-requires : goal.after-rest-requires
after-rest-requires t c =
    (omega (arith, c.requires.ready.good.level), after_rest c.requires c.copy.ensures c.requires.fresh)

pub after-returns-in_err-all : goal.after-returns-in_err-all
after-returns-in_err-all t c =
    let p = err_from_is_err_and c.from_residual.result c.from_residual.ensures.1 in
    rw (p.1, p.2) (after_stopped c.requires c.copy.ensures c.rest.ensures _ c.in_err-all.was)

pub after-overflow_add-at : goal.after-overflow_add-at
after-overflow_add-at t c = let x = after_sums c.requires c.copy.ensures c.rest.ensures _ _ _ _ c.in_ok-all.was in omega (arith, x.0)

pub after-overflow_add-at-2 : goal.after-overflow_add-at-2
after-overflow_add-at-2 t c = let x = after_sums c.requires c.copy.ensures c.rest.ensures _ _ _ _ c.in_ok-all.was in omega (arith, x.1)

pub after-returns : goal.after-returns
after-returns t c = after_finished c.requires c.copy.ensures c.rest.ensures _ _ _ _ c.in_ok-all.was c.finished.ensures

-- `renewed`

pub renewed-copy-requires : goal.renewed-copy-requires
renewed-copy-requires t c = let x = renewed_copies c.requires in movable_up (omega (arith, x.0)) (omega (arith, x.1))

pub renewed-new_args-requires : goal.renewed-new_args-requires
renewed-new_args-requires t c = renewed_args c.requires c.copy.ensures

pub renewed-returns-in_err-new : goal.renewed-returns-in_err-new
renewed-returns-in_err-new t c =
    let p = err_from_is_err_and c.from_residual.result c.from_residual.ensures.1 in
    rw (p.1, p.2) (renewed_stopped c.requires c.copy.ensures c.new_args.ensures _ c.in_err-new.was)

pub renewed-overflow_add-q : goal.renewed-overflow_add-q
renewed-overflow_add-q t c =
    let x = renewed_places c.requires c.copy.ensures c.new_args.ensures _ _ _ _ c.in_ok-new.was in
    omega (arith, x.0)

pub renewed-overflow_add-behind-2 : goal.renewed-overflow_add-behind-2
renewed-overflow_add-behind-2 t c =
    let x = renewed_places c.requires c.copy.ensures c.new_args.ensures _ _ _ _ c.in_ok-new.was in
    omega (arith, x.2)

pub renewed-overflow_sub-behind : goal.renewed-overflow_sub-behind
renewed-overflow_sub-behind t c =
    let x = renewed_places c.requires c.copy.ensures c.new_args.ensures _ _ _ _ c.in_ok-new.was in
    omega (arith, x.1)

pub renewed-slice_bounds-both-count : goal.renewed-slice_bounds-both-count
renewed-slice_bounds-both-count t c =
    let x = renewed_places c.requires c.copy.ensures c.new_args.ensures _ _ _ _ c.in_ok-new.was in
    omega (arith, x.0, x.2)

pub renewed-slice_bounds-both-start : goal.renewed-slice_bounds-both-start
renewed-slice_bounds-both-start t c =
    let x = renewed_places c.requires c.copy.ensures c.new_args.ensures _ _ _ _ c.in_ok-new.was in
    omega (arith, x.0, x.2)

pub renewed-both-requires : goal.renewed-both-requires
renewed-both-requires t c =
    (omega (arith, c.requires.ready.good.levels), renewed_both c.requires c.copy.ensures c.new_args.ensures _ _ _ _ c.in_ok-new.was)

pub renewed-returns-in_err-all : goal.renewed-returns-in_err-all
renewed-returns-in_err-all t c =
    let p = err_from_is_err_and c.from_residual-in_err-all.result c.from_residual-in_err-all.ensures.1 in
    rw (p.1, p.2) (renewed_halted c.requires c.copy.ensures c.new_args.ensures _ _ _ _ c.in_ok-new.was c.both.ensures _ c.in_err-all.was)

pub renewed-overflow_add-q-2 : goal.renewed-overflow_add-q-2
renewed-overflow_add-q-2 t c =
    let x = renewed_sums c.requires c.copy.ensures c.new_args.ensures _ _ _ _ c.in_ok-new.was c.both.ensures _ _ _ _ c.in_ok-all.was in
    omega (arith, x.0)

pub renewed-overflow_add-args : goal.renewed-overflow_add-args
renewed-overflow_add-args t c =
    let x = renewed_sums c.requires c.copy.ensures c.new_args.ensures _ _ _ _ c.in_ok-new.was c.both.ensures _ _ _ _ c.in_ok-all.was in
    omega (arith, x.1)

pub renewed-overflow_add-args-2 : goal.renewed-overflow_add-args-2
renewed-overflow_add-args-2 t c =
    let x = renewed_sums c.requires c.copy.ensures c.new_args.ensures _ _ _ _ c.in_ok-new.was c.both.ensures _ _ _ _ c.in_ok-all.was in
    omega (arith, x.1)

pub renewed-returns : goal.renewed-returns
renewed-returns t c =
    renewed_finished c.requires c.copy.ensures c.new_args.ensures _ _ _ _ c.in_ok-new.was c.both.ensures _ _ _ _ c.in_ok-all.was c.finished.ensures

-- `both`

pub both-rest-requires : goal.both-rest-requires
both-rest-requires t c = (omega arith, own_ready c.requires)

pub both-returns-in_err-own : goal.both-returns-in_err-own
both-returns-in_err-own t c =
    let p = err_from_is_err_and c.from_residual.result c.from_residual.ensures.1 in
    rw (p.1, p.2) (own_refused c.requires c.rest.ensures _ c.in_err-own.was)

pub both-rest-requires-2 : goal.both-rest-requires-2
both-rest-requires-2 t c = (omega arith, further_ready c.requires c.rest.ensures _ _ _ _ c.in_ok-own.was)

pub both-returns-in_err-inner : goal.both-returns-in_err-inner
both-returns-in_err-inner t c =
    let p = err_from_is_err_and c.from_residual-in_err-inner.result c.from_residual-in_err-inner.ensures.1 in
    rw (p.1, p.2) (further_refused c.requires c.rest.ensures _ _ _ _ c.in_ok-own.was c.rest-2.ensures _ c.in_err-inner.was)

pub both-overflow_add-to : goal.both-overflow_add-to
both-overflow_add-to t c = omega (arith, own_ends c.requires c.rest.ensures _ _ _ _ c.in_ok-own.was)

pub both-copy-requires : goal.both-copy-requires
both-copy-requires t c = further_moves c.requires c.rest.ensures _ _ _ _ c.in_ok-own.was c.rest-2.ensures _ _ _ _ c.in_ok-inner.was

pub both-returns : goal.both-returns
both-returns t c = both_walks c.requires c.rest.ensures _ _ _ _ c.in_ok-own.was c.rest-2.ensures _ _ _ _ c.in_ok-inner.was c.copy.ensures

-- `rest`

pub rest-child-requires : goal.rest-child-requires
rest-child-requires t c = (omega arith, body_asks c.in-OneBody.is c.requires)

pub rest-child-requires-in-OneForm : goal.rest-child-requires-in-OneForm
rest-child-requires-in-OneForm t c = (omega arith, form_asks c.in-OneForm.is c.requires)

pub rest-listed-requires : goal.rest-listed-requires
rest-listed-requires t c = (omega arith, rest_as Listed c.in-Listed.is c.requires)

pub rest-parts-requires : goal.rest-parts-requires
rest-parts-requires t c = (omega arith, rest_as Parts c.in-Parts.is c.requires)

pub rest-returns-in-OneBody : goal.rest-returns-in-OneBody
rest-returns-in-OneBody t c = rest_walks c.requires OneBody c.in-OneBody.is c.child.ensures

pub rest-returns-in-OneForm : goal.rest-returns-in-OneForm
rest-returns-in-OneForm t c = rest_walks c.requires OneForm c.in-OneForm.is c.child-in-OneForm.ensures

pub rest-returns-in-Listed : goal.rest-returns-in-Listed
rest-returns-in-Listed t c = rest_walks c.requires Listed c.in-Listed.is c.listed.ensures

pub rest-returns-in-Parts : goal.rest-returns-in-Parts
rest-returns-in-Parts t c = rest_walks c.requires Parts c.in-Parts.is c.parts.ensures

-- `parts`

pub parts-listed-requires : goal.parts-listed-requires
parts-listed-requires t c = (omega arith, listed_ready c.requires)

pub parts-returns-in_err-all : goal.parts-returns-in_err-all
parts-returns-in_err-all t c =
    let p = err_from_is_err_and c.from_residual.result c.from_residual.ensures.1 in
    rw (p.1, p.2) (listed_refused c.requires c.listed.ensures _ c.in_err-all.was)

pub parts-overflow_add-behind : goal.parts-overflow_add-behind
parts-overflow_add-behind t c = omega (arith, listed_ends c.requires c.listed.ensures _ _ _ _ c.in_ok-all.was)

pub parts-overflow_sub-behind : goal.parts-overflow_sub-behind
parts-overflow_sub-behind t c = omega (arith, listed_read c.requires c.listed.ensures _ _ _ _ c.in_ok-all.was)

pub parts-slice_bounds-child-count : goal.parts-slice_bounds-child-count
parts-slice_bounds-child-count t c =
    omega (arith, listed_read c.requires c.listed.ensures _ _ _ _ c.in_ok-all.was, listed_ends c.requires c.listed.ensures _ _ _ _ c.in_ok-all.was)

pub parts-slice_bounds-child-start : goal.parts-slice_bounds-child-start
parts-slice_bounds-child-start t c =
    omega (arith, listed_read c.requires c.listed.ensures _ _ _ _ c.in_ok-all.was, listed_ends c.requires c.listed.ensures _ _ _ _ c.in_ok-all.was)

pub parts-child-requires : goal.parts-child-requires
parts-child-requires t c = (omega arith, body_ready c.requires c.listed.ensures _ _ _ _ c.in_ok-all.was)

pub parts-returns-in_err-body : goal.parts-returns-in_err-body
parts-returns-in_err-body t c =
    let p = err_from_is_err_and c.from_residual-in_err-body.result c.from_residual-in_err-body.ensures.1 in
    rw (p.1, p.2) (body_refused c.requires c.listed.ensures _ _ _ _ c.in_ok-all.was c.child.ensures _ c.in_err-body.was)

pub parts-overflow_add-result : goal.parts-overflow_add-result
parts-overflow_add-result t c =
    omega (arith, body_read c.requires c.listed.ensures _ _ _ _ c.in_ok-all.was c.child.ensures _ _ _ _ c.in_ok-body.was)

pub parts-overflow_add-result-2 : goal.parts-overflow_add-result-2
parts-overflow_add-result-2 t c =
    omega (
      arith,
      listed_short c.requires c.listed.ensures _ _ _ _ c.in_ok-all.was,
      body_short c.requires c.listed.ensures _ _ _ _ c.in_ok-all.was c.child.ensures _ _ _ _ c.in_ok-body.was,
      c.requires.ready.longest,
    )

pub parts-returns : goal.parts-returns
parts-returns t c = parts_walk c.requires c.listed.ensures _ _ _ _ c.in_ok-all.was c.child.ensures _ _ _ _ c.in_ok-body.was

-- `listed`

pub listed-helpers-requires : goal.listed-helpers-requires
listed-helpers-requires t c = (omega arith, helpers_ready c.requires)

pub listed-returns-in_err-all : goal.listed-returns-in_err-all
listed-returns-in_err-all t c =
    let p = err_from_is_err_and c.from_residual.result c.from_residual.ensures.1 in
    rw (p.1, p.2) (list_refused c.requires c.helpers.ensures _ c.in_err-all.was)

pub listed-overflow_add-result : goal.listed-overflow_add-result
listed-overflow_add-result t c = let x = listed_sums c.requires c.helpers.ensures _ _ _ _ c.in_ok-all.was in omega (arith, x.0)

pub listed-overflow_add-result-2 : goal.listed-overflow_add-result-2
listed-overflow_add-result-2 t c = let x = listed_sums c.requires c.helpers.ensures _ _ _ _ c.in_ok-all.was in omega (arith, x.1)

pub listed-returns : goal.listed-returns
listed-returns t c = listed_done c.requires c.helpers.ensures _ _ _ _ c.in_ok-all.was

-- `helpers`

pub helpers-loop-init : goal.helpers-loop-init
helpers-loop-init t c = turns_start c.requires

pub helpers-overflow_sub-free : goal.helpers-overflow_sub-free
helpers-overflow_sub-free t c = turn_low c.loop.invariant c.loop-test.true

pub helpers-slice_bounds-child-count : goal.helpers-slice_bounds-child-count
helpers-slice_bounds-child-count t c = omega (arith, turn_low c.loop.invariant c.loop-test.true, wide c.loop.invariant c.loop-test.true)

pub helpers-slice_bounds-child-start : goal.helpers-slice_bounds-child-start
helpers-slice_bounds-child-start t c = omega (arith, turn_low c.loop.invariant c.loop-test.true, wide c.loop.invariant c.loop-test.true)

pub helpers-child-requires : goal.helpers-child-requires
helpers-child-requires t c = (omega arith, turn_ready c.loop.invariant c.loop-test.true)

pub helpers-returns-in_err-one : goal.helpers-returns-in_err-one
helpers-returns-in_err-one t c =
    let p = err_from_is_err_and c.from_residual.result c.from_residual.ensures.1 in
    rw (p.1, p.2) (turn_refused c.loop.invariant c.loop-test.true c.child.ensures _ c.in_err-one.was)

pub helpers-overflow_add-at : goal.helpers-overflow_add-at
helpers-overflow_add-at t c =
    let x = turn_on c.loop.invariant c.loop-test.true c.child.ensures _ _ _ _ c.in_ok-one.was in omega (arith, x.read, x.asked.ready.below)

pub helpers-overflow_add-to : goal.helpers-overflow_add-to
helpers-overflow_add-to t c =
    let x = turn_on c.loop.invariant c.loop-test.true c.child.ensures _ _ _ _ c.in_ok-one.was in omega (arith, x.place, x.out.fits)

pub helpers-loop-preserved : goal.helpers-loop-preserved
helpers-loop-preserved t c = turn_on c.loop.invariant c.loop-test.true c.child.ensures _ _ _ _ c.in_ok-one.was

pub helpers-overflow_sub-result : goal.helpers-overflow_sub-result
helpers-overflow_sub-result t c = omega (arith, c.loop.invariant.place)

pub helpers-returns : goal.helpers-returns
helpers-returns t c = turns_end c.loop.invariant c.loop-test.false

-- `child`

pub child-returns-in_err-s : goal.child-returns-in_err-s
child-returns-in_err-s t c =
    let p = err_from_is_err_and c.from_residual.result c.from_residual.ensures.1 in
    rw (p.1, p.2) (child_refused c.requires c.by_args.ensures c.by_rule.ensures _ c.in_err-s.was)

pub child-counted-requires : goal.child-counted-requires
child-counted-requires t c = child_sumable c.requires c.by_args.ensures c.by_rule.ensures _ _ _ c.in_ok-s.was

pub child-returns : goal.child-returns
child-returns t c = child_counted c.requires c.by_args.ensures c.by_rule.ensures _ _ _ c.in_ok-s.was c.counted.ensures

-- `by_rule`

pub by_rule-either-requires : goal.by_rule-either-requires
by_rule-either-requires t c = ready_at Bodyform _ c.in-Bodyform.is refl c.requires

pub by_rule-args_helperform-requires : goal.by_rule-args_helperform-requires
by_rule-args_helperform-requires t c = (omega arith, ready_at Helperform true c.in-Helperform.is c.if-owning.true c.requires)

pub by_rule-in_helperform-requires : goal.by_rule-in_helperform-requires
by_rule-in_helperform-requires t c = (omega arith, ready_at Helperform false c.in-Helperform.is c.if-owning.false c.requires)

pub by_rule-args_compileform-requires : goal.by_rule-args_compileform-requires
by_rule-args_compileform-requires t c = (omega arith, ready_at Compileform true c.in-Compileform.is c.if-owning-2.true c.requires)

pub by_rule-in_compileform-requires : goal.by_rule-in_compileform-requires
by_rule-in_compileform-requires t c = (omega arith, ready_at Compileform false c.in-Compileform.is c.if-owning-2.false c.requires)

pub by_rule-returns-in-Bodyform : goal.by_rule-returns-in-Bodyform
by_rule-returns-in-Bodyform t c = walks_at Bodyform _ c.in-Bodyform.is refl c.either.ensures

pub by_rule-returns-then-owning : goal.by_rule-returns-then-owning
by_rule-returns-then-owning t c = walks_at Helperform true c.in-Helperform.is c.if-owning.true c.args_helperform.ensures

pub by_rule-returns-else-owning : goal.by_rule-returns-else-owning
by_rule-returns-else-owning t c = walks_at Helperform false c.in-Helperform.is c.if-owning.false c.in_helperform.ensures

pub by_rule-returns-then-owning-2 : goal.by_rule-returns-then-owning-2
by_rule-returns-then-owning-2 t c = walks_at Compileform true c.in-Compileform.is c.if-owning-2.true c.args_compileform.ensures

pub by_rule-returns-else-owning-2 : goal.by_rule-returns-else-owning-2
by_rule-returns-else-owning-2 t c = walks_at Compileform false c.in-Compileform.is c.if-owning-2.false c.in_compileform.ensures
