-- The B, BB, H and CF records of `crate::skip`: every member of the cycle meets its contract. What falls is the length of the bytes that are left. Assumes nothing.
use native.Mathlib.Omega.{arith}
use borrow.Author.Rules.{rules}
use mathlib.Core.Path.{refl}
use Rattle.records.specs.Parts.{family_part}
use Rattle.records.proofs.Marks.{body_placed, no_body, helper_placed, no_helper}
use Rattle.records.proofs.MarkedLaws.{BodyOf, HelperOf, family_long}
use Rattle.records.proofs.Parts.{left_step, left_none}
use Rattle.records.proofs.SkipLaws.{skips_short, body_skips, helper_skips, many_past, no_tail_past, tail_past, let_ends, sexp_skips, call_ends, mod_ends, lambda_ends, binding_ends, constant_ends, macro_ends, function_ends, namespace_ends, reference_ends, form_ends}
use Rattle.records.proofs.skip.+skipping.Goals as goal

pub after-loop-init : goal.after-loop-init
after-loop-init t c = (omega arith, omega arith, λ ts v a. record { rest = ts; count = omega (arith, v.0); fit = v.1; there = a; ends = refl })

pub after-loop-preserved : goal.after-loop-preserved
after-loop-preserved t c =
    let e = c.past_record-end.ensures in
    (omega arith, e.within, λ ts v a. left_step (c.loop.invariant.2 ts v a) (omega arith) e)

pub after-returns : goal.after-returns
after-returns t c =
    let h = c.loop.invariant in
    record { within = h.1; onward = h.0; past = λ ts v a. left_none (h.2 ts v a) (omega arith) }

pub binding-returns : goal.binding-returns
binding-returns t c = record {
  within = omega arith;
  skips = binding_ends (omega arith) c.past_bytes.ensures.past c.past_bytes-pattern.ensures.past c.past_pattern.ensures c.past_record.ensures;
}

pub body-returns-in-Some-Let : goal.body-returns-in-Some-Let
unfolding BodyOf
body-returns-in-Some-Let t c =
    body_skips (omega arith) (body_placed c.in-Some-Let.field-0-is c.in-Some-Let.ensures)
    (let_ends (omega arith) c.past_bytes.ensures.past c.past_bytes-keyword.ensures.past c.past_keyword.ensures c.past_hint-counted.ensures c.many.ensures c.past_record.ensures)

pub body-returns-in-Some-Quoted : goal.body-returns-in-Some-Quoted
body-returns-in-Some-Quoted t c = sexp_skips (omega arith) c.past_sexp-in-Some-Quoted.ensures (search rules)

pub body-returns-in-Some-Call : goal.body-returns-in-Some-Call
unfolding BodyOf
body-returns-in-Some-Call t c =
    body_skips (omega arith) (body_placed c.in-Some-Call.field-0-is c.in-Some-Call.ensures)
    (call_ends (omega arith) c.past_bytes-at.ensures.past c.many-in-Some-Call.ensures c.tail.ensures)

pub body-returns-in-Some-Mod : goal.body-returns-in-Some-Mod
unfolding BodyOf
body-returns-in-Some-Mod t c =
    body_skips (omega arith) (body_placed c.in-Some-Mod.field-0-is c.in-Some-Mod.ensures)
    (mod_ends (omega arith) c.past_bytes-at.ensures.past c.past_record-in-Some-Mod.ensures)

pub body-returns-in-Some-Lambda : goal.body-returns-in-Some-Lambda
unfolding BodyOf
body-returns-in-Some-Lambda t c =
    body_skips (omega arith) (body_placed c.in-Some-Lambda.field-0-is c.in-Some-Lambda.ensures)
    (lambda_ends (omega arith) c.past_bytes-at.ensures.past c.past_keyword-in-Some-Lambda.ensures c.past_sexp-captures.ensures c.past_record-args.ensures c.past_sexp.ensures c.past_record-in-Some-Lambda.ensures)

pub body-returns-in-None : goal.body-returns-in-None
unfolding BodyOf
body-returns-in-None t c = body_skips (omega arith) (no_body _ c.in-None.ensures) tt

pub form-returns : goal.form-returns
form-returns t c = record {
  within = omega arith;
  skips = form_ends (omega arith) c.past_bytes.ensures.past c.past_raw-args.ensures c.past_sexp.ensures c.many-helpers.ensures c.past_record.ensures;
}

pub helper-returns-in-Some-Constant : goal.helper-returns-in-Some-Constant
unfolding HelperOf
helper-returns-in-Some-Constant t c =
    helper_skips (omega arith) (helper_placed c.in-Some-Constant.field-0-is c.in-Some-Constant.ensures)
    (constant_ends (omega arith) c.past_bytes-at.ensures.past c.past_named.ensures c.past_record.ensures)

pub helper-returns-in-Some-Macro : goal.helper-returns-in-Some-Macro
unfolding HelperOf
helper-returns-in-Some-Macro t c =
    helper_skips (omega arith) (helper_placed c.in-Some-Macro.field-0-is c.in-Some-Macro.ensures)
    (macro_ends (omega arith) c.past_bytes-at.ensures.past c.past_named-in-Some-Macro.ensures c.past_sexp.ensures c.past_record-in-Some-Macro.ensures)

pub helper-returns-in-Some-Function : goal.helper-returns-in-Some-Function
unfolding HelperOf
helper-returns-in-Some-Function t c =
    helper_skips (omega arith) (helper_placed c.in-Some-Function.field-0-is c.in-Some-Function.ensures)
    (function_ends (omega arith) c.past_bytes-at.ensures.past c.past_bytes.ensures.past c.past_named-args.ensures c.past_sexp-in-Some-Function.ensures c.past_record-in-Some-Function.ensures)

pub helper-returns-in-Some-Namespace : goal.helper-returns-in-Some-Namespace
unfolding HelperOf
helper-returns-in-Some-Namespace t c =
    helper_skips (omega arith) (helper_placed c.in-Some-Namespace.field-0-is c.in-Some-Namespace.ensures)
    (namespace_ends (omega arith) c.past_bytes-at.ensures.past c.past_named-in-Some-Namespace.ensures c.many.ensures)

pub helper-returns-in-Some-Reference : goal.helper-returns-in-Some-Reference
unfolding HelperOf
helper-returns-in-Some-Reference t c =
    helper_skips (omega arith) (helper_placed c.in-Some-Reference.field-0-is c.in-Some-Reference.ensures)
    (reference_ends (omega arith) c.past_bytes-at.ensures.past c.past_named-in-Some-Reference.ensures)

pub helper-returns-in-None : goal.helper-returns-in-None
unfolding HelperOf
helper-returns-in-None t c = helper_skips (omega arith) (no_helper _ c.in-None.ensures) tt

pub many-returns : goal.many-returns
many-returns t c = many_past (family_part c.args.family) c.byte_at-n.ensures c.past_bytes.ensures.past c.after.ensures

pub skip-returns-then-s-lt-MARK_WIDTH : goal.skip-returns-then-s-lt-MARK_WIDTH
skip-returns-then-s-lt-MARK_WIDTH t c = skips_short (family_long c.args.family) c.if-s-lt-MARK_WIDTH.true

pub tail-returns-then-v-eq0 : goal.tail-returns-then-v-eq0
tail-returns-then-v-eq0 t c = no_tail_past c.tagged_view-v.ensures c.if-v-eq0.true

pub tail-returns : goal.tail-returns
tail-returns t c = tail_past c.tagged_view-v.ensures c.if-v-eq0.false c.past_record.ensures
