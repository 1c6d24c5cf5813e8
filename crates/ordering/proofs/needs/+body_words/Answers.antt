-- `ordering::needs::body_needs`, and what it is made of, meet their contracts: the names of bodies and bindings. What falls is the length
-- left. Assumes nothing.
use native.Mathlib.Omega.{arith}
use borrow.Author.Rules.{rules}
use Rattle.names.specs.Names.{ascii}
use Rattle.records.proofs.Marks.{body_placed}
use Rattle.ordering.proofs.Bodies.{binding_reaches, let_reaches, call_reaches, tail_reaches, lambda_reaches, quote_reaches, value_reaches, body_lists, skip_lists}
use Rattle.ordering.proofs.Several.{goes_first, goes_more, goes_end}
use Rattle.ordering.proofs.Sexps.{reaches_none, reaches_part, lists_reaches}
use Rattle.ordering.proofs.needs.+body_words.Goals as goal

pub binding_needs-returns : goal.binding_needs-returns
binding_needs-returns t c = binding_reaches c.past_head.ensures c.past_bytes-pattern.ensures.past c.pattern_needs-body.ensures c.child.ensures

pub body_needs-returns-in-Some-Let : goal.body_needs-returns-in-Some-Let
body_needs-returns-in-Some-Let t c = body_lists (body_placed c.in-Some-Let.field-0-is c.in-Some-Let.ensures) c.let_needs.ensures

pub body_needs-returns-in-Some-Quoted : goal.body_needs-returns-in-Some-Quoted
unfolding ascii
body_needs-returns-in-Some-Quoted t c = body_lists (body_placed c.in-Some-Quoted.field-0-is c.in-Some-Quoted.ensures) (quote_reaches c.past_bytes.ensures.past c.word.ensures c.child_sexp.ensures)

pub body_needs-returns-in-Some-Value : goal.body_needs-returns-in-Some-Value
body_needs-returns-in-Some-Value t c = body_lists (body_placed c.in-Some-Value.field-0-is c.in-Some-Value.ensures) (value_reaches c.past_bytes-in-Some-Value.ensures.past c.child_sexp-in-Some-Value.ensures)

pub body_needs-returns-in-Some-Call : goal.body_needs-returns-in-Some-Call
body_needs-returns-in-Some-Call t c = body_lists (body_placed c.in-Some-Call.field-0-is c.in-Some-Call.ensures) c.call_needs.ensures

pub body_needs-returns-in-Some-Lambda : goal.body_needs-returns-in-Some-Lambda
body_needs-returns-in-Some-Lambda t c = body_lists (body_placed c.in-Some-Lambda.field-0-is c.in-Some-Lambda.ensures) c.lambda_needs.ensures

pub body_needs-returns-in-Some-Mod : goal.body_needs-returns-in-Some-Mod
body_needs-returns-in-Some-Mod t c = skip_lists (search rules) c.skip.ensures

pub call_needs-returns-then-t-eq0 : goal.call_needs-returns-then-t-eq0
call_needs-returns-then-t-eq0 t c = call_reaches c.call_view-v.ensures c.times-tail.ensures c.tagged_view-t.ensures c.if-t-eq0.true

pub call_needs-returns : goal.call_needs-returns
unfolding ascii
call_needs-returns t c = tail_reaches c.call_view-v.ensures c.times-tail.ensures c.tagged_view-t.ensures c.if-t-eq0.false c.word.ensures c.child.ensures

pub child-returns-then-at-eq0 : goal.child-returns-then-at-eq0
child-returns-then-at-eq0 t c = reaches_none c.if-at-eq0.true

pub child-returns : goal.child-returns
child-returns t c = reaches_part c.requires c.member_needs.ensures

pub lambda_needs-returns : goal.lambda_needs-returns
unfolding ascii
lambda_needs-returns t c = lambda_reaches c.lambda_view-v.ensures c.word.ensures c.capture_needs.ensures.room c.capture_needs.ensures.lists_captured c.child_sexp-body.ensures c.child.ensures

pub let_needs-returns : goal.let_needs-returns
let_needs-returns t c = let_reaches c.let_view-v.ensures c.let_word.ensures c.times-body.ensures c.child.ensures

pub member_needs-returns-then-binding : goal.member_needs-returns-then-binding
member_needs-returns-then-binding t c = rw c.if-binding.true c.binding_needs.ensures

pub member_needs-returns-else-binding : goal.member_needs-returns-else-binding
member_needs-returns-else-binding t c = rw c.if-binding.false (lists_reaches c.body_needs.ensures)

pub times-loop-init : goal.times-loop-init
times-loop-init t c = goes_first c.requires

pub times-loop-preserved : goal.times-loop-preserved
times-loop-preserved t c = goes_more (omega arith) c.child-at.ensures c.loop.invariant

pub times-returns : goal.times-returns
times-returns t c = goes_end (omega arith) c.loop.invariant
