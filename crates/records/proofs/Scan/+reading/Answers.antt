-- The reader of B, BB, H and CF records meets its contracts: each function by one law, for the refusals that it hands on and for what it reads. Assumes nothing.
use borrow.Author.Rules.{rules}
use mathlib.Core.Path.{refl, sym, ◌∙◌}
use native.Mathlib.Omega.{arith}
use Rattle.names.specs.Names.{ascii, same}
use Rattle.records.specs.declared.Family.TheVariants.{Body as a_Body, Binding as a_binding, Helper as a_helper, Form as a_form}
use Rattle.records.specs.Read.{let_after, call_after, mod_after, constant_after, macro_after, function_after, namespace_after, reference_after}
use Rattle.records.specs.ReadFields.{malformed, fault_reason, choose}
use Rattle.records.specs.Scan.{lambda_within}
use Rattle.records.proofs.Scans.{same_err, left_err, started}
use Rattle.records.proofs.Chains.{past, stop}
use Rattle.records.proofs.Goes.{goes_child, goes_child_stop, goes_many, loop_last, loop_more, goes_reads}
use Rattle.records.proofs.Marks.{body_placed, no_body, helper_placed, no_helper}
use Rattle.records.proofs.BodyLaws.{goes_unread, body_kind, body_sexp, body_unknown, body_deep, helper_kind, helper_unknown, helper_deep, form_kind, form_deep, form_unknown, binding_kind, binding_unknown}
use Rattle.records.proofs.KindLaws.{goes_call, tail_none, tail_there, goes_mod, goes_lambda, goes_no_lambda, goes_binding, goes_constant, goes_macro, goes_function, goes_namespace, goes_form, goes_let, goes_let_of, too_deep, levels}
use Rattle.records.proofs.Scan.+reading.Goals as goal

pub binding-returns-in_err-past_mark : goal.binding-returns-in_err-past_mark
binding-returns-in_err-past_mark t c = λ z. goes_unread a_binding (started z c.in_err-past_mark.ensures.reads) (left_err _ _ _ c.from_residual.ensures.1)

pub binding-returns-then-not-is_word : goal.binding-returns-then-not-is_word
unfolding ascii
binding-returns-then-not-is_word t c = λ z. binding_unknown (started z c.in_ok-past_mark.ensures.reads) (sym (rw c.in_ok-past_mark.ensures.reads.same at c.is_word.ensures) ∙ c.if-not-is_word.true) c.refused.ensures

pub binding-returns-in_err-loc : goal.binding-returns-in_err-loc
unfolding ascii
binding-returns-in_err-loc t c = λ z. binding_kind (started z c.in_ok-past_mark.ensures.reads) (sym (rw c.in_ok-past_mark.ensures.reads.same at c.is_word.ensures) ∙ c.if-not-is_word.false) (goes_binding (stop c.in_err-loc.ensures.reads (left_err _ _ _ c.from_residual-in_err-loc.ensures.1)))

pub binding-returns-in_err-loc-2 : goal.binding-returns-in_err-loc-2
unfolding ascii
binding-returns-in_err-loc-2 t c = λ z. binding_kind (started z c.in_ok-past_mark.ensures.reads) (sym (rw c.in_ok-past_mark.ensures.reads.same at c.is_word.ensures) ∙ c.if-not-is_word.false) (goes_binding (past c.in_ok-loc.ensures.reads (stop c.in_err-loc-2.ensures.reads (left_err _ _ _ c.from_residual-in_err-loc-2.ensures.1))))

pub binding-returns-in_err-pattern : goal.binding-returns-in_err-pattern
unfolding ascii
binding-returns-in_err-pattern t c = λ z. binding_kind (started z c.in_ok-past_mark.ensures.reads) (sym (rw c.in_ok-past_mark.ensures.reads.same at c.is_word.ensures) ∙ c.if-not-is_word.false) (goes_binding (past c.in_ok-loc.ensures.reads (past c.in_ok-loc-2.ensures.reads (stop c.in_err-pattern.ensures (left_err _ _ _ c.from_residual-in_err-pattern.ensures.1)))))

pub binding-returns : goal.binding-returns
unfolding ascii
binding-returns t c = λ z. binding_kind (started z c.in_ok-past_mark.ensures.reads) (sym (rw c.in_ok-past_mark.ensures.reads.same at c.is_word.ensures) ∙ c.if-not-is_word.false) (goes_binding (past c.in_ok-loc.ensures.reads (past c.in_ok-loc-2.ensures.reads (past c.in_ok-pattern.ensures c.child.ensures))))

pub body-returns-in_err-past_mark : goal.body-returns-in_err-past_mark
body-returns-in_err-past_mark t c = λ z. goes_unread a_Body (started z c.in_err-past_mark.ensures.reads) (left_err _ _ _ c.from_residual.ensures.1)

pub body-returns-in_default : goal.body-returns-in_default
body-returns-in_default t c = λ z. body_unknown (started z c.in_ok-past_mark.ensures.reads) (no_body _ (rw c.in_ok-past_mark.ensures.reads.same at c.in_default.ensures)) c.refused.ensures

pub body-returns-then-x-eq0 : goal.body-returns-then-x-eq0
body-returns-then-x-eq0 t c = λ z. body_deep (started z c.in_ok-past_mark.ensures.reads) c.if-x-eq0.true (rw c.in_ok-past_mark.ensures.reads.same at c.in-Some.ensures) c.refused-then-x-eq0.ensures

pub body-returns-in-Let : goal.body-returns-in-Let
unfolding choose same ascii
body-returns-in-Let t c = λ z. body_kind (started z c.in_ok-past_mark.ensures.reads) 0 let_after (λ _. refl) (body_placed c.in-Let.is (rw c.in_ok-past_mark.ensures.reads.same at c.in-Some.ensures)) (omega arith) c.if-x-eq0.false (rw c.down-y.ensures at c.let_form.ensures)

pub body-returns-in-Call : goal.body-returns-in-Call
unfolding choose same ascii
body-returns-in-Call t c = λ z. body_kind (started z c.in_ok-past_mark.ensures.reads) 3 call_after (λ _. refl) (body_placed c.in-Call.is (rw c.in_ok-past_mark.ensures.reads.same at c.in-Some.ensures)) (omega arith) c.if-x-eq0.false (rw c.down-y.ensures at c.call.ensures)

pub body-returns-in-Mod : goal.body-returns-in-Mod
unfolding choose same ascii
body-returns-in-Mod t c = λ z. body_kind (started z c.in_ok-past_mark.ensures.reads) 4 mod_after (λ _. refl) (body_placed c.in-Mod.is (rw c.in_ok-past_mark.ensures.reads.same at c.in-Some.ensures)) (omega arith) c.if-x-eq0.false (rw c.down-y.ensures at c.mod_form.ensures)

pub body-returns-in-Lambda : goal.body-returns-in-Lambda
unfolding choose same ascii
body-returns-in-Lambda t c = λ z. body_kind (started z c.in_ok-past_mark.ensures.reads) 5 lambda_within (λ _. refl) (body_placed c.in-Lambda.is (rw c.in_ok-past_mark.ensures.reads.same at c.in-Some.ensures)) (omega arith) c.if-x-eq0.false (rw c.down-y.ensures at c.lambda.ensures)

pub body-returns-in-Quoted : goal.body-returns-in-Quoted
body-returns-in-Quoted t c = λ z. body_sexp (started z c.in_ok-past_mark.ensures.reads) (search rules) c.if-x-eq0.false c.child_sexp.ensures.reads

pub call-returns-in_err-loc : goal.call-returns-in_err-loc
call-returns-in_err-loc t c = goes_call (stop c.in_err-loc.ensures.reads (left_err _ _ _ c.from_residual.ensures.1))

pub call-returns-in_err-many : goal.call-returns-in_err-many
call-returns-in_err-many t c = goes_call (past c.in_ok-loc.ensures.reads (stop c.in_err-many.ensures (left_err _ _ _ c.from_residual-in_err-many.ensures.1)))

pub call-returns : goal.call-returns
call-returns t c = goes_call (past c.in_ok-loc.ensures.reads (past c.in_ok-many.ensures c.tail.ensures))

pub child-returns-in_err-record : goal.child-returns-in_err-record
child-returns-in_err-record t c = rw (same_err c.from_residual.ensures.1) (goes_child_stop _ _ _ refl (c.in_err-record.ensures refl))

pub child-returns : goal.child-returns
child-returns t c = goes_child _ _ _ refl (c.in_ok-record.ensures refl) refl refl refl

pub constant-returns-in_err-loc : goal.constant-returns-in_err-loc
constant-returns-in_err-loc t c = goes_constant (stop c.in_err-loc.ensures.reads (left_err _ _ _ c.from_residual.ensures.1))

pub constant-returns-in_err-name : goal.constant-returns-in_err-name
constant-returns-in_err-name t c = goes_constant (past c.in_ok-loc.ensures.reads (stop c.in_err-name.ensures.reads (left_err _ _ _ c.from_residual-in_err-name.ensures.1)))

pub constant-returns-in_err-raw : goal.constant-returns-in_err-raw
constant-returns-in_err-raw t c =
    goes_constant (past c.in_ok-loc.ensures.reads (past c.in_ok-name.ensures.reads (stop c.in_err-raw.ensures.reads (left_err _ _ _ c.from_residual-in_err-raw.ensures.1))))

pub constant-returns : goal.constant-returns
constant-returns t c = goes_constant (past c.in_ok-loc.ensures.reads (past c.in_ok-name.ensures.reads (past c.in_ok-raw.ensures.reads c.child.ensures)))

pub form-returns-in_err-past_mark : goal.form-returns-in_err-past_mark
form-returns-in_err-past_mark t c = λ z. goes_unread a_form (started z c.in_err-past_mark.ensures.reads) (left_err _ _ _ c.from_residual.ensures.1)

pub form-returns-then-not-is_word : goal.form-returns-then-not-is_word
unfolding ascii
form-returns-then-not-is_word t c = λ z. form_unknown (started z c.in_ok-past_mark.ensures.reads) (sym (rw c.in_ok-past_mark.ensures.reads.same at c.is_word.ensures) ∙ c.if-not-is_word.true) c.refused.ensures

pub form-returns-then-x-eq0 : goal.form-returns-then-x-eq0
unfolding ascii
form-returns-then-x-eq0 t c = λ z. form_deep (started z c.in_ok-past_mark.ensures.reads) c.if-x-eq0.true (sym (rw c.in_ok-past_mark.ensures.reads.same at c.is_word.ensures) ∙ c.if-not-is_word.false) c.refused-then-x-eq0.ensures

pub form-returns-in_err-loc : goal.form-returns-in_err-loc
unfolding ascii
form-returns-in_err-loc t c = λ z. form_kind (started z c.in_ok-past_mark.ensures.reads) (sym (rw c.in_ok-past_mark.ensures.reads.same at c.is_word.ensures) ∙ c.if-not-is_word.false) c.if-x-eq0.false (goes_form (stop c.in_err-loc.ensures.reads (left_err _ _ _ c.from_residual-in_err-loc.ensures.1)))

pub form-returns-in_err-raw : goal.form-returns-in_err-raw
unfolding ascii
form-returns-in_err-raw t c = λ z. form_kind (started z c.in_ok-past_mark.ensures.reads) (sym (rw c.in_ok-past_mark.ensures.reads.same at c.is_word.ensures) ∙ c.if-not-is_word.false) c.if-x-eq0.false (goes_form (past c.in_ok-loc.ensures.reads (stop c.in_err-raw.ensures.reads (left_err _ _ _ c.from_residual-in_err-raw.ensures.1))))

pub form-returns-in_err-child_sexp : goal.form-returns-in_err-child_sexp
unfolding ascii
form-returns-in_err-child_sexp t c = λ z. form_kind (started z c.in_ok-past_mark.ensures.reads) (sym (rw c.in_ok-past_mark.ensures.reads.same at c.is_word.ensures) ∙ c.if-not-is_word.false) c.if-x-eq0.false (goes_form (past c.in_ok-loc.ensures.reads (past c.in_ok-raw.ensures.reads (stop c.in_err-child_sexp.ensures.reads (left_err _ _ _ c.from_residual-in_err-child_sexp.ensures.1)))))

pub form-returns-in_err-many : goal.form-returns-in_err-many
unfolding ascii
form-returns-in_err-many t c = λ z. form_kind (started z c.in_ok-past_mark.ensures.reads) (sym (rw c.in_ok-past_mark.ensures.reads.same at c.is_word.ensures) ∙ c.if-not-is_word.false) c.if-x-eq0.false (goes_form (past c.in_ok-loc.ensures.reads (past c.in_ok-raw.ensures.reads (past c.in_ok-child_sexp.ensures.reads (stop (rw c.down-y.ensures at c.in_err-many.ensures) (left_err _ _ _ c.from_residual-in_err-many.ensures.1))))))

pub form-returns : goal.form-returns
unfolding ascii
form-returns t c = λ z. form_kind (started z c.in_ok-past_mark.ensures.reads) (sym (rw c.in_ok-past_mark.ensures.reads.same at c.is_word.ensures) ∙ c.if-not-is_word.false) c.if-x-eq0.false (goes_form (past c.in_ok-loc.ensures.reads (past c.in_ok-raw.ensures.reads (past c.in_ok-child_sexp.ensures.reads (past (rw c.down-y.ensures at c.in_ok-many.ensures) ((rw c.down-y.ensures at c.child.ensures)))))))

pub function-returns-in_err-loc : goal.function-returns-in_err-loc
unfolding fault_reason
function-returns-in_err-loc t c = goes_function (stop c.in_err-loc.ensures.reads (left_err _ _ _ c.from_residual.ensures.1))

pub function-returns-in_err-at_most : goal.function-returns-in_err-at_most
unfolding fault_reason
function-returns-in_err-at_most t c = goes_function (past c.in_ok-loc.ensures.reads (stop (c.in_err-at_most.ensures.reads malformed refl) (left_err _ _ _ c.from_residual-in_err-at_most.ensures.1)))

pub function-returns-in_err-name : goal.function-returns-in_err-name
unfolding fault_reason
function-returns-in_err-name t c =
    goes_function (past c.in_ok-loc.ensures.reads (past (c.in_ok-at_most.ensures.reads malformed refl) (stop c.in_err-name.ensures.reads (left_err _ _ _ c.from_residual-in_err-name.ensures.1))))

pub function-returns-in_err-raw : goal.function-returns-in_err-raw
unfolding fault_reason
function-returns-in_err-raw t c =
    goes_function (past c.in_ok-loc.ensures.reads (past (c.in_ok-at_most.ensures.reads malformed refl) (past c.in_ok-name.ensures.reads (stop c.in_err-raw.ensures.reads (left_err _ _ _ c.from_residual-in_err-raw.ensures.1)))))

pub function-returns-in_err-child_sexp : goal.function-returns-in_err-child_sexp
unfolding fault_reason
function-returns-in_err-child_sexp t c =
    goes_function (past c.in_ok-loc.ensures.reads (past (c.in_ok-at_most.ensures.reads malformed refl) (past c.in_ok-name.ensures.reads (past c.in_ok-raw.ensures.reads (stop c.in_err-child_sexp.ensures.reads (left_err _ _ _ c.from_residual-in_err-child_sexp.ensures.1))))))

pub function-returns : goal.function-returns
unfolding fault_reason
function-returns t c =
    goes_function (past c.in_ok-loc.ensures.reads (past (c.in_ok-at_most.ensures.reads malformed refl) (past c.in_ok-name.ensures.reads (past c.in_ok-raw.ensures.reads (past c.in_ok-child_sexp.ensures.reads c.child.ensures)))))

pub helper-returns-in_err-past_mark : goal.helper-returns-in_err-past_mark
helper-returns-in_err-past_mark t c = λ z. goes_unread a_helper (started z c.in_err-past_mark.ensures.reads) (left_err _ _ _ c.from_residual.ensures.1)

pub helper-returns-in_default : goal.helper-returns-in_default
helper-returns-in_default t c = λ z. helper_unknown (started z c.in_ok-past_mark.ensures.reads) (no_helper _ (rw c.in_ok-past_mark.ensures.reads.same at c.in_default.ensures)) c.refused.ensures

pub helper-returns-then-x-eq0 : goal.helper-returns-then-x-eq0
helper-returns-then-x-eq0 t c = λ z. helper_deep (started z c.in_ok-past_mark.ensures.reads) c.if-x-eq0.true (rw c.in_ok-past_mark.ensures.reads.same at c.in-Some.ensures) c.refused-then-x-eq0.ensures

pub helper-returns-in-Constant : goal.helper-returns-in-Constant
unfolding choose same ascii
helper-returns-in-Constant t c = λ z. helper_kind (started z c.in_ok-past_mark.ensures.reads) 0 constant_after (λ _. refl) (helper_placed c.in-Constant.is (rw c.in_ok-past_mark.ensures.reads.same at c.in-Some.ensures)) (omega arith) c.if-x-eq0.false (rw c.down-y.ensures at c.constant.ensures)

pub helper-returns-in-Macro : goal.helper-returns-in-Macro
unfolding choose same ascii
helper-returns-in-Macro t c = λ z. helper_kind (started z c.in_ok-past_mark.ensures.reads) 1 macro_after (λ _. refl) (helper_placed c.in-Macro.is (rw c.in_ok-past_mark.ensures.reads.same at c.in-Some.ensures)) (omega arith) c.if-x-eq0.false (rw c.down-y.ensures at c.macro_form.ensures)

pub helper-returns-in-Function : goal.helper-returns-in-Function
unfolding choose same ascii
helper-returns-in-Function t c = λ z. helper_kind (started z c.in_ok-past_mark.ensures.reads) 2 function_after (λ _. refl) (helper_placed c.in-Function.is (rw c.in_ok-past_mark.ensures.reads.same at c.in-Some.ensures)) (omega arith) c.if-x-eq0.false (rw c.down-y.ensures at c.function.ensures)

pub helper-returns-in-Namespace : goal.helper-returns-in-Namespace
unfolding choose same ascii
helper-returns-in-Namespace t c = λ z. helper_kind (started z c.in_ok-past_mark.ensures.reads) 3 namespace_after (λ _. refl) (helper_placed c.in-Namespace.is (rw c.in_ok-past_mark.ensures.reads.same at c.in-Some.ensures)) (omega arith) c.if-x-eq0.false (rw c.down-y.ensures at c.namespace.ensures)

pub helper-returns-in-Reference : goal.helper-returns-in-Reference
unfolding choose same ascii
helper-returns-in-Reference t c = λ z. helper_kind (started z c.in_ok-past_mark.ensures.reads) 4 (λ _. reference_after) (λ _. refl) (helper_placed c.in-Reference.is (rw c.in_ok-past_mark.ensures.reads.same at c.in-Some.ensures)) (omega arith) c.if-x-eq0.false (goes_reads c.reference.ensures)

pub lambda-returns-then-x-eq0 : goal.lambda-returns-then-x-eq0
lambda-returns-then-x-eq0 t c = goes_no_lambda c.if-x-eq0.true c.refused.ensures refl

pub lambda-returns-in_err-loc : goal.lambda-returns-in_err-loc
lambda-returns-in_err-loc t c = goes_lambda c.if-x-eq0.false (stop c.in_err-loc.ensures.reads (left_err _ _ _ c.from_residual.ensures.1))

pub lambda-returns-in_err-keyword : goal.lambda-returns-in_err-keyword
lambda-returns-in_err-keyword t c = goes_lambda c.if-x-eq0.false (past c.in_ok-loc.ensures.reads (stop c.in_err-keyword.ensures.reads (left_err _ _ _ c.from_residual-in_err-keyword.ensures.1)))

pub lambda-returns-in_err-child_sexp : goal.lambda-returns-in_err-child_sexp
lambda-returns-in_err-child_sexp t c =
    goes_lambda c.if-x-eq0.false (past c.in_ok-loc.ensures.reads (past c.in_ok-keyword.ensures.reads (stop c.in_err-child_sexp.ensures.reads (left_err _ _ _ c.from_residual-in_err-child_sexp.ensures.1))))

pub lambda-returns-in_err-child : goal.lambda-returns-in_err-child
lambda-returns-in_err-child t c =
    goes_lambda c.if-x-eq0.false (past c.in_ok-loc.ensures.reads (past c.in_ok-keyword.ensures.reads (past c.in_ok-child_sexp.ensures.reads (stop c.in_err-child.ensures (left_err _ _ _ c.from_residual-in_err-child.ensures.1)))))

pub lambda-returns-in_err-child_sexp-2 : goal.lambda-returns-in_err-child_sexp-2
lambda-returns-in_err-child_sexp-2 t c =
    goes_lambda c.if-x-eq0.false (past c.in_ok-loc.ensures.reads (past c.in_ok-keyword.ensures.reads (past c.in_ok-child_sexp.ensures.reads (past c.in_ok-child.ensures (stop c.in_err-child_sexp-2.ensures.reads (left_err _ _ _ c.from_residual-in_err-child_sexp-2.ensures.1))))))

pub lambda-returns : goal.lambda-returns
lambda-returns t c =
    goes_lambda c.if-x-eq0.false (past c.in_ok-loc.ensures.reads (past c.in_ok-keyword.ensures.reads (past c.in_ok-child_sexp.ensures.reads (past c.in_ok-child.ensures (past c.in_ok-child_sexp-2.ensures.reads c.child-2.ensures)))))

pub let_after-returns-in_err-loc : goal.let_after-returns-in_err-loc
let_after-returns-in_err-loc t c = goes_let_of _ (stop c.in_err-loc.ensures.reads (left_err _ _ _ c.from_residual.ensures.1))

pub let_after-returns-in_err-keyword : goal.let_after-returns-in_err-keyword
let_after-returns-in_err-keyword t c = goes_let_of _ (past c.in_ok-loc.ensures.reads (stop c.in_err-keyword.ensures.reads (left_err _ _ _ c.from_residual-in_err-keyword.ensures.1)))

pub let_after-returns-in_err-hint : goal.let_after-returns-in_err-hint
let_after-returns-in_err-hint t c =
    goes_let_of _ (past c.in_ok-loc.ensures.reads (past c.in_ok-keyword.ensures.reads (stop c.in_err-hint.ensures.reads (left_err _ _ _ c.from_residual-in_err-hint.ensures.1))))

pub let_after-returns-in_err-n : goal.let_after-returns-in_err-n
let_after-returns-in_err-n t c =
    goes_let_of _ (past c.in_ok-loc.ensures.reads (past c.in_ok-keyword.ensures.reads (past c.in_ok-hint.ensures.reads (stop c.in_err-n.ensures.reads (left_err _ _ _ c.from_residual-in_err-n.ensures.1)))))

pub let_after-returns-then-x-more : goal.let_after-returns-then-x-more
let_after-returns-then-x-more t c =
    goes_let_of _ (past c.in_ok-loc.ensures.reads (past c.in_ok-keyword.ensures.reads (past c.in_ok-hint.ensures.reads (past c.in_ok-n.ensures.reads (too_deep _ (rw c.in_ok-n.ensures.byte at c.more_levels-more.ensures) c.if-x-more.true c.refused.ensures refl)))))

pub let_after-returns-in_err-times : goal.let_after-returns-in_err-times
let_after-returns-in_err-times t c =
    goes_let_of _ (past c.in_ok-loc.ensures.reads (past c.in_ok-keyword.ensures.reads (past c.in_ok-hint.ensures.reads (past c.in_ok-n.ensures.reads (levels _ (rw c.in_ok-n.ensures.byte at c.more_levels-more.ensures) c.if-x-more.false (stop (rw (c.among.ensures, c.down-y.ensures, c.in_ok-n.ensures.byte) at c.in_err-times.ensures) (left_err _ _ _ c.from_residual-in_err-times.ensures.1)))))))

pub let_after-returns : goal.let_after-returns
let_after-returns t c =
    goes_let_of _ (past c.in_ok-loc.ensures.reads (past c.in_ok-keyword.ensures.reads (past c.in_ok-hint.ensures.reads (past c.in_ok-n.ensures.reads (levels _ (rw c.in_ok-n.ensures.byte at c.more_levels-more.ensures) c.if-x-more.false (past (rw (c.among.ensures, c.down-y.ensures, c.in_ok-n.ensures.byte) at c.in_ok-times.ensures) (rw c.down-y.ensures at c.child.ensures)))))))

pub let_form-returns-in_err-byte : goal.let_form-returns-in_err-byte
unfolding fault_reason
let_form-returns-in_err-byte t c = goes_let (stop (c.in_err-byte.ensures.reads malformed refl) (left_err _ _ _ c.from_residual.ensures.1))

pub let_form-returns : goal.let_form-returns
unfolding fault_reason
let_form-returns t c = goes_let (past (c.in_ok-byte.ensures.reads malformed refl) (rw (c.from.ensures, c.in_ok-byte.ensures.byte) at c.let_after.ensures))

pub macro_form-returns-in_err-loc : goal.macro_form-returns-in_err-loc
macro_form-returns-in_err-loc t c = goes_macro (stop c.in_err-loc.ensures.reads (left_err _ _ _ c.from_residual.ensures.1))

pub macro_form-returns-in_err-name : goal.macro_form-returns-in_err-name
macro_form-returns-in_err-name t c = goes_macro (past c.in_ok-loc.ensures.reads (stop c.in_err-name.ensures.reads (left_err _ _ _ c.from_residual-in_err-name.ensures.1)))

pub macro_form-returns-in_err-raw : goal.macro_form-returns-in_err-raw
macro_form-returns-in_err-raw t c =
    goes_macro (past c.in_ok-loc.ensures.reads (past c.in_ok-name.ensures.reads (stop c.in_err-raw.ensures.reads (left_err _ _ _ c.from_residual-in_err-raw.ensures.1))))

pub macro_form-returns-in_err-child_sexp : goal.macro_form-returns-in_err-child_sexp
macro_form-returns-in_err-child_sexp t c =
    goes_macro (past c.in_ok-loc.ensures.reads (past c.in_ok-name.ensures.reads (past c.in_ok-raw.ensures.reads (stop c.in_err-child_sexp.ensures.reads (left_err _ _ _ c.from_residual-in_err-child_sexp.ensures.1)))))

pub macro_form-returns : goal.macro_form-returns
macro_form-returns t c = goes_macro (past c.in_ok-loc.ensures.reads (past c.in_ok-name.ensures.reads (past c.in_ok-raw.ensures.reads (past c.in_ok-child_sexp.ensures.reads c.child.ensures))))

pub many-returns-in_err-n : goal.many-returns-in_err-n
many-returns-in_err-n t c = goes_many _ (stop c.in_err-n.ensures.reads (left_err _ _ _ c.from_residual.ensures.1))

pub many-returns : goal.many-returns
many-returns t c = goes_many _ (past c.in_ok-n.ensures.reads (rw c.in_ok-n.ensures.byte at c.times.ensures))

pub mod_form-returns-in_err-loc : goal.mod_form-returns-in_err-loc
mod_form-returns-in_err-loc t c = goes_mod c.note.ensures (stop c.in_err-loc.ensures.reads (left_err _ _ _ c.from_residual.ensures.1))

pub mod_form-returns : goal.mod_form-returns
mod_form-returns t c = goes_mod c.note.ensures (past c.in_ok-loc.ensures.reads c.child.ensures)

pub namespace-returns-in_err-loc : goal.namespace-returns-in_err-loc
namespace-returns-in_err-loc t c = goes_namespace (stop c.in_err-loc.ensures.reads (left_err _ _ _ c.from_residual.ensures.1))

pub namespace-returns-in_err-name : goal.namespace-returns-in_err-name
namespace-returns-in_err-name t c = goes_namespace (past c.in_ok-loc.ensures.reads (stop c.in_err-name.ensures.reads (left_err _ _ _ c.from_residual-in_err-name.ensures.1)))

pub namespace-returns-in_err-raw : goal.namespace-returns-in_err-raw
namespace-returns-in_err-raw t c =
    goes_namespace (past c.in_ok-loc.ensures.reads (past c.in_ok-name.ensures.reads (stop c.in_err-raw.ensures.reads (left_err _ _ _ c.from_residual-in_err-raw.ensures.1))))

pub namespace-returns : goal.namespace-returns
namespace-returns t c = goes_namespace (past c.in_ok-loc.ensures.reads (past c.in_ok-name.ensures.reads (past c.in_ok-raw.ensures.reads c.many.ensures)))

pub tail-returns-in_err-at_most : goal.tail-returns-in_err-at_most
unfolding fault_reason
tail-returns-in_err-at_most t c = tail_none (stop (c.in_err-at_most.ensures.reads malformed refl) (left_err _ _ _ c.from_residual.ensures.1))

pub tail-returns-then-branch-eq0 : goal.tail-returns-then-branch-eq0
unfolding fault_reason
tail-returns-then-branch-eq0 t c = tail_none (past (c.in_ok-at_most.ensures.reads malformed refl) (rw c.in_ok-at_most.ensures.byte at c.if-branch-eq0.true, refl))

pub tail-returns : goal.tail-returns
unfolding fault_reason
tail-returns t c = tail_there (past (c.in_ok-at_most.ensures.reads malformed refl) (rw c.in_ok-at_most.ensures.byte at c.if-branch-eq0.false, c.child.ensures))

pub times-returns-in_err-child : goal.times-returns-in_err-child
times-returns-in_err-child t c = c.loop.invariant.goes _ (loop_more _ _ _ (omega arith) (stop c.in_err-child.ensures (left_err _ _ _ c.from_residual.ensures.1)))

pub times-loop-preserved : goal.times-loop-preserved
times-loop-preserved t c = record { same = c.in_ok-child.ensures.same ∙ c.loop.invariant.same; goes = λ r h. c.loop.invariant.goes r (loop_more _ _ _ (omega arith) (past c.in_ok-child.ensures h)) }

pub times-returns : goal.times-returns
times-returns t c = c.loop.invariant.goes _ (loop_last _ _ _ (omega arith))
