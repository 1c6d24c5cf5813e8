-- `ordering::call::order_call` meets its contract. Assumes nothing.
use mathlib.Core.Path.{sym, ◌∙◌}
use native.Mathlib.Omega.{arith}
use Rattle.ordering.proofs.OrderAnswers.{answer_means}
use Rattle.ordering.proofs.OrderLaws.{call_refused, call_taken}
use Rattle.ordering.proofs.call.order_call.Goals as goal

pub order_of-requires : goal.order_of-requires
order_of-requires c =
    let t = call_taken _ _ _ _ c.args.res.now (λ i. omega (arith, c.type_inv.input i)) c.in-Ok.ensures in
    record { s_len_bound = t.6.size; some_let = (t.0, t.1, t.2, t.3, t.4, t.5, t.6.let_there) }

pub returns-in-Err : goal.returns-in-Err
returns-in-Err c =
    let m = answer_means _ _ _ _ _ (λ i. omega (arith, c.type_inv.input i)) (c.refused.ensures _ ∙ sym (call_refused _ _ _ _ _ _ c.in-Err.ensures)) in
    record { res_after = m.0; order_means = m.1 }

pub returns-in-Ok : goal.returns-in-Ok
returns-in-Ok c =
    let t = call_taken _ _ _ _ _ (λ i. omega (arith, c.type_inv.input i)) c.in-Ok.ensures in
    let m = answer_means _ _ _ _ _ (λ i. omega (arith, c.type_inv.input i)) (c.order_of.ensures t.0 t.1 t.2 t.3 t.4 t.5 t.6.let_there ∙ sym t.6.is) in
    record { res_after = m.0; order_means = m.1 }
