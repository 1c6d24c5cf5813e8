-- `commands::order::told` is safe and ends: in an input that is accepted an assign stands. Assumes nothing.
use mathlib.Core.List.{[]}
use native.Mathlib.Omega.{arith}
use Rattle.ordering.proofs.OrderLaws.{call_taken}
use Rattle.commands.proofs.order.told.Goals as goal

pub names-requires : goal.names-requires
names-requires g c =
    let s = c.args in
    let t = call_taken s.f _ _ s.s.now [] (λ i. omega (arith, c.type_inv.s i)) c.in-Ok.ensures in
    record { s_len_bound = t.6.size; fact = (t.0, t.1, t.2, t.3, t.4, t.5, t.6.let_there) }
