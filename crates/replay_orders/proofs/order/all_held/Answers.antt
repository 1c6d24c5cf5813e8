-- `replay_orders::order::all_held` meets its contract. Assumes nothing.
use Rattle.std.proofs.Common.{rules}
use Rattle.std.proofs.lemmas.Iterator.{cases_from_all, YieldsList-from_slice}
use Rattle.replay_orders.specs.Orders.{Somewhere}
use Rattle.replays.proofs.Deciding.{decides_only, decides_false}
use Rattle.replay_orders.proofs.OrderLaws.{decides_held}
use Rattle.replay_orders.proofs.order.all_held.Goals as goal

pub returns : goal.returns
returns c =
    let s = c.args in
    decides_held c.all.result s.bytes.now s.list.now
    (cases_from_all _ _ _ (λ x. Somewhere x s.list.now) (λ x. Somewhere x s.list.now → ⊥) c.all.ensures.ran (YieldsList-from_slice s.bytes.now cc)
    (λ x q k. search (rules, decides_only)) (λ x q k. search (rules, decides_false)))
