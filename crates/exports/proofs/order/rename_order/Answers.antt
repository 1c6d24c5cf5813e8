-- `exports::order::rename_order` meets its contract. Assumes nothing.
use Rattle.exports.proofs.ToldAnswers.{handed, told_is}
use Rattle.exports.proofs.order.rename_order.Goals as goal

pub returns : goal.returns
returns c = record {
  hands = handed c.order_call-a.ensures.res_after c.tell.ensures;
  order_means = rw (told_is _ c.tell.ensures) c.order_call-a.ensures.order_means;
}
