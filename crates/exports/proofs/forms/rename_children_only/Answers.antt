-- `exports::forms::rename_children_only` meets its contract. Assumes nothing.
use Rattle.walk.specs.Assigns.{AssignsOrdered}
use Rattle.walk.specs.Calls.{children_visits}
use Rattle.exports.proofs.ToldAnswers.{handed, told_refusal}
use Rattle.exports.proofs.forms.rename_children_only.Goals as goal

pub returns : goal.returns
returns c = record {
  hands = handed c.children_only-a.ensures.res_after c.tell.ensures;
  assigns_ordered = told_refusal (AssignsOrdered _ (children_visits _ _ _ _)) _ c.tell.ensures c.children_only-a.ensures.assigns_ordered;
}
