-- `exports::forms::rename_single_helper` meets its contract. Assumes nothing.
use Rattle.walk.specs.Assigns.{AssignsOrdered}
use Rattle.walk.specs.Calls.{helper_visits}
use Rattle.exports.proofs.ToldAnswers.{handed, told_refusal}
use Rattle.exports.proofs.forms.rename_single_helper.Goals as goal

pub returns : goal.returns
returns c = record {
  hands = handed c.single_helper-a.ensures.res_after c.tell.ensures;
  assigns_ordered = told_refusal (AssignsOrdered _ (helper_visits _ _ _ _)) _ c.tell.ensures c.single_helper-a.ensures.assigns_ordered;
}
