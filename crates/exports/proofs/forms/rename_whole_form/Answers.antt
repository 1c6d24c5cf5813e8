-- `exports::forms::rename_whole_form` meets its contract. Assumes nothing.
use Rattle.walk.specs.Assigns.{AssignsOrdered}
use Rattle.walk.specs.Calls.{whole_visits}
use Rattle.exports.proofs.ToldAnswers.{handed, told_refusal}
use Rattle.exports.proofs.forms.rename_whole_form.Goals as goal

pub returns : goal.returns
returns c = record {
  hands = handed c.whole_form-a.ensures.res_after c.tell.ensures;
  assigns_ordered = told_refusal (AssignsOrdered _ (whole_visits _ _ _ _)) _ c.tell.ensures c.whole_form-a.ensures.assigns_ordered;
}
