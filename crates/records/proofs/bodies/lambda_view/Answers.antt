-- `crate::bodies::lambda_view` meets its contract. Assumes nothing.
use Rattle.records.proofs.Views.{sees_lambda}
use Rattle.records.proofs.bodies.lambda_view.Goals as goal

pub returns : goal.returns
returns c =
    sees_lambda
    c.past_head-keyword.ensures
    c.past_keyword-capture_args.ensures
    c.past_sexp-captures.ensures
    c.past_record-args.ensures
    c.past_sexp-body.ensures
