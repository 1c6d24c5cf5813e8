-- `crate::helpers::with_args` meets its contract. Assumes nothing.
use Rattle.records.proofs.Views.{past_args}
use Rattle.records.proofs.helpers.with_args.Goals as goal

pub returns : goal.returns
returns c = past_args c.named-v.ensures c.past_sexp-next.ensures
