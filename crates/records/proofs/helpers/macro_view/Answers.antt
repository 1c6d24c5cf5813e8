-- `crate::helpers::macro_view` meets its contract. Assumes nothing.
use Rattle.records.proofs.Views.{sees_macro}
use Rattle.records.proofs.helpers.macro_view.Goals as goal

pub returns : goal.returns
returns c = sees_macro c.past_head.ensures c.with_args.ensures
