-- `crate::bodies::quote_view` meets its contract. Assumes nothing.
use Rattle.records.proofs.Views.{sees_quote, sees_value}
use Rattle.records.proofs.bodies.quote_view.Goals as goal

pub returns : goal.returns
returns c =
    record { sees_quote = sees_quote c.past_bytes.ensures.past; sees_value = sees_value c.past_bytes.ensures.past }
