-- `crate::helpers::form_view` meets its contract. Assumes nothing.
use Rattle.records.proofs.Views.{sees_form}
use Rattle.records.proofs.helpers.form_view.Goals as goal

pub returns : goal.returns
returns c =
    sees_form
    c.past_head-raw.ensures
    c.past_raw-args.ensures
    c.past_sexp-counted.ensures
    c.byte_at-count.ensures
    c.past_bytes-first.ensures.past
