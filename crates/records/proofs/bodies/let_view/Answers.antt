-- `crate::bodies::let_view` meets its contract. Assumes nothing.
use Rattle.records.proofs.Views.{sees_let}
use Rattle.records.proofs.bodies.let_view.Goals as goal

pub returns : goal.returns
returns c =
    sees_let
    c.from-kind.ensures
    c.past_bytes-at.ensures.past
    c.byte_at.ensures
    c.past_bytes-loc.ensures.past
    c.past_bytes-keyword.ensures.past
    c.past_keyword-hint.ensures
    c.past_hint-counted.ensures
    c.byte_at-count.ensures
    c.past_bytes-first.ensures.past
