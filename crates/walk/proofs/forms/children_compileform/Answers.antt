-- `crate::forms::children_compileform` meets its contract. Assumes nothing.
use Rattle.walk.proofs.FormParts.{children_opens, form_counted}
use Rattle.walk.proofs.Opening.{opened_within, opened, closed}
use Rattle.walk.proofs.WayLaws.{own_fresh}
use Rattle.walk.proofs.forms.children_compileform.Goals as goal

pub overflow_sub-v : goal.overflow_sub-v
overflow_sub-v c = let p = c.requires in form_counted c.args.t c.form_view-v.ensures p.tree p.good p.there

pub after-requires : goal.after-requires
after-requires c =
    let p = c.requires in
    let o = children_opens c.args.t c.form_view-v.ensures p.tree p.good p.there in
    record { fresh = own_fresh; within = opened_within p o; ready = opened p o }

pub returns : goal.returns
returns c =
    let p = c.requires in
    let o = children_opens c.args.t c.form_view-v.ensures p.tree p.good p.there in
    closed p o c.after.ensures
