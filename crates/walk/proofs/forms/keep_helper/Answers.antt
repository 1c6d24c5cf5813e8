-- `crate::forms::keep_helper` meets its contract. Assumes nothing.
use native.Mathlib.Omega.{arith}
use Rattle.walk.proofs.HelperKeeps.{keeps_helper, helper_room}
use Rattle.walk.proofs.forms.keep_helper.Goals as goal

pub keep-requires : goal.keep-requires
keep-requires c =
    let p = c.requires.1 in
    (omega (arith, c.skip-n.ensures.skips p.tree p.good.valid p.there, p.below), omega (arith, helper_room p))

pub returns : goal.returns
returns c = keeps_helper c.requires.1 c.skip-n.ensures c.keep.ensures
