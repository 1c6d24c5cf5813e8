-- `outline::page::put_line` meets its contract. Assumes nothing.
use mathlib.Core.Path.{◌≡◌}
use native.Mathlib.Omega.{arith}
use Rattle.outline.specs.Page.{line_width}
use Rattle.outline.proofs.Drawn.{drawn_more, drawn_whole}
use Rattle.outline.proofs.page.put_line.Goals as goal

pub loop-i-preserved : goal.loop-i-preserved
loop-i-preserved c =
    drawn_more c.requires c.label-name.ensures c.loop-i.invariant c.loop-i-test.true c.character.ensures

pub returns : goal.returns
returns c =
    let e : c.loop-i.i ≡ line_width = omega arith in
    drawn_whole c.requires c.label-name.ensures (rw e at c.loop-i.invariant)
