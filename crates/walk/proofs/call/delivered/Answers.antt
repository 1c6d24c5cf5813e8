-- `crate::call::delivered` meets its contract. Assumes nothing.
use lib.Seq.{length-take-le}
use mathlib.Core.Path.{sym, ◌∙◌}
use native.Mathlib.Omega.{arith}
use Rattle.names.proofs.CallAnswers.{delivered_short, delivered_fits}
use Rattle.names.proofs.Segments.{filled_written}
use Rattle.walk.proofs.call.delivered.Goals as goal

pub returns-then-res-len : goal.returns-then-res-len
returns-then-res-len c =
    c.refused.ensures _ ∙ rw c.placeless.ensures (sym (delivered_short _ _ _ _ (omega (arith, length-take-le _ c.args.made.now c.requires, c.if-res-len.true))))

pub returns : goal.returns
returns c =
    let l = length-take-le c.args.s.written c.args.made.now c.requires in
    rw c.accepted.ensures (sym (delivered_fits _ _ _ _ (omega (arith, l, c.if-res-len.false)) ∙ rw (l, ← filled_written c.put.ensures)))
