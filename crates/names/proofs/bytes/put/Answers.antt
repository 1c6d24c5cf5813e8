-- `names::bytes::put` meets its contract. Assumes nothing.
use mathlib.Core.Path.{◌≡◌, refl}
use native.Mathlib.Omega.{arith}
use lib.ListN.{length}
use Rattle.names.proofs.Frames.{filled_none, filled_more}
use Rattle.names.proofs.bytes.put.Goals as goal

pub loop-i-init : goal.loop-i-init
loop-i-init c = (omega arith, filled_none)

pub loop-i-preserved : goal.loop-i-preserved
loop-i-preserved c =
    let f = c.loop-i.invariant.1 in
    (omega arith, filled_more _ f (omega (arith, f.frame.size)) (omega arith) refl)

pub shape_of-out : goal.shape_of-out
shape_of-out c = c.loop-i.invariant.1.frame.size

pub returns : goal.returns
returns c =
    let l = c.loop-i in
    let e : l.i ≡ length c.args.src.now = omega arith in
    rw (← e) l.invariant.1
