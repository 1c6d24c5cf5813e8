-- `walk::places::binding_starts` meets its contract. The invariant: the places that are written. Assumes nothing.
use mathlib.Core.Path.{◌∙◌}
use native.Mathlib.Omega.{arith}
use lib.ListN.{length-set}
use Rattle.walk.proofs.StartsLaws.{started, started_next, started_all}
use Rattle.walk.proofs.places.binding_starts.Goals as goal

pub loop-i-init : goal.loop-i-init
loop-i-init c = started c.args.starts.now c.requires.0 c.requires.1

pub loop-i-preserved : goal.loop-i-preserved
loop-i-preserved c = let l = c.loop-i in started_next l.invariant (omega (arith, l.invariant.size)) c.past_record.ensures

pub returns : goal.returns
returns c =
    let l = c.loop-i in
    λ bs v a n. started_all l.invariant (omega (arith, l.invariant.size)) bs v a (length-set c.args.starts.now 0 c.args.first ∙ n)
