-- `walk::places::binding_starts` meets its contract. The invariant: the places that are written. Assumes nothing.
use lib.ListN.{length}
use Rattle.walk.proofs.StartsLaws.{Started}
use Rattle.walk.proofs.places.binding_starts.Given as goal

abbrev pub invariant-loop-i : goal.invariant-loop-i
invariant-loop-i l = Started l.s l.first (length l.initial.starts) l.starts l.i
