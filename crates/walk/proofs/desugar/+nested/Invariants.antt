-- `crate::desugar::nested` meets its contract. What falls is the number of bindings left. Assumes nothing.
use Rattle.walk.proofs.desugar.+nested.Given as goal

abbrev pub decreases-nested : goal.decreases-nested
decreases-nested l = l.left
