-- The S records of `records::sexp`: `leading_sexp`, `pair` and `child_sexp` meet their contracts. What falls is the SC depth left. Assumes nothing.
use Prim.Native.Nat.{◌+◌, ◌*◌}
use Rattle.records.proofs.Scan.+sexps.Given as goal

abbrev pub decreases-child_sexp : goal.decreases-child_sexp
decreases-child_sexp l = 3 * l.depth + 1

abbrev pub decreases-leading_sexp : goal.decreases-leading_sexp
decreases-leading_sexp l = 3 * l.depth

abbrev pub decreases-pair : goal.decreases-pair
decreases-pair l = 3 * l.depth + 2
