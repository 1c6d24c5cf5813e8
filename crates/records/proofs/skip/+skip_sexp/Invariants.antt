-- `crate::skip::skip_sexp` meets its contract. What falls is the length. Assumes nothing.
use lib.ListN.{length}
use Rattle.records.proofs.skip.+skip_sexp.Given as goal

abbrev pub decreases-skip_sexp : goal.decreases-skip_sexp
decreases-skip_sexp l = length l.s.now
