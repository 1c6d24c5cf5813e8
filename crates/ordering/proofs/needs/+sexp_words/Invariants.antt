-- `ordering::needs::sexp_needs` and `child_sexp` meet their contracts. What falls is the length left. Assumes nothing.
use Prim.Native.Nat.{◌+◌, ◌-◌, ◌*◌}
use lib.ListN.{length}
use Rattle.ordering.proofs.needs.+sexp_words.Given as goal

abbrev pub decreases-child_sexp : goal.decreases-child_sexp
decreases-child_sexp l = 2 * (length l.s.now - l.at) + 1

abbrev pub decreases-sexp_needs : goal.decreases-sexp_needs
decreases-sexp_needs l = 2 * length l.s.now
