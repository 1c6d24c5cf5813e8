-- `ordering::provides::sexp_names` meets its contract. What falls is the length of the bytes left. Assumes nothing.
use Prim.Native.Nat.{◌-◌}
use lib.ListN.{length}
use Rattle.ordering.proofs.provides.+sexp_names.Given as goal

abbrev pub decreases-sexp_names : goal.decreases-sexp_names
decreases-sexp_names l = length l.a.now - l.at
