-- `crate::invent::invent_new_names_sexp` meets its contract. What falls is the depth that is left. Assumes nothing.
use Rattle.walk.proofs.invent.+invent_new_names_sexp.Given as goal

abbrev pub decreases-invent_new_names_sexp : goal.decreases-invent_new_names_sexp
decreases-invent_new_names_sexp l = l.depth
