-- `names::refusals::placeless` meets its contract. Assumes nothing.
use Rattle.names.proofs.refusals.placeless.Goals as goal

pub returns : goal.returns
returns c = rw (c.refusing.ensures, c.place_at.ensures)
