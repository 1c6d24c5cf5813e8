-- `names::bytes::compare` meets its contract. The invariant: the names have one length, and their last `ending` bytes are alike.
use Rattle.names.proofs.Compare.{Alike}
use Rattle.names.proofs.bytes.compare.Given as goal

abbrev pub invariant-loop-ending : goal.invariant-loop-ending
invariant-loop-ending l = Alike l.a l.b l.ending
