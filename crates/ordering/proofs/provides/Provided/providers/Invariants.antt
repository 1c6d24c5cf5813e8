-- `ordering::provides::Provided::providers` meets its contract. The invariant: `bits` and `found` are what the entries from k on come to. Assumes nothing.
use Rattle.ordering.proofs.Provided.{From}
use Rattle.ordering.proofs.provides.Provided.providers.Given as goal

abbrev pub invariant-loop-k : goal.invariant-loop-k
invariant-loop-k l = From l.self.bytes.now l.name l.self.entries.now l.bits l.found l.k
