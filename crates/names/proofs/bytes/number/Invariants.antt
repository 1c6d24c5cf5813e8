-- `names::bytes::number` meets its contract. The invariant: n is the number of the bytes read.
use Rattle.std.proofs.Common.{◌≡◌, ◌^◌, ◌<◌, take, drop}
use Rattle.names.specs.Names.{number_of}
use Rattle.names.proofs.bytes.number.Given as goal

abbrev pub invariant-loop-byte : goal.invariant-loop-byte
invariant-loop-byte l = (l.n ≡ number_of (take l.byte-index (drop l.at l.s))) × (l.n < 256 ^ l.byte-index)
