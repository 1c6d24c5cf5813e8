-- `commands::counter::parse` meets its contract. The invariant: the counter comes of n and the bytes that are left.
use mathlib.Core.Path.{◌≡◌}
use Prim.Native.Nat.{◌^◌, ◌<◌}
use Rattle.commands.specs.Counters.{counter_of}
use Rattle.commands.proofs.Counters.{counter_from}
use Rattle.commands.proofs.counter.parse.Given as goal

abbrev pub invariant-loop-byte : goal.invariant-loop-byte
invariant-loop-byte l = (l.n < 2 ^ 64) × (counter_of l.text ≡ counter_from l.text l.n l.byte-index)
