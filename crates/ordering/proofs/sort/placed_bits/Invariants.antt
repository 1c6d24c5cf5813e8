-- `ordering::sort::placed_bits` meets its contract. The invariant: the bits of the indices read.
use mathlib.Core.Path.{◌≡◌}
use lib.ListN.{length, take}
use Rattle.ordering.specs.Needs.{bits, marks}
use Rattle.ordering.proofs.sort.placed_bits.Given as goal

abbrev pub invariant-loop-i : goal.invariant-loop-i
invariant-loop-i l = l.bits ≡ bits (marks (length l.row) (take l.i-index l.row))
