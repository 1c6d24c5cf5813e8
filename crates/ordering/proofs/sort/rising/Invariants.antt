-- `ordering::sort::rising` meets its contract. The invariant: each index below `i` stands at its place.
use mathlib.Core.Path.{◌≡◌}
use Prim.Native.Nat.{ℕ, ◌<◌}
use lib.ListN.{length, get_or}
use Rattle.ordering.proofs.sort.rising.Given as goal

abbrev pub invariant-loop-i : goal.invariant-loop-i
invariant-loop-i l = (length l.row ≡ length l.initial.row) × ((k : ℕ) → k < l.i → get_or l.row k 0 ≡ k)
