-- `ordering::sort::toposort` meets its contract. The invariant: as many turns as `rounds` are done, and each placed something.
use mathlib.Core.Path.{◌≡◌}
use mathlib.Core.List.{List}
use Prim.Native.Nat.{ℕ, ◌-◌, ◌≤◌, ◌<◌}
use lib.ListN.{length, get_or}
use Rattle.ordering.specs.Items.{Item}
use Rattle.ordering.specs.Needs.{NeedsAt}
use Rattle.ordering.proofs.Turned.{Turned}
use Rattle.ordering.proofs.sort.toposort.Given as goal

abbrev pub invariant-loop-placed : goal.invariant-loop-placed
invariant-loop-placed l =
    (length l.row ≡ length l.initial.row) × (l.placed ≤ length l.row) × (l.rounds ≤ l.placed) × ((k : ℕ) → k < length l.row → get_or l.row k 0 < length l.row)
    × ((bs : List Item) → length bs ≡ length l.initial.row → NeedsAt bs l.needs l.starts → Turned bs l.rounds l.row l.placed)

abbrev pub decreases-loop-placed : goal.decreases-loop-placed
decreases-loop-placed l = length l.initial.row - l.placed
