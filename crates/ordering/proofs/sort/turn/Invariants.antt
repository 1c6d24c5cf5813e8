-- `ordering::sort::turn` meets its contract. The invariants: what the turn makes of the row from `p` on is still what it is to make of it all;
-- the binding is ready where its needs from `k` on are met. Assumes nothing.
use mathlib.Core.Path.{◌≡◌}
use mathlib.Core.List.{List}
use Prim.Native.Nat.{◌+◌, ◌-◌, ◌≤◌, ◌<◌}
use lib.ListN.{length, get_or, take}
use Rattle.ordering.specs.Items.{Item, ready}
use Rattle.ordering.specs.Needs.{TurnStart}
use Rattle.ordering.proofs.Pass.{Passed}
use Rattle.ordering.proofs.Search.{met_from}
use Rattle.ordering.proofs.sort.turn.Given as goal

abbrev pub invariant-loop-k : goal.invariant-loop-k
invariant-loop-k l =
    (l.p ≡ l.initial.p) × (l.i < length l.row) × (get_or l.starts l.i 0 ≤ l.k) × (l.k-end ≤ length l.needs) × (l.k-end ≡ get_or l.starts (l.i + 1) 0)
    × ((bs : List Item) → TurnStart bs l.needs l.starts l.row l.placed l.done → ready bs (take l.placed l.row) l.i ≡ met_from bs (take l.placed l.row) l.i (l.k - get_or l.starts l.i 0))

abbrev pub invariant-positions : goal.invariant-positions
invariant-positions l = Passed l.needs l.starts l.initial.row l.placed l.done l.row l.left l.p
