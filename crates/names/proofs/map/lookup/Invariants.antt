-- `names::map::lookup` meets its contract. The invariant: the entries before `at` are none of the name's.
use mathlib.Core.Path.{◌≡◌}
use Prim.Native.Nat.{◌-◌, ◌≤◌}
use lib.ListN.{length}
use Rattle.names.specs.Maps.{NameMap, map_bytes}
use Rattle.names.proofs.Maps.{Searched}
use Rattle.names.proofs.map.lookup.Given as goal

abbrev pub invariant-loop-at : goal.invariant-loop-at
invariant-loop-at l = (l.at ≤ length l.map) × ((m : NameMap) → l.map ≡ map_bytes m → Searched l.map l.at m l.name)

abbrev pub decreases-loop-at : goal.decreases-loop-at
decreases-loop-at l = length l.map - l.at
