-- `ordering::assign::find_names` meets its contract. The invariant: what is found after j bindings. Assumes nothing.
use mathlib.Core.List.{List}
use mathlib.Core.Path.{◌≡◌}
use Prim.Native.Nat.{◌≤◌}
use lib.ListN.{length}
use Rattle.records.specs.Records.{Binding}
use Rattle.ordering.specs.Assign.{Bound}
use Rattle.ordering.specs.Listed.{SameRoom}
use Rattle.ordering.proofs.Bound.{Found}
use Rattle.ordering.proofs.assign.find_names.Given as goal

abbrev pub invariant-loop-body : goal.invariant-loop-body
invariant-loop-body l =
    (l.body-index ≤ length l.bodies) × SameRoom l.initial.listed l.listed × (length l.bodies ≡ length l.initial.bodies) × ((bs : List Binding) → Bound l.s l.first (length l.initial.bodies) bs → Found l.s l.listed l.bodies l.at l.body-index bs)
