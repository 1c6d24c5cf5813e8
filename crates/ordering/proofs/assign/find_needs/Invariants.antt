-- `ordering::assign::find_needs` meets its contract. The invariant: what is collected after j bodies. Assumes nothing.
use mathlib.Core.List.{List}
use mathlib.Core.Path.{◌≡◌}
use lib.ListN.{length}
use Rattle.records.specs.Records.{Binding}
use Rattle.ordering.specs.Assign.{Collectable}
use Rattle.ordering.specs.Listed.{SameRoom}
use Rattle.ordering.proofs.Collected.{Collected}
use Rattle.ordering.proofs.assign.find_needs.Given as goal

abbrev pub invariant-loop-j : goal.invariant-loop-j
invariant-loop-j l =
    SameRoom l.initial.listed l.listed × (length l.starts ≡ length l.initial.starts) × ((bs : List Binding) → Collectable l.given l.bodies (length l.fn.needs) bs → Collected l.listed l.starts l.j bs)
