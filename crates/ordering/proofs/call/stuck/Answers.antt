-- `ordering::call::stuck` meets its contract. Assumes nothing.
use native.Mathlib.Omega.{arith}
use Prim.Native.Nat.{◌-◌}
use lib.ListN.{take, drop, length-drop}
use lib.Seq.{length-take-le}
use Rattle.ordering.proofs.OrderLaws.{stuck_written}
use Rattle.ordering.proofs.call.stuck.Goals as goal

pub returns : goal.returns
returns c =
    let o = c.args.o in
    rw c.refusing.ensures
    (stuck_written (take (o.count - o.placed) (drop o.placed o.row)) (length-take-le (o.count - o.placed) (drop o.placed o.row) (omega (arith, length-drop o.placed o.row, c.requires.0, c.requires.1))) c.put.ensures)
