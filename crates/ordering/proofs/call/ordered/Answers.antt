-- `ordering::call::ordered` meets its contract. Assumes nothing.
use mathlib.Core.Path.{◌≡◌, sym}
use native.Mathlib.Omega.{arith}
use lib.ListN.{length, take}
use lib.Seq.{length-take-le}
use Rattle.ordering.proofs.OrderLaws.{order_written}
use Rattle.ordering.proofs.call.ordered.Goals as goal

pub slice_bounds-put-end : goal.slice_bounds-put-end
slice_bounds-put-end c = sym (length-take-le _ _ (omega (arith, c.requires.0, c.requires.1)))

pub put-requires : goal.put-requires
put-requires c =
    let size : length (take c.args.o.count c.args.o.row) ≡ c.args.o.count = length-take-le _ _ (omega (arith, c.requires.0, c.requires.1)) in
    omega (arith, size, c.requires.2)

pub returns : goal.returns
returns c =
    let size : length (take c.args.o.count c.args.o.row) ≡ c.args.o.count = length-take-le _ _ (omega (arith, c.requires.0, c.requires.1)) in
    rw c.accepted.ensures (order_written _ size c.put.ensures)
