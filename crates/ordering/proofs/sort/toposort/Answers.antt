-- `ordering::sort::toposort` meets its contract. The invariant: as many turns as `rounds` are done, and each placed something.
-- Assumes nothing.
use mathlib.Core.Path.{◌≡◌, refl}
use native.Mathlib.Omega.{arith}
use lib.ListN.{length}
use Rattle.ordering.proofs.Turned.{none_turned, all_placed, none_placed, some_placed}
use Rattle.ordering.proofs.Rows.{count_below}
use Rattle.ordering.proofs.sort.toposort.Goals as goal

pub loop-placed-init : goal.loop-placed-init
loop-placed-init c =
    let r = c.rising in
    let n = length c.args.row.now in (
      refl,
      omega arith,
      omega arith,
      rw r.ensures (count_below n),
      λ bs size at.
          let e : n ≡ length bs = omega arith in
          rw (r.ensures, e) (none_turned bs),
    )

pub placed_bits-done-requires : goal.placed_bits-done-requires
placed_bits-done-requires c = record { row_len_bound = (omega arith, omega arith); indices_below = c.loop-placed.invariant.3 }

pub turn-next-requires : goal.turn-next-requires
turn-next-requires c =
    let l = c.loop-placed in
    let e : length l.row ≡ length c.args.row.now = omega arith in
    record { starts = (rw e c.requires, omega arith); indices_below = l.invariant.3 }

pub returns-then-next-placed : goal.returns-then-next-placed
returns-then-next-placed c =
    let t = c.turn-next in
    let l = c.loop-placed in
    record {
      placed_in_bounds = (omega arith, omega arith);
      indices_below = t.ensures.indices_below_2;
      sorts_items = λ bs size at.
          none_placed bs (l.invariant.4 bs (omega arith) at) (omega arith) (omega arith) (omega arith)
          (t.ensures.takes_turn bs (record { size = omega arith; at = at; marked = c.placed_bits-done.ensures })) c.if-next-placed.true;
    }

pub loop-placed-preserved : goal.loop-placed-preserved
loop-placed-preserved c =
    let t = c.turn-next in
    let l = c.loop-placed in (
      omega arith,
      omega arith,
      omega arith,
      t.ensures.indices_below_2,
      λ bs size at.
          some_placed bs (l.invariant.4 bs size at) (omega arith) (omega arith) (omega arith)
          (t.ensures.takes_turn bs (record { size = omega arith; at = at; marked = c.placed_bits-done.ensures })) c.if-next-placed.false,
    )

pub returns : goal.returns
returns c =
    let l = c.loop-placed in record { placed_in_bounds = (omega arith, omega arith); indices_below = l.invariant.3; sorts_items = λ bs size at. all_placed bs (l.invariant.4 bs (omega arith) at) (omega arith) (omega arith) }
