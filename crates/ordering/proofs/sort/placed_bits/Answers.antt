-- `ordering::sort::placed_bits` meets its contract: as many indices as are placed are read, each one of the row. Assumes nothing.
use mathlib.Core.Path.{◌≡◌, sym}
use native.Mathlib.Omega.{arith}
use Prim.Native.Nat.{ℕ, ◌≤◌, ◌<◌}
use mathlib.Core.List.{List}
use lib.ListN.{length, take, get_or}
use lib.Seq.{get_or-take, length-take-le}
use Rattle.ordering.proofs.Bits.{bits_next, bits_marks_none}
use Rattle.ordering.proofs.sort.placed_bits.Goals as goal

below : (row : List ℕ) (placed k : ℕ) → placed ≤ length row → k < length (take placed row) → k < length row
below row placed k le lt = omega (arith, length-take-le placed row le)

read : (row : List ℕ) (placed k : ℕ) → placed ≤ length row → k < length (take placed row) → get_or (take placed row) k 0 ≡ get_or row k 0
read row placed k le lt = get_or-take placed row k 0 (omega (arith, length-take-le placed row le))

pub loop-i-init : goal.loop-i-init
loop-i-init c = sym (bits_marks_none (length c.args.row.now))

pub overflow_shl-bits : goal.overflow_shl-bits
overflow_shl-bits c =
    let p = c.requires in
    let lt = below c.args.row.now c.args.placed c.loop-i.i-index p.row_len_bound.1 (omega arith) in
    omega (arith, read c.args.row.now c.args.placed c.loop-i.i-index p.row_len_bound.1 (omega arith), p.indices_below c.loop-i.i-index lt, p.row_len_bound.0)

pub loop-i-preserved : goal.loop-i-preserved
loop-i-preserved c =
    let p = c.requires in
    let row = c.args.row.now in
    let k = c.loop-i.i-index in
    let lt = below row c.args.placed k p.row_len_bound.1 (omega arith) in
    rw (read row c.args.placed k p.row_len_bound.1 (omega arith), c.loop-i.invariant) (bits_next row k p.row_len_bound.0 lt (p.indices_below k lt))

pub returns : goal.returns
returns c =
    let e : c.loop-i.i-index ≡ c.args.placed = omega (arith, length-take-le c.args.placed c.args.row.now c.requires.row_len_bound.1) in
    rw (← e) c.loop-i.invariant
