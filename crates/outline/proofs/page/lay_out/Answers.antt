-- `outline::page::lay_out` meets its contract. Assumes nothing.
use mathlib.Core.Path.{◌≡◌}
use native.Mathlib.Omega.{arith}
use Rattle.outline.proofs.PageLaws.{index_fits, record_at, record_inside, page_whole, record_asks, record_written}
use Rattle.outline.proofs.page.lay_out.Goals as goal

pub entry_at-requires : goal.entry_at-requires
entry_at-requires c = omega (arith, index_fits c.requires.indexed)

pub slice_bounds-put_line-count : goal.slice_bounds-put_line-count
slice_bounds-put_line-count c =
    let p = c.requires in
    record_inside (record_at p.indexed p.short c.loop-k-test.true c.entry_at.ensures)

pub slice_bounds-put_line-start : goal.slice_bounds-put_line-start
slice_bounds-put_line-start c =
    let p = c.requires in
    omega (arith, record_inside (record_at p.indexed p.short c.loop-k-test.true c.entry_at.ensures))

pub put_line-requires : goal.put_line-requires
put_line-requires c =
    let p = c.requires in
    let r = record_at p.indexed p.short c.loop-k-test.true c.entry_at.ensures in
    record_asks r c.loop-k.out p.short (omega arith)

pub loop-k-preserved : goal.loop-k-preserved
loop-k-preserved c f i =
    let r = record_at i c.requires.short c.loop-k-test.true c.entry_at.ensures in
    record_written r (c.loop-k.invariant f i) (omega arith) c.put_line.ensures

pub returns : goal.returns
returns c f i =
    let e : c.loop-k.k ≡ c.args.n = omega arith in
    page_whole i (rw e at (c.loop-k.invariant f i))
