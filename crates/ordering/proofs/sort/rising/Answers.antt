-- `ordering::sort::rising` meets its contract. The invariant: each index below `i` stands at its place.
-- Assumes nothing.
use mathlib.Core.Path.{◌≡◌, refl, sym, ◌∙◌}
use native.Mathlib.Omega.{arith}
use borrow.Author.Count.{below_none, below_more}
use lib.ListN.{length, get_or, set, length-set}
use lib.Seq.{ext_get_or, get_or-set_same, get_or-set_other}
use Rattle.ordering.specs.Items.{indices_from}
use Rattle.ordering.proofs.Rows.{length_count, count_at}
use Rattle.ordering.proofs.sort.rising.Goals as goal

pub loop-i-init : goal.loop-i-init
loop-i-init c = (refl, below_none _)

pub loop-i-preserved : goal.loop-i-preserved
loop-i-preserved c =
    let l = c.loop-i in (
      simp length-set l.invariant.0,
      below_more (λ k. get_or (set l.row l.i l.i) k 0 ≡ k) l.i
          (λ k h. get_or-set_other l.row l.i k l.i 0 (omega arith) ∙ l.invariant.1 k h)
          (get_or-set_same l.row l.i l.i 0 (omega arith)),
    )

pub shape_of-row : goal.shape_of-row
shape_of-row c = c.loop-i.invariant.0

pub returns : goal.returns
returns c =
    let l = c.loop-i in
    let n = length c.args.row.now in
    ext_get_or 0 l.row (indices_from 0 n) (l.invariant.0 ∙ sym (length_count 0 n))
    (λ k h. omega (arith, l.invariant.1 k (omega arith), count_at 0 n k (omega arith)))
