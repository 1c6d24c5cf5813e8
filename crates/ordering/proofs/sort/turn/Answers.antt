-- `ordering::sort::turn` meets its contract. The invariants: what the turn makes of the row from `p` on is still what it is to make of it all;
-- the binding is ready where its needs from `k` on are met. Assumes nothing.
use mathlib.Core.Path.{refl, ◌∙◌}
use native.Mathlib.Nat.{sub_self}
use native.Mathlib.Omega.{arith}
use Prim.Native.Nat.{◌+◌, ◌<◌}
use lib.ListN.{length, get_or}
use Rattle.ordering.proofs.Pass.{begins, stays, places, ends}
use Rattle.ordering.proofs.Search.{none_seen, not_met, one_met, all_met}
use Rattle.ordering.proofs.sort.turn.Goals as goal

pub positions-init : goal.positions-init
positions-init c = begins _ _ _ _ _ c.requires.starts.1 c.requires.indices_below

pub loop-k-init : goal.loop-k-init
loop-k-init c =
    let w = c.positions in
    let i = get_or w.row w.p 0 in
    let s = c.requires.starts.0 in
    let lt : i < length w.row = w.invariant.below w.p (omega arith) in
    rw c.from-at.ensures (refl, lt, omega arith, s.within (i + 1) (omega arith), refl, λ bs g. simp sub_self (none_seen bs _ i))

pub positions-preserved-then-needs-k-eq0 : goal.positions-preserved-then-needs-k-eq0
positions-preserved-then-needs-k-eq0 c =
    let l = c.loop-k in
    let w = c.positions in
    rw l.invariant.0
    (stays _ _ _ _ _ w.invariant (omega arith)
    (λ bs g. l.invariant.5 bs g ∙ not_met g (get_or w.row w.p 0) l.k (omega (arith, g.size)) (omega arith) (omega arith) c.if-needs-k-eq0.true))

pub loop-k-preserved : goal.loop-k-preserved
loop-k-preserved c =
    let l = c.loop-k in
    let w = c.positions in (
      l.invariant.0,
      l.invariant.1,
      omega arith,
      l.invariant.3,
      l.invariant.4,
      λ bs g. l.invariant.5 bs g ∙ one_met g (get_or w.row w.p 0) l.k (omega (arith, g.size)) (omega arith) (omega arith) c.if-needs-k-eq0.false,
    )

pub positions-preserved : goal.positions-preserved
positions-preserved c =
    let l = c.loop-k in
    let w = c.positions in
    rw l.invariant.0
    (places _ _ _ _ _ w.invariant (omega arith)
    (λ bs g. l.invariant.5 bs g ∙ all_met g (get_or w.row w.p 0) l.k (omega (arith, g.size)) (omega arith) (omega arith)))

pub returns : goal.returns
returns c =
    let w = c.positions in record { lower_bound = (omega arith, omega arith); indices_below_2 = w.invariant.below; takes_turn = ends _ _ _ _ _ w.invariant (omega arith) }
