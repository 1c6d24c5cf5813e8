-- `crate::call::rename` meets its contract. Assumes nothing.
use mathlib.Core.Path.{refl, sym, ◌∙◌}
use native.Mathlib.Omega.{arith}
use lib.ListN.{length}
use Rattle.walk.proofs.RenameLaws.{Taken, taken, call_refused, copies, call_ready, walked_long, walked_within, walked_answers, walked_refuses}
use Rattle.walk.proofs.call.rename.Goals as goal
use Rattle.walk.proofs.call.rename.Goals.{In-Ok}

-- the record that is accepted
accepted : (c : In-Ok) → Taken c.args.call c.args.input.now c.args.f (length c.args.work.now) c.args.counter
accepted c = taken c.args.call c.args.f _ c.args.counter c.args.input.now c.wanted.ensures c.in-Ok.ensures (λ i. omega (arith, c.type_inv.input i)) refl

pub put-requires : goal.put-requires
put-requires c = omega (arith, copies _ c.args.work.now (accepted (goal.at.put-requires c).In-Ok))

pub walk-requires : goal.walk-requires
walk-requires c = call_ready _ _ (accepted (goal.at.walk-requires c).In-Ok) c.put.ensures

pub slice_bounds-delivered-count : goal.slice_bounds-delivered-count
slice_bounds-delivered-count c = walked_long _ _ (accepted (goal.at.slice_bounds-delivered-count c).In-Ok) c.put.ensures c.walk.ensures

pub slice_bounds-delivered-start : goal.slice_bounds-delivered-start
slice_bounds-delivered-start c = omega (arith, walked_long _ _ (accepted (goal.at.slice_bounds-delivered-start c).In-Ok) c.put.ensures c.walk.ensures)

pub delivered-requires : goal.delivered-requires
delivered-requires c = walked_within _ _ (accepted (goal.at.delivered-requires c).In-Ok) c.put.ensures c.walk.ensures _ _ _ c.in-Ok-walk.is

pub returns-in-Err : goal.returns-in-Err
returns-in-Err c =
    let s = c.args in
    c.refused.ensures _ ∙ sym (call_refused s.call s.f (length s.work.now) s.counter s.input.now c.wanted.ensures c.in-Err.ensures _ _ refl)

pub returns-in-Err-walk : goal.returns-in-Err-walk
returns-in-Err-walk c =
    c.refused-in-Err-walk.ensures _ ∙ walked_refuses _ _ (accepted (goal.at.returns-in-Err-walk c).In-Ok) c.put.ensures c.walk.ensures _ c.in-Err-walk.is _

pub returns-in-Ok-walk : goal.returns-in-Ok-walk
returns-in-Ok-walk c = c.delivered.ensures ∙ walked_answers _ _ (accepted (goal.at.returns-in-Ok-walk c).In-Ok) c.put.ensures c.walk.ensures _ _ _ c.in-Ok-walk.is _
