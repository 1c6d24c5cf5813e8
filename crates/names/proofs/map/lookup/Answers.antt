-- `names::map::lookup` meets its contract. The invariant: the entries before `at` are none of the name's.
-- Assumes nothing.
use mathlib.Core.Path.{refl}
use native.Mathlib.Nat.{add-sub_cancel_left}
use native.Mathlib.Omega.{arith}
use Rattle.names.proofs.Maps.{renamed_some, renamed_none, searched_all, entries, entry_hit, entry_miss, from_map, from_name}
use Rattle.names.proofs.map.lookup.Goals as goal

pub number-requires-in-loop-at : goal.number-requires-in-loop-at
number-requires-in-loop-at c =
    let p = c.requires in
    let v = entries c.loop-at.invariant.1 c.loop-at-test.true c.number.ensures.value refl in
    omega (arith, (v p.0 p.1.is).fits)

pub slice_bounds-same-end : goal.slice_bounds-same-end
slice_bounds-same-end c =
    let p = c.requires in
    let n = c.number-in-loop-at.ensures.value in
    let v = entries c.loop-at.invariant.1 c.loop-at-test.true c.number.ensures.value n in
    omega (arith, (v p.0 p.1.is).fits)

pub slice_bounds-result-end : goal.slice_bounds-result-end
slice_bounds-result-end c =
    let p = c.requires in
    let n = c.number-in-loop-at.ensures.value in
    let v = entries c.loop-at.invariant.1 c.loop-at-test.true c.number.ensures.value n in
    omega (arith, (v p.0 p.1.is).fits)

pub returns-then-same-clause-result_value : goal.returns-then-same-clause-result_value
returns-then-same-clause-result_value c =
    let n = c.number-in-loop-at.ensures.value in
    let v = entries c.loop-at.invariant.1 c.loop-at-test.true c.number.ensures.value n in
    λ m e. rw add-sub_cancel_left (renamed_some m _ (entry_hit (v m e) c.same.ensures c.if-same.true).finds)

pub returns-then-same-clause-origin : goal.returns-then-same-clause-origin
returns-then-same-clause-origin c =
    let n = c.number-in-loop-at.ensures.value in
    let v = entries c.loop-at.invariant.1 c.loop-at-test.true c.number.ensures.value n in
    λ m e. from_map _ _ _ (entry_hit (v m e) c.same.ensures c.if-same.true) (v m e).fits refl (rw add-sub_cancel_left)

pub loop-at-preserved : goal.loop-at-preserved
loop-at-preserved c =
    let p = c.requires in
    let n = c.number-in-loop-at.ensures.value in
    let v = entries c.loop-at.invariant.1 c.loop-at-test.true c.number.ensures.value n in
    (omega (arith, (v p.0 p.1.is).fits), λ m e. entry_miss (v m e) c.same.ensures c.if-same.false)

pub returns-clause-result_value : goal.returns-clause-result_value
returns-clause-result_value c = λ m e. renamed_none m _ (searched_all (c.loop-at.invariant.1 m e) c.loop-at-test.false)

pub returns-clause-origin : goal.returns-clause-origin
returns-clause-origin c = λ m e. from_name _ _ (searched_all (c.loop-at.invariant.1 m e) c.loop-at-test.false)
