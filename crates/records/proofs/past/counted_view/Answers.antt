-- `crate::past::counted_view` meets its contract. Assumes nothing.
use native.Mathlib.Omega.{arith}
use Rattle.records.proofs.Views.{sees_none, sees_counted}
use Rattle.records.proofs.FieldEnds.{counted_short, counted_past}
use Rattle.records.proofs.past.counted_view.Goals as goal

pub returns-then-end-at : goal.returns-then-end-at
returns-then-end-at c =
    record { sees_counted = sees_none _ _ (omega arith) (omega arith); past = counted_short _ _ (omega arith) (omega arith) }

pub returns-then-end-start : goal.returns-then-end-start
returns-then-end-start c =
    record { sees_counted = sees_none _ _ (omega arith) (omega arith); past = counted_short _ _ (omega arith) (omega arith) }

pub returns : goal.returns
returns c =
    record { sees_counted = sees_counted _ _ c.number-n.ensures.value (omega arith); past = counted_past _ _ c.number-n.ensures.value (omega arith) }
