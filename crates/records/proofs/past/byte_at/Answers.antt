-- `crate::past::byte_at` meets its contract. Assumes nothing.
use native.Mathlib.Omega.{arith}
use mathlib.Core.Path.{sym}
use lib.ListN.{get_or-eq_default}
use Rattle.records.proofs.past.byte_at.Goals as goal

pub returns-then-at-s : goal.returns-then-at-s
returns-then-at-s c = let a = c.args in sym (get_or-eq_default a.s.now 0 {n = a.at} (omega arith))
