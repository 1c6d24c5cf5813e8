-- Bytes in a list, and a result that is that of a case, part by part. Assumes nothing.
use mathlib.Core.Bool.{Bool, true, false}
use native.Mathlib.Omega.{arith}
use Prim.Native.Nat.{ℕ, ◌<◌}
use lib.ListN.{length}
use Rattle.std.specs.Bool.{MatchBool}
use Rattle.std.specs.List.{AllWithin, HoldsAt}
use Rattle.names.specs.Names.{Bytes}
use Rattle.replays.proofs.Deciding.{decides_no, decides_yes}
use Rattle.replays.specs.Judging.{Decides}
use Rattle.replay_orders.specs.Orders.{AllHeld, Somewhere}

-- what a test of each byte decides
pub decides_held : (r : Bool) (xs list : Bytes) → MatchBool r (AllWithin (λ x. Somewhere x list) xs 0 (length xs)) ((k : ℕ) × (k < length xs) × HoldsAt (λ x. Somewhere x list → ⊥) xs k)
    → Decides r (AllHeld xs list)
decides_held true xs list h = decides_yes (λ k lt. h k 0 (omega arith) lt)
decides_held false xs list h = decides_no (λ a. h.2 0 (a h.0 h.1))
