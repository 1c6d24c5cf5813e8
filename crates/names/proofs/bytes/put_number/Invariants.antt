-- `names::bytes::put_number` meets its contract. The invariant: the bytes from i on are written.
use mathlib.Core.Path.{◌≡◌}
use mathlib.Core.List.{◌++◌}
use Prim.Native.Nat.{ℕ, ◌+◌, ◌-◌, ◌^◌, ◌≤◌, ◌<◌}
use lib.ListN.{length}
use Rattle.names.specs.Names.{Bytes, number_field}
use Rattle.names.proofs.Segments.{placed}
use Rattle.names.proofs.bytes.put_number.Given as goal

-- of the field of n the bytes from i on are written, and `left` has those before them
pub record Half (mem₀ : Bytes) (at width n : ℕ) (mem : Bytes) (left i : ℕ) : Type 0 where
  pub tail : Bytes
  pub within : (at ≤ i) × (i ≤ at + width)
  pub whole : number_field width n ≡ number_field (i - at) left ++ tail
  pub small : left < 256 ^ (i - at)
  pub size : length mem ≡ length mem₀
  pub is : mem ≡ placed mem₀ i tail

abbrev pub invariant-loop-i : goal.invariant-loop-i
invariant-loop-i l = Half l.initial.mem l.at l.width l.n l.mem l.left l.i
