-- `names::make::put_decimal` meets its contract. The invariant: the digits from i on are written.
use mathlib.Core.Path.{◌≡◌}
use mathlib.Core.List.{◌++◌}
use Prim.Native.Nat.{ℕ, ◌+◌, ◌≤◌, ◌<◌}
use lib.ListN.{length}
use Rattle.names.specs.Names.{Bytes, decimal}
use Rattle.names.proofs.Segments.{placed}
use Rattle.names.proofs.make.put_decimal.Given as goal

-- of the digits of n the tail is written from i on, and `left` has the others, if any
pub record Half (out₀ : Bytes) (at n : ℕ) (out : Bytes) (left i : ℕ) : Type 0 where
  pub tail : Bytes
  pub some : at < i → (decimal n ≡ decimal left ++ tail) × (i ≡ at + length (decimal left))
  pub none : i ≤ at → (decimal n ≡ tail) × (i ≡ at)
  pub size : length out ≡ length out₀
  pub is : out ≡ placed out₀ i tail

abbrev pub invariant-loop-i : goal.invariant-loop-i
invariant-loop-i l = Half l.initial.out l.at l.n l.out l.left l.i
