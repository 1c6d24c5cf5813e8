-- `names::make::put_decimal` meets its contract. Assumes nothing.
use mathlib.Core.Path.{◌≡◌, refl, sym, ap, ap₂, ◌∙◌}
use mathlib.Core.List.{[], ◌∷◌, ◌++◌, append_assoc, append-nil}
use mathlib.Core.Logic.{⊎_elim}
use native.Mathlib.Omega.{arith}
use Prim.Native.Nat.{ℕ, ◌+◌, ◌-◌, ◌%◌, ◌/◌, ◌≤◌, ◌<◌}
use lib.ListN.{length, set, length-set}
use lib.Seq.{paste-zero}
use Rattle.names.specs.Names.{Bytes, decimal}
use Rattle.names.specs.Segments.{Filled}
use Rattle.names.proofs.Digits.{decimal_one, decimal_more, decimal_length_one, decimal_length_more, decimal_length_pos}
use Rattle.names.proofs.Order.{lt_or_le}
use Rattle.names.proofs.Segments.{placed, placed_before, placed_filled}
use Rattle.names.proofs.make.put_decimal.Invariants.{Half}
use Rattle.names.proofs.make.put_decimal.Goals as goal

half-none : (out : Bytes) (at n : ℕ) → Half out at n out n (at + length (decimal n))
half-none out at n =
    record {
      tail = [];
      some = λ lt. (sym (append-nil (decimal n)), refl);
      none = λ le. absurd (omega (arith, decimal_length_pos n));
      size = refl;
      is = paste-zero out (at + length (decimal n)) [];
    }

module _ {out₀ : Bytes} {at n : ℕ} {out : Bytes} {left i : ℕ} (h : Half out₀ at n out left i) (fit : at + length (decimal n) ≤ length out₀) where
  -- the digit before i is written
  half-more : at < i → i ≤ at + length (decimal n) → Half out₀ at n (set out (i - 1) (48 + left % 10)) (left / 10) (i - 1)
  half-more lt up =
      let d = 48 + left % 10 in
      let w = h.some lt in
      let p : i ≡ i - 1 + 1 = omega arith in
      record {
        tail = d ∷ h.tail;
        some = λ more. ⊎_elim
            (λ small. absurd (omega (arith, decimal_length_one left small)))
            (λ le. (w.0 ∙ ap (λ (x : Bytes). x ++ h.tail) (decimal_more left le) ∙ append_assoc (decimal (left / 10)) (d ∷ []) h.tail, omega (arith, decimal_length_more left le)))
            (lt_or_le left 10);
        none = λ last. ⊎_elim
            (λ small. let e : left % 10 ≡ left = omega arith in (w.0 ∙ rw (decimal_one left small, e) refl, omega arith))
            (λ le. absurd (omega (arith, decimal_length_more left le, decimal_length_pos (left / 10))))
            (lt_or_le left 10);
        size = length-set out (i - 1) d ∙ h.size;
        is = ap (λ (l : Bytes). set l (i - 1) d) (h.is ∙ ap (λ (k : ℕ). placed out₀ k h.tail) p) ∙ placed_before out₀ (i - 1) d h.tail (omega arith);
      }

  half-done : i ≤ at → Filled out₀ out at (decimal n) (length (decimal n))
  half-done le =
      let w = h.none le in
      let s : out ≡ placed out₀ at (decimal n) = h.is ∙ ap₂ (placed out₀) w.1 (sym w.0) in
      rw s (placed_filled out₀ at (decimal n) fit)

pub loop-i-init : goal.loop-i-init
loop-i-init c = rw c.digit_count.ensures (half-none _ _ _)

pub loop-i-preserved : goal.loop-i-preserved
loop-i-preserved c = half-more c.loop-i.invariant c.requires (omega arith) (omega (arith, c.digit_count.ensures))

pub returns : goal.returns
returns c = half-done c.loop-i.invariant c.requires (omega arith)
