-- `names::bytes::put_number` meets its contract. Assumes nothing.
use mathlib.Core.Path.{◌≡◌, refl, sym, ap, ap₂, ◌∙◌}
use mathlib.Core.List.{[], ◌∷◌, ◌++◌, append_assoc, append-nil}
use native.Mathlib.Nat.{pow-suc}
use native.Mathlib.Omega.{arith}
use Prim.Native.Nat.{ℕ, suc, ◌+◌, ◌*◌, ◌-◌, ◌/◌, ◌%◌, ◌^◌, ◌≤◌, ◌<◌}
use lib.ListN.{length, set, length-set}
use lib.Seq.{paste-zero}
use Rattle.names.specs.Names.{Bytes, number_field}
use Rattle.names.specs.Segments.{Filled}
use Rattle.names.proofs.Fields.{number_field_length}
use Rattle.names.proofs.Segments.{placed, placed_before, placed_filled}
use Rattle.names.proofs.Numbers.{number_field_more}
use Rattle.names.proofs.bytes.put_number.Invariants.{Half}
use Rattle.names.proofs.bytes.put_number.Goals as goal

half-none : (mem : Bytes) (at width n : ℕ) → n < 256 ^ width → Half mem at width n mem n (at + width)
half-none mem at width n lt =
    let e : at + width - at ≡ width = omega arith in
    record {
      tail = [];
      within = (omega arith, omega arith);
      whole = rw e (sym (append-nil (number_field width n)));
      small = rw e lt;
      size = refl;
      is = paste-zero mem (at + width) [];
    }

module _ {mem₀ : Bytes} {at width n : ℕ} {mem : Bytes} {left i : ℕ} (h : Half mem₀ at width n mem left i) (fit : at + width ≤ length mem₀) where
  -- the byte before i is written
  half-more : at < i → Half mem₀ at width n (set mem (i - 1) (left % 256)) (left / 256) (i - 1)
  half-more lt =
      let w = i - 1 - at in
      let v = left % 256 in
      let e : i - at ≡ suc w = omega arith in
      let p : i ≡ i - 1 + 1 = omega arith in
      let parts : left ≡ 256 * (left / 256) + v = omega arith in
      let small : left / 256 < 256 ^ w = omega (arith, rw e at h.small, pow-suc 256 w) in
      let field : number_field (i - at) left ≡ number_field w (left / 256) ++ v ∷ [] = ap₂ number_field e parts ∙ number_field_more w (left / 256) v small (omega arith) in
      record {
        tail = v ∷ h.tail;
        within = (omega arith, omega (arith, h.within));
        whole = h.whole ∙ ap (λ (x : Bytes). x ++ h.tail) field ∙ append_assoc (number_field w (left / 256)) (v ∷ []) h.tail;
        small = small;
        size = length-set mem (i - 1) v ∙ h.size;
        is = ap (λ (l : Bytes). set l (i - 1) v) (h.is ∙ ap (λ (k : ℕ). placed mem₀ k h.tail) p) ∙ placed_before mem₀ (i - 1) v h.tail (omega (arith, h.within));
      }

  half-done : i ≤ at → Filled mem₀ mem at (number_field width n) width
  unfolding number_field
  half-done le =
      let e : i - at ≡ 0 = omega arith in
      let p : i ≡ at = omega (arith, h.within) in
      let w : number_field width n ≡ h.tail = rw e at h.whole in
      let l = number_field_length width n in
      let is : mem ≡ placed mem₀ at (number_field width n) = h.is ∙ ap₂ (placed mem₀) p (sym w) in
      let f : Filled mem₀ mem at (number_field width n) (length (number_field width n)) = rw is (placed_filled mem₀ at (number_field width n) (omega arith)) in
      rw l at f

pub loop-i-init : goal.loop-i-init
loop-i-init c = half-none _ _ _ _ c.requires.1

pub loop-i-preserved : goal.loop-i-preserved
loop-i-preserved c = half-more c.loop-i.invariant c.requires.0 (omega arith)

pub returns : goal.returns
returns c = half-done c.loop-i.invariant c.requires.0 (omega arith)
