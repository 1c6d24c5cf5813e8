-- Numbers and names as fields of bytes. Assumes nothing.
use mathlib.Core.Path.{◌≡◌, refl, sym, ap, ◌∙◌}
use mathlib.Core.List.{[], ◌∷◌, ◌++◌, append_assoc}
use native.Mathlib.Nat.{div-add-mod, div-one, mul_assoc, mul-add, pow-le-pow_right, pow-suc}
use native.Mathlib.Numerals.{add-one}
use native.Mathlib.Omega.{arith}
use Prim.Native.Nat.{ℕ, zero, suc, ◌+◌, ◌*◌, ◌/◌, ◌%◌, ◌^◌, ◌-◌, ◌≤◌, ◌<◌}
use lib.ListN.{length, take, drop, get_or, length-append, length-drop}
use lib.Seq.{drop_at, drop-append_seam, drop-drop, get_or-drop, get_or-take, take-append_seam, take_at, take-suc}
use Rattle.names.specs.Segments.{Filled}
use Rattle.names.proofs.Segments.{filled_then}
use Rattle.names.specs.Names.{Bytes, number_field, number_after, number_of, name_field, name_width}

-- one byte more
number_after_more : (bs : Bytes) (b n : ℕ) → number_after n (bs ++ b ∷ []) ≡ 256 * number_after n bs + b
unfolding number_after
number_after_more [] b n = refl
number_after_more (x ∷ xs) b n = number_after_more xs b (256 * n + x)

pub number_of_more : (bs : Bytes) (b : ℕ) → number_of (bs ++ b ∷ []) ≡ 256 * number_of bs + b
unfolding number_of
number_of_more bs b = number_after_more bs b 0

-- how large it is then
pub number_bound : (n b i : ℕ) → n < 256 ^ i → b < 256 → 256 * n + b < 256 ^ (i + 1)
number_bound n b i ln lb = rw add-one (omega (arith, pow-suc 256 i))

-- one more of the `width` bytes at a place is read
pub number_read : (s : Bytes) (at width : ℕ) {n i : ℕ} → at + width ≤ length s → ((j : ℕ) → get_or s j 0 < 256)
    → (n ≡ number_of (take i (drop at s))) × (n < 256 ^ i) → i < width
    → (256 * n + get_or (take (at + width - at) (drop at s)) i 0 ≡ number_of (take (i + 1) (drop at s))) × (256 * n + get_or (take (at + width - at) (drop at s)) i 0 < 256 ^ (i + 1))
number_read s at width {n} {i} fit bytes h lt =
    let d = drop at s in
    let l : length d ≡ length s - at = length-drop at s in
    let b : get_or (take (at + width - at) d) i 0 ≡ get_or s (at + i) 0 = get_or-take (at + width - at) d i 0 (omega arith) ∙ get_or-drop at s i 0 in
    rw b (rw (add-one, take-suc d i 0 (omega arith), get_or-drop, number_of_more, ← h.0) refl, number_bound n _ i h.1 (bytes (at + i)))

pub number_fits : (i : ℕ) → i ≤ 8 → 256 ^ i ≤ 2 ^ 64
number_fits i le = pow-le-pow_right (omega arith) le

pub number_field_length : (w n : ℕ) → length (number_field w n) ≡ w
unfolding number_field
number_field_length zero n = refl
number_field_length (suc w) n = ap suc (number_field_length w (n % 256 ^ w))

-- a field after a number n
field_after : (w n k : ℕ) → number_after n (number_field (suc w) k) ≡ 256 ^ suc w * n + k
unfolding number_field number_after
field_after zero n k = rw div-one
field_after (suc w) n k =
    let p = 256 ^ suc w in
    field_after w (256 * n + k / p) (k % p) ∙ omega (arith, mul-add p (256 * n) (k / p), mul_assoc p 256 n, ap (λ (x : ℕ). x * n) (pow-suc 256 (suc w)), div-add-mod k p)

-- what a field holds
pub number_of_field : (w n : ℕ) → 0 < w → number_of (number_field w n) ≡ n
unfolding number_of
number_of_field zero n lt = absurd (omega arith)
number_of_field (suc w) n lt = field_after w 0 n ∙ omega arith

-- a name at p: its length, its bytes and what stands after it
pub record NameAt (s : Bytes) (p : ℕ) (n rest : Bytes) : Type 0 where
  pub size : number_of (take name_width (drop p s)) ≡ length n
  pub name : take (length n) (drop (p + name_width) s) ≡ n
  pub fits : p + name_width + length n ≤ length s
  pub past : drop (p + name_width + length n) s ≡ rest

pub name_at : (s : Bytes) (p : ℕ) (n rest : Bytes) → drop p s ≡ name_field n ++ rest → NameAt s p n rest
unfolding name_field
name_at s p n rest e =
    let w = number_field_length name_width (length n) in
    let f = number_field name_width (length n) in
    let l : length s - p ≡ name_width + length n + length rest = sym (length-drop p s) ∙ ap length e ∙ omega (arith, length-append (f ++ n) rest, length-append f n) in
    let d : drop p s ≡ f ++ (n ++ rest) = e ∙ append_assoc f n rest in
    let after : drop (p + name_width) s ≡ n ++ rest = sym (drop-drop name_width p s) ∙ ap (drop name_width) d ∙ drop_at f (n ++ rest) name_width w in
    record {
      size = rw (d, take_at f (n ++ rest) name_width w) (number_of_field name_width (length n) (omega arith));
      name = rw after (take-append_seam n rest);
      fits = omega arith;
      past = sym (drop-drop (length n) (p + name_width) s) ∙ ap (drop (length n)) after ∙ drop-append_seam n rest;
    }

-- a name as a field
pub name_field_length : (n : Bytes) → length (name_field n) ≡ name_width + length n
unfolding name_field
name_field_length n =
    length-append (number_field name_width (length n)) n ∙ ap (λ (k : ℕ). k + length n) (number_field_length name_width (length n))

-- a name written as a field: its length, then its bytes
pub name_filled : {xs ys zs : Bytes} {at : ℕ} (n : Bytes) → Filled xs ys at (number_field name_width (length n)) name_width → Filled ys zs (at + name_width) n (length n)
    → at + length (name_field n) ≤ length xs → Filled xs zs at (name_field n) (length (name_field n))
unfolding name_field
name_filled {at} n f g fit =
    let w = number_field_length name_width (length n) in
    filled_then {us = number_field name_width (length n)} (rw w f) g (omega arith) fit
