-- The digits of a number, the last one apart. Assumes nothing.
use mathlib.Core.Path.{◌≡◌, refl, sym, ap, ◌∙◌}
use mathlib.Core.List.{[], ◌∷◌, ◌++◌, append_assoc}
use mathlib.Core.Logic.{⊎_elim}
use native.Mathlib.Nat.{pow-suc}
use native.Mathlib.Omega.{arith}
use Prim.Native.Nat.{ℕ, zero, suc, ◌+◌, ◌/◌, ◌%◌, ◌^◌, ◌≤◌, ◌<◌}
use borrow.Author.Tests.{lt-ltb, le-ltb}
use lib.ListN.{length, length-append}
use Rattle.names.specs.Names.{Bytes, digits, decimal}
use Rattle.names.proofs.Order.{lt_or_le}

-- a number below ten, and any other
digits_one : (f n : ℕ) (a : Bytes) → n < 10 → digits (suc f) n a ≡ (48 + n) ∷ a
unfolding digits
digits_one f n a lt = rw (lt-ltb n 10 lt, digits)

digits_more : (f n : ℕ) (a : Bytes) → 10 ≤ n → digits (suc f) n a ≡ digits f (n / 10) ((48 + n % 10) ∷ a)
unfolding digits
digits_more f n a le = rw (le-ltb n 10 le, digits)

-- what stands after the digits, and any fuel that is enough
digits_before : (f n : ℕ) (a : Bytes) → digits f n a ≡ digits f n [] ++ a
unfolding digits
digits_before zero n a = refl
digits_before (suc f) n a =
    ⊎_elim
    (λ lt. digits_one f n a lt ∙ ap (λ (l : Bytes). l ++ a) (sym (digits_one f n [] lt)))
    (λ le. let d = 48 + n % 10 in digits_more f n a le ∙ digits_before f (n / 10) (d ∷ a)
    ∙ cc (append_assoc (digits f (n / 10) []) (d ∷ []) a, digits_before f (n / 10) (d ∷ []), digits_more f n [] le))
    (lt_or_le n 10)

digits_fuel : (f g n : ℕ) (a : Bytes) → n < f → n < g → digits f n a ≡ digits g n a
digits_fuel zero g n a l m = absurd (omega arith)
digits_fuel (suc f) zero n a l m = absurd (omega arith)
digits_fuel (suc f) (suc g) n a l m =
    ⊎_elim
    (λ lt. digits_one f n a lt ∙ sym (digits_one g n a lt))
    (λ le. digits_more f n a le ∙ digits_fuel f g (n / 10) ((48 + n % 10) ∷ a) (omega arith) (omega arith) ∙ sym (digits_more g n a le))
    (lt_or_le n 10)

-- a number in decimal, and how many digits it has
pub decimal_one : (n : ℕ) → n < 10 → decimal n ≡ (48 + n) ∷ []
unfolding decimal
decimal_one n lt = digits_one n n [] lt

pub decimal_more : (n : ℕ) → 10 ≤ n → decimal n ≡ decimal (n / 10) ++ (48 + n % 10) ∷ []
unfolding decimal
decimal_more n le =
    let d = (48 + n % 10) ∷ [] in
    digits_more n n [] le ∙ digits_fuel n (suc (n / 10)) (n / 10) d (omega arith) (omega arith) ∙ digits_before (suc (n / 10)) (n / 10) d

pub decimal_length_one : (n : ℕ) → n < 10 → length (decimal n) ≡ 1
decimal_length_one n lt = ap length (decimal_one n lt)

pub decimal_length_more : (n : ℕ) → 10 ≤ n → length (decimal n) ≡ length (decimal (n / 10)) + 1
decimal_length_more n le = ap length (decimal_more n le) ∙ length-append (decimal (n / 10)) ((48 + n % 10) ∷ [])

pub decimal_length_le : (k n : ℕ) → n < 10 ^ suc k → length (decimal n) ≤ suc k
decimal_length_le zero n lt = omega (arith, decimal_length_one n lt)
decimal_length_le (suc k) n lt =
    ⊎_elim
    (λ small. omega (arith, decimal_length_one n small))
    (λ le. omega (arith, decimal_length_more n le, decimal_length_le k (n / 10) (omega (arith, pow-suc 10 (suc k)))))
    (lt_or_le n 10)

pub decimal_length_u64 : (n : ℕ) → n < 2 ^ 64 → length (decimal n) ≤ 20
decimal_length_u64 n lt = decimal_length_le 19 n (omega arith)

pub decimal_length_pos : (n : ℕ) → 0 < length (decimal n)
decimal_length_pos n = ⊎_elim (λ lt. omega (arith, decimal_length_one n lt)) (λ le. omega (arith, decimal_length_more n le)) (lt_or_le n 10)
