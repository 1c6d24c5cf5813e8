-- Numbers as fields of bytes: the last byte apart, and what is read where one was written. Assumes nothing.
use mathlib.Core.Path.{◌≡◌, refl, sym, ap, ◌∙◌}
use mathlib.Core.List.{[], ◌∷◌, ◌++◌}
use native.Mathlib.Nat.{add-mul, div-add-mod', div-eq_of_lt-le, div-one, mod-lt, mul_assoc, one-le-pow, pow-suc}
use native.Mathlib.Omega.{arith}
use Prim.Native.Nat.{ℕ, zero, suc, ◌+◌, ◌*◌, ◌/◌, ◌%◌, ◌^◌, ◌<◌}
use lib.ListN.{take, drop}
use lib.Seq.{take_all}
use Rattle.names.specs.Names.{Bytes, number_field, number_of, number_after}
use Rattle.names.specs.Segments.{At, Filled}
use Rattle.names.proofs.Fields.{number_field_length, number_of_field}
use Rattle.names.proofs.Places.{at_is}

-- one byte more
pub number_field_more : (w n b : ℕ) → n < 256 ^ w → b < 256 → number_field (suc w) (256 * n + b) ≡ number_field w n ++ b ∷ []
unfolding number_field
number_field_more zero n b ln lb = let e : 256 * n + b ≡ b = omega arith in rw (e, div-one)
number_field_more (suc w) n b ln lb =
    let k = 256 ^ w in
    let q = n / k in
    let x = 256 * n + b in
    let p = 256 ^ suc w in
    let s : n % k < k = mod-lt n (one-le-pow w 256 (omega arith)) in
    let whole = div-add-mod' n k in
    let scaled : q * p ≡ q * k * 256 = ap (λ (z : ℕ). q * z) (pow-suc 256 w) ∙ sym (mul_assoc q k 256) in
    let high : x / p ≡ q = div-eq_of_lt-le p (omega arith) (omega (arith, add-mul q 1 p, pow-suc 256 w)) in
    let low : x % p ≡ 256 * (n % k) + b = omega (arith, div-add-mod' x p, ap (λ (z : ℕ). z * p) high) in
    rw (high, low, number_field_more w (n % k) b s lb)

-- what a field holds
pub number_read : (w n : ℕ) → n < 256 ^ w → number_of (number_field w n) ≡ n
unfolding number_of number_after number_field
number_read zero n lt = omega arith
number_read (suc w) n lt = number_of_field (suc w) n (omega arith)

-- a number that stands at a place, read there
pub number_at : {xs : Bytes} {p : ℕ} (w n : ℕ) → n < 256 ^ w → At xs p (number_field w n) → number_of (take w (drop p xs)) ≡ n
number_at {xs} {p} w n lt h = rw (at_is p w refl (sym (number_field_length w n)) h) (number_read w n lt)

-- and where it was written
pub number_written : {xs ys : Bytes} {p : ℕ} (w n : ℕ) → n < 256 ^ w → Filled xs ys p (number_field w n) w → number_of (take w (drop p ys)) ≡ n
number_written {ys = ys} {p} w n lt f =
    let e : take w (drop p ys) ≡ number_field w n = f.got ∙ take_all w (number_field w n) (omega (arith, number_field_length w n)) in
    rw e (number_read w n lt)
