-- Flags as a number: what `&` and `|` make of them, and that it is 0 where none is set.
-- Assumes nothing.
use Prim.Native.Nat.{ℕ, zero, suc, ◌+◌, ◌*◌, ◌/◌, ◌%◌, ◌^◌, ◌≤◌, ◌<◌, min, max}
use native.Mathlib.Nat.{le_of_suc-le-suc, not-suc-le-zero, pow-suc, one-mul, mod-eq_of_lt}
use native.Mathlib.Numerals.{add-one}
use native.Mathlib.Omega.{arith}
use mathlib.Core.Path.{◌≡◌, refl, sym, ap, ◌∙◌}
use mathlib.Core.Bool.{Bool, true, false, ◌&&◌, ◌||◌, or-false, or_assoc}
use mathlib.Core.List.{List, [], ◌∷◌, foldl, foldl-append, map}
use lib.Bits.{bit_and, bit_or, and_step, or_step, and_zero_r, or_zero_r}
use lib.ListN.{length, get_or, set, take, replicate, length-set, length-replicate, get_or-map, length-map}
use lib.Pow.{pow-lt}
use lib.Seq.{take-suc}
use Rattle.names.specs.Names.{Bytes}
use Rattle.ordering.specs.Items.{Item, absent, item_at, any, gives}
use Rattle.ordering.specs.Needs.{bits, marks, providers}

-- the flags set in both
abbrev both : List Bool → List Bool → List Bool
both [] ys = []
both (x ∷ xs) [] = []
both (x ∷ xs) (y ∷ ys) = (x && y) ∷ both xs ys

-- some flag is set
abbrev some : List Bool → Bool
some xs = any (λ b. b) xs

-- the lowest digit
abbrev pub digit : Bool → ℕ
digit true = 1
digit false = 0

pub bits_cons : (x : Bool) (xs : List Bool) → bits (x ∷ xs) ≡ bits xs * 2 + digit x
unfolding bits
bits_cons true xs = omega arith
bits_cons false xs = omega arith

bits_half : (x : Bool) (xs : List Bool) → bits (x ∷ xs) / 2 ≡ bits xs
bits_half true xs = omega (arith, bits_cons true xs)
bits_half false xs = omega (arith, bits_cons false xs)

bits_odd : (x : Bool) (xs : List Bool) → bits (x ∷ xs) % 2 ≡ digit x
bits_odd true xs = omega (arith, bits_cons true xs)
bits_odd false xs = omega (arith, bits_cons false xs)

min_digit : (x y : Bool) → min (digit x) (digit y) ≡ digit (x && y)
min_digit true true = refl
min_digit true false = refl
min_digit false true = refl
min_digit false false = refl

max_digit : (x : Bool) → (max (digit x) 1 ≡ 1) × (max (digit x) 0 ≡ digit x)
max_digit true = (refl, refl)
max_digit false = (refl, refl)

-- `&`
and_bits : (xs ys : List Bool) → bit_and (bits xs) (bits ys) ≡ bits (both xs ys)
unfolding bits
and_bits [] ys = refl
and_bits (x ∷ xs) [] = and_zero_r (bits (x ∷ xs))
and_bits (x ∷ xs) (y ∷ ys) =
    and_step (bits (x ∷ xs)) (bits (y ∷ ys))
    ∙ rw (bits_half x xs, bits_half y ys, bits_odd x xs, bits_odd y ys, min_digit, bits_cons (x && y) (both xs ys), and_bits xs ys)

-- `|` of one flag
or_mark : (xs : List Bool) (j : ℕ) → j < length xs → bit_or (bits xs) (2 ^ j) ≡ bits (set xs j true)
or_mark [] j h = absurd (not-suc-le-zero h)
or_mark (x ∷ xs) zero h =
    or_step (bits (x ∷ xs)) 1 ∙ rw (bits_half x xs, bits_odd x xs, or_zero_r, (max_digit x).0, bits_cons true xs)
or_mark (x ∷ xs) (suc j) h =
    let half : 2 ^ suc j / 2 ≡ 2 ^ j = omega (arith, pow-suc 2 j) in
    let even : 2 ^ suc j % 2 ≡ 0 = omega (arith, pow-suc 2 j) in
    or_step (bits (x ∷ xs)) (2 ^ suc j)
    ∙ rw (bits_half x xs, bits_odd x xs, half, even, (max_digit x).1, bits_cons x (set xs j true), or_mark xs j (le_of_suc-le-suc h))

-- 0 where no flag is set, and only there
bits_none : (xs : List Bool) → bits xs ≡ 0 → some xs ≡ false
bits_none [] e = refl
bits_none (true ∷ xs) e = absurd (omega (arith, bits_cons true xs))
bits_none (false ∷ xs) e = bits_none xs (omega (arith, bits_cons false xs))

bits_some : (xs : List Bool) → (bits xs ≡ 0 → ⊥) → some xs ≡ true
unfolding bits
bits_some [] h = absurd (h refl)
bits_some (true ∷ xs) h = refl
bits_some (false ∷ xs) h = bits_some xs (λ e. h (omega arith))

-- flags that are marked
set_length : (fs : List Bool) (l : List ℕ) → length (foldl (λ flags i. set flags i true) fs l) ≡ length fs
set_length fs [] = refl
set_length fs (i ∷ is) = set_length (set fs i true) is ∙ length-set fs i true

length_marks : (n : ℕ) (l : List ℕ) → length (marks n l) ≡ n
unfolding marks
length_marks n l = set_length (replicate n false) l ∙ length-replicate n false

marks_next : (n : ℕ) (row : List ℕ) (k : ℕ) → k < length row → set (marks n (take k row)) (get_or row k 0) true ≡ marks n (take (suc k) row)
unfolding marks
marks_next n row k h = rw (take-suc row k 0, foldl-append)

-- `|` of the next index of a row
pub bits_next : (row : List ℕ) (k : ℕ) → length row ≤ 64 → k < length row → get_or row k 0 < length row
    → bit_or (bits (marks (length row) (take k row))) (1 * 2 ^ get_or row k 0 % 2 ^ 64) ≡ bits (marks (length row) (take (k + 1) row))
bits_next row k few h lt =
    let i : ℕ = get_or row k 0 in
    let small : i < 64 = omega arith in
    let l : i < length (marks (length row) (take k row)) = rw length_marks lt in
    rw (one-mul, mod-eq_of_lt (pow-lt small), add-one) (or_mark (marks (length row) (take k row)) i l ∙ ap bits (marks_next (length row) row k h))

pub bits_marks_none : (n : ℕ) → bits (marks n []) ≡ 0
unfolding bits marks
bits_marks_none zero = refl
bits_marks_none (suc n) = omega (arith, bits_marks_none n)

both_none : (xs : List Bool) (n : ℕ) → some (both xs (replicate n false)) ≡ false
both_none [] n = refl
both_none (x ∷ xs) zero = refl
both_none (true ∷ xs) (suc n) = both_none xs n
both_none (false ∷ xs) (suc n) = both_none xs n

both_one : (xs ys : List Bool) (i : ℕ) → length xs ≡ length ys → some (both xs (set ys i true)) ≡ (some (both xs ys) || get_or xs i false)
both_one [] ys i e = refl
both_one (x ∷ xs) [] i e = absurd (omega arith)
both_one (x ∷ xs) (y ∷ ys) zero e = go x y (some (both xs ys))
  where
    go : (a b c : Bool) → (a && true || c) ≡ (a && b || c || a)
    go true true c = refl
    go true false true = refl
    go true false false = refl
    go false b true = refl
    go false b false = refl
both_one (x ∷ xs) (y ∷ ys) (suc i) e = rw (both_one xs ys i (omega arith), or_assoc)

module _ (xs : List Bool) (at : ℕ → Bool) (here : (i : ℕ) → get_or xs i false ≡ at i) where
  both_set : (ys : List Bool) (l : List ℕ) → length xs ≡ length ys
      → some (both xs (foldl (λ flags i. set flags i true) ys l)) ≡ (some (both xs ys) || any at l)
  both_set ys [] e = sym (or-false (some (both xs ys)))
  both_set ys (i ∷ is) e = both_set (set ys i true) is (e ∙ sym (length-set ys i true)) ∙ rw (both_one xs ys i e, here i, or_assoc)

module _ (bs : List Item) (x : Bytes) (l : List ℕ) where
  both_marks : some (both (map (gives x) bs) (marks (length bs) l)) ≡ any (λ j. gives x (item_at bs j)) l
  unfolding marks gives
  both_marks =
      both_set (map (gives x) bs) (λ j. gives x (item_at bs j)) (λ j. get_or-map (gives x) bs j absent) (replicate (length bs) false) l
      (length-map bs (gives x) ∙ sym (length-replicate (length bs) false))
      ∙ rw both_none

  -- the test of a need against what is placed: 0 where no index of l provides the name
  pub none_gives : bit_and (providers bs x) (bits (marks (length bs) l)) ≡ 0 → any (λ j. gives x (item_at bs j)) l ≡ false
  unfolding providers
  none_gives e = sym both_marks ∙ bits_none _ (sym (and_bits (map (gives x) bs) (marks (length bs) l)) ∙ e)

  pub some_gives : (bit_and (providers bs x) (bits (marks (length bs) l)) ≡ 0 → ⊥) → any (λ j. gives x (item_at bs j)) l ≡ true
  unfolding providers
  some_gives h = sym both_marks ∙ bits_some _ (λ e. h (and_bits (map (gives x) bs) (marks (length bs) l) ∙ e))
