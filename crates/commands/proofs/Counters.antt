-- Reading a counter, byte by byte. Assumes nothing.
use mathlib.Core.Path.{◌≡◌, refl}
use mathlib.Core.Bool.{Bool, true, false}
use mathlib.Core.List.{[], ◌∷◌}
use native.Mathlib.Numerals.{add-one}
use native.Mathlib.Omega.{arith}
use Prim.Native.Nat.{ℕ, ◌+◌, ◌-◌, ◌*◌, ◌^◌, ◌≤◌, ◌<◌}
use borrow.Author.Tests.{le-leb, le-ltb, lt-leb, lt-ltb}
use lib.ListN.{length, drop, get_or, drop_of_length-le}
use lib.Seq.{drop-cons}
use Rattle.names.specs.Names.{Bytes}
use Rattle.commands.specs.Counters.{are_digits, counter_of, fitting, value_after}
use Rattle.std.specs.declared.option.Option.{Option}
use Rattle.std.specs.declared.option.Option.TheVariants.{Some, None}

-- the counter that comes of the bytes from i on, after those that stand for n
abbrev pub counter_from : Bytes → ℕ → ℕ → Option ℕ
counter_from bs n i = fitting (are_digits (drop i bs)) (value_after n (drop i bs))

value_after_le : (n : ℕ) (bs : Bytes) → n ≤ value_after n bs
unfolding value_after
value_after_le n [] = omega arith
value_after_le n (b ∷ bs) = omega (arith, value_after_le (10 * n + (b - 48)) bs)

-- a number that does not fit
fitting_large : (t : Bool) (n : ℕ) → 2 ^ 64 ≤ n → fitting t n ≡ None
unfolding fitting
fitting_large false n le = refl
fitting_large true n le = rw (le-ltb n (2 ^ 64) le, fitting)

module _ (bs : Bytes) where
  -- how many digits there are
  pub counter_empty : length bs ≡ 0 → counter_of bs ≡ None
  unfolding counter_of fitting
  counter_empty e = rw (e, counter_of)

  pub counter_long : 20 < length bs → counter_of bs ≡ None
  unfolding counter_of fitting
  counter_long lt = let one : 1 ≤ length bs = omega arith in rw (le-leb 1 (length bs) one, lt-leb (length bs) 20 lt, counter_of)

  pub counter_start : 0 < length bs → length bs ≤ 20 → counter_of bs ≡ counter_from bs 0 0
  unfolding counter_of
  counter_start lt le = let one : 1 ≤ length bs = omega arith in rw (le-leb 1 (length bs) one, le-leb (length bs) 20 le, counter_of)

  module _ (n i : ℕ) where
    pub counter_end : n < 2 ^ 64 → length bs ≤ i → counter_from bs n i ≡ Some n
    unfolding are_digits value_after fitting
    counter_end lt le = rw (drop_of_length-le bs le, lt-ltb n (2 ^ 64) lt, fitting)

    -- the byte at i: no digit, or one more
    module _ (lt : i < length bs) where
      pub counter_low : get_or bs i 0 < 48 → counter_from bs n i ≡ None
      unfolding are_digits fitting
      counter_low low = rw (drop-cons bs i 0 lt, lt-leb 48 (get_or bs i 0) low, are_digits)

      pub counter_high : 48 ≤ get_or bs i 0 → 57 < get_or bs i 0 → counter_from bs n i ≡ None
      unfolding are_digits fitting
      counter_high le high = rw (drop-cons bs i 0 lt, le-leb 48 (get_or bs i 0) le, lt-leb (get_or bs i 0) 57 high, are_digits)

      pub counter_more : 48 ≤ get_or bs i 0 → get_or bs i 0 ≤ 57 → counter_from bs n i ≡ counter_from bs (10 * n + (get_or bs i 0 - 48)) (i + 1)
      unfolding are_digits value_after
      counter_more le high = rw (add-one, drop-cons bs i 0 lt, le-leb 48 (get_or bs i 0) le, le-leb (get_or bs i 0) 57 high, are_digits)

    pub counter_large : 2 ^ 64 ≤ n → counter_from bs n i ≡ None
    counter_large le = fitting_large _ _ (omega (arith, value_after_le n (drop i bs)))
