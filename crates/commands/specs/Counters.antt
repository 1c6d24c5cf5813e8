-- Counters as the command line gives them: the number that 1 to 20 decimal digits stand for, where 64 bits hold it.
-- Assumes nothing.
use Rattle.std.specs.Prelude.{Bool, true, false, ◌&&◌, [], ◌∷◌, ℕ, ◌+◌, ◌-◌, ◌*◌, ◌^◌, leb, ltb, length}
use Rattle.names.specs.Names.{Bytes}
use Rattle.std.specs.declared.option.Option.{Option}
use Rattle.std.specs.declared.option.Option.TheVariants.{Some, None}

-- whether each byte is a digit
unfoldable pub are_digits : Bytes → Bool
are_digits [] = true
are_digits (b ∷ bs) = leb 48 b && leb b 57 && are_digits bs

-- the number that digits stand for, after those that stand for n
unfoldable pub value_after : ℕ → Bytes → ℕ
value_after n [] = n
value_after n (b ∷ bs) = value_after (10 * n + (b - 48)) bs

-- a number, where it comes of digits and fits
unfoldable pub fitting : Bool → ℕ → Option ℕ
fitting false n = None
fitting true n = elim (ltb n (2 ^ 64)) [ true ↦ Some n | false ↦ None ]

unfoldable pub counter_of : Bytes → Option ℕ
counter_of bs = fitting (leb 1 (length bs) && leb (length bs) 20 && are_digits bs) (value_after 0 bs)
