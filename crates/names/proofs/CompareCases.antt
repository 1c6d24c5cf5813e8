-- Worked cases of comparing two names, as one table, by computation. Assumes nothing.
use mathlib.Core.Bool.{Bool, true, false}
use mathlib.Core.List.{List, [], ◌∷◌, map}
use mathlib.Core.Path.{◌≡◌, refl}
use Prim.Native.Nat.{ℕ}
use Prim.Native.String.{String}
use Rattle.names.specs.Compare.{comparison, computing_comparisons}
use Rattle.names.specs.Names.{ascii, computing_names}

-- two names, and what comparing them answers: equal or not, and the pairs read
abbrev Row : Type 0
Row = String × String × Bool × ℕ

abbrev rows : List Row
rows =
    ("payment_to_anna", "payment_to_anna", true, 15)
    ∷ ("payment_to_anna", "payment_to_bert", false, 1)
    ∷ ("payment_to_anna", "payment_by_anna", false, 6)
    ∷ ("fee_$_12", "fee_$_13", false, 1)
    ∷ ("fee_$_12", "fee_$_22", false, 2)
    ∷ ("fee_$_12", "pee_$_12", false, 8)
    ∷ ("fee_$_2", "fee_$_12", false, 0)
    ∷ ("anna", "payment_to_anna", false, 0)
    ∷ ("x", "x", true, 1)
    ∷ ("x", "y", false, 1)
    ∷ ("", "x", false, 0)
    ∷ ("", "", true, 0)
    ∷ []

rows_hold : map (λ (r : Row). comparison (ascii r.0) (ascii r.1)) rows ≡ map (λ (r : Row). record { equal = r.2; pairs = r.3 }) rows
unfolding computing_comparisons computing_names
rows_hold = refl
