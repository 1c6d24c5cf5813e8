-- Two names compared from the far end: whether they are equal, and how many byte pairs are read for it. docs/FORMAT.md, 'Names'.
-- Assumes nothing.
use Rattle.std.specs.Prelude.{Bool, true, false, ◌≡◌, [], ◌∷◌, ◌++◌, ℕ, ◌+◌, ◌-◌, ◌≤◌, eqb, length, drop}
use Rattle.names.specs.Names.{Bytes, same}
use Rattle.names.specs.declared.Compared.{Compared}

-- xs ends with e
pub record EndsWith (xs e : Bytes) : Type 0 where
  pub front : Bytes
  pub is : front ++ e ≡ xs

-- xs and ys both end with e, and with nothing longer
pub record LongestCommonEnding (xs ys e : Bytes) : Type 0 where
  pub first : EndsWith xs e
  pub second : EndsWith ys e
  pub longest : (d : Bytes) → EndsWith xs d → EndsWith ys d → length d ≤ length e

-- whether xs ends with e
unfoldable pub ends_with : Bytes → Bytes → Bool
ends_with xs e = same (drop (length xs - length e) xs) e

-- the longest common ending: of the endings of the first list, the longest that the second ends with too
unfoldable pub common_ending : Bytes → Bytes → Bytes
common_ending [] ys = []
common_ending (x ∷ xs) ys = elim (ends_with ys (x ∷ xs)) [ true ↦ x ∷ xs | false ↦ common_ending xs ys ]

-- the byte pairs read: none where the lengths differ; else those of the longest common ending and, unless the names are equal, one more
unfoldable pub pairs_read : Bytes → Bytes → ℕ
pairs_read a b =
    elim (eqb (length a) (length b)) [
      | false ↦ 0
      | true ↦ length (common_ending a b) + elim (same a b) [ true ↦ 0 | false ↦ 1 ]
    ]

-- what comparing two names answers
abbrev pub comparison : Bytes → Bytes → Compared
comparison a b = record { equal = same a b; pairs = pairs_read a b }

-- unfolds with every definition of this file
unfoldable pub computing_comparisons : Unit {0}
unfolding ends_with common_ending pairs_read
computing_comparisons = tt
