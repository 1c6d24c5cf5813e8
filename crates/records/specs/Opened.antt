-- The record that a call is given: the limits, and the refusals before any work. docs/FORMAT.md, 'Calls'.
-- Assumes nothing.
use Rattle.std.specs.Prelude.{Bool, true, false, ◌&&◌, ℕ, ◌*◌, leb, length, None, Some}
use Rattle.names.specs.Names.{Bytes}
use Rattle.names.specs.CallAnswer.{max_counter}
use Rattle.names.specs.Refusals.{place_at, refusing, placeless}
use Rattle.names.specs.declared.Reason.TheVariants.{OutOfRange, PastLimit, ModInBinding}
use Rattle.names.specs.declared.Refusal.{Refusal}
use Rattle.records.specs.Limits.{least_longest, most_longest, work_factor}
use Rattle.records.specs.Read.{Whole, whole, unread, read_whole}
use Rattle.records.specs.ReadFields.{Reader, fault_reason}

-- F, the length of work memory and the counter are within their limits
unfoldable pub limits : ℕ → ℕ → ℕ → Bool
limits F work c = leb least_longest F && leb F most_longest && leb (work_factor * F) work && leb c max_counter

-- the record of an input, or the first of its refusals
pub data Opened (A : Type 0) : Type 0 where
  opened : A → Opened A
  closed : Refusal → Opened A

module _ {A : Type 0} where
  -- 4: a BM in a binding body of an assign
  unfoldable pub no_mod : Whole A → Opened A
  no_mod (whole a None) = opened a
  no_mod (whole a (Some p)) = closed (refusing ModInBinding (place_at p))
  no_mod (unread f p) = closed (refusing (fault_reason f) p)

  -- a BM may stand anywhere
  unfoldable pub any_mod : Whole A → Opened A
  any_mod (whole a m) = opened a
  any_mod (unread f p) = closed (refusing (fault_reason f) p)

  -- 1 and 3 by length, and then what is made of the reading
  unfoldable pub open_by : {B : Type 0} → (Whole A → Opened B) → Reader A → ℕ → ℕ → ℕ → Bytes → Opened B
  open_by judged reader F work c input =
      elim (limits F work c) [
        | false ↦ closed (placeless OutOfRange)
        | true ↦ elim (leb (length input) F) [ false ↦ closed (placeless PastLimit) | true ↦ judged (read_whole reader input) ]
      ]

  -- the reading refusals: 1, 3 by length, 2 and 3 by reading
  abbrev pub read_input : Reader A → ℕ → ℕ → ℕ → Bytes → Opened A
  read_input = open_by any_mod

  -- the reading refusals, and then 4
  abbrev pub open_input : Reader A → ℕ → ℕ → ℕ → Bytes → Opened A
  open_input = open_by no_mod

-- unfolds with every definition of this file
unfoldable pub computing_opened : Unit {0}
unfolding limits no_mod any_mod open_by
computing_opened = tt
