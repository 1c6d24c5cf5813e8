-- Which names are shown of a stuck binding: those that its body mentions and that only stuck bindings provide.
-- Assumes nothing.
use Rattle.std.specs.Prelude.{Bool, true, List, ◌≡◌, ℕ, ◌≤◌, length, take, get_or}
use Rattle.std.specs.Int.Bits.{bit_and}
use Rattle.names.specs.Names.{Bytes, same}
use Rattle.names.specs.Segments.{At}
use Rattle.records.specs.Limits.{most_longest}
use Rattle.records.specs.Lists.{Each}
use Rattle.records.specs.Records.{Body, body_bytes, Binding}
use Rattle.records.specs.Valid.{ValidBody}
use Rattle.ordering.specs.Items.{any}
use Rattle.ordering.specs.Needs.{providers}
use Rattle.ordering.specs.Provisions.{Entry, Provisions}
use Rattle.ordering.specs.declared.provides.Provided.{Provided}
use Rattle.ordering.specs.Words.{words, items}

-- r says whether the name of an entry is among the words of the body that stands at a place
abbrev pub TellsWord : Bytes → ℕ → ℕ → Bool → Type 0
TellsWord s body entry r =
    length s ≤ most_longest → (b : Body) (x : Bytes) → ValidBody b → At s body (body_bytes b) → Entry s entry x → r ≡ any (same x) (words b)

-- every binding that provides x is stuck, by the bits of those that are, and none of the first k entries says x
pub record Missing (given : Provided) (k stuck : ℕ) (bs : List Binding) (x : Bytes) : Type 0 where
  pub only : bit_and (providers (items bs) x) stuck ≡ providers (items bs) x
  pub first : Each (λ e. Entry given.bytes.now e x → ⊥) (take k given.entries.now)

-- r says so of the name of the entry k
abbrev pub TellsMissing : Provided → ℕ → ℕ → Bool → Type 0
TellsMissing given k stuck r =
    (bs : List Binding) (x : Bytes) → Provisions given.bytes.now given.entries.now bs → Entry given.bytes.now (get_or given.entries.now k 0) x
    → (r ≡ true → Missing given k stuck bs x) × (Missing given k stuck bs x → r ≡ true)
