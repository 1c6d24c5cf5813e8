-- Whether a binding can stand in a round: all that its body needs is provided by the bindings of the rounds before.
-- Assumes nothing.
use Rattle.std.specs.Prelude.{Bool, List, ◌≡◌, ℕ, ◌≤◌, length}
use Rattle.names.specs.Names.{Bytes}
use Rattle.names.specs.Segments.{At}
use Rattle.records.specs.Limits.{most_longest}
use Rattle.records.specs.Records.{Body, body_bytes, Binding}
use Rattle.records.specs.Valid.{ValidBody}
use Rattle.ordering.specs.Items.{item_at, any, all, keep, gives}
use Rattle.ordering.specs.Needs.{bits, marks}
use Rattle.ordering.specs.Provisions.{Provisions}
use Rattle.ordering.specs.declared.provides.Provided.{Provided}
use Rattle.ordering.specs.Words.{words, items}

-- of names, each that some binding provides is provided by one of the bindings with the indices `placed`
abbrev pub all_provided : List Binding → List ℕ → List Bytes → Bool
all_provided bs placed xs = all (λ x. any (λ j. gives x (item_at (items bs) j)) placed) (keep (λ x. any (gives x) (items bs)) xs)

-- r says so of the words of the body that stands at a place, of every list of bindings, where `before` has the indices `placed` as bits
abbrev pub TellsReady : Provided → ℕ → ℕ → Bool → Type 0
TellsReady given body before r =
    length given.bytes.now ≤ most_longest → (bs : List Binding) (b : Body) (placed : List ℕ) → ValidBody b → At given.bytes.now body (body_bytes b) → Provisions given.bytes.now given.entries.now bs
    → before ≡ bits (marks (length bs) placed) → r ≡ all_provided bs placed (words b)
