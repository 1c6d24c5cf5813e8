-- How the code holds needs: a needed name as the bindings that provide it, as bits; and what a sorted row says.
-- Assumes nothing.
use Rattle.std.specs.Prelude.{Bool, true, false, cond, ◌≡◌, ℕ, suc, ◌+◌, ◌*◌, ◌≤◌, ◌<◌, ltb, length, get_or, set, take, drop, replicate}
use mathlib.Core.List.{List, [], ◌∷◌, foldl, map}
use Rattle.names.specs.Names.{Bytes}
use Rattle.names.specs.Segments.{At}
use Rattle.records.specs.Limits.{count_limit}
use Rattle.ordering.specs.Items.{Item, any, keep, gives, needed}
use Rattle.ordering.specs.Lawful.{Full, NoOrder}
use Rattle.ordering.specs.Toposort.{turn, Toposorted, ordered, deadlock, toposort}
use Rattle.ordering.specs.Rounds.{rounds}
use Rattle.ordering.specs.declared.Sorted.{Sorted}

-- the most bindings of an assign
abbrev pub binding_limit : ℕ
binding_limit = count_limit

-- flags as a number, the first of them its lowest bit
unfoldable pub bits : List Bool → ℕ
bits [] = 0
bits (true ∷ bs) = 2 * bits bs + 1
bits (false ∷ bs) = 2 * bits bs

-- n flags, set at the indices of l
unfoldable pub marks : ℕ → List ℕ → List Bool
marks n l = foldl (λ flags i. set flags i true) (replicate n false) l

-- the bindings that provide x, as bits
unfoldable pub providers : List Item → Bytes → ℕ
providers bs x = bits (map (gives x) bs)

-- of names, those that some binding provides, each as the bindings that do
unfoldable pub needs_of : List Item → List Bytes → List ℕ
needs_of bs xs = map (providers bs) (keep (λ x. any (gives x) bs) xs)

-- the needs of each binding stand in `needs` from its start up to the next one's
pub record NeedsAt (bs : List Item) (needs starts : List ℕ) : Type 0 where
  pub there : (i : ℕ) → i < length bs → At needs (get_or starts i 0) (map (providers bs) (needed bs i))
  pub next : (i : ℕ) → i < length bs → get_or starts (suc i) 0 ≡ get_or starts i 0 + length (needed bs i)

-- the starts of n bindings' needs, and the end of the last, are places in `needs`
pub record Starts (n : ℕ) (needs starts : List ℕ) : Type 0 where
  pub few : n ≤ binding_limit
  pub many : n < length starts
  pub within : (i : ℕ) → i ≤ n → get_or starts i 0 ≤ length needs

-- what a turn starts from: the needs of the bindings, a row of all of them, and those that are placed as bits
pub record TurnStart (bs : List Item) (needs starts row : List ℕ) (placed done : ℕ) : Type 0 where
  pub size : length bs ≡ length row
  pub at : NeedsAt bs needs starts
  pub marked : done ≡ bits (marks (length row) (take placed row))

-- every index of a row is below its length
abbrev pub IndicesBelow : List ℕ → Type 0
IndicesBelow row = (k : ℕ) → k < length row → get_or row k 0 < length row

-- a turn on every list of bindings that it can start from leaves this row, and so many placed
abbrev pub TakesTurn : List ℕ → List ℕ → List ℕ → ℕ → ℕ → List ℕ → ℕ → Type 0
TakesTurn needs starts row placed done after left = (bs : List Item) → TurnStart bs needs starts row placed done
    → turn bs (record { row = row; placed = placed }) ≡ record { row = after; placed = left }

-- what a row says of which so many are placed
unfoldable pub outcome_of : List ℕ → ℕ → Toposorted
outcome_of row placed = cond (ltb placed (length row)) (deadlock (drop placed row)) (ordered row)

-- so a row is the outcome, and the number is that of the rounds, of every list of n bindings with these needs
abbrev pub SortsItems : ℕ → List ℕ → List ℕ → List ℕ → Sorted → Type 0
SortsItems n needs starts row r = (bs : List Item) → length bs ≡ n → NeedsAt bs needs starts
    → (toposort bs ≡ outcome_of row r.placed) × (r.rounds ≡ rounds bs)

-- what an outcome means: a full lawful order; or none, and just the stuck ones, each once
unfoldable pub Means : List Item → Toposorted → Type 0
Means bs (ordered o) = Full bs o
Means bs (deadlock l) = NoOrder bs l
