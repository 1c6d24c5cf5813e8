-- What a lawful order of bindings is, said without the algorithm.
-- Assumes nothing.
use Rattle.std.specs.Prelude.{ℕ, ◌<◌, ◌≡◌, ◌↔◌, length, get_or, take}
use mathlib.Core.List.{List, Memᴰ}
use Rattle.names.specs.Names.{Bytes}
use Rattle.ordering.specs.Items.{Item, item_at}

-- x stands in the list
infix 50 ◌is_in◌
abbrev pub ◌is_in◌ : {A : Type 0} → A → List A → Type 0
x is_in l = Memᴰ x l

-- the binding with index i provides x
abbrev pub Provides : List Item → ℕ → Bytes → Type 0
Provides bs i x = x is_in (item_at bs i).has

-- the binding with index i needs x: its body mentions x, and some binding provides x
pub record Needs (bs : List Item) (i : ℕ) (x : Bytes) : Type 0 where
  pub mentioned : x is_in (item_at bs i).needs
  pub by : ℕ
  pub provided : Provides bs by x

-- an order of some of n bindings: indices below n, none of them twice
pub record OfSome (n : ℕ) (o : List ℕ) : Type 0 where
  pub below : (i : ℕ) → i is_in o → i < n
  pub once : (j k : ℕ) → j < length o → k < length o → get_or o j 0 ≡ get_or o k 0 → j ≡ k

-- an order of all n bindings
pub record OfAll (n : ℕ) (o : List ℕ) : Type 0 where
  pub some : OfSome n o
  pub every : (i : ℕ) → i < n → i is_in o

-- each name that the index at place k needs is provided by one of the k before it
unfoldable pub Lawful : List Item → List ℕ → Type 0
Lawful bs o = (k : ℕ) → k < length o → (x : Bytes) → Needs bs (get_or o k 0) x → (j : ℕ) × (j is_in take k o) × Provides bs j x

-- a lawful order of all the bindings
pub record Full (bs : List Item) (o : List ℕ) : Type 0 where
  pub all : OfAll (length bs) o
  pub lawful : Lawful bs o

-- the binding with index i is in no lawful order of any subset of the bindings, needs counted against the whole
pub record Stuck (bs : List Item) (i : ℕ) : Type 0 where
  pub index : i < length bs
  pub in_none : (o : List ℕ) → OfSome (length bs) o → Lawful bs o → ¬ (i is_in o)

-- the bindings have no lawful order of all of them, and l has just the stuck ones, each once
pub record NoOrder (bs : List Item) (l : List ℕ) : Type 0 where
  pub none : (o : List ℕ) → ¬ Full bs o
  pub stuck : (i : ℕ) → (i is_in l) ↔ Stuck bs i
  pub once : OfSome (length bs) l
