-- What the code promises that orders the bindings of an assign.
-- Assumes nothing.
use Rattle.std.specs.Prelude.{List, [], ◌∷◌, ◌≡◌, ℕ, ◌+◌, ◌≤◌, ◌<◌, length, get_or, take}
use Rattle.names.specs.CallAnswer.{CallResult}
use Rattle.names.specs.Names.{Bytes}
use Rattle.names.specs.Segments.{At}
use Rattle.records.specs.Records.{Loc, SN, Pattern, Name, Body, BL, BV, body_bytes, Binding, BB, binding_bytes, Bindings, list_of}
use Rattle.records.specs.declared.Kind.{Kind}
use Rattle.records.specs.Valid.{ValidBody}
use Rattle.records.specs.declared.Family.TheVariants.{Binding as a_binding}
use Rattle.records.specs.Parts.{ValidBinding, family_part, list_part}
use Rattle.ordering.specs.declared.listed.Listed.{Listed}
use Rattle.ordering.specs.declared.provides.Provided.{Provided}
use Rattle.ordering.specs.declared.Order.{Order}
use Rattle.ordering.specs.declared.Sorted.{Sorted}
use Rattle.ordering.specs.Listing.{all_words}
use Rattle.ordering.specs.Listed.{SameRoom, Added}
use Rattle.ordering.specs.Provisions.{Entries, Provisions}
use Rattle.ordering.specs.Needs.{binding_limit, needs_of, NeedsAt, Means, outcome_of}
use Rattle.ordering.specs.OrderCall.{order_of}
use Rattle.ordering.specs.Rounds.{rounds}
use Rattle.ordering.specs.Words.{pattern_provides, words, items, toposort_assign_bindings}

-- the most entries and the most needs of an assign: each takes four bytes or more
abbrev pub need_limit : ℕ
need_limit = 4096

-- the body of a binding
unfoldable pub body_of : Binding → Body
body_of (BB l nl p b) = b

-- what `get_or` gives for an index past the last binding
abbrev pub no_binding : Binding
no_binding = BB [] [] (Name []) (BV (SN []))

-- the body of the binding with index k
abbrev pub body_at : List Binding → ℕ → Body
body_at bs k = body_of (get_or bs k no_binding)

-- bindings stand one after the other in s
pub record Bound (s : Bytes) (at n : ℕ) (bs : List Binding) : Type 0 where
  pub count : length bs ≡ n
  pub valid : (list_part (family_part a_binding) n).2 bs
  pub there : At s at ((list_part (family_part a_binding) n).1 bs)

-- the bodies of bindings stand in s at these places
pub record BodiesAt (s : Bytes) (ps : List ℕ) (bs : List Binding) : Type 0 where
  pub valid : (k : ℕ) → k < length bs → ValidBody (body_at bs k)
  pub there : (k : ℕ) → k < length bs → At s (get_or ps k 0) (body_bytes (body_at bs k))

-- the names of a binding that ends at e were listed behind a 0, and its body starts at a place
pub record BindingNames (s : Bytes) (before after : Listed ℕ) (body : ℕ) (p : Pattern) (b : Body) (e : ℕ) : Type 0 where
  pub there : At s body (body_bytes b)
  pub ends : body + length (body_bytes b) ≡ e
  pub entries : List ℕ
  pub listed : Entries s entries (pattern_provides p)
  pub added : Added before after (0 ∷ entries)

-- of every binding that stands in s at a place the names were so listed, if there was room
pub record ListsBinding (s : Bytes) (at : ℕ) (before after : Listed ℕ) (body : ℕ) : Type 0 where
  pub room : SameRoom before after
  pub names : (l nl : Loc) (p : Pattern) (b : Body) → ValidBinding (BB l nl p b) → At s at (binding_bytes (BB l nl p b))
      → before.count + 1 + length (pattern_provides p) ≤ length before.items.now → BindingNames s before after body p b (at + length (binding_bytes (BB l nl p b)))

-- the names of all bindings are listed, and where their bodies start
pub record FindsNames (s : Bytes) (entries bodies : List ℕ) (n : ℕ) (bs : List Binding) : Type 0 where
  pub few : n ≤ length entries
  pub provisions : Provisions s (take n entries) bs
  pub bodies_at : BodiesAt s bodies bs

-- so it is of every list of so many bindings that stands in s at a place
abbrev pub FindsAllNames : Bytes → ℕ → ℕ → List ℕ → List ℕ → ℕ → Type 0
FindsAllNames s at count entries bodies n = (bs : List Binding) → Bound s at count bs → FindsNames s entries bodies n bs

-- all that the bodies of bindings need
unfoldable pub all_needs : List Binding → List Binding → List ℕ
all_needs bs cs = needs_of (items bs) (all_words (λ b. words (body_of b)) cs)

-- bindings whose names are listed and whose bodies stand at these places; there is room for what they need
pub record Collectable (given : Provided) (bodies : List ℕ) (room : ℕ) (bs : List Binding) : Type 0 where
  pub size : length bs ≡ length bodies
  pub provisions : Provisions given.bytes.now given.entries.now bs
  pub bodies_at : BodiesAt given.bytes.now bodies bs
  pub fits : length (all_needs bs bs) ≤ room

-- the needs of every such list of bindings are listed, over what stood there before, and where those of each start
abbrev pub FindsNeeds : Provided → List ℕ → List ℕ → List ℕ → List ℕ → Type 0
FindsNeeds given bodies before needs starts = (bs : List Binding) → Collectable given bodies (length before) bs → NeedsAt (items bs) needs starts

-- a row of which so many are placed is the order, or the deadlock, of every list of so many bindings that stands in s at a place
abbrev pub SortsBindings : Bytes → ℕ → ℕ → List ℕ → Sorted → Type 0
SortsBindings s at count row r = (bs : List Binding) → Bound s at count bs
    → (toposort_assign_bindings bs ≡ outcome_of row r.placed) × (r.rounds ≡ rounds (items bs))

-- a let stands at the start of s
pub record Let (s : Bytes) (k : Kind) (l : Loc) (w h : Bytes) (bs : Bindings) (b : Body) : Type 0 where
  pub valid : ValidBody (BL k l w h bs b)
  pub there : At s 0 (body_bytes (BL k l w h bs b))

-- some let stands at the start of s
abbrev pub SomeLet : Bytes → Type 0
SomeLet s = (k : Kind) × (l : Loc) × (w : Bytes) × (h : Bytes) × (bs : Bindings) × (b : Body) × Let s k l w h bs b

-- the order of bindings, or their deadlock, and what it means
pub record OrdersBindings (bs : List Binding) (r : Order) : Type 0 where
  pub count : r.count ≡ length bs
  pub few : r.count ≤ binding_limit
  pub row : length r.row ≡ binding_limit
  pub placed : r.placed ≤ r.count
  pub order : toposort_assign_bindings bs ≡ outcome_of (take r.count r.row) r.placed
  pub rounds : r.rounds ≡ rounds (items bs)
  pub means : Means (items bs) (outcome_of (take r.count r.row) r.placed)

-- of every let that stands at the start of s the bindings are so ordered
abbrev pub OrdersLet : Bytes → Order → Type 0
OrdersLet s r = (k : Kind) (l : Loc) (w h : Bytes) (bs : Bindings) (b : Body) → Let s k l w h bs b → OrdersBindings (list_of bs) r

-- r is the answer of the call Order for every let that stands at the start of s
abbrev pub AnswersLet : Bytes → ℕ → Bytes → CallResult → Type 0
AnswersLet s c buffer r = (k : Kind) (l : Loc) (w h : Bytes) (bs : Bindings) (b : Body) → Let s k l w h bs b → r ≡ order_of c buffer (BL k l w h bs b)
