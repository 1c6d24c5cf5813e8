-- What the code promises that lists the needs of bodies: which names of a record are needed, and where the record ends.
-- Assumes nothing.
use Rattle.std.specs.Prelude.{Bool, true, false, List, [], ◌∷◌, ◌++◌, ◌≡◌, ℕ, ◌+◌, ◌≤◌, length}
use Rattle.names.specs.Names.{Bytes}
use Rattle.names.specs.Segments.{At}
use Rattle.records.specs.Records.{Sexp, sexp_bytes, Body, BL, BQ, BV, BC, BM, BF, body_bytes, Binding}
use Rattle.records.specs.Valid.{SexpFields, ValidBody}
use Rattle.records.specs.declared.Family.TheVariants.{Body as a_Body, Binding as a_binding}
use Rattle.records.specs.Parts.{Part, family_part, fields_part, pattern_part, list_part}
use Rattle.ordering.specs.declared.listed.Listed.{Listed}
use Rattle.ordering.specs.declared.provides.Provided.{Provided}
use Rattle.ordering.specs.Listed.{SameRoom, Added}
use Rattle.ordering.specs.Needs.{needs_of}
use Rattle.ordering.specs.Provisions.{Provisions}
use Rattle.ordering.specs.Words.{make_provides_set, pattern_provides, captured, words, binding_words, items}

-- of names, those that are needed were listed, if there was room for them
pub record Names (xs : List Bytes) (given : Provided) (before after : Listed ℕ) : Type 0 where
  pub room : SameRoom before after
  pub lists : (bs : List Binding) → Provisions given.bytes.now given.entries.now bs → before.count + length (needs_of (items bs) xs) ≤ length before.items.now
      → Added before after (needs_of (items bs) xs)

-- every tree that stands in s at a place ends at `end`, and its names were so listed
pub record Lists (p : Part) (names : p.0 → List Bytes) (given : Provided) (s : Bytes) (at : ℕ) (before after : Listed ℕ) (end : ℕ) : Type 0 where
  pub forward : at ≤ end
  pub within : end ≤ length s
  pub room : SameRoom before after
  pub ends : (t : p.0) → p.2 t → At s at (p.1 t) → end ≡ at + length (p.1 t)
  pub lists : (t : p.0) → p.2 t → At s at (p.1 t) → Names (names t) given before after

-- the same of trees that stand no earlier than `first`; elsewhere `end` is only safe to go on with
pub record Reaches (first : ℕ) (p : Part) (names : p.0 → List Bytes) (given : Provided) (s : Bytes) (at : ℕ) (before after : Listed ℕ) (end : ℕ) : Type 0 where
  pub within : end ≤ length s
  pub room : SameRoom before after
  pub tells : first ≤ at → (t : p.0) → p.2 t → At s at (p.1 t) → (end ≡ at + length (p.1 t)) × Names (names t) given before after

-- the place of a body's mark among those of B records, and the bodies of one mark
abbrev pub body_index : Body → ℕ
body_index (BL k l w h bs b) = 0
body_index (BQ s) = 1
body_index (BV s) = 2
body_index (BC l bs t) = 3
body_index (BM l f) = 4
body_index (BF l w ca c a b) = 5

abbrev pub kind_part : ℕ → Part
kind_part i = (Body, body_bytes, λ b. (body_index b ≡ i) × ValidBody b)

-- bindings or bodies, and the names of each
abbrev pub member_part : Bool → Part
member_part true = family_part a_binding
member_part false = family_part a_Body

abbrev pub member_words : (b : Bool) → (member_part b).0 → List Bytes
member_words true = binding_words
member_words false = words

-- the names of several
abbrev pub all_words : {A : Type 0} → (A → List Bytes) → List A → List Bytes
all_words f [] = []
all_words f (t ∷ ts) = f t ++ all_words f ts

-- the names of the S record, or of the body, that stands at a place were listed
abbrev pub ListsSexp : Provided → Bytes → ℕ → Listed ℕ → Listed ℕ → ℕ → Type 0
ListsSexp = Lists fields_part make_provides_set

abbrev pub ListsBody : Provided → Bytes → ℕ → Listed ℕ → Listed ℕ → ℕ → Type 0
ListsBody = Lists (family_part a_Body) words

-- those of a body of one mark, and of a pattern
abbrev pub ReachesKind : ℕ → Provided → Bytes → ℕ → Listed ℕ → Listed ℕ → ℕ → Type 0
ReachesKind i = Reaches 0 (kind_part i) words

abbrev pub ReachesPattern : Provided → Bytes → ℕ → Listed ℕ → Listed ℕ → ℕ → Type 0
ReachesPattern = Reaches 0 pattern_part pattern_provides

-- those of a binding or a body, and of so many of them
abbrev pub ReachesMember : ℕ → Bool → Provided → Bytes → ℕ → Listed ℕ → Listed ℕ → ℕ → Type 0
ReachesMember first b = Reaches first (member_part b) (member_words b)

abbrev pub ReachesMembers : Bool → ℕ → Provided → Bytes → ℕ → Listed ℕ → Listed ℕ → ℕ → Type 0
ReachesMembers b count = Reaches 1 (list_part (member_part b) count) (all_words (member_words b))

-- those that `to_sexp` writes of capture args that stand at a place
abbrev pub ListsCaptured : Provided → Bytes → ℕ → Listed ℕ → Listed ℕ → Type 0
ListsCaptured given s at before after = (t : Sexp) → SexpFields t → At s at (sexp_bytes t) → Names (captured t) given before after
