-- The form records as trees, and the bytes of each. A location and every other field that is only copied (K, R, hint) is kept as its bytes.
-- docs/FORMAT.md, 'Records'.
-- Assumes nothing.
use mathlib.Core.List.{List, [], ◌∷◌, ◌++◌, flatten}
use Rattle.std.specs.Prelude.{ℕ, suc, ◌+◌, length}
use Prim.Native.String.{String}
use Rattle.names.specs.Names.{Bytes, ascii, number_field, name_field, number_of}
pub use Rattle.records.specs.declared.Kind.{Kind}
pub use Rattle.records.specs.declared.Kind.TheVariants.{Parallel, Sequential, Assign}

infixr 67 ◌∷ᵇ◌
infixr 67 ◌∷ᵍ◌
infixr 67 ◌∷ʰ◌
-- the bytes of a mark
abbrev pub mark_width : ℕ
mark_width = 2

-- the bytes of a location
abbrev pub loc_width : ℕ
loc_width = 4

-- the bytes of a mark and a location, with which a record starts
abbrev pub head_width : ℕ
head_width = mark_width + loc_width

-- the bytes of the count that stands before a number
abbrev pub integer_width : ℕ
integer_width = 1

-- the bytes of the length of R
abbrev pub raw_width : ℕ
raw_width = 2

-- L: carried and never interpreted
abbrev pub Loc : Type 0
Loc = Bytes

-- nil; head and tail; a number's signed bytes; quote byte and text; an atom's name
pub data Sexp : Type 0 where
  SN : Loc → Sexp
  SC : Loc → Sexp → Sexp → Sexp
  SI : Loc → Bytes → Sexp
  SQ : Loc → ℕ → Bytes → Sexp
  SA : Loc → Bytes → Sexp

-- what a binding binds
pub data Pattern : Type 0 where
  Name : Bytes → Pattern
  Complex : Sexp → Pattern

mutual
  -- BL: kind, L, K, hint, bindings, body. BC: L, elements, tail. BF: L, K, capture args, captures, args, body
  pub data Body : Type 0 where
    BL : Kind → Loc → Bytes → Bytes → Bindings → Body → Body
    BQ : Sexp → Body
    BV : Sexp → Body
    BC : Loc → Bodies → Tail → Body
    BM : Loc → Form → Body
    BF : Loc → Bytes → Sexp → Body → Sexp → Body → Body

  -- the elements of a call
  pub data Bodies : Type 0 where
    []ᵇ : Bodies
    ◌∷ᵇ◌ : Body → Bodies → Bodies

  -- the tail of a call
  pub data Tail : Type 0 where
    no_tail : Tail
    tail : Body → Tail

  -- L, L of the name, pattern, body
  pub data Binding : Type 0 where
    BB : Loc → Loc → Pattern → Body → Binding

  -- the bindings of a let
  pub data Bindings : Type 0 where
    []ᵍ : Bindings
    ◌∷ᵍ◌ : Binding → Bindings → Bindings

  -- each with L, name, R. HM: args, form. HD: the inline byte stands after L
  pub data Helper : Type 0 where
    HC : Loc → Bytes → Bytes → Body → Helper
    HM : Loc → Bytes → Bytes → Sexp → Form → Helper
    HD : Loc → ℕ → Bytes → Bytes → Sexp → Body → Helper
    HN : Loc → Bytes → Bytes → Helpers → Helper
    HR : Loc → Bytes → Bytes → Helper

  -- the helpers of a namespace or a form
  pub data Helpers : Type 0 where
    []ʰ : Helpers
    ◌∷ʰ◌ : Helper → Helpers → Helpers

  -- L, R, args, helpers, body
  pub data Form : Type 0 where
    CF : Loc → Bytes → Sexp → Helpers → Body → Form

-- the lists of a record, and lists as such
unfoldable pub to_bodies : List Body → Bodies
to_bodies [] = []ᵇ
to_bodies (b ∷ bs) = b ∷ᵇ to_bodies bs

unfoldable pub to_bindings : List Binding → Bindings
to_bindings [] = []ᵍ
to_bindings (b ∷ bs) = b ∷ᵍ to_bindings bs

unfoldable pub list_of : Bindings → List Binding
list_of []ᵍ = []
list_of (b ∷ᵍ bs) = b ∷ list_of bs

unfoldable pub to_helpers : List Helper → Helpers
to_helpers [] = []ʰ
to_helpers (h ∷ hs) = h ∷ʰ to_helpers hs

-- a record is its mark and its fields
unfoldable pub record_bytes : String → List Bytes → Bytes
record_bytes mark fields = ascii mark ++ flatten fields

-- one byte
unfoldable pub byte : ℕ → Bytes
byte b = b ∷ []

-- the bytes of a number, after their count
unfoldable pub integer_field : Bytes → Bytes
integer_field v = number_field integer_width (length v) ++ v

-- the bytes of each record
unfoldable pub sexp_bytes : Sexp → Bytes
sexp_bytes (SN l) = record_bytes "SN" (l ∷ [])
sexp_bytes (SC l h t) = record_bytes "SC" (l ∷ sexp_bytes h ∷ sexp_bytes t ∷ [])
sexp_bytes (SI l v) = record_bytes "SI" (l ∷ integer_field v ∷ [])
sexp_bytes (SQ l q n) = record_bytes "SQ" (l ∷ byte q ∷ name_field n ∷ [])
sexp_bytes (SA l n) = record_bytes "SA" (l ∷ name_field n ∷ [])

-- the kind byte
unfoldable pub kind_field : Kind → Bytes
kind_field Parallel = byte 0
kind_field Sequential = byte 1
kind_field Assign = byte 2

-- 0 and a name, or 1 and an S record
unfoldable pub pattern_field : Pattern → Bytes
pattern_field (Name n) = 0 ∷ name_field n
pattern_field (Complex s) = 1 ∷ sexp_bytes s

-- how many
unfoldable pub bindings_count : Bindings → ℕ
bindings_count []ᵍ = 0
bindings_count (b ∷ᵍ bs) = suc (bindings_count bs)

unfoldable pub bodies_count : Bodies → ℕ
bodies_count []ᵇ = 0
bodies_count (b ∷ᵇ bs) = suc (bodies_count bs)

unfoldable pub helpers_count : Helpers → ℕ
helpers_count []ʰ = 0
helpers_count (h ∷ʰ hs) = suc (helpers_count hs)

unfoldable mutual
  -- B records
  pub body_bytes : Body → Bytes
  body_bytes (BL k l w h bs b) = record_bytes "BL" (kind_field k ∷ l ∷ w ∷ h ∷ byte (bindings_count bs) ∷ bindings_bytes bs ∷ body_bytes b ∷ [])
  body_bytes (BQ s) = record_bytes "BQ" (sexp_bytes s ∷ [])
  body_bytes (BV s) = record_bytes "BV" (sexp_bytes s ∷ [])
  body_bytes (BC l bs t) = record_bytes "BC" (l ∷ byte (bodies_count bs) ∷ bodies_bytes bs ∷ tail_bytes t ∷ [])
  body_bytes (BM l f) = record_bytes "BM" (l ∷ form_bytes f ∷ [])
  body_bytes (BF l w ca c a b) = record_bytes "BF" (l ∷ w ∷ sexp_bytes ca ∷ body_bytes c ∷ sexp_bytes a ∷ body_bytes b ∷ [])

  -- the elements of a call
  pub bodies_bytes : Bodies → Bytes
  bodies_bytes []ᵇ = []
  bodies_bytes (b ∷ᵇ bs) = body_bytes b ++ bodies_bytes bs

  -- 0, or 1 and the tail
  pub tail_bytes : Tail → Bytes
  tail_bytes no_tail = byte 0
  tail_bytes (tail b) = 1 ∷ body_bytes b

  -- BB
  pub binding_bytes : Binding → Bytes
  binding_bytes (BB l nl p b) = record_bytes "BB" (l ∷ nl ∷ pattern_field p ∷ body_bytes b ∷ [])

  -- the bindings of a let
  pub bindings_bytes : Bindings → Bytes
  bindings_bytes []ᵍ = []
  bindings_bytes (b ∷ᵍ bs) = binding_bytes b ++ bindings_bytes bs

  -- H records
  pub helper_bytes : Helper → Bytes
  helper_bytes (HC l n r b) = record_bytes "HC" (l ∷ name_field n ∷ r ∷ body_bytes b ∷ [])
  helper_bytes (HM l n r a f) = record_bytes "HM" (l ∷ name_field n ∷ r ∷ sexp_bytes a ∷ form_bytes f ∷ [])
  helper_bytes (HD l i n r a b) = record_bytes "HD" (l ∷ byte i ∷ name_field n ∷ r ∷ sexp_bytes a ∷ body_bytes b ∷ [])
  helper_bytes (HN l n r hs) = record_bytes "HN" (l ∷ name_field n ∷ r ∷ byte (helpers_count hs) ∷ helpers_bytes hs ∷ [])
  helper_bytes (HR l n r) = record_bytes "HR" (l ∷ name_field n ∷ r ∷ [])

  -- helpers one after the other
  pub helpers_bytes : Helpers → Bytes
  helpers_bytes []ʰ = []
  helpers_bytes (h ∷ʰ hs) = helper_bytes h ++ helpers_bytes hs

  -- CF
  pub form_bytes : Form → Bytes
  form_bytes (CF l r a hs b) = record_bytes "CF" (l ∷ r ∷ sexp_bytes a ∷ byte (helpers_count hs) ∷ helpers_bytes hs ∷ body_bytes b ∷ [])

-- the number of a location
unfoldable pub loc_number : Loc → ℕ
loc_number l = number_of l

-- unfolds with every definition of this file
unfoldable pub computing_records : Unit {0}
unfolding flatten loc_number to_bodies to_bindings list_of to_helpers record_bytes byte integer_field sexp_bytes kind_field pattern_field bindings_count bodies_count helpers_count body_bytes bodies_bytes tail_bytes binding_bytes bindings_bytes helper_bytes helpers_bytes form_bytes
computing_records = tt
