-- The mark of a record, the fields that follow it, and the outlines that are shaped so; what the functions that list records ask and say.
-- Assumes nothing.
use Rattle.std.specs.Prelude.{◌≡◌, List, [], ◌∷◌, ℕ, ◌+◌, ◌*◌, ◌^◌, ◌≤◌, ◌<◌, length, take}
use Rattle.std.specs.declared.option.Option.{Option}
use Rattle.std.specs.Bool.{then_some}
use Rattle.std.specs.Option.{option_or, option_map}
use Rattle.names.specs.Names.{Bytes, ascii, same, name_field}
use Rattle.names.specs.Segments.{At}
use Rattle.records.specs.Limits.{most_longest}
use Rattle.records.specs.Records.{loc_width, byte, integer_field}
use Rattle.records.specs.Scan.{sexp_mark_of, body_mark_of, helper_mark_of}
use Rattle.records.specs.Valid.{ValidName, ValidRaw, ValidKeyword, ValidHint, ValidInteger}
use Rattle.records.specs.declared.SexpMark.TheVariants as sexps
use Rattle.records.specs.declared.BodyMark.TheVariants as bodies
use Rattle.records.specs.declared.HelperMark.TheVariants as helpers
use Rattle.outline.specs.declared.Around.{Around}
use Rattle.outline.specs.declared.Counted.{Counted}
use Rattle.outline.specs.declared.Entry.{Entry}
use Rattle.outline.specs.declared.Field.{Field}
use Rattle.outline.specs.declared.Field.TheVariants as fields
use Rattle.outline.specs.declared.Mark.{Mark}
use Rattle.outline.specs.declared.Mark.TheVariants as marks
use Rattle.outline.specs.Outline.{Outline, node, Pieces, no_more, bytes_then, record_then, record_alone, ◌++ᵖ◌, outline_bytes, pieces_bytes}
use Rattle.outline.specs.Index.{moved_on, outline_listing, pieces_listing, place_width, entry_width, entry_bytes, index_bytes}

-- the mark of an S, B or H record, BB, CF, or none
abbrev pub first_mark : Bytes → Option Mark
first_mark x =
    option_or (option_map marks.Sexp (sexp_mark_of x))
    (option_or (option_map marks.Body (body_mark_of x))
    (option_or (option_map marks.Helper (helper_mark_of x))
    (option_or (then_some (same x (ascii "BB")) marks.Binding) (then_some (same x (ascii "CF")) marks.Form))))

-- the fields that follow a mark
unfoldable pub fields_of : Mark → List Field
fields_of (marks.Sexp sexps.Nil) = fields.Loc ∷ []
fields_of (marks.Sexp sexps.Pair) = fields.Loc ∷ fields.Record ∷ fields.Record ∷ []
fields_of (marks.Sexp sexps.Integer) = fields.Loc ∷ fields.Number ∷ []
fields_of (marks.Sexp sexps.Text) = fields.Loc ∷ fields.Byte ∷ fields.Name ∷ []
fields_of (marks.Sexp sexps.Atom) = fields.Loc ∷ fields.Name ∷ []
fields_of (marks.Body bodies.Let) = fields.Byte ∷ fields.Loc ∷ fields.Keyword ∷ fields.Hint ∷ fields.Several ∷ fields.Record ∷ []
fields_of (marks.Body bodies.Quoted) = fields.Record ∷ []
fields_of (marks.Body bodies.Value) = fields.Record ∷ []
fields_of (marks.Body bodies.Call) = fields.Loc ∷ fields.Several ∷ fields.Tail ∷ []
fields_of (marks.Body bodies.Mod) = fields.Loc ∷ fields.Record ∷ []
fields_of (marks.Body bodies.Lambda) = fields.Loc ∷ fields.Keyword ∷ fields.Record ∷ fields.Record ∷ fields.Record ∷ fields.Record ∷ []
fields_of marks.Binding = fields.Loc ∷ fields.Loc ∷ fields.Pattern ∷ fields.Record ∷ []
fields_of (marks.Helper helpers.Constant) = fields.Loc ∷ fields.Name ∷ fields.Raw ∷ fields.Record ∷ []
fields_of (marks.Helper helpers.Macro) = fields.Loc ∷ fields.Name ∷ fields.Raw ∷ fields.Record ∷ fields.Record ∷ []
fields_of (marks.Helper helpers.Function) = fields.Loc ∷ fields.Byte ∷ fields.Name ∷ fields.Raw ∷ fields.Record ∷ fields.Record ∷ []
fields_of (marks.Helper helpers.Namespace) = fields.Loc ∷ fields.Name ∷ fields.Raw ∷ fields.Several ∷ []
fields_of (marks.Helper helpers.Reference) = fields.Loc ∷ fields.Name ∷ fields.Raw ∷ []
fields_of marks.Form = fields.Loc ∷ fields.Raw ∷ fields.Record ∷ fields.Several ∷ fields.Record ∷ []

-- records one behind the other
unfoldable pub records_then : List Outline → Pieces
records_then [] = no_more
records_then (x ∷ xs) = record_then x (records_then xs)

-- the fields that are bytes alone
pub data PlainField : Field → Bytes → Type 0 where
  a_byte : (b : Bytes) → length b ≡ 1 → PlainField fields.Byte b
  a_loc : (l : Bytes) → length l ≡ loc_width → PlainField fields.Loc l
  a_keyword : (w : Bytes) → ValidKeyword w → PlainField fields.Keyword w
  a_hint : (h : Bytes) → ValidHint h → PlainField fields.Hint h
  a_number : (v : Bytes) → ValidInteger v → PlainField fields.Number (integer_field v)
  a_name : (n : Bytes) → ValidName n → PlainField fields.Name (name_field n)
  a_raw : (r : Bytes) → ValidRaw r → PlainField fields.Raw r

mutual
  -- a record whose fields are those of its mark
  pub data InShape : Outline → Type 0 where
    in_shape : {m : Mark} {n : Option Bytes} {ps : Pieces} → FieldsAre (fields_of m) ps → InShape (node m n ps)

  -- each of them
  pub data AllInShape : List Outline → Type 0 where
    none_in_shape : AllInShape []
    more_in_shape : {x : Outline} {xs : List Outline} → InShape x → AllInShape xs → AllInShape (x ∷ xs)

  -- fields, one behind the other
  pub data FieldsAre : List Field → Pieces → Type 0 where
    no_fields : FieldsAre [] no_more
    more_fields : {f : Field} {fs : List Field} {p ps : Pieces} → FieldIs f p → FieldsAre fs ps → FieldsAre (f ∷ fs) (p ++ᵖ ps)

  -- a field: bytes, a record, or bytes that say what follows
  pub data FieldIs : Field → Pieces → Type 0 where
    a_plain_field : {f : Field} {bs : Bytes} → PlainField f bs → FieldIs f (bytes_then bs no_more)
    a_record : {x : Outline} → InShape x → FieldIs fields.Record (record_alone x)
    a_name_pattern : (n : Bytes) → ValidName n → FieldIs fields.Pattern (bytes_then (byte 0) (bytes_then (name_field n) no_more))
    a_complex_pattern : {x : Outline} → InShape x → FieldIs fields.Pattern (bytes_then (byte 1) (record_alone x))
    no_tail_field : FieldIs fields.Tail (bytes_then (byte 0) no_more)
    a_tail_field : {x : Outline} → InShape x → FieldIs fields.Tail (bytes_then (byte 1) (record_alone x))
    several_records : (xs : List Outline) → AllInShape xs → FieldIs fields.Several (bytes_then (byte (length xs)) (records_then xs))

-- so many records are listed, up to there
abbrev pub counted_to : ℕ → ℕ → Counted
counted_to n at = record { count = n; end = at }

-- an entry whose numbers fit
pub record EntryFits (e : Entry) : Type 0 where
  pub offset : e.around.offset < 256 ^ place_width
  pub depth : e.around.depth < 256 ^ place_width
  pub len : e.len < 256 ^ place_width

-- the entry r stands behind k others
abbrev pub EntryAt : Bytes → ℕ → Entry → Type 0
EntryAt index k r = (e : Entry) → EntryFits e → At index (entry_width * k) (entry_bytes e) → r ≡ e

-- work memory has room for an entry for each byte of s, and the numbers of an entry fit
pub record IndexRoom (s mem : Bytes) (a : Around) : Type 0 where
  pub room : entry_width * length s ≤ length mem
  pub offset : a.offset + length s ≤ most_longest
  pub depth : a.depth ≤ a.offset

-- the entries of the record x, if s starts with it, stand at the start of work memory; r is their number and the length of x
pub record Indexes (s mem mem' : Bytes) (a : Around) (r : Counted) : Type 0 where
  pub within : r.end ≤ length s
  pub few : r.count ≤ r.end
  pub size : length mem' ≡ length mem
  pub ends : (x : Outline) → InShape x → At s 0 (outline_bytes x) → r.end ≡ length (outline_bytes x)
  pub counts : (x : Outline) → InShape x → At s 0 (outline_bytes x) → r.count ≡ length (outline_listing a x)
  pub lists : (x : Outline) → InShape x → At s 0 (outline_bytes x) → At mem' 0 (index_bytes (outline_listing a x))

-- records are listed up to a place behind a mark, no more of them than bytes, and work memory has room for what follows
pub record Begun (s mem : Bytes) (a : Around) (c : Counted) : Type 0 where
  pub room : entry_width * length s ≤ length mem
  pub offset : a.offset + length s ≤ most_longest
  pub depth : a.depth ≤ a.offset + 1
  pub started : 0 < c.end
  pub within : c.end ≤ length s
  pub few : c.count ≤ c.end

-- more is listed up to r than up to c: the entries that were there are kept
pub record GoesOn (s mem mem' : Bytes) (c r : Counted) : Type 0 where
  pub onward : c.end ≤ r.end
  pub more : c.count ≤ r.count
  pub within : r.end ≤ length s
  pub few : r.count ≤ r.end
  pub size : length mem' ≡ length mem
  pub kept : take (entry_width * c.count) mem' ≡ take (entry_width * c.count) mem

-- p, which stands where c ends, is entered: its entries follow those of c, and r goes on behind it. a is where the bytes start
pub record Entered (mem : Bytes) (a : Around) (c r : Counted) (p : Pieces) : Type 0 where
  pub ends : r.end ≡ c.end + length (pieces_bytes p)
  pub counts : r.count ≡ c.count + length (pieces_listing (moved_on c.end a) p)
  pub entries : At mem (entry_width * c.count) (index_bytes (pieces_listing (moved_on c.end a) p))

-- what stands in s where c ends, if it is P, is listed up to r
pub record IndexesOn (P : Pieces → Type 0) (s mem mem' : Bytes) (a : Around) (c r : Counted) : Type 0 where
  pub goes : GoesOn s mem mem' c r
  pub lists : (p : Pieces) → P p → At s c.end (pieces_bytes p) → Entered mem' a c r p
