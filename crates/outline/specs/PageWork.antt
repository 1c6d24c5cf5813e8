-- What the functions of the call Page ask and say.
-- Assumes nothing.
use Rattle.std.specs.Prelude.{◌≡◌, ℕ, ◌+◌, ◌*◌, ◌-◌, ◌≤◌, length, take, drop}
use Rattle.std.specs.declared.option.Option.{Option}
use Rattle.std.specs.declared.option.Option.TheVariants.{Some, None}
use Rattle.names.specs.CallAnswer.{written}
use Rattle.names.specs.Names.{Bytes, name_field}
use Rattle.names.specs.Segments.{At, SameOutside, Filled}
use Rattle.records.specs.Limits.{most_longest}
use Rattle.records.specs.Records.{mark_width, loc_width, head_width, Form, form_bytes}
use Rattle.records.specs.Valid.{ValidName, FormFields}
use Rattle.records.specs.declared.NameView.{NameView}
use Rattle.records.specs.declared.SexpMark.TheVariants as sexps
use Rattle.records.specs.declared.HelperMark.TheVariants as helpers
use Rattle.outline.specs.declared.Entry.{Entry}
use Rattle.outline.specs.declared.Mark.{Mark}
use Rattle.outline.specs.declared.Mark.TheVariants as marks
use Rattle.outline.specs.declared.NamePlace.{NamePlace}
use Rattle.outline.specs.declared.NamePlace.TheVariants as places
use Rattle.outline.specs.Outline.{Outline, outline_name, outline_bytes, OutlineOf, form_outline}
use Rattle.outline.specs.Index.{nothing_around, outline_listing, index_bytes}
use Rattle.outline.specs.Page.{line_width, line, page}

-- where the first name field of a record stands that is its own, if it has one
unfoldable pub name_place : Mark → Option NamePlace
name_place (marks.Sexp sexps.Text) = Some (places.At (head_width + 1))
name_place (marks.Sexp sexps.Atom) = Some (places.At head_width)
name_place marks.Binding = Some (places.Pattern (head_width + loc_width))
name_place (marks.Helper helpers.Function) = Some (places.At (head_width + 1))
name_place (marks.Helper h) = Some (places.At head_width)
name_place m = None

-- it stands before the pattern of a BB, or at it
abbrev pub PlaceLow : Option NamePlace → Type 0
PlaceLow None = Unit {0}
PlaceLow (Some (places.At p)) = p ≤ head_width + loc_width
PlaceLow (Some (places.Pattern p)) = p ≤ head_width + loc_width

-- a name stands within s
abbrev pub LabelWithin : Bytes → Option NameView → Type 0
LabelWithin s None = Unit {0}
LabelWithin s (Some v) = (v.start ≤ v.end) × (v.end ≤ length s)

-- the name that a label says
unfoldable pub label_name : Bytes → Option NameView → Option Bytes
label_name s None = None
label_name s (Some v) = Some (take (v.end - v.start) (drop v.start s))

-- r says the name whose field stands at a place
pub record LabelsName (s : Bytes) (at : ℕ) (r : Option NameView) : Type 0 where
  pub within : LabelWithin s r
  pub says : (n : Bytes) → ValidName n → At s at (name_field n) → label_name s r ≡ Some n

-- r says the name of the record that s starts with
pub record Labels (s : Bytes) (r : Option NameView) : Type 0 where
  pub within : LabelWithin s r
  pub says : (x : Outline) → OutlineOf x → At s 0 (outline_bytes x) → label_name s r ≡ outline_name x

-- what a line is written from and to
pub record LineAsks (s : Bytes) (depth : ℕ) (out : Bytes) : Type 0 where
  pub mark : mark_width ≤ length s
  pub deep : depth ≤ most_longest
  pub room : line_width + 1 ≤ length out

-- the line of the record that s starts with is written at the start of the buffer, and nothing else
pub record LineWritten (s : Bytes) (depth : ℕ) (out out' : Bytes) : Type 0 where
  pub frame : SameOutside out out' 0 (line_width + 1)
  pub filled : (e : Entry) (x : Outline) → e.around.depth ≡ depth → OutlineOf x → At s 0 (outline_bytes x) → Filled out out' 0 (line (e, x)) (line_width + 1)

-- the form f, and the index of its n records
pub record Indexed (input entries : Bytes) (n : ℕ) (f : Form) : Type 0 where
  pub fields : FormFields f
  pub bytes : input ≡ form_bytes f
  pub index : At entries 0 (index_bytes (outline_listing nothing_around (form_outline f)))
  pub count : n ≡ length (outline_listing nothing_around (form_outline f))

-- what a page is written from and to
pub record PageAsks (input entries : Bytes) (n : ℕ) (out : Bytes) : Type 0 where
  pub form : Form
  pub indexed : Indexed input entries n form
  pub short : length input ≤ most_longest
  pub room : (line_width + 1) * n ≤ length out

-- the page of a form is written at the start of the buffer
abbrev pub PageWritten : Bytes → Bytes → ℕ → Bytes → Bytes → Type 0
PageWritten input entries n out out' = (f : Form) → Indexed input entries n f → out' ≡ written (page f) out
