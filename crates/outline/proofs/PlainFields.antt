-- A field without records: what is listed goes on behind its bytes, and nothing is written. Assumes nothing.
use mathlib.Core.Path.{◌≡◌, refl}
use Prim.Native.Nat.{ℕ}
use native.Mathlib.Omega.{arith}
use Rattle.names.specs.Names.{Bytes}
use Rattle.names.proofs.Places.{at_left}
use Rattle.records.specs.Parts.{Part, Past, fixed_part, keyword_part, hint_part, name_part, raw_part}
use Rattle.records.specs.Records.{loc_width, integer_field}
use Rattle.records.specs.Valid.{ValidInteger}
use Rattle.records.specs.Views.{SeesInteger}
use Rattle.records.specs.declared.NameView.{NameView}
use Rattle.outline.specs.declared.Around.{Around}
use Rattle.outline.specs.declared.Counted.{Counted}
use Rattle.outline.specs.declared.Field.{Field}
use Rattle.outline.specs.declared.Field.TheVariants as fields
use Rattle.outline.specs.declared.index.Listing.{Listing}
use Rattle.outline.specs.Outline.{Pieces, no_more, bytes_then, pieces_bytes}
use Rattle.outline.specs.Shape.{a_byte, a_loc, a_keyword, a_hint, a_number, a_name, a_raw, FieldIs, a_plain_field, counted_to, Begun, IndexesOn}
use Rattle.outline.specs.Listing.{Lists}
use Rattle.outline.proofs.EnteredLaws.{begun_on, goes_past, entered_none, entered_bytes}

-- a field is the bytes of a tree of p
abbrev pub FieldTree : Part → Field → Type 0
FieldTree p f = (q : Pieces) → FieldIs f q → (t : p.0) × p.2 t × (bytes_then (p.1 t) no_more ≡ q)

-- one for each kind
pub byte_tree : FieldTree (fixed_part 1) fields.Byte
byte_tree q (a_plain_field (a_byte b v)) = (b, v, refl)

pub loc_tree : FieldTree (fixed_part loc_width) fields.Loc
loc_tree q (a_plain_field (a_loc l v)) = (l, v, refl)

pub keyword_tree : FieldTree keyword_part fields.Keyword
keyword_tree q (a_plain_field (a_keyword w v)) = (w, v, refl)

pub hint_tree : FieldTree hint_part fields.Hint
hint_tree q (a_plain_field (a_hint h v)) = (h, v, refl)

pub name_tree : FieldTree name_part fields.Name
name_tree q (a_plain_field (a_name n v)) = (n, v, refl)

pub raw_tree : FieldTree raw_part fields.Raw
raw_tree q (a_plain_field (a_raw r v)) = (r, v, refl)

-- a number as a part
abbrev number_part : Part
number_part = (Bytes, integer_field, ValidInteger)

pub number_tree : FieldTree number_part fields.Number
number_tree q (a_plain_field (a_number n v)) = (n, v, refl)

-- it ends where its view does
pub number_past : {s : Bytes} {at : ℕ} {v : NameView} → SeesInteger s at v → Past number_part s at v.end
number_past x = record { within = x.within; onward = omega (arith, x.onward, x.forward); past = λ n q a. (x.sees n q a).past }

-- a field ends where its tree does
pub plain_indexes : {s mem : Bytes} {a : Around} {c : Counted} {at : ℕ} {p : Part} {f : Field} → FieldTree p f → Begun s mem a c → Past p s c.end at
    → IndexesOn (FieldIs f) s mem mem a c (counted_to c.count at)
unfolding pieces_bytes
plain_indexes {s} {mem} {a} {c} {at} {p} h b x =
    let g = goes_past b x.onward x.within in
    record {
      goes = g;
      lists = λ q w i.
          let (t, v, e) = h q w in
          let there = at_left (p.1 t) (pieces_bytes no_more) (rw (← e) at i) in
          rw (← e) (entered_bytes (p.1 t) (x.past t v there) (entered_none (begun_on b g)));
    }

-- and is listed
pub plain_lists : {l : Listing} {at : ℕ} {p : Part} {f : Field} {g : Begun l.bytes.now l.mem.now l.around (counted_to l.count at)} → FieldTree p f → Past p l.bytes.now l.end at
    → Lists (FieldIs f) l (record { bytes = l.bytes; mem = l.mem; around = l.around; count = l.count; end = at; begun = g })
plain_lists {l} h x = record { same = record { bytes = refl; mem = refl; around = refl }; indexes = plain_indexes h l.begun x }
