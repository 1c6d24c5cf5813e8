-- The mark and the name of a record that stands at the start of a list of bytes. Assumes nothing.
use mathlib.Core.Path.{◌≡◌, refl, ap}
use mathlib.Core.List.{◌++◌}
use Rattle.std.specs.declared.option.Option.{Option}
use Rattle.std.specs.declared.option.Option.TheVariants.{Some, None}
use native.Mathlib.Omega.{arith}
use Prim.Native.Nat.{ℕ, ◌+◌, ◌-◌, ◌<◌}
use lib.ListN.{length, take, get_or}
use Rattle.names.specs.Names.{Bytes, ascii, name_field}
use Rattle.names.specs.Segments.{At}
use Rattle.names.proofs.Places.{at_is, at_left, at_place, at_right}
use Rattle.records.specs.Records.{mark_width, loc_width, head_width, byte, SN, SC, SI, SQ, SA, Name, Complex, BL, BQ, BV, BC, BM, BF, BB, HC, HM, HD, HN, HR, CF}
use Rattle.records.specs.Valid.{ValidLoc, ValidName, SexpFields, BindingFields, ValidPattern, HelperFields}
use Rattle.records.specs.Views.{SeesName}
use Rattle.records.specs.declared.NameView.{NameView}
use Rattle.records.proofs.Places.{byte_there}
use Rattle.records.specs.declared.SexpMark.TheVariants as sexps
use Rattle.records.specs.declared.HelperMark.TheVariants as helpers
use Rattle.outline.specs.declared.Mark.{Mark}
use Rattle.outline.specs.declared.Mark.TheVariants as marks
use Rattle.outline.specs.declared.NamePlace.{NamePlace}
use Rattle.outline.specs.declared.NamePlace.TheVariants as places
use Rattle.outline.specs.Outline.{Outline, outline_mark, outline_name, mark_bytes, outline_bytes, pieces_bytes, ◌++ᵖ◌, sexp_outline, pattern_pieces, own_name, body_outline, binding_outline, helper_outline, form_outline, OutlineOf, of_sexp, of_body, of_binding, of_helper, of_form}
use Rattle.outline.specs.Shape.{first_mark}
use Rattle.outline.specs.PageWork.{name_place, label_name, LabelsName, Labels}
use Rattle.outline.proofs.KnownMarks.{mark_long, no_mark, mark_same}

-- there is no name behind the end
pub no_name_past : {s : Bytes} {at : ℕ} → length s < at → LabelsName s at None
no_name_past lt = record { within = tt; says = λ n v a. absurd (omega (arith, a.fits)) }

-- the name is what the view has
pub name_seen : {s : Bytes} {at : ℕ} {v : NameView} → SeesName s at v → LabelsName s at (Some v)
unfolding label_name
name_seen {s} {at} {v} k = record {
  within = (k.forward, k.within);
  says = λ n valid a.
      let there = k.sees n valid a in
      ap Some (at_is v.start (v.end - v.start) refl (omega (arith, there.ends)) there.bytes);
}

-- the place of a name, and the name that stands there, if a record has one
data NameStands (s : Bytes) : Option NamePlace → Option Bytes → Type 0 where
  no_place : NameStands s None None
  a_place : {p : ℕ} {n : Bytes} → ValidName n → At s p (name_field n) → NameStands s (Some (places.At p)) (Some n)
  name_place_there : {p : ℕ} {n : Bytes} → get_or s p 0 ≡ 0 → ValidName n → At s (p + 1) (name_field n) → NameStands s (Some (places.Pattern p)) (Some n)
  record_place_there : {p : ℕ} → get_or s p 0 ≡ 1 → NameStands s (Some (places.Pattern p)) None

-- what follows a mark and an L, and a byte behind them
module _ {s : Bytes} (m : Mark) (l : Bytes) (rest : Bytes) where
  -- behind the head
  past_head_at : ValidLoc l → At s 0 (mark_bytes m ++ (l ++ rest)) → At s head_width rest
  past_head_at v a = at_place head_width (omega (arith, mark_long m, v.width)) (at_right l rest (at_right (mark_bytes m) (l ++ rest) a))

-- behind a byte
past_byte_at : {s : Bytes} {p : ℕ} (b : ℕ) (rest : Bytes) → At s p (byte b ++ rest) → At s (p + 1) rest
unfolding byte
past_byte_at b rest a = at_right (byte b) rest a

-- where the name of every record stands
name_stands : {s : Bytes} {x : Outline} → OutlineOf x → At s 0 (outline_bytes x) → NameStands s (name_place (outline_mark x)) (outline_name x)
unfolding name_place outline_mark outline_name outline_bytes pieces_bytes ◌++ᵖ◌ mark_bytes ascii sexp_outline pattern_pieces own_name body_outline binding_outline helper_outline form_outline SexpFields BindingFields ValidPattern HelperFields
name_stands (of_sexp (SN l) v) a = no_place
name_stands (of_sexp (SC l h t) v) a = no_place
name_stands (of_sexp (SI l b) v) a = no_place
name_stands (of_sexp (SQ l q n) v) a = a_place v.2 (at_left (name_field n) _ (past_byte_at q _ (past_head_at (marks.Sexp sexps.Text) l _ v.0 a)))
name_stands (of_sexp (SA l n) v) a = a_place v.1 (at_left (name_field n) _ (past_head_at (marks.Sexp sexps.Atom) l _ v.0 a))
name_stands (of_body (BL k l w h bs b) v) a = no_place
name_stands (of_body (BQ s) v) a = no_place
name_stands (of_body (BV s) v) a = no_place
name_stands (of_body (BC l bs t) v) a = no_place
name_stands (of_body (BM l f) v) a = no_place
name_stands (of_body (BF l w ca c d b) v) a = no_place
name_stands (of_binding (BB l nl (Name n) b) v) a =
    let p = at_place (head_width + loc_width) (omega (arith, v.1.width)) (at_right nl _ (past_head_at marks.Binding l _ v.0 a)) in
    name_place_there (byte_there 0 (at_left (byte 0) _ p)) v.2 (at_left (name_field n) _ (past_byte_at 0 _ p))
name_stands (of_binding (BB l nl (Complex s) b) v) a =
    let p = at_place (head_width + loc_width) (omega (arith, v.1.width)) (at_right nl _ (past_head_at marks.Binding l _ v.0 a)) in
    record_place_there (byte_there 1 (at_left (byte 1) _ p))
name_stands (of_helper (HC l n r b) v) a = a_place v.1 (at_left (name_field n) _ (past_head_at (marks.Helper helpers.Constant) l _ v.0 a))
name_stands (of_helper (HM l n r d f) v) a = a_place v.1 (at_left (name_field n) _ (past_head_at (marks.Helper helpers.Macro) l _ v.0 a))
name_stands (of_helper (HD l i n r d b) v) a = a_place v.2 (at_left (name_field n) _ (past_byte_at i _ (past_head_at (marks.Helper helpers.Function) l _ v.0 a)))
name_stands (of_helper (HN l n r hs) v) a = a_place v.1 (at_left (name_field n) _ (past_head_at (marks.Helper helpers.Namespace) l _ v.0 a))
name_stands (of_helper (HR l n r) v) a = a_place v.1 (at_left (name_field n) _ (past_head_at (marks.Helper helpers.Reference) l _ v.0 a))
name_stands (of_form (CF l r d hs b) v) a = no_place

-- what each place says of the name
nothing_there : {s : Bytes} {n : Option Bytes} → NameStands s None n → None ≡ n
nothing_there no_place = refl

-- at a place
named_there : {s : Bytes} {p : ℕ} {r : Option NameView} {n : Option Bytes} → LabelsName s p r → NameStands s (Some (places.At p)) n → label_name s r ≡ n
named_there l (a_place {n = n} v a) = l.says n v a

-- a pattern that is a record
record_there : {s : Bytes} {p : ℕ} {n : Option Bytes} → (get_or s p 0 ≡ 0 → ⊥) → NameStands s (Some (places.Pattern p)) n → None ≡ n
record_there ne (name_place_there z v a) = absurd (ne z)
record_there ne (record_place_there o) = refl

-- a pattern that is a name
pattern_there : {s : Bytes} {p : ℕ} {r : Option NameView} {n : Option Bytes} → get_or s p 0 ≡ 0 → LabelsName s (p + 1) r → NameStands s (Some (places.Pattern p)) n → label_name s r ≡ n
pattern_there z l (name_place_there {n = n} y v a) = l.says n v a
pattern_there z l (record_place_there o) = absurd (omega arith)

-- no mark, no record
pub label_unmarked : {s : Bytes} → None ≡ first_mark (take mark_width s) → Labels s None
label_unmarked is = record { within = tt; says = λ x o a. absurd (no_mark x a is) }

-- the label of the record that s starts with, by the place that its mark has
module _ {s : Bytes} (m : Mark) (is : Some m ≡ first_mark (take mark_width s)) where
  -- what the place that is known says of the record
  place_says : {p : Option NamePlace} → p ≡ name_place m → (x : Outline) → OutlineOf x → At s 0 (outline_bytes x) → NameStands s p (outline_name x)
  place_says e x o a = rw (e, mark_same x a is) (name_stands o a)

  -- no place, no name
  pub label_nowhere : None ≡ name_place m → Labels s None
  unfolding label_name
  label_nowhere e = record { within = tt; says = λ x o a. nothing_there (place_says e x o a) }

  -- the name at the place
  pub label_at : {p : ℕ} {r : Option NameView} → Some (places.At p) ≡ name_place m → LabelsName s p r → Labels s r
  label_at e l = record { within = l.within; says = λ x o a. named_there l (place_says e x o a) }

  -- a record as pattern, no name
  pub label_complex : {p : ℕ} → Some (places.Pattern p) ≡ name_place m → (get_or s p 0 ≡ 0 → ⊥) → Labels s None
  unfolding label_name
  label_complex e ne = record { within = tt; says = λ x o a. record_there ne (place_says e x o a) }

  -- the name behind the byte that says that the pattern is one
  pub label_pattern : {p : ℕ} {r : Option NameView} → Some (places.Pattern p) ≡ name_place m → get_or s p 0 ≡ 0 → LabelsName s (p + 1) r → Labels s r
  label_pattern e z l = record { within = l.within; says = λ x o a. pattern_there z l (place_says e x o a) }
