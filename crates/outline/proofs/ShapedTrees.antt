-- The outlines of valid trees are shaped: the fields behind the mark of each record are those of its mark. Assumes nothing.
use mathlib.Core.Path.{◌≡◌, refl, ap}
use mathlib.Core.List.{List, [], ◌∷◌}
use Prim.Native.Nat.{ℕ, suc}
use lib.ListN.{length}
use Rattle.names.specs.Names.{Bytes, name_field}
use Rattle.records.specs.declared.Family.{Family}
use Rattle.records.specs.declared.Family.TheVariants.{Body as a_Body, Binding as a_binding, Helper as a_helper, Form as a_form}
use Rattle.records.specs.Parts.{family_part}
use Rattle.records.specs.Records.{byte, kind_field, Sexp, SN, SC, SI, SQ, SA, Pattern, Name, Complex, Body, BL, BQ, BV, BC, BM, BF, Bodies, []ᵇ, ◌∷ᵇ◌, bodies_count, Tail, no_tail, tail, Binding, BB, Bindings, []ᵍ, ◌∷ᵍ◌, bindings_count, Helper, HC, HM, HD, HN, HR, Helpers, []ʰ, ◌∷ʰ◌, helpers_count, Form, CF}
use Rattle.records.specs.declared.Kind.{Kind}
use Rattle.records.specs.declared.Kind.TheVariants.{Parallel, Sequential, Assign}
use Rattle.records.specs.Valid.{ValidLoc, ValidName, SexpFields, ValidPattern, BodyFields, BodiesFields, TailFields, BindingFields, BindingsFields, HelperFields, HelpersFields, FormFields}
use Rattle.outline.specs.declared.Field.{Field}
use Rattle.outline.specs.declared.Field.TheVariants as fields
use Rattle.outline.specs.Outline.{Outline, Pieces, no_more, bytes_then, record_then, ◌++ᵖ◌, sexp_outline, pattern_pieces, body_outline, bodies_pieces, tail_pieces, binding_outline, bindings_pieces, helper_outline, helpers_pieces, form_outline, family_outline, OutlineOf, of_sexp, of_body, of_binding, of_helper, of_form}
use Rattle.outline.specs.Shape.{fields_of, records_then, PlainField, a_byte, a_loc, a_keyword, a_hint, a_number, a_name, a_raw, InShape, in_shape, AllInShape, none_in_shape, more_in_shape, FieldsAre, no_fields, more_fields, FieldIs, a_plain_field, a_record, a_name_pattern, a_complex_pattern, no_tail_field, a_tail_field, several_records}
use Rattle.outline.proofs.Listings.{join_none}

-- a field, and the fields behind it: bytes, a location, a name, a record
module _ {fs : List Field} {ps : Pieces} where
  plain_then : {f : Field} {bs : Bytes} → PlainField f bs → FieldsAre fs ps → FieldsAre (f ∷ fs) (bytes_then bs ps)
  unfolding ◌++ᵖ◌
  plain_then h k = more_fields (a_plain_field h) k

  loc_then : {l : Bytes} → ValidLoc l → FieldsAre fs ps → FieldsAre (fields.Loc ∷ fs) (bytes_then l ps)
  loc_then v k = plain_then (a_loc _ v.width) k

  name_then : (n : Bytes) → ValidName n → FieldsAre fs ps → FieldsAre (fields.Name ∷ fs) (bytes_then (name_field n) ps)
  name_then n v k = plain_then (a_name n v) k

  byte_then : (b : ℕ) → FieldsAre fs ps → FieldsAre (fields.Byte ∷ fs) (bytes_then (byte b) ps)
  unfolding byte
  byte_then b k = plain_then (a_byte _ refl) k

  child_then : {x : Outline} → InShape x → FieldsAre fs ps → FieldsAre (fields.Record ∷ fs) (record_then x ps)
  unfolding ◌++ᵖ◌
  child_then h k = more_fields (a_record h) k

-- n shaped records one behind the other
record SeveralAre (n : ℕ) (q : Pieces) : Type 0 where
  inside : List Outline
  each : AllInShape inside
  count : length inside ≡ n
  is : records_then inside ≡ q

-- none of them, and one more
several_none : SeveralAre 0 no_more
unfolding records_then
several_none = record { inside = []; each = none_in_shape; count = refl; is = refl }

several_more : {n : ℕ} {x : Outline} {q : Pieces} → InShape x → SeveralAre n q → SeveralAre (suc n) (record_then x q)
unfolding records_then
several_more {x = x} h k = record { inside = x ∷ k.inside; each = more_in_shape h k.each; count = ap suc k.count; is = ap (record_then x) k.is }

-- their count, they themselves, and the fields behind them
several_then : {fs : List Field} {ps q : Pieces} {n : ℕ} → SeveralAre n q → FieldsAre fs ps → FieldsAre (fields.Several ∷ fs) (bytes_then (byte n) (q ++ᵖ ps))
unfolding ◌++ᵖ◌
several_then k h = rw (← k.count, ← k.is) (more_fields (several_records k.inside k.each) h)

-- an S record
pub shaped_sexp : (s : Sexp) → SexpFields s → InShape (sexp_outline s)
unfolding SexpFields sexp_outline fields_of
shaped_sexp (SN l) v = in_shape (loc_then v no_fields)
shaped_sexp (SC l h t) (v, vh, vt) = in_shape (loc_then v (child_then (shaped_sexp h vh) (child_then (shaped_sexp t vt) no_fields)))
shaped_sexp (SI l v) (vl, vi) = in_shape (loc_then vl (plain_then (a_number v vi) no_fields))
shaped_sexp (SQ l q n) (v, vq, vn) = in_shape (loc_then v (byte_then q (name_then n vn no_fields)))
shaped_sexp (SA l n) (v, vn) = in_shape (loc_then v (name_then n vn no_fields))

-- a pattern
shaped_pattern : (p : Pattern) → ValidPattern p → FieldIs fields.Pattern (pattern_pieces p)
unfolding ValidPattern pattern_pieces
shaped_pattern (Name n) v = a_name_pattern n v
shaped_pattern (Complex s) v = a_complex_pattern (shaped_sexp s v.0)

-- the kind byte
kind_field_byte : (k : Kind) → PlainField fields.Byte (kind_field k)
unfolding kind_field byte
kind_field_byte Parallel = a_byte _ refl
kind_field_byte Sequential = a_byte _ refl
kind_field_byte Assign = a_byte _ refl

mutual
  unfolding BodyFields fields_of ◌++ᵖ◌ bodies_count bindings_count helpers_count body_outline bodies_pieces tail_pieces binding_outline bindings_pieces helper_outline helpers_pieces form_outline

  -- a B record
  pub shaped_body : (b : Body) → BodyFields b → InShape (body_outline b)
  shaped_body (BL k l w h bs b) (vl, vw, vh, vc, vbs, vb) =
      in_shape (plain_then (kind_field_byte k) (loc_then vl (plain_then (a_keyword w vw) (plain_then (a_hint h vh) (several_then (shaped_bindings bs vbs) (child_then (shaped_body b vb) no_fields))))))
  shaped_body (BQ s) v = in_shape (child_then (shaped_sexp s v.0) no_fields)
  shaped_body (BV s) v = in_shape (child_then (shaped_sexp s v.0) no_fields)
  shaped_body (BC l bs t) (vl, vc, vbs, vt) = in_shape (loc_then vl (several_then (shaped_bodies bs vbs) (shaped_tail t vt)))
  shaped_body (BM l f) (vl, vf) = in_shape (loc_then vl (child_then (shaped_form f vf) no_fields))
  shaped_body (BF l w ca c a b) (vl, vw, vca, vc, va, vb) =
      in_shape (loc_then vl (plain_then (a_keyword w vw) (child_then (shaped_sexp ca vca.0) (child_then (shaped_body c vc) (child_then (shaped_sexp a va.0) (child_then (shaped_body b vb) no_fields))))))

  -- the elements of a call
  shaped_bodies : (bs : Bodies) → BodiesFields bs → SeveralAre (bodies_count bs) (bodies_pieces bs)
  shaped_bodies []ᵇ v = several_none
  shaped_bodies (b ∷ᵇ bs) (v, vs) = several_more (shaped_body b v) (shaped_bodies bs vs)

  -- its tail, the last field of it
  shaped_tail : (t : Tail) → TailFields t → FieldsAre (fields.Tail ∷ []) (tail_pieces t)
  shaped_tail no_tail v = more_fields no_tail_field no_fields
  shaped_tail (tail b) v = more_fields (a_tail_field (shaped_body b v)) no_fields

  -- a BB
  pub shaped_binding : (b : Binding) → BindingFields b → InShape (binding_outline b)
  shaped_binding (BB l nl p b) (vl, vnl, vp, vb) = in_shape (loc_then vl (loc_then vnl (more_fields (shaped_pattern p vp) (child_then (shaped_body b vb) no_fields))))

  -- the bindings of a let
  shaped_bindings : (bs : Bindings) → BindingsFields bs → SeveralAre (bindings_count bs) (bindings_pieces bs)
  shaped_bindings []ᵍ v = several_none
  shaped_bindings (b ∷ᵍ bs) (v, vs) = several_more (shaped_binding b v) (shaped_bindings bs vs)

  -- an H record
  pub shaped_helper : (h : Helper) → HelperFields h → InShape (helper_outline h)
  shaped_helper (HC l n r b) (vl, vn, vr, vb) = in_shape (loc_then vl (name_then n vn (plain_then (a_raw r vr) (child_then (shaped_body b vb) no_fields))))
  shaped_helper (HM l n r a f) (vl, vn, vr, va, vf) =
      in_shape (loc_then vl (name_then n vn (plain_then (a_raw r vr) (child_then (shaped_sexp a va.0) (child_then (shaped_form f vf) no_fields)))))
  shaped_helper (HD l i n r a b) (vl, vi, vn, vr, va, vb) =
      in_shape (loc_then vl (byte_then i (name_then n vn (plain_then (a_raw r vr) (child_then (shaped_sexp a va.0) (child_then (shaped_body b vb) no_fields))))))
  shaped_helper (HN l n r hs) (vl, vn, vr, vc, vhs) =
      in_shape (loc_then vl (name_then n vn (plain_then (a_raw r vr) (rw (join_none (helpers_pieces hs)) at (several_then (shaped_helpers hs vhs) no_fields)))))
  shaped_helper (HR l n r) (vl, vn, vr) = in_shape (loc_then vl (name_then n vn (plain_then (a_raw r vr) no_fields)))

  -- helpers
  shaped_helpers : (hs : Helpers) → HelpersFields hs → SeveralAre (helpers_count hs) (helpers_pieces hs)
  shaped_helpers []ʰ v = several_none
  shaped_helpers (h ∷ʰ hs) (v, vs) = several_more (shaped_helper h v) (shaped_helpers hs vs)

  -- a CF
  pub shaped_form : (f : Form) → FormFields f → InShape (form_outline f)
  shaped_form (CF l r a hs b) (vl, vr, va, vc, vhs, vb) =
      in_shape (loc_then vl (plain_then (a_raw r vr) (child_then (shaped_sexp a va.0) (several_then (shaped_helpers hs vhs) (child_then (shaped_body b vb) no_fields)))))

-- a record of each family
pub shaped_family : (f : Family) (t : (family_part f).0) → (family_part f).2 t → InShape (family_outline f t)
shaped_family a_Body t v = shaped_body t v.0
shaped_family a_binding t v = shaped_binding t v.0
shaped_family a_helper t v = shaped_helper t v.0
shaped_family a_form t v = shaped_form t v.0

-- so the outline of every valid record is shaped
pub of_shaped : {x : Outline} → OutlineOf x → InShape x
of_shaped (of_sexp s v) = shaped_sexp s v
of_shaped (of_body b v) = shaped_body b v
of_shaped (of_binding b v) = shaped_binding b v
of_shaped (of_helper h v) = shaped_helper h v
of_shaped (of_form f v) = shaped_form f v
