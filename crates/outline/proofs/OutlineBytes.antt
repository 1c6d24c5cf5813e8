-- The bytes of an outline are those of its tree. Assumes nothing.
use mathlib.Core.Path.{◌≡◌, refl}
use mathlib.Core.List.{append-nil}
use Rattle.records.specs.declared.Family.{Family}
use Rattle.records.specs.declared.Family.TheVariants.{Body as a_Body, Binding as a_binding, Helper as a_helper, Form as a_form}
use Rattle.records.specs.Parts.{family_part}
use Rattle.records.specs.Records.{computing_records, Sexp, SN, SC, SI, SQ, SA, sexp_bytes, Pattern, Name, Complex, pattern_field, Body, BL, BQ, BV, BC, BM, BF, body_bytes, Bodies, []ᵇ, ◌∷ᵇ◌, bodies_bytes, Tail, no_tail, tail, tail_bytes, Binding, BB, binding_bytes, Bindings, []ᵍ, ◌∷ᵍ◌, bindings_bytes, Helper, HC, HM, HD, HN, HR, helper_bytes, Helpers, []ʰ, ◌∷ʰ◌, helpers_bytes, Form, CF, form_bytes}
use Rattle.outline.specs.Outline.{mark_bytes, outline_bytes, pieces_bytes, record_alone, sexp_outline, pattern_pieces, body_outline, bodies_pieces, tail_pieces, binding_outline, bindings_pieces, helper_outline, helpers_pieces, form_outline, family_outline}
use Rattle.outline.proofs.Listings.{pieces_bytes_join}

-- an S record
pub sexp_outline_bytes : (s : Sexp) → outline_bytes (sexp_outline s) ≡ sexp_bytes s
unfolding computing_records mark_bytes outline_bytes pieces_bytes sexp_outline
sexp_outline_bytes (SN l) = refl
sexp_outline_bytes (SC l h t) = rw (sexp_outline_bytes h, sexp_outline_bytes t) refl
sexp_outline_bytes (SI l v) = refl
sexp_outline_bytes (SQ l q n) = refl
sexp_outline_bytes (SA l n) = refl

-- a pattern
pub pattern_pieces_bytes : (p : Pattern) → pieces_bytes (pattern_pieces p) ≡ pattern_field p
unfolding computing_records pieces_bytes pattern_pieces
pattern_pieces_bytes (Name n) = rw append-nil refl
pattern_pieces_bytes (Complex s) = rw (sexp_outline_bytes s, append-nil) refl

mutual
  unfolding computing_records mark_bytes outline_bytes pieces_bytes body_outline bodies_pieces tail_pieces binding_outline bindings_pieces helper_outline helpers_pieces form_outline

  -- a B record
  pub body_outline_bytes : (b : Body) → outline_bytes (body_outline b) ≡ body_bytes b
  body_outline_bytes (BL k l w h bs b) = rw (pieces_bytes_join (bindings_pieces bs) (record_alone (body_outline b)), bindings_pieces_bytes bs, body_outline_bytes b) refl
  body_outline_bytes (BQ s) = rw (sexp_outline_bytes s) refl
  body_outline_bytes (BV s) = rw (sexp_outline_bytes s) refl
  body_outline_bytes (BC l bs t) = rw (pieces_bytes_join (bodies_pieces bs) (tail_pieces t), bodies_pieces_bytes bs, tail_pieces_bytes t, append-nil) refl
  body_outline_bytes (BM l f) = rw (form_outline_bytes f) refl
  body_outline_bytes (BF l w ca c a b) = rw (sexp_outline_bytes ca, body_outline_bytes c, sexp_outline_bytes a, body_outline_bytes b) refl

  -- the elements of a call
  pub bodies_pieces_bytes : (bs : Bodies) → pieces_bytes (bodies_pieces bs) ≡ bodies_bytes bs
  bodies_pieces_bytes []ᵇ = refl
  bodies_pieces_bytes (b ∷ᵇ bs) = rw (body_outline_bytes b, bodies_pieces_bytes bs) refl

  -- its tail
  pub tail_pieces_bytes : (t : Tail) → pieces_bytes (tail_pieces t) ≡ tail_bytes t
  tail_pieces_bytes no_tail = refl
  tail_pieces_bytes (tail b) = rw (body_outline_bytes b, append-nil) refl

  -- a BB
  pub binding_outline_bytes : (b : Binding) → outline_bytes (binding_outline b) ≡ binding_bytes b
  binding_outline_bytes (BB l nl p b) = rw (pieces_bytes_join (pattern_pieces p) (record_alone (body_outline b)), pattern_pieces_bytes p, body_outline_bytes b) refl

  -- the bindings of a let
  pub bindings_pieces_bytes : (bs : Bindings) → pieces_bytes (bindings_pieces bs) ≡ bindings_bytes bs
  bindings_pieces_bytes []ᵍ = refl
  bindings_pieces_bytes (b ∷ᵍ bs) = rw (binding_outline_bytes b, bindings_pieces_bytes bs) refl

  -- an H record
  pub helper_outline_bytes : (h : Helper) → outline_bytes (helper_outline h) ≡ helper_bytes h
  helper_outline_bytes (HC l n r b) = rw (body_outline_bytes b) refl
  helper_outline_bytes (HM l n r a f) = rw (sexp_outline_bytes a, form_outline_bytes f) refl
  helper_outline_bytes (HD l i n r a b) = rw (sexp_outline_bytes a, body_outline_bytes b) refl
  helper_outline_bytes (HN l n r hs) = rw (helpers_pieces_bytes hs, append-nil) refl
  helper_outline_bytes (HR l n r) = refl

  -- helpers
  pub helpers_pieces_bytes : (hs : Helpers) → pieces_bytes (helpers_pieces hs) ≡ helpers_bytes hs
  helpers_pieces_bytes []ʰ = refl
  helpers_pieces_bytes (h ∷ʰ hs) = rw (helper_outline_bytes h, helpers_pieces_bytes hs) refl

  -- a CF
  pub form_outline_bytes : (f : Form) → outline_bytes (form_outline f) ≡ form_bytes f
  form_outline_bytes (CF l r a hs b) = rw (sexp_outline_bytes a, pieces_bytes_join (helpers_pieces hs) (record_alone (body_outline b)), helpers_pieces_bytes hs, body_outline_bytes b) refl

-- a record of each family
pub family_outline_bytes : (f : Family) (t : (family_part f).0) → outline_bytes (family_outline f t) ≡ (family_part f).1 t
family_outline_bytes a_Body t = body_outline_bytes t
family_outline_bytes a_binding t = binding_outline_bytes t
family_outline_bytes a_helper t = helper_outline_bytes t
family_outline_bytes a_form t = form_outline_bytes t
