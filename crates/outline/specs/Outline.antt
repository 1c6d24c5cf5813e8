-- The outline of a record: its mark, the first name field of its own, and what follows the mark from left to right, which is bytes or a record.
-- docs/FORMAT.md, 'Records'.
-- Assumes nothing.
use Rattle.std.specs.Prelude.{[], ◌++◌, ℕ, suc, ◌+◌}
use Rattle.std.specs.declared.option.Option.{Option}
use Rattle.std.specs.declared.option.Option.TheVariants.{Some, None}
use Rattle.names.specs.Names.{Bytes, ascii, name_field}
use Rattle.records.specs.declared.Family.{Family}
use Rattle.records.specs.declared.Family.TheVariants.{Body as a_Body, Binding as a_binding, Helper as a_helper, Form as a_form}
use Rattle.records.specs.Parts.{family_part}
use Rattle.records.specs.Records.{byte, integer_field, kind_field, Sexp, SN, SC, SI, SQ, SA, Pattern, Name, Complex, Body, BL, BQ, BV, BC, BM, BF, Bodies, []ᵇ, ◌∷ᵇ◌, bodies_count, Tail, no_tail, tail, Binding, BB, Bindings, []ᵍ, ◌∷ᵍ◌, bindings_count, Helper, HC, HM, HD, HN, HR, Helpers, []ʰ, ◌∷ʰ◌, helpers_count, Form, CF}
use Rattle.records.specs.Valid.{SexpFields, BodyFields, BindingFields, HelperFields, FormFields}
use Rattle.records.specs.declared.SexpMark.TheVariants as sexps
use Rattle.records.specs.declared.BodyMark.TheVariants as bodies
use Rattle.records.specs.declared.HelperMark.TheVariants as helpers
use Rattle.outline.specs.declared.Mark.{Mark}
use Rattle.outline.specs.declared.Mark.TheVariants as marks

infixr 67 ◌++ᵖ◌
mutual
  -- a record
  pub data Outline : Type 0 where
    node : Mark → Option Bytes → Pieces → Outline

  -- what follows its mark
  pub data Pieces : Type 0 where
    no_more : Pieces
    bytes_then : Bytes → Pieces → Pieces
    record_then : Outline → Pieces → Pieces

-- the mark of a record
unfoldable pub outline_mark : Outline → Mark
outline_mark (node m n ps) = m

-- its name
unfoldable pub outline_name : Outline → Option Bytes
outline_name (node m n ps) = n

-- the bytes of a mark
unfoldable pub mark_bytes : Mark → Bytes
mark_bytes (marks.Sexp sexps.Nil) = ascii "SN"
mark_bytes (marks.Sexp sexps.Pair) = ascii "SC"
mark_bytes (marks.Sexp sexps.Integer) = ascii "SI"
mark_bytes (marks.Sexp sexps.Text) = ascii "SQ"
mark_bytes (marks.Sexp sexps.Atom) = ascii "SA"
mark_bytes (marks.Body bodies.Let) = ascii "BL"
mark_bytes (marks.Body bodies.Quoted) = ascii "BQ"
mark_bytes (marks.Body bodies.Value) = ascii "BV"
mark_bytes (marks.Body bodies.Call) = ascii "BC"
mark_bytes (marks.Body bodies.Mod) = ascii "BM"
mark_bytes (marks.Body bodies.Lambda) = ascii "BF"
mark_bytes marks.Binding = ascii "BB"
mark_bytes (marks.Helper helpers.Constant) = ascii "HC"
mark_bytes (marks.Helper helpers.Macro) = ascii "HM"
mark_bytes (marks.Helper helpers.Function) = ascii "HD"
mark_bytes (marks.Helper helpers.Namespace) = ascii "HN"
mark_bytes (marks.Helper helpers.Reference) = ascii "HR"
mark_bytes marks.Form = ascii "CF"

unfoldable mutual
  -- the bytes of a record
  pub outline_bytes : Outline → Bytes
  outline_bytes (node m n ps) = mark_bytes m ++ pieces_bytes ps

  -- of what follows its mark
  pub pieces_bytes : Pieces → Bytes
  pieces_bytes no_more = []
  pieces_bytes (bytes_then bs ps) = bs ++ pieces_bytes ps
  pieces_bytes (record_then x ps) = outline_bytes x ++ pieces_bytes ps

unfoldable mutual
  -- how many records a record has, itself among them
  pub outline_records : Outline → ℕ
  outline_records (node m n ps) = suc (pieces_records ps)

  -- how many follow its mark
  pub pieces_records : Pieces → ℕ
  pieces_records no_more = 0
  pieces_records (bytes_then bs ps) = pieces_records ps
  pieces_records (record_then x ps) = outline_records x + pieces_records ps

-- one behind the other
unfoldable pub ◌++ᵖ◌ : Pieces → Pieces → Pieces
no_more ++ᵖ qs = qs
bytes_then bs ps ++ᵖ qs = bytes_then bs (ps ++ᵖ qs)
record_then x ps ++ᵖ qs = record_then x (ps ++ᵖ qs)

-- a record alone
abbrev pub record_alone : Outline → Pieces
record_alone x = record_then x no_more

-- an S record; a name is the first name field of an SQ and of an SA
unfoldable pub sexp_outline : Sexp → Outline
sexp_outline (SN l) = node (marks.Sexp sexps.Nil) None (bytes_then l no_more)
sexp_outline (SC l h t) = node (marks.Sexp sexps.Pair) None (bytes_then l (record_then (sexp_outline h) (record_alone (sexp_outline t))))
sexp_outline (SI l v) = node (marks.Sexp sexps.Integer) None (bytes_then l (bytes_then (integer_field v) no_more))
sexp_outline (SQ l q n) = node (marks.Sexp sexps.Text) (Some n) (bytes_then l (bytes_then (byte q) (bytes_then (name_field n) no_more)))
sexp_outline (SA l n) = node (marks.Sexp sexps.Atom) (Some n) (bytes_then l (bytes_then (name_field n) no_more))

-- a pattern
unfoldable pub pattern_pieces : Pattern → Pieces
pattern_pieces (Name n) = bytes_then (byte 0) (bytes_then (name_field n) no_more)
pattern_pieces (Complex s) = bytes_then (byte 1) (record_alone (sexp_outline s))

-- its name: that of a Complex pattern is no name field of the BB
unfoldable pub own_name : Pattern → Option Bytes
own_name (Name n) = Some n
own_name (Complex s) = None

unfoldable mutual
  -- a B record
  pub body_outline : Body → Outline
  body_outline (BL k l w h bs b) =
      node (marks.Body bodies.Let) None (bytes_then (kind_field k) (bytes_then l (bytes_then w (bytes_then h (bytes_then (byte (bindings_count bs)) (bindings_pieces bs ++ᵖ record_alone (body_outline b)))))))
  body_outline (BQ s) = node (marks.Body bodies.Quoted) None (record_alone (sexp_outline s))
  body_outline (BV s) = node (marks.Body bodies.Value) None (record_alone (sexp_outline s))
  body_outline (BC l bs t) = node (marks.Body bodies.Call) None (bytes_then l (bytes_then (byte (bodies_count bs)) (bodies_pieces bs ++ᵖ tail_pieces t)))
  body_outline (BM l f) = node (marks.Body bodies.Mod) None (bytes_then l (record_alone (form_outline f)))
  body_outline (BF l w ca c a b) =
      node (marks.Body bodies.Lambda) None (bytes_then l (bytes_then w (record_then (sexp_outline ca) (record_then (body_outline c) (record_then (sexp_outline a) (record_alone (body_outline b)))))))

  -- the elements of a call
  pub bodies_pieces : Bodies → Pieces
  bodies_pieces []ᵇ = no_more
  bodies_pieces (b ∷ᵇ bs) = record_then (body_outline b) (bodies_pieces bs)

  -- its tail
  pub tail_pieces : Tail → Pieces
  tail_pieces no_tail = bytes_then (byte 0) no_more
  tail_pieces (tail b) = bytes_then (byte 1) (record_alone (body_outline b))

  -- a BB: a pattern that is a name is its first name field
  pub binding_outline : Binding → Outline
  binding_outline (BB l nl p b) = node marks.Binding (own_name p) (bytes_then l (bytes_then nl (pattern_pieces p ++ᵖ record_alone (body_outline b))))

  -- the bindings of a let
  pub bindings_pieces : Bindings → Pieces
  bindings_pieces []ᵍ = no_more
  bindings_pieces (b ∷ᵍ bs) = record_then (binding_outline b) (bindings_pieces bs)

  -- an H record: each has a name
  pub helper_outline : Helper → Outline
  helper_outline (HC l n r b) = node (marks.Helper helpers.Constant) (Some n) (bytes_then l (bytes_then (name_field n) (bytes_then r (record_alone (body_outline b)))))
  helper_outline (HM l n r a f) =
      node (marks.Helper helpers.Macro) (Some n) (bytes_then l (bytes_then (name_field n) (bytes_then r (record_then (sexp_outline a) (record_alone (form_outline f))))))
  helper_outline (HD l i n r a b) =
      node (marks.Helper helpers.Function) (Some n) (bytes_then l (bytes_then (byte i) (bytes_then (name_field n) (bytes_then r (record_then (sexp_outline a) (record_alone (body_outline b)))))))
  helper_outline (HN l n r hs) = node (marks.Helper helpers.Namespace) (Some n) (bytes_then l (bytes_then (name_field n) (bytes_then r (bytes_then (byte (helpers_count hs)) (helpers_pieces hs)))))
  helper_outline (HR l n r) = node (marks.Helper helpers.Reference) (Some n) (bytes_then l (bytes_then (name_field n) (bytes_then r no_more)))

  -- helpers
  pub helpers_pieces : Helpers → Pieces
  helpers_pieces []ʰ = no_more
  helpers_pieces (h ∷ʰ hs) = record_then (helper_outline h) (helpers_pieces hs)

  -- a CF
  pub form_outline : Form → Outline
  form_outline (CF l r a hs b) =
      node marks.Form None (bytes_then l (bytes_then r (record_then (sexp_outline a) (bytes_then (byte (helpers_count hs)) (helpers_pieces hs ++ᵖ record_alone (body_outline b))))))

-- a record of each family
abbrev pub family_outline : (f : Family) → (family_part f).0 → Outline
family_outline a_Body = body_outline
family_outline a_binding = binding_outline
family_outline a_helper = helper_outline
family_outline a_form = form_outline

-- an outline is that of a record whose fields are valid
pub data OutlineOf : Outline → Type 0 where
  of_sexp : (s : Sexp) → SexpFields s → OutlineOf (sexp_outline s)
  of_body : (b : Body) → BodyFields b → OutlineOf (body_outline b)
  of_binding : (b : Binding) → BindingFields b → OutlineOf (binding_outline b)
  of_helper : (h : Helper) → HelperFields h → OutlineOf (helper_outline h)
  of_form : (f : Form) → FormFields f → OutlineOf (form_outline f)
