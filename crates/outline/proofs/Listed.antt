-- What is listed of a form: each of its records, where it stands, and how many they are; and an entry of the index by its number. Assumes nothing.
use mathlib.Core.Path.{◌≡◌, refl, ap, ap₂, subst, ◌∙◌}
use mathlib.Core.List.{List, ◌∷◌, ◌++◌}
use native.Mathlib.Omega.{arith}
use Prim.Native.Nat.{suc, ◌+◌, ◌*◌, ◌≤◌}
use lib.ListN.{length, length-append}
use Rattle.names.specs.Names.{Bytes}
use Rattle.names.specs.Segments.{At}
use Rattle.names.proofs.Places.{at_whole, at_place, at_left, at_right}
use Rattle.records.specs.Limits.{most_longest}
use Rattle.records.specs.Lists.{joined, Each}
use Rattle.records.specs.Records.{Sexp, SN, SC, SI, SQ, SA, Pattern, Name, Complex, Body, BL, BQ, BV, BC, BM, BF, Bodies, []ᵇ, ◌∷ᵇ◌, Tail, no_tail, tail, Binding, BB, Bindings, []ᵍ, ◌∷ᵍ◌, Helper, HC, HM, HD, HN, HR, Helpers, []ʰ, ◌∷ʰ◌, Form, CF, form_bytes}
use Rattle.records.specs.Valid.{SexpFields, ValidPattern, BodyFields, BodiesFields, TailFields, BindingFields, BindingsFields, HelperFields, HelpersFields, FormFields}
use Rattle.outline.specs.declared.Around.{Around}
use Rattle.outline.specs.declared.Entry.{Entry}
use Rattle.outline.specs.Outline.{Outline, node, Pieces, no_more, bytes_then, record_then, record_alone, ◌++ᵖ◌, mark_bytes, outline_bytes, pieces_bytes, outline_records, pieces_records, sexp_outline, pattern_pieces, body_outline, bodies_pieces, tail_pieces, binding_outline, bindings_pieces, helper_outline, helpers_pieces, form_outline, OutlineOf, of_sexp, of_body, of_binding, of_helper, of_form}
use Rattle.outline.specs.Index.{nothing_around, moved_on, under, outline_listing, pieces_listing, entry_width, entry_bytes, index_bytes}
use Rattle.outline.specs.Shape.{EntryFits}
use Rattle.outline.proofs.Joins.{joined_append, each_append}
use Rattle.outline.proofs.Listings.{index_bytes_length}
use Rattle.outline.proofs.OutlineBytes.{form_outline_bytes}
use Rattle.outline.proofs.KnownMarks.{mark_long}

-- a record that is listed is that of a valid tree and stands in s as its entry says
pub record StandsIn (s : Bytes) (l : Entry × Outline) : Type 0 where
  pub of : OutlineOf l.1
  pub there : At s l.0.around.offset (outline_bytes l.1)
  pub deep : l.0.around.depth ≤ l.0.around.offset
  pub len : l.0.len ≡ length (outline_bytes l.1)

-- its numbers fit, if s is not too long
pub stands_small : {s : Bytes} {l : Entry × Outline} → StandsIn s l → length s ≤ most_longest → EntryFits l.0
stands_small h le = record { offset = omega (arith, h.there.fits); depth = omega (arith, h.there.fits, h.deep); len = omega (arith, h.there.fits, h.len) }

unfoldable mutual
  -- a record and all records in it are those of valid trees
  AllOf : Outline → Type 0
  AllOf (node m n ps) = OutlineOf (node m n ps) × AllIn ps

  -- all records of what follows a mark
  AllIn : Pieces → Type 0
  AllIn no_more = Unit {0}
  AllIn (bytes_then bs ps) = AllIn ps
  AllIn (record_then x ps) = AllOf x × AllIn ps

-- one behind the other
all_in_append : (p q : Pieces) → AllIn p → AllIn q → AllIn (p ++ᵖ q)
unfolding AllIn ◌++ᵖ◌
all_in_append no_more q h k = k
all_in_append (bytes_then bs p) q h k = all_in_append p q h k
all_in_append (record_then x p) q h k = (h.0, all_in_append p q h.1 k)

-- an S record
all_sexp : (s : Sexp) → SexpFields s → AllOf (sexp_outline s)
unfolding SexpFields AllOf sexp_outline
all_sexp (SN l) v = (of_sexp (SN l) v, tt)
all_sexp (SC l h t) v = (of_sexp (SC l h t) v, (all_sexp h v.1, (all_sexp t v.2, tt)))
all_sexp (SI l i) v = (of_sexp (SI l i) v, tt)
all_sexp (SQ l q n) v = (of_sexp (SQ l q n) v, tt)
all_sexp (SA l n) v = (of_sexp (SA l n) v, tt)

-- a pattern
all_pattern : (p : Pattern) → ValidPattern p → AllIn (pattern_pieces p)
unfolding ValidPattern AllIn pattern_pieces
all_pattern (Name n) v = tt
all_pattern (Complex s) v = (all_sexp s v.0, tt)

mutual
  unfolding BodyFields AllOf body_outline bodies_pieces tail_pieces binding_outline bindings_pieces helper_outline helpers_pieces form_outline

  -- a B record
  all_body : (b : Body) → BodyFields b → AllOf (body_outline b)
  all_body (BL k l w h bs b) v = (of_body (BL k l w h bs b) v, all_in_append (bindings_pieces bs) (record_alone (body_outline b)) (all_bindings bs v.4) (all_body b v.5, tt))
  all_body (BQ s) v = (of_body (BQ s) v, (all_sexp s v.0, tt))
  all_body (BV s) v = (of_body (BV s) v, (all_sexp s v.0, tt))
  all_body (BC l bs t) v = (of_body (BC l bs t) v, all_in_append (bodies_pieces bs) (tail_pieces t) (all_bodies bs v.2) (all_tail t v.3))
  all_body (BM l f) v = (of_body (BM l f) v, (all_form f v.1, tt))
  all_body (BF l w ca c a b) v = (of_body (BF l w ca c a b) v, (all_sexp ca v.2.0, (all_body c v.3, (all_sexp a v.4.0, (all_body b v.5, tt)))))

  -- the elements of a call
  all_bodies : (bs : Bodies) → BodiesFields bs → AllIn (bodies_pieces bs)
  all_bodies []ᵇ v = tt
  all_bodies (b ∷ᵇ bs) v = (all_body b v.0, all_bodies bs v.1)

  -- its tail
  all_tail : (t : Tail) → TailFields t → AllIn (tail_pieces t)
  all_tail no_tail v = tt
  all_tail (tail b) v = (all_body b v, tt)

  -- a BB
  all_binding : (b : Binding) → BindingFields b → AllOf (binding_outline b)
  all_binding (BB l nl p b) v = (of_binding (BB l nl p b) v, all_in_append (pattern_pieces p) (record_alone (body_outline b)) (all_pattern p v.2) (all_body b v.3, tt))

  -- the bindings of a let
  all_bindings : (bs : Bindings) → BindingsFields bs → AllIn (bindings_pieces bs)
  all_bindings []ᵍ v = tt
  all_bindings (b ∷ᵍ bs) v = (all_binding b v.0, all_bindings bs v.1)

  -- an H record
  all_helper : (h : Helper) → HelperFields h → AllOf (helper_outline h)
  all_helper (HC l n r b) v = (of_helper (HC l n r b) v, (all_body b v.3, tt))
  all_helper (HM l n r a f) v = (of_helper (HM l n r a f) v, (all_sexp a v.3.0, (all_form f v.4, tt)))
  all_helper (HD l i n r a b) v = (of_helper (HD l i n r a b) v, (all_sexp a v.4.0, (all_body b v.5, tt)))
  all_helper (HN l n r hs) v = (of_helper (HN l n r hs) v, all_helpers hs v.4)
  all_helper (HR l n r) v = (of_helper (HR l n r) v, tt)

  -- helpers
  all_helpers : (hs : Helpers) → HelpersFields hs → AllIn (helpers_pieces hs)
  all_helpers []ʰ v = tt
  all_helpers (h ∷ʰ hs) v = (all_helper h v.0, all_helpers hs v.1)

  -- a CF
  all_form : (f : Form) → FormFields f → AllOf (form_outline f)
  all_form (CF l r a hs b) v = (of_form (CF l r a hs b) v, (all_sexp a v.2.0, all_in_append (helpers_pieces hs) (record_alone (body_outline b)) (all_helpers hs v.4) (all_body b v.5, tt)))

module _ (s : Bytes) where
  mutual
    unfolding AllOf Each outline_bytes outline_listing

    -- a record that stands in s, and all in it
    outline_stands : (a : Around) (x : Outline) → AllOf x → a.depth ≤ a.offset → At s a.offset (outline_bytes x) → Each (StandsIn s) (outline_listing a x)
    outline_stands a (node m n ps) (o, i) d h =
        let k = mark_long m in (
          record { of = o; there = h; deep = d; len = refl },
          pieces_stands (moved_on (length (mark_bytes m)) (under m a)) ps i (omega arith) (at_right (mark_bytes m) (pieces_bytes ps) h),
        )

    -- what follows a mark
    pieces_stands : (a : Around) (ps : Pieces) → AllIn ps → a.depth ≤ a.offset → At s a.offset (pieces_bytes ps) → Each (StandsIn s) (pieces_listing a ps)
    pieces_stands a no_more i d h = tt
    pieces_stands a (bytes_then bs ps) i d h = pieces_stands (moved_on (length bs) a) ps i (omega arith) (at_right bs (pieces_bytes ps) h)
    pieces_stands a (record_then x ps) (o, i) d h =
        each_append (StandsIn s) (outline_listing a x) _ (outline_stands a x o d (at_left (outline_bytes x) (pieces_bytes ps) h)) (pieces_stands (moved_on (length (outline_bytes x)) a) ps i (omega arith) (at_right (outline_bytes x) (pieces_bytes ps) h))

-- each record that is listed of a form stands in its bytes
pub form_stands : (f : Form) → FormFields f → Each (StandsIn (form_bytes f)) (outline_listing nothing_around (form_outline f))
form_stands f v =
    let s = outline_bytes (form_outline f) in
    let ls = outline_listing nothing_around (form_outline f) in
    subst (λ (x : Bytes). Each (StandsIn x) ls) (form_outline_bytes f) (outline_stands s nothing_around (form_outline f) (all_form f v) (omega arith) (at_whole s))

mutual
  unfolding outline_listing outline_records

  -- as many are listed as there are records
  pub listing_counts : (a : Around) (x : Outline) → length (outline_listing a x) ≡ outline_records x
  listing_counts a (node m n ps) = ap suc (pieces_counts _ ps)

  -- of what follows a mark
  pub pieces_counts : (a : Around) (ps : Pieces) → length (pieces_listing a ps) ≡ pieces_records ps
  pieces_counts a no_more = refl
  pieces_counts a (bytes_then bs ps) = pieces_counts _ ps
  pieces_counts a (record_then x ps) = length-append (outline_listing a x) _ ∙ ap₂ ◌+◌ (listing_counts a x) (pieces_counts _ ps)

-- the entry behind those of others
pub index_at : {mem : Bytes} (before : List (Entry × Outline)) (l : Entry × Outline) (rest : List (Entry × Outline)) → At mem 0 (index_bytes (before ++ l ∷ rest))
    → At mem (entry_width * length before) (entry_bytes l.0)
unfolding index_bytes joined
index_at before l rest h =
    let e = joined_append (λ l. entry_bytes l.0) before (l ∷ rest) in
    at_place _ (omega (arith, index_bytes_length before)) (at_left (entry_bytes l.0) (index_bytes rest) (at_right (index_bytes before) _ (rw e at h)))
