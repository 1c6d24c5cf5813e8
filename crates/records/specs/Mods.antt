-- Refusal 4 by meaning: where in the bytes of a record a BM stands in a binding body of an assign that is not itself inside a BM. Said of trees and their
-- bytes, and not of reading. docs/FORMAT.md, 'Reading'.
-- Assumes nothing.
use Rattle.std.specs.Prelude.{◌≡◌, List, [], ◌∷◌, ℕ, ◌+◌, ◌≤◌, length}
use Rattle.names.specs.Names.{Bytes, ascii, name_field}
use Rattle.records.specs.Records.{Loc, byte, sexp_bytes, kind_field, pattern_field, Body, BL, BQ, BV, BC, BM, BF, body_bytes, Bodies, []ᵇ, ◌∷ᵇ◌, bodies_bytes, Tail, no_tail, tail, tail_bytes, Binding, BB, binding_bytes, Bindings, []ᵍ, ◌∷ᵍ◌, bindings_bytes, Helper, HC, HM, HD, HN, HR, helper_bytes, Helpers, []ʰ, ◌∷ʰ◌, helpers_bytes, Form, CF, form_bytes, bodies_count, bindings_count, helpers_count}
use Rattle.records.specs.declared.Kind.TheVariants.{Assign}

-- a part of a tree: a record, records one after the other, or the tail of a call; an S record has no BM in it, and is none
pub data Node : Type 0 where
  body_node : Body → Node
  bodies_node : Bodies → Node
  tail_node : Tail → Node
  binding_node : Binding → Node
  bindings_node : Bindings → Node
  helper_node : Helper → Node
  helpers_node : Helpers → Node
  form_node : Form → Node

-- its bytes
unfoldable pub node_bytes : Node → Bytes
node_bytes (body_node b) = body_bytes b
node_bytes (bodies_node bs) = bodies_bytes bs
node_bytes (tail_node t) = tail_bytes t
node_bytes (binding_node b) = binding_bytes b
node_bytes (bindings_node bs) = bindings_bytes bs
node_bytes (helper_node h) = helper_bytes h
node_bytes (helpers_node hs) = helpers_bytes hs
node_bytes (form_node f) = form_bytes f

-- a stretch of a node's bytes: bytes without any node, or a node
pub data Span : Type 0 where
  text : Bytes → Span
  sub : Node → Span

-- its bytes
unfoldable pub span_bytes : Span → Bytes
span_bytes (text bs) = bs
span_bytes (sub t) = node_bytes t

-- a node from left to right
unfoldable pub spans : Node → List Span
spans (body_node (BL k l w h bs b)) =
    text (ascii "BL") ∷ text (kind_field k) ∷ text l ∷ text w ∷ text h ∷ text (byte (bindings_count bs)) ∷ sub (bindings_node bs) ∷ sub (body_node b) ∷ []
spans (body_node (BQ s)) = text (ascii "BQ") ∷ text (sexp_bytes s) ∷ []
spans (body_node (BV s)) = text (ascii "BV") ∷ text (sexp_bytes s) ∷ []
spans (body_node (BC l bs t)) = text (ascii "BC") ∷ text l ∷ text (byte (bodies_count bs)) ∷ sub (bodies_node bs) ∷ sub (tail_node t) ∷ []
spans (body_node (BM l f)) = text (ascii "BM") ∷ text l ∷ sub (form_node f) ∷ []
spans (body_node (BF l w ca c a b)) =
    text (ascii "BF") ∷ text l ∷ text w ∷ text (sexp_bytes ca) ∷ sub (body_node c) ∷ text (sexp_bytes a) ∷ sub (body_node b) ∷ []
spans (bodies_node []ᵇ) = []
spans (bodies_node (b ∷ᵇ bs)) = sub (body_node b) ∷ sub (bodies_node bs) ∷ []
spans (tail_node no_tail) = text (byte 0) ∷ []
spans (tail_node (tail b)) = text (byte 1) ∷ sub (body_node b) ∷ []
spans (binding_node (BB l nl p b)) = text (ascii "BB") ∷ text l ∷ text nl ∷ text (pattern_field p) ∷ sub (body_node b) ∷ []
spans (bindings_node []ᵍ) = []
spans (bindings_node (b ∷ᵍ bs)) = sub (binding_node b) ∷ sub (bindings_node bs) ∷ []
spans (helper_node (HC l n r b)) = text (ascii "HC") ∷ text l ∷ text (name_field n) ∷ text r ∷ sub (body_node b) ∷ []
spans (helper_node (HM l n r a f)) = text (ascii "HM") ∷ text l ∷ text (name_field n) ∷ text r ∷ text (sexp_bytes a) ∷ sub (form_node f) ∷ []
spans (helper_node (HD l i n r a b)) =
    text (ascii "HD") ∷ text l ∷ text (byte i) ∷ text (name_field n) ∷ text r ∷ text (sexp_bytes a) ∷ sub (body_node b) ∷ []
spans (helper_node (HN l n r hs)) = text (ascii "HN") ∷ text l ∷ text (name_field n) ∷ text r ∷ text (byte (helpers_count hs)) ∷ sub (helpers_node hs) ∷ []
spans (helper_node (HR l n r)) = text (ascii "HR") ∷ text l ∷ text (name_field n) ∷ text r ∷ []
spans (helpers_node []ʰ) = []
spans (helpers_node (h ∷ʰ hs)) = sub (helper_node h) ∷ sub (helpers_node hs) ∷ []
spans (form_node (CF l r a hs b)) =
    text (ascii "CF") ∷ text l ∷ text r ∷ text (sexp_bytes a) ∷ text (byte (helpers_count hs)) ∷ sub (helpers_node hs) ∷ sub (body_node b) ∷ []

-- u is one of the spans, and what stands before it is o bytes long
pub data OneOf : List Span → Node → ℕ → Type 0 where
  first_span : {u : Node} {xs : List Span} → OneOf (sub u ∷ xs) u 0
  next_span : {x : Span} {xs : List Span} {u : Node} {o : ℕ} → OneOf xs u o → OneOf (x ∷ xs) u (length (span_bytes x) + o)

-- u stands in t, at whatever depth, at offset o of t's bytes; u may be t itself. All that it stands inside has P
pub data Inside (P : Node → Type 0) : Node → Node → ℕ → Type 0 where
  itself : {t : Node} → Inside P t t 0
  further_in : {t v u : Node} {o p : ℕ} → P t → OneOf (spans t) v o → Inside P v u p → Inside P t u (o + p)

-- nothing is asked
abbrev pub AnyNode : Node → Type 0
AnyNode t = Unit {0}

-- t is no BM
abbrev pub NotMod : Node → Type 0
NotMod t = (l : Loc) (f : Form) → t ≡ body_node (BM l f) → ⊥

-- a BM stands anywhere in t, at offset p of its bytes
abbrev pub AnyMod : Node → ℕ → Type 0
AnyMod t p = (l : Loc) × (f : Form) × Inside AnyNode t (body_node (BM l f)) p

-- a BM stands at offset p of the bytes of t, anywhere in a binding body of an assign, the assign not itself inside a BM.
-- B records stand among a let's bindings in binding bodies alone, so a BM in the bindings is one in a binding body
pub data AssignMod (t : Node) : ℕ → Type 0 where
  in_assign : {l : Loc} {w h : Bytes} {bs : Bindings} {b : Body} {o p q : ℕ}
      → Inside NotMod t (body_node (BL Assign l w h bs b)) o → OneOf (spans (body_node (BL Assign l w h bs b))) (bindings_node bs) p
      → AnyMod (bindings_node bs) q → AssignMod t (o + (p + q))

-- the first such BM stands at p
pub record FirstMod (t : Node) (p : ℕ) : Type 0 where
  pub there : AssignMod t p
  pub least : (q : ℕ) → AssignMod t q → p ≤ q

-- there is no such BM
abbrev pub NoAssignMod : Node → Type 0
NoAssignMod t = (p : ℕ) → AssignMod t p → ⊥
