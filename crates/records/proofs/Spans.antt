-- The spans of a node are its bytes, and what is said to stand at an offset of them does stand there. Assumes nothing.
use mathlib.Core.Path.{◌≡◌, refl}
use mathlib.Core.List.{List, ◌++◌, flatten, append-nil}
use Prim.Native.Nat.{ℕ, ◌+◌}
use native.Mathlib.Omega.{arith}
use lib.ListN.{length, length-append}
use lib.Seq.{drop-append_seam}
use Rattle.names.specs.Names.{Bytes}
use Rattle.names.specs.Segments.{At}
use Rattle.names.proofs.Parts.{at_from_part}
use Rattle.names.proofs.Places.{at_whole, at_left, at_from_drop}
use Rattle.records.specs.Lists.{joined}
use Rattle.records.specs.Mods.{Node, body_node, bodies_node, tail_node, binding_node, bindings_node, helper_node, helpers_node, form_node, node_bytes, Span, span_bytes, spans, OneOf, first_span, next_span, Inside, itself, further_in}
use Rattle.records.specs.Records.{record_bytes, byte, BL, BQ, BV, BC, BM, BF, body_bytes, []ᵇ, ◌∷ᵇ◌, bodies_bytes, no_tail, tail, tail_bytes, BB, binding_bytes, []ᵍ, ◌∷ᵍ◌, bindings_bytes, HC, HM, HD, HN, HR, helper_bytes, []ʰ, ◌∷ʰ◌, helpers_bytes, CF, form_bytes}

-- a node is its spans from left to right
pub spans_bytes : (t : Node) → joined span_bytes (spans t) ≡ node_bytes t
unfolding joined span_bytes spans node_bytes record_bytes flatten byte body_bytes bodies_bytes tail_bytes binding_bytes bindings_bytes helper_bytes helpers_bytes form_bytes
spans_bytes (body_node (BL k l w h bs b)) = refl
spans_bytes (body_node (BQ s)) = refl
spans_bytes (body_node (BV s)) = refl
spans_bytes (body_node (BC l bs t)) = refl
spans_bytes (body_node (BM l f)) = refl
spans_bytes (body_node (BF l w ca c a b)) = refl
spans_bytes (bodies_node []ᵇ) = refl
spans_bytes (bodies_node (b ∷ᵇ bs)) = simp append-nil
spans_bytes (tail_node no_tail) = refl
spans_bytes (tail_node (tail b)) = simp append-nil
spans_bytes (binding_node (BB l nl p b)) = refl
spans_bytes (bindings_node []ᵍ) = refl
spans_bytes (bindings_node (b ∷ᵍ bs)) = simp append-nil
spans_bytes (helper_node (HC l n r b)) = refl
spans_bytes (helper_node (HM l n r a f)) = refl
spans_bytes (helper_node (HD l i n r a b)) = refl
spans_bytes (helper_node (HN l n r hs)) = refl
spans_bytes (helper_node (HR l n r)) = refl
spans_bytes (helpers_node []ʰ) = refl
spans_bytes (helpers_node (h ∷ʰ hs)) = simp append-nil
spans_bytes (form_node (CF l r a hs b)) = refl

-- behind other bytes
at_behind : {ys bs : Bytes} {o : ℕ} (xs : Bytes) → At ys o bs → At (xs ++ ys) (length xs + o) bs
at_behind {ys} xs h = at_from_drop (length xs) (omega (arith, length-append xs ys)) (rw (drop-append_seam xs ys) h)

-- what stands in a segment stands in the whole
at_within : {xs bs cs : Bytes} {o p : ℕ} → At xs o bs → At bs p cs → At xs (o + p) cs
at_within {bs = bs} {o = o} h k = at_from_part o (length bs) (omega (arith, h.fits)) (rw h.there k)

-- one of the spans stands behind those before it
pub one_there : {xs : List Span} {u : Node} {o : ℕ} → OneOf xs u o → At (joined span_bytes xs) o (node_bytes u)
unfolding joined span_bytes
one_there (first_span {u} {xs}) = at_left (node_bytes u) (joined span_bytes xs) (at_whole (node_bytes u ++ joined span_bytes xs))
one_there (next_span {x} a) = at_behind (span_bytes x) (one_there a)

-- a node that stands in another
pub inside_there : {P : Node → Type 0} {t u : Node} {o : ℕ} → Inside P t u o → At (node_bytes t) o (node_bytes u)
inside_there (itself {t}) = at_whole (node_bytes t)
inside_there (further_in {t} p a i) = at_within (rw (spans_bytes t) at (one_there a)) (inside_there i)
