-- The first BM that the reader notes in a tree is the first of refusal 4 (specs/Mods.antt). Assumes nothing.
use mathlib.Core.Path.{◌≡◌, refl, ap, subst}
use mathlib.Core.List.{List, [], ◌∷◌}
use mathlib.Core.Logic.{◌⊎◌, inl, inr, ⊎_elim}
use Rattle.std.specs.Prelude.{Option, None, Some}
use Prim.Native.Nat.{ℕ, ◌+◌, ◌≤◌}
use native.Mathlib.Omega.{arith}
use lib.ListN.{length}
use Rattle.names.specs.Names.{Bytes}
use Rattle.records.specs.Mods.{Node, body_node, bodies_node, tail_node, binding_node, bindings_node, helper_node, helpers_node, form_node, node_bytes, Span, text, sub, span_bytes, spans, OneOf, first_span, next_span, Inside, itself, further_in, AnyNode, NotMod, AnyMod, AssignMod, in_assign}
use Rattle.records.specs.Read.{Zone, Plain, InBinding, InMod, noted, binding_zone}
use Rattle.records.specs.Records.{Loc, Body, BL, BQ, BV, BC, BM, BF, Bodies, []ᵇ, ◌∷ᵇ◌, Tail, no_tail, tail, Binding, BB, Bindings, []ᵍ, ◌∷ᵍ◌, Helper, HC, HM, HD, HN, HR, Helpers, []ʰ, ◌∷ʰ◌, Form, CF}
use Rattle.records.specs.declared.Kind.{Kind}
use Rattle.records.specs.declared.Kind.TheVariants.{Parallel, Sequential, Assign}
use Rattle.records.proofs.FirstMods.{earlier, behind, first_in, body_first, bodies_first, tail_first, binding_first, bindings_first, helper_first, helpers_first, form_first}
use Rattle.records.proofs.Spans.{inside_there}

-- x is the least number with P; or no number has it
abbrev pub Least : (ℕ → Type 0) → Option ℕ → Type 0
Least P None = (q : ℕ) → P q → ⊥
Least P (Some p) = P p × ((q : ℕ) → P q → p ≤ q)

-- there is one at most
module _ {P : ℕ → Type 0} where
  pub least_none : (x : Option ℕ) → Least P x → ((q : ℕ) → P q → ⊥) → x ≡ None
  least_none None h n = refl
  least_none (Some p) h n = absurd (n p h.0)

  pub least_some : (x : Option ℕ) (p : ℕ) → Least P x → P p → ((q : ℕ) → P q → p ≤ q) → x ≡ Some p
  least_some None p h m n = absurd (h p m)
  least_some (Some q) p h m n = let e : q ≡ p = omega (arith, h.1 p m, n q h.0) in ap Some e

module _ {P Q : ℕ → Type 0} where
  -- P said otherwise
  least_so : (x : Option ℕ) → ((q : ℕ) → P q → Q q) → ((q : ℕ) → Q q → P q) → Least P x → Least Q x
  least_so None f g h = λ q k. h q (g q k)
  least_so (Some p) f g h = (f p h.0, λ q k. h.1 q (g q k))

  -- n further on
  least_behind : (n : ℕ) (x : Option ℕ) → ((q : ℕ) → P q → Q (n + q)) → ((q : ℕ) → Q q → (r : ℕ) × P r × (q ≡ n + r)) → Least P x → Least Q (behind n x)
  least_behind n None f g h = λ q k. let w = g q k in h w.0 w.1
  least_behind n (Some p) f g h = (f p h.0, λ q k. let w = g q k in let e = h.1 w.0 w.1 in omega (arith, w.2))

module _ {P Q R : ℕ → Type 0} where
  -- P or Q, and what has P comes first
  least_earlier : (x y : Option ℕ) → ((q : ℕ) → P q → R q) → ((q : ℕ) → Q q → R q) → ((q : ℕ) → R q → P q ⊎ Q q)
      → ((p q : ℕ) → P p → Q q → p ≤ q) → Least P x → Least Q y → Least R (earlier x y)
  least_earlier None None f g s c h k = λ q r. ⊎_elim (λ a. h q a) (λ b. k q b) (s q r)
  least_earlier None (Some p) f g s c h k = (g p k.0, λ q r. ⊎_elim (λ a. absurd (h q a)) (λ b. k.1 q b) (s q r))
  least_earlier (Some p) y f g s c h k = (f p h.0, λ q r. ⊎_elim (λ a. h.1 q a) (λ b. c p q h.0 b) (s q r))

-- in one of the spans something has S
pub data InSpans (S : Node → ℕ → Type 0) (xs : List Span) : ℕ → Type 0 where
  in_span : {u : Node} {o p : ℕ} → OneOf xs u o → S u p → InSpans S xs (o + p)

-- the least number with S in each of the spans that is a node
data FirstOfEach (S : Node → ℕ → Type 0) : List Span → List (Bytes × Option ℕ) → Type 0 where
  no_more : FirstOfEach S [] []
  skip : {bs : Bytes} {xs : List Span} {ys : List (Bytes × Option ℕ)} → FirstOfEach S xs ys → FirstOfEach S (text bs ∷ xs) ((bs, None) ∷ ys)
  also : {u : Node} {xs : List Span} {ys : List (Bytes × Option ℕ)} (y : Option ℕ) → Least (S u) y → FirstOfEach S xs ys
      → FirstOfEach S (sub u ∷ xs) ((node_bytes u, y) ∷ ys)

-- S is said of offsets of a node's bytes
abbrev Offsets : (Node → ℕ → Type 0) → Type 0
Offsets S = (u : Node) (q : ℕ) → S u q → q ≤ length (node_bytes u)

-- no node is one of no spans
none_of : {xs : List Span} {u : Node} {o : ℕ} → OneOf xs u o → xs ≡ [] → ⊥
none_of first_span e = let z : ◌≡◌ {A = ℕ} 0 1 = cc in omega arith
none_of (next_span a) e = let z : ◌≡◌ {A = ℕ} 0 1 = cc in omega arith

-- what has S in spans, from left to right
module _ {S : Node → ℕ → Type 0} where
  -- in none
  in_none : (q : ℕ) → InSpans S [] q → ⊥
  in_none q (in_span a h) = none_of a refl

  -- the spans from the second on
  in_later : {x : Span} {xs : List Span} (q : ℕ) → InSpans S xs q → InSpans S (x ∷ xs) (length (span_bytes x) + q)
  in_later {x} {xs} q (in_span {o = o} {p = p} a h) =
      let n = length (span_bytes x) in
      let e : (n + o) + p ≡ n + (o + p) = omega arith in
      subst (InSpans S (x ∷ xs)) e (in_span (next_span a) h)

  -- it is not in bytes without a node
  in_text : {bs : Bytes} {xs : List Span} (q : ℕ) → InSpans S (text bs ∷ xs) q → (r : ℕ) × InSpans S xs r × (q ≡ length bs + r)
  unfolding span_bytes
  in_text q (in_span {p = p} (next_span {o = o} a) h) = (o + p, in_span a h, omega arith)

  -- it is in the first node, or behind it
  in_sub : {u : Node} {xs : List Span} (q : ℕ) → InSpans S (sub u ∷ xs) q → S u q ⊎ ((r : ℕ) × InSpans S xs r × (q ≡ length (node_bytes u) + r))
  unfolding span_bytes
  in_sub {u} q (in_span {p = p} first_span h) = inl (subst (S u) (let e : p ≡ 0 + p = omega arith in e) h)
  in_sub q (in_span {p = p} (next_span {o = o} a) h) = inr (o + p, in_span a h, omega arith)

  -- what is behind the first node
  in_behind : {u : Node} {xs : List Span} (q : ℕ) → (r : ℕ) × InSpans S xs r × (q ≡ length (node_bytes u) + r) → InSpans S (sub u ∷ xs) q
  unfolding span_bytes
  in_behind {u} {xs} q (r, k, e) = rw e (in_later r k)

  -- what is in it
  in_first : {u : Node} {xs : List Span} (q : ℕ) → S u q → InSpans S (sub u ∷ xs) q
  in_first {u} {xs} q k = let e : 0 + q ≡ q = omega arith in subst (InSpans S (sub u ∷ xs)) e (in_span first_span k)

-- of spans from left to right the first
first_spans : {S : Node → ℕ → Type 0} {xs : List Span} {ys : List (Bytes × Option ℕ)} → Offsets S → FirstOfEach S xs ys → Least (InSpans S xs) (first_in ys)
unfolding span_bytes
first_spans b no_more = in_none
first_spans b (skip {bs} {xs} {ys} f) = least_behind (length bs) (first_in ys) in_later in_text (first_spans b f)
first_spans b (also {u} {xs} {ys} y h f) =
    let n = length (node_bytes u) in
    least_earlier y (behind n (first_in ys)) in_first in_behind in_sub (λ p q k w. omega (arith, b u p k, w.2)) h
    (least_behind n (first_in ys) (λ q k. (q, k, refl)) (λ q k. k) (first_spans b f))

-- what stands in a node that stands in another
inside_again : {P : Node → Type 0} {t u v : Node} {o p : ℕ} → Inside P t u o → Inside P u v p → Inside P t v (o + p)
inside_again {P} {v = v} {p = p} (itself {t}) j = let e : p ≡ 0 + p = omega arith in subst (Inside P t v) e j
inside_again {P} {v = v} {p = p} (further_in {t} {o = o} {p = r} x a i) j =
    let e : o + (r + p) ≡ (o + r) + p = omega arith in
    subst (Inside P t v) e (further_in x a (inside_again i j))

-- whatever it stands inside
inside_any : {P : Node → Type 0} {t u : Node} {o : ℕ} → Inside P t u o → Inside AnyNode t u o
inside_any itself = itself
inside_any (further_in x a i) = further_in tt a (inside_any i)

-- a BM of refusal 4 is one of all
pub assign_any : {t : Node} (q : ℕ) → AssignMod t q → AnyMod t q
assign_any q (in_assign i a (l, f, j)) = (l, f, inside_again (inside_any i) (further_in tt a j))

-- a BM stands at an offset of the node's bytes
any_offset : Offsets AnyMod
any_offset u q (l, f, i) = omega (arith, (inside_there i).fits)

assign_offset : Offsets AssignMod
assign_offset u q m = any_offset u q (assign_any q m)

-- a BM anywhere in a node that is none stands in one of its spans
any_into : {t : Node} → NotMod t → (q : ℕ) → AnyMod t q → InSpans AnyMod (spans t) q
any_into n q (l, f, itself) = absurd (n l f refl)
any_into n q (l, f, further_in x a i) = in_span a (l, f, i)

-- and the other way
any_out : {t : Node} (q : ℕ) → InSpans AnyMod (spans t) q → AnyMod t q
any_out q (in_span a (l, f, i)) = (l, f, further_in tt a i)

-- and so where an assign is around it
assign_out : {t : Node} → NotMod t → (q : ℕ) → InSpans AssignMod (spans t) q → AssignMod t q
assign_out {t} n q (in_span {o = o} a (in_assign {o = r} {p = p} {q = k} i b m)) =
    let e : (o + r) + (p + k) ≡ o + (r + (p + k)) = omega arith in
    subst (AssignMod t) e (in_assign (further_in n a i) b m)

-- t is no assign
abbrev NotAssign : Node → Type 0
NotAssign t = (l : Loc) (w h : Bytes) (bs : Bindings) (b : Body) → t ≡ body_node (BL Assign l w h bs b) → ⊥

-- what refusal 4 speaks of in a node that is no assign is in one of its spans
assign_into : {t : Node} → NotAssign t → (q : ℕ) → AssignMod t q → InSpans AssignMod (spans t) q
assign_into {t} n q (in_assign {l} {w} {h} {bs} {b} itself a m) = absurd (n l w h bs b refl)
assign_into {t} n q (in_assign {p = p} {q = k} (further_in {o = o} {p = r} x a i) b m) =
    let e : o + (r + (p + k)) ≡ (o + r) + (p + k) = omega arith in
    subst (InSpans AssignMod (spans t)) e (in_span a (in_assign i b m))

-- where nothing is sought nothing is in the spans
in_nothing : {xs : List Span} (q : ℕ) → InSpans (λ u p. ⊥) xs q → ⊥
in_nothing q (in_span a k) = k

-- what the reader looks for in a zone
abbrev pub Sought : Zone → Node → ℕ → Type 0
Sought Plain t q = AssignMod t q
Sought InBinding t q = AnyMod t q
Sought InMod t q = ⊥

-- 1 for a BM, 2 for an assign, 0 for every other node
abbrev let_sort : Kind → ℕ
let_sort Parallel = 0
let_sort Sequential = 0
let_sort Assign = 2

abbrev sort : Node → ℕ
sort (body_node (BL k l w h bs b)) = let_sort k
sort (body_node (BQ s)) = 0
sort (body_node (BV s)) = 0
sort (body_node (BC l bs t)) = 0
sort (body_node (BM l f)) = 1
sort (body_node (BF l w ca c a b)) = 0
sort (bodies_node bs) = 0
sort (tail_node t) = 0
sort (binding_node b) = 0
sort (bindings_node bs) = 0
sort (helper_node h) = 0
sort (helpers_node hs) = 0
sort (form_node f) = 0

-- by its number
not_mod : (t : Node) → (sort t ≡ 1 → ⊥) → NotMod t
not_mod t n l f e = n (ap sort e)

not_assign : (t : Node) → (sort t ≡ 2 → ⊥) → NotAssign t
not_assign t n l w h bs b e = n (ap sort e)

-- in a BM nothing is sought
nothing_least : (t : Node) {ys : List (Bytes × Option ℕ)} → FirstOfEach (Sought InMod) (spans t) ys → Least (Sought InMod t) (first_in ys)
nothing_least t {ys} f = least_so (first_in ys) (in_nothing {xs = spans t}) (λ q k. absurd k) (first_spans (λ u q k. absurd k) f)

-- in a binding body of an assign every BM is
any_least : (t : Node) {ys : List (Bytes × Option ℕ)} → (sort t ≡ 1 → ⊥) → FirstOfEach AnyMod (spans t) ys → Least (AnyMod t) (first_in ys)
any_least t {ys} n f = least_so (first_in ys) any_out (any_into (not_mod t n)) (first_spans any_offset f)

-- a node that is neither a BM nor an assign
ordinary : (z : Zone) (t : Node) {ys : List (Bytes × Option ℕ)} → sort t ≡ 0 → FirstOfEach (Sought z) (spans t) ys → Least (Sought z t) (first_in ys)
ordinary Plain t {ys} n f =
    least_so (first_in ys) (assign_out (not_mod t (λ e. omega arith))) (assign_into (not_assign t (λ e. omega arith))) (first_spans assign_offset f)
ordinary InBinding t n f = any_least t (λ e. omega arith) f
ordinary InMod t n f = nothing_least t f

-- among what an assign has, its bindings are searched for every BM
abbrev InAssign : Bindings → Node → ℕ → Type 0
InAssign bs u q = AssignMod u q ⊎ ((u ≡ bindings_node bs) × AnyMod u q)

-- these are offsets too
in_assign_offset : (bs : Bindings) → Offsets (InAssign bs)
in_assign_offset bs u q k = ⊎_elim (λ m. assign_offset u q m) (λ m. any_offset u q m.1) k

module _ (l : Loc) (w h : Bytes) (bs : Bindings) (b : Body) where
  -- an assign
  abbrev assign : Node
  assign = body_node (BL Assign l w h bs b)

  -- what its spans have so
  in_assign_out : NotMod assign → (q : ℕ) → InSpans (InAssign bs) (spans assign) q → AssignMod assign q
  in_assign_out n q (in_span a (inl m)) = assign_out n q (in_span a m)
  in_assign_out n q (in_span {o = o} {p = p} a (inr (e, m))) =
      let d : 0 + (o + p) ≡ o + p = omega arith in
      subst (AssignMod assign) d (in_assign itself (rw e at a) (rw e at m))

-- is what refusal 4 speaks of
in_assign_into : {l : Loc} {w h : Bytes} {bs : Bindings} {b : Body} (t : Node) → t ≡ assign l w h bs b → (q : ℕ) → AssignMod t q → InSpans (InAssign bs) (spans t) q
in_assign_into {bs = bs} t e q (in_assign {p = p} {q = k} itself a m) =
    let d : p + k ≡ 0 + (p + k) = omega arith in
    subst (InSpans (InAssign bs) (spans t)) d (in_span a (inr ((cc), m)))
in_assign_into {bs = bs} t e q (in_assign {p = p} {q = k} (further_in {o = o} {p = r} x a i) c m) =
    let d : o + (r + (p + k)) ≡ (o + r) + (p + k) = omega arith in
    subst (InSpans (InAssign bs) (spans t)) d (in_span a (inl (in_assign i c m)))

-- so the first of the one is the first of the other
in_assign_least : (l : Loc) (w h : Bytes) (bs : Bindings) (b : Body) {ys : List (Bytes × Option ℕ)} → FirstOfEach (InAssign bs) (spans (assign l w h bs b)) ys
    → Least (AssignMod (assign l w h bs b)) (first_in ys)
in_assign_least l w h bs b {ys} f =
    let t = assign l w h bs b in
    least_so (first_in ys) (in_assign_out l w h bs b (not_mod t (λ e. omega arith))) (in_assign_into t refl) (first_spans (in_assign_offset bs) f)

-- an assign, of whose bindings and body the first is known
assign_least : (z : Zone) (l : Loc) (w h : Bytes) (bs : Bindings) (b : Body)
    → Least (Sought (binding_zone Assign z) (bindings_node bs)) (bindings_first (binding_zone Assign z) bs)
    → Least (Sought z (body_node b)) (body_first z b) → Least (Sought z (assign l w h bs b)) (body_first z (BL Assign l w h bs b))
unfolding binding_zone body_first spans node_bytes
assign_least Plain l w h bs b x y = in_assign_least l w h bs b (skip (skip (skip (skip (skip (skip
    (also (bindings_first InBinding bs) (least_so (bindings_first InBinding bs) (λ q m. inr (refl, m)) (λ q k. ⊎_elim (λ m. assign_any q m) (λ m. m.1) k) x)
    (also (body_first Plain b) (least_so (body_first Plain b) (λ q m. inl m) (λ q k. ⊎_elim (λ m. m) (λ m. absurd (no_bindings m.0)) k) y) no_more))))))))
  where
    no_bindings : body_node b ≡ bindings_node bs → ⊥
    no_bindings e = let z : ◌≡◌ {A = ℕ} 0 1 = cc in omega arith
assign_least InBinding l w h bs b x y = any_least (assign l w h bs b) (λ e. omega arith)
    (skip (skip (skip (skip (skip (skip (also (bindings_first InBinding bs) x (also (body_first InBinding b) y no_more))))))))
assign_least InMod l w h bs b x y = nothing_least (assign l w h bs b)
    (skip (skip (skip (skip (skip (skip (also (bindings_first InMod bs) x (also (body_first InMod b) y no_more))))))))

-- an assign in a BM does not count
none_in_mod : (l : Loc) (f : Form) (t : Node) → t ≡ body_node (BM l f) → (q : ℕ) → AssignMod t q → ⊥
none_in_mod l f t e q (in_assign itself a m) = let z : ◌≡◌ {A = ℕ} 0 1 = cc in omega arith
none_in_mod l f t e q (in_assign (further_in n a i) b m) = n l f e

-- a BM is the first in itself where every BM counts
mod_least : (z : Zone) (l : Loc) (f : Form) → Least (Sought z (body_node (BM l f))) (noted z None 0)
unfolding noted
mod_least Plain l f = none_in_mod l f _ refl
mod_least InBinding l f = ((l, f, itself), λ q k. omega arith)
mod_least InMod l f = λ q k. k

mutual
  unfolding binding_zone body_first spans node_bytes

  -- of each node in each zone
  pub body_least : (z : Zone) (b : Body) → Least (Sought z (body_node b)) (body_first z b)
  body_least z (BL Parallel l w h bs b) = ordinary z (body_node (BL Parallel l w h bs b)) refl
      (skip (skip (skip (skip (skip (skip (also (bindings_first z bs) (bindings_least z bs) (also (body_first z b) (body_least z b) no_more))))))))
  body_least z (BL Sequential l w h bs b) = ordinary z (body_node (BL Sequential l w h bs b)) refl
      (skip (skip (skip (skip (skip (skip (also (bindings_first z bs) (bindings_least z bs) (also (body_first z b) (body_least z b) no_more))))))))
  body_least z (BL Assign l w h bs b) = assign_least z l w h bs b (bindings_least (binding_zone Assign z) bs) (body_least z b)
  body_least z (BQ s) = ordinary z (body_node (BQ s)) refl (skip (skip no_more))
  body_least z (BV s) = ordinary z (body_node (BV s)) refl (skip (skip no_more))
  body_least z (BC l bs t) = ordinary z (body_node (BC l bs t)) refl
      (skip (skip (skip (also (bodies_first z bs) (bodies_least z bs) (also (tail_first z t) (tail_least z t) no_more)))))
  body_least z (BM l f) = mod_least z l f
  body_least z (BF l w ca c a b) = ordinary z (body_node (BF l w ca c a b)) refl
      (skip (skip (skip (skip (also (body_first z c) (body_least z c) (skip (also (body_first z b) (body_least z b) no_more)))))))

  pub bodies_least : (z : Zone) (bs : Bodies) → Least (Sought z (bodies_node bs)) (bodies_first z bs)
  bodies_least z []ᵇ = ordinary z (bodies_node []ᵇ) refl no_more
  bodies_least z (b ∷ᵇ bs) = ordinary z (bodies_node (b ∷ᵇ bs)) refl
      (also (body_first z b) (body_least z b) (also (bodies_first z bs) (bodies_least z bs) no_more))

  pub tail_least : (z : Zone) (t : Tail) → Least (Sought z (tail_node t)) (tail_first z t)
  tail_least z no_tail = ordinary z (tail_node no_tail) refl (skip no_more)
  tail_least z (tail b) = ordinary z (tail_node (tail b)) refl (skip (also (body_first z b) (body_least z b) no_more))

  pub binding_least : (z : Zone) (b : Binding) → Least (Sought z (binding_node b)) (binding_first z b)
  binding_least z (BB l nl p b) = ordinary z (binding_node (BB l nl p b)) refl (skip (skip (skip (skip (also (body_first z b) (body_least z b) no_more)))))

  pub bindings_least : (z : Zone) (bs : Bindings) → Least (Sought z (bindings_node bs)) (bindings_first z bs)
  bindings_least z []ᵍ = ordinary z (bindings_node []ᵍ) refl no_more
  bindings_least z (b ∷ᵍ bs) = ordinary z (bindings_node (b ∷ᵍ bs)) refl
      (also (binding_first z b) (binding_least z b) (also (bindings_first z bs) (bindings_least z bs) no_more))

  pub helper_least : (z : Zone) (h : Helper) → Least (Sought z (helper_node h)) (helper_first z h)
  helper_least z (HC l n r b) = ordinary z (helper_node (HC l n r b)) refl (skip (skip (skip (skip (also (body_first z b) (body_least z b) no_more)))))
  helper_least z (HM l n r a f) = ordinary z (helper_node (HM l n r a f)) refl
      (skip (skip (skip (skip (skip (also (form_first z f) (form_least z f) no_more))))))
  helper_least z (HD l i n r a b) = ordinary z (helper_node (HD l i n r a b)) refl
      (skip (skip (skip (skip (skip (skip (also (body_first z b) (body_least z b) no_more)))))))
  helper_least z (HN l n r hs) = ordinary z (helper_node (HN l n r hs)) refl
      (skip (skip (skip (skip (skip (also (helpers_first z hs) (helpers_least z hs) no_more))))))
  helper_least z (HR l n r) = ordinary z (helper_node (HR l n r)) refl (skip (skip (skip (skip no_more))))

  pub helpers_least : (z : Zone) (hs : Helpers) → Least (Sought z (helpers_node hs)) (helpers_first z hs)
  helpers_least z []ʰ = ordinary z (helpers_node []ʰ) refl no_more
  helpers_least z (h ∷ʰ hs) = ordinary z (helpers_node (h ∷ʰ hs)) refl
      (also (helper_first z h) (helper_least z h) (also (helpers_first z hs) (helpers_least z hs) no_more))

  pub form_least : (z : Zone) (f : Form) → Least (Sought z (form_node f)) (form_first z f)
  form_least z (CF l r a hs b) = ordinary z (form_node (CF l r a hs b)) refl
      (skip (skip (skip (skip (skip (also (helpers_first z hs) (helpers_least z hs) (also (body_first z b) (body_least z b) no_more)))))))
