-- The names listed of a pattern, a binding and a body, from those listed of its parts. Assumes nothing.
use mathlib.Core.Bool.{true, false}
use mathlib.Core.List.{[], ◌∷◌, flatten, append-nil}
use mathlib.Core.Logic.{◌⊎◌, ⊎_elim}
use mathlib.Core.Path.{◌≡◌, refl, sym, ap, subst, ◌∙◌}
use Prim.Native.Nat.{ℕ, ◌+◌, ◌-◌}
use native.Mathlib.Nat.{zero-add}
use native.Mathlib.Omega.{arith}
use lib.ListN.{length, take, length-append}
use Rattle.names.specs.Names.{Bytes, ascii, same, name_field}
use Rattle.names.specs.Segments.{At}
use Rattle.names.proofs.Parts.{part}
use Rattle.names.proofs.Places.{at_is, at_left}
use Rattle.records.specs.Depth.{depth, levels, tail_depth, binding_depth}
use Rattle.records.specs.Records.{mark_width, loc_width, byte, Sexp, sexp_bytes, Pattern, Name, Complex, pattern_field, Body, BL, BQ, BV, BC, BM, BF, body_bytes, Bodies, Tail, no_tail, tail, tail_bytes, Binding, BB, binding_bytes}
use Rattle.std.specs.declared.option.Option.TheVariants.{Some, None}
use Rattle.records.specs.Scan.{mark_index, body_marks, body_mark_at}
use Rattle.records.specs.declared.BodyMark.TheVariants.{Mod}
use Rattle.records.specs.Sexps.{truthy}
use Rattle.records.specs.Valid.{ValidPattern, BodyFields, TailFields, BindingFields, lambda_depth, tail_lambda_depth, binding_lambda_depth, ValidBody}
use Rattle.records.specs.declared.Family.TheVariants.{Body as a_Body, Binding as a_binding}
use Rattle.records.specs.Parts.{Past, fields_part, fixed_part, family_part, pattern_part, list_part, Skips}
use Rattle.records.specs.Views.{PastHead, Closes, SeesName, SeesTagged, PatternAt, TailAt, SeesCall, SeesLet, SeesLambda}
use Rattle.records.specs.declared.NameView.{NameView}
use Rattle.records.specs.declared.TaggedView.{TaggedView}
use Rattle.records.specs.declared.LetView.{LetView}
use Rattle.records.specs.declared.CallView.{CallView}
use Rattle.records.specs.declared.LambdaView.{LambdaView}
use Rattle.records.proofs.AnySexp.{mark_of}
use Rattle.records.proofs.Views.{first_of, close_mark, close_head, close_on, close_step}
use Rattle.ordering.specs.declared.listed.Listed.{Listed}
use Rattle.ordering.specs.declared.provides.Provided.{Provided}
use Rattle.ordering.specs.Listed.{SameRoom}
use Rattle.ordering.specs.Listing.{Names, Lists, Reaches, ListsCaptured, body_index, kind_part, member_part, all_words}
use Rattle.ordering.specs.Words.{make_provides_set, pattern_provides, let_word, captured, words, bodies_words, tail_words, binding_words}
use Rattle.ordering.proofs.EntryLaws.{room_same, room_then}
use Rattle.ordering.proofs.NeedLaws.{names_none, names_then}
use Rattle.ordering.proofs.Several.{several_bodies, several_bindings, several_told}
use Rattle.ordering.proofs.Sexps.{lists_of, told}

-- the capture args of a lambda, by whether they are true
pub captured_none : (t : Sexp) → truthy t ≡ false → captured t ≡ []
unfolding captured
captured_none t e = rw (e, captured)

pub captured_some : (t : Sexp) → truthy t ≡ true → captured t ≡ ascii "&" ∷ make_provides_set t
unfolding captured
captured_some t e = rw (e, captured)

-- a pattern, by its tag
module _ {given : Provided} {s : Bytes} {at : ℕ} {v : TaggedView} {l l' : Listed ℕ} (x : SeesTagged s at v) where
  pub name_reaches : {w : NameView} → v.tag ≡ 0 → SeesName s v.next w → Names (part s w.start (w.end - w.start) ∷ []) given l l'
      → Reaches 0 pattern_part pattern_provides given s at l l' w.end
  unfolding PatternAt ValidPattern pattern_field pattern_provides
  name_reaches {w} q y f = record { within = y.within; room = f.room; tells = λ z t u k. go t u k (x.pattern t k) }
    where
      go : (t : Pattern) → ValidPattern t → At s at (pattern_field t) → PatternAt s v t → (w.end ≡ at + length (pattern_field t)) × Names (pattern_provides t) given l l'
      go (Name b) u k h =
          let m = y.sees b u h.next in
          let e : part s w.start (w.end - w.start) ≡ b = at_is w.start (w.end - w.start) refl (omega (arith, m.ends)) m.bytes in
          (omega (arith, m.past, x.past.past (0 ∷ []) refl (at_left (0 ∷ []) (name_field b) k)), rw e at f)
      go (Complex e) u k h = absurd (omega (arith, h.tag))

  pub complex_reaches : {r : ℕ} → (v.tag ≡ 0 → ⊥) → Lists fields_part make_provides_set given s v.next l l' r → Reaches 0 pattern_part pattern_provides given s at l l' r
  unfolding PatternAt ValidPattern pattern_field pattern_provides
  complex_reaches {r} q f = record { within = f.within; room = f.room; tells = λ z t u k. go t u k (x.pattern t k) }
    where
      go : (t : Pattern) → ValidPattern t → At s at (pattern_field t) → PatternAt s v t → (r ≡ at + length (pattern_field t)) × Names (pattern_provides t) given l l'
      go (Name b) u k h = absurd (q h.tag)
      go (Complex e) u k h =
          let m = told f e u.0 h.next in
          (omega (arith, m.0, x.past.past (1 ∷ []) refl (at_left (1 ∷ []) (sexp_bytes e) k)), m.1)

-- a binding: L, L of the name, pattern, body
module _ {given : Provided} {s : Bytes} {h p : ℕ} {l₀ l₁ l₂ : Listed ℕ} {q r : ℕ} where
  pub binding_reaches : PastHead s h → Past (fixed_part loc_width) s h p → Reaches 0 pattern_part pattern_provides given s p l₀ l₁ q
      → Reaches 1 (member_part false) words given s q l₁ l₂ r → Reaches 0 (member_part true) binding_words given s 0 l₀ l₂ r
  unfolding ascii binding_bytes BindingFields binding_words binding_depth binding_lambda_depth flatten
  binding_reaches x y f g = record { within = g.within; room = room_then f.room g.room; tells = λ z t w k. go t w k }
    where
      go : (t : Binding) → (family_part a_binding).2 t → At s 0 (binding_bytes t) → (r ≡ 0 + length (binding_bytes t)) × Names (binding_words t) given l₀ l₂
      go (BB l nl t b) w k =
          let c = close_step y nl w.0.1.width (close_head "BB" x l _ refl w.0.0 k) in
          let i = f.tells (omega arith) t w.0.2 (first_of c.there) in
          let d = close_on q i.0 c in
          let j = g.tells d.moved b (w.0.3, w.1, w.2) (first_of d.there) in
          (omega (arith, j.0, d.whole, length-append (body_bytes b) []), names_then i.1 j.1)

-- a BL: the word, the bindings, the body
module _ {given : Provided} {s : Bytes} {v : LetView} {l₀ l₁ l₂ l₃ : Listed ℕ} {b r : ℕ} where
  pub let_reaches : SeesLet s v → Names (let_word v.kind ∷ []) given l₀ l₁ → Reaches 1 (list_part (member_part true) v.count) (all_words binding_words) given s v.first l₁ l₂ b
      → Reaches 1 (member_part false) words given s b l₂ l₃ r → Reaches 0 (kind_part 0) words given s 0 l₀ l₃ r
  unfolding BodyFields depth levels lambda_depth words flatten
  let_reaches x f g h = record { within = h.within; room = room_then f.room (room_then g.room h.room); tells = λ z t w k. go t w k }
    where
      go : (t : Body) → (kind_part 0).2 t → At s 0 (body_bytes t) → (r ≡ 0 + length (body_bytes t)) × Names (words t) given l₀ l₃
      go (BL k l w h' bs t) w' y =
          let u = w'.1 in
          let m = x.sees k l w h' bs t u y in
          let o = x.closes k l w h' bs t u y in
          let i = several_told g m.count (several_bindings bs u.0.4 (omega (arith, u.1)) (omega (arith, u.2))) o.moved (first_of o.there) in
          let d = close_on b i.0 o in
          let j = h.tells d.moved t (u.0.5, omega (arith, u.1), omega (arith, u.2)) (first_of d.there) in
          (omega (arith, j.0, d.whole, length-append (body_bytes t) []), names_then (rw m.kind at f) (names_then i.1 j.1))
      go (BQ t) w y = absurd (omega arith)
      go (BV t) w y = absurd (omega arith)
      go (BC l bs t) w y = absurd (omega arith)
      go (BM l t) w y = absurd (omega arith)
      go (BF l w ca cs t t') w' y = absurd (omega arith)

-- a BC: the elements; no tail, or the word and the tail
module _ {given : Provided} {s : Bytes} {v : CallView} {t : TaggedView} {l₀ l₁ : Listed ℕ} {e : ℕ} (x : SeesCall s v)
    (f : Reaches 1 (list_part (member_part false) v.count) (all_words words) given s v.first l₀ l₁ e) (y : SeesTagged s e t) where
  -- the elements, and the tail that is left
  elements : (l : Bytes) (bs : Bodies) (tl : Tail) → ValidBody (BC l bs tl) → At s 0 (body_bytes (BC l bs tl))
      → Names (bodies_words bs) given l₀ l₁ × Closes s e (tail_bytes tl ∷ []) (length (body_bytes (BC l bs tl)))
  unfolding BodyFields depth lambda_depth
  elements l bs tl u k =
      let m = x.sees l bs tl u k in
      let o = x.closes l bs tl u k in
      let i = several_told f m.count (several_bodies bs u.0.2 (omega (arith, u.1)) (omega (arith, u.2))) o.moved (first_of o.there) in
      (i.1, close_on e i.0 o)

  pub call_reaches : t.tag ≡ 0 → Reaches 0 (kind_part 3) words given s 0 l₀ l₁ t.next
  unfolding TailAt tail_bytes tail_words words flatten byte
  call_reaches q = record { within = y.within; room = f.room; tells = λ z b w k. go b w k }
    where
      go : (b : Body) → (kind_part 3).2 b → At s 0 (body_bytes b) → (t.next ≡ 0 + length (body_bytes b)) × Names (words b) given l₀ l₁
      go (BL k l w h bs b) w' z = absurd (omega arith)
      go (BQ b) w z = absurd (omega arith)
      go (BV b) w z = absurd (omega arith)
      go (BC l bs no_tail) w z =
          let o = elements l bs no_tail w.1 z in
          let i = y.past.past (0 ∷ []) refl (first_of o.1.there) in
          (omega (arith, i, o.1.whole), rw (append-nil (bodies_words bs)) o.0)
      go (BC l bs (tail b)) w z =
          let o = elements l bs (tail b) w.1 z in
          absurd (omega (arith, (y.tail_of (tail b) (first_of o.1.there)).tag))
      go (BM l b) w z = absurd (omega arith)
      go (BF l w ca cs b b') w' z = absurd (omega arith)

  pub tail_reaches : {l₂ l₃ : Listed ℕ} {r : ℕ} → (t.tag ≡ 0 → ⊥) → Names (ascii "&rest" ∷ []) given l₁ l₂ → Reaches 1 (member_part false) words given s t.next l₂ l₃ r
      → Reaches 0 (kind_part 3) words given s 0 l₀ l₃ r
  unfolding TailAt tail_bytes tail_words words flatten BodyFields TailFields depth tail_depth lambda_depth tail_lambda_depth
  tail_reaches {l₂} {l₃} {r} q g h = record { within = h.within; room = room_then f.room (room_then g.room h.room); tells = λ z b w k. go b w k }
    where
      go : (b : Body) → (kind_part 3).2 b → At s 0 (body_bytes b) → (r ≡ 0 + length (body_bytes b)) × Names (words b) given l₀ l₃
      go (BL k l w h bs b) w' z = absurd (omega arith)
      go (BQ b) w z = absurd (omega arith)
      go (BV b) w z = absurd (omega arith)
      go (BC l bs no_tail) w z = absurd (q (y.tail_of no_tail (first_of (elements l bs no_tail w.1 z).1.there)))
      go (BC l bs (tail b)) w z =
          let u = w.1 in
          let o = elements l bs (tail b) u z in
          let k = first_of o.1.there in
          let i = y.past.past (1 ∷ []) refl (at_left (1 ∷ []) (body_bytes b) k) in
          let j = h.tells (omega (arith, i)) b (u.0.3, omega (arith, u.1), omega (arith, u.2)) (y.tail_of (tail b) k).next in
          (omega (arith, i, j.0, o.1.whole, length-append (body_bytes b) []), names_then o.0 (names_then g j.1))
      go (BM l b) w z = absurd (omega arith)
      go (BF l w ca cs b b') w' z = absurd (omega arith)

-- a BF: the word, the capture args, the args, the body
module _ {given : Provided} {s : Bytes} {v : LambdaView} {l₀ l₁ l₂ l₃ l₄ : Listed ℕ} {q r : ℕ} where
  pub lambda_reaches : SeesLambda s v → Names (ascii "lambda" ∷ []) given l₀ l₁ → SameRoom l₁ l₂ → ListsCaptured given s v.capture_args l₁ l₂
      → Lists fields_part make_provides_set given s v.args l₂ l₃ q → Reaches 1 (member_part false) words given s q l₃ l₄ r → Reaches 0 (kind_part 5) words given s 0 l₀ l₄ r
  unfolding BodyFields depth lambda_depth words flatten
  lambda_reaches x f room g h i = record { within = i.within; room = room_then f.room (room_then room (room_then h.room i.room)); tells = λ z b w k. go b w k }
    where
      go : (b : Body) → (kind_part 5).2 b → At s 0 (body_bytes b) → (r ≡ 0 + length (body_bytes b)) × Names (words b) given l₀ l₄
      go (BL k l w h bs b) w' z = absurd (omega arith)
      go (BQ b) w z = absurd (omega arith)
      go (BV b) w z = absurd (omega arith)
      go (BC l bs t) w z = absurd (omega arith)
      go (BM l b) w z = absurd (omega arith)
      go (BF l w ca cs t b) w' z =
          let u = w'.1 in
          let o = x.closes l w ca cs t b u z in
          let j = told h t u.0.4.0 (first_of o.there) in
          let p = close_on q j.0 o in
          let k = i.tells p.moved b (u.0.5, omega (arith, u.1), omega (arith, u.2)) (first_of p.there) in
          let m = g ca u.0.2.0 (x.sees l w ca cs t b u z).capture_args in
          let ns = names_then m (names_then j.1 k.1) in
          (omega (arith, k.0, p.whole, length-append (body_bytes b) []), names_then f ns)

-- a BQ: the word, the S record; a BV: the S record
module _ {given : Provided} {s : Bytes} {p r : ℕ} (x : Past (fixed_part mark_width) s 0 p) where
  pub quote_reaches : {l₀ l₁ l₂ : Listed ℕ} → Names (ascii "q" ∷ []) given l₀ l₁ → Lists fields_part make_provides_set given s p l₁ l₂ r → Reaches 0 (kind_part 1) words given s 0 l₀ l₂ r
  unfolding ascii body_bytes BodyFields words flatten
  quote_reaches {l₀} {l₁} {l₂} f g = record { within = g.within; room = room_then f.room g.room; tells = λ z b w k. go b w k }
    where
      go : (b : Body) → (kind_part 1).2 b → At s 0 (body_bytes b) → (r ≡ 0 + length (body_bytes b)) × Names (words b) given l₀ l₂
      go (BL k l w h bs b) w' z = absurd (omega arith)
      go (BQ t) w z =
          let o = close_mark "BQ" x _ refl z in
          let j = told g t w.1.0.0 (first_of o.there) in
          (omega (arith, j.0, o.whole, length-append (sexp_bytes t) []), names_then f j.1)
      go (BV b) w z = absurd (omega arith)
      go (BC l bs t) w z = absurd (omega arith)
      go (BM l b) w z = absurd (omega arith)
      go (BF l w ca cs b b') w' z = absurd (omega arith)

  pub value_reaches : {l l' : Listed ℕ} → Lists fields_part make_provides_set given s p l l' r → Reaches 0 (kind_part 2) words given s 0 l l' r
  unfolding ascii body_bytes BodyFields words flatten
  value_reaches {l} {l'} g = record { within = g.within; room = g.room; tells = λ z b w k. go b w k }
    where
      go : (b : Body) → (kind_part 2).2 b → At s 0 (body_bytes b) → (r ≡ 0 + length (body_bytes b)) × Names (words b) given l l'
      go (BL k y w h bs b) w' z = absurd (omega arith)
      go (BQ b) w z = absurd (omega arith)
      go (BV t) w z =
          let o = close_mark "BV" x _ refl z in
          let j = told g t w.1.0.0 (first_of o.there) in
          (omega (arith, j.0, o.whole, length-append (sexp_bytes t) []), j.1)
      go (BC y bs t) w z = absurd (omega arith)
      go (BM y b) w z = absurd (omega arith)
      go (BF y w ca cs b b') w' z = absurd (omega arith)

-- a body, by its mark
module _ {s : Bytes} where
  index_of : (b : Body) → At s 0 (body_bytes b) → mark_index (take 2 s) body_marks ≡ body_index b
  unfolding body_bytes ascii mark_index same
  index_of (BL k l w h bs b) z = ap (λ (x : Bytes). mark_index x body_marks) (mark_of "BL" _ refl z)
  index_of (BQ t) z = ap (λ (x : Bytes). mark_index x body_marks) (mark_of "BQ" _ refl z)
  index_of (BV t) z = ap (λ (x : Bytes). mark_index x body_marks) (mark_of "BV" _ refl z)
  index_of (BC l bs t) z = ap (λ (x : Bytes). mark_index x body_marks) (mark_of "BC" _ refl z)
  index_of (BM l f) z = ap (λ (x : Bytes). mark_index x body_marks) (mark_of "BM" _ refl z)
  index_of (BF l w ca cs t b) z = ap (λ (x : Bytes). mark_index x body_marks) (mark_of "BF" _ refl z)

  module _ {given : Provided} where
    pub body_lists : {l l' : Listed ℕ} {i r : ℕ} → i ≡ mark_index (take 2 s) body_marks → Reaches 0 (kind_part i) words given s 0 l l' r
        → Lists (family_part a_Body) words given s 0 l l' r
    body_lists q f = lists_of (omega arith) f.within f.room (λ t v z. f.tells (omega arith) t (sym (index_of t z) ∙ sym q, v) z)

    -- a BM, whose names are not asked for, or no body
    pub skip_lists : {l : Listed ℕ} {r : ℕ} → let k = mark_index (take 2 s) body_marks in (Some Mod ≡ body_mark_at k) ⊎ (None ≡ body_mark_at k)
        → Skips (family_part a_Body) s r → Lists (family_part a_Body) words given s 0 l l r
    unfolding words
    skip_lists {l} {r} q f = lists_of (omega arith) f.within room_same (λ t v z. (f.skips t v z ∙ sym (zero-add _), go t (subst Other (index_of t z) q)))
      where
        Other : ℕ → Type 0
        Other k = (Some Mod ≡ body_mark_at k) ⊎ (None ≡ body_mark_at k)

        go : (t : Body) → Other (body_index t) → Names (words t) given l l
        go (BL k y w h bs b) o = ⊎_elim (λ e. cc) (λ e. cc) o
        go (BQ b) o = ⊎_elim (λ e. cc) (λ e. cc) o
        go (BV b) o = ⊎_elim (λ e. cc) (λ e. cc) o
        go (BC y bs t) o = ⊎_elim (λ e. cc) (λ e. cc) o
        go (BM y b) o = names_none
        go (BF y w ca cs b b') o = ⊎_elim (λ e. cc) (λ e. cc) o
