-- The names that a stuck binding waits for: what the needs of a lone binding say of a body's words, and what no providers say of entries.
-- Assumes nothing.
use mathlib.Core.Bool.{Bool, true, false, cond, ◌||◌}
use mathlib.Core.List.{List, [], ◌∷◌, ◌++◌, map}
use mathlib.Core.Path.{◌≡◌, refl, sym, ap, ◌∙◌}
use native.Mathlib.Omega.{arith}
use borrow.Author.Tests.{eq-eqb, eqb-true, lt-ltb}
use Prim.Native.Nat.{ℕ, zero, suc, ◌-◌, ◌/◌, ◌%◌}
use lib.Bits.{bit_and}
use lib.Dec.{eqb, ltb}
use lib.ListN.{length, take, drop, get_or, length-map}
use Rattle.names.specs.Names.{Bytes, same}
use Rattle.names.proofs.Parts.{into}
use Rattle.names.proofs.Places.{at_is}
use Rattle.names.proofs.Same.{same→eq, same_refl}
use Rattle.records.specs.Lists.{Each}
use Rattle.records.specs.Records.{Sexp, SN, SC, SA, Complex, Name, BV, Binding, BB}
use Rattle.ordering.specs.Assign.{need_limit}
use Rattle.ordering.specs.declared.listed.Listed.{Listed}
use Rattle.ordering.specs.declared.provides.Provided.{Provided}
use Rattle.ordering.specs.Items.{any, keep, gives}
use Rattle.ordering.specs.Listing.{ListsBody}
use Rattle.ordering.specs.Needs.{bits, providers, needs_of}
use Rattle.ordering.specs.Provisions.{places, Entry, Entries, Provisions}
use Rattle.ordering.specs.Words.{make_provides_set, pattern_provides, words, item, items}
use Rattle.ordering.proofs.Few.{few_needs, few_words}
use Rattle.outline.proofs.Joins.{each_append}
use Rattle.commands.specs.Waiting.{TellsWord, TellsMissing}

-- equal names
same_yes : (x y : Bytes) → x ≡ y → same x y ≡ false → ⊥
same_yes x y q e =
    let f : same y y ≡ false = rw q at e in
    rw f at (same_refl y)

same_sym : (x y : Bytes) → same x y ≡ same y x
same_sym x y = go (same x y) (same y x) refl refl
  where
    go : (a b : Bool) → same x y ≡ a → same y x ≡ b → a ≡ b
    go true true e f = refl
    go true false e f = absurd (same_yes y x (sym (same→eq x y (rw e tt))) f)
    go false true e f = absurd (same_yes x y (sym (same→eq y x (rw f tt))) e)
    go false false e f = refl

-- some are kept where one passes
kept_some : (f : Bytes → Bool) (xs : List Bytes) → ltb 0 (length (keep f xs)) ≡ any f xs
kept_some f [] = refl
kept_some f (x ∷ xs) = go (f x) (kept_some f xs)
  where
    go : (b : Bool) → ltb 0 (length (keep f xs)) ≡ any f xs → ltb 0 (length (cond b (x ∷ keep f xs) (keep f xs))) ≡ (b || any f xs)
    go true e = lt-ltb 0 (length (x ∷ keep f xs)) (omega arith)
    go false e = e

any_as : (f g : Bytes → Bool) → ((y : Bytes) → f y ≡ g y) → (xs : List Bytes) → any f xs ≡ any g xs
any_as f g e [] = refl
any_as f g e (x ∷ xs) = rw (e x, any_as f g e xs)

or_none : (a b : Bool) → a ≡ b → (a || false || false) ≡ b
or_none true b e = e
or_none false b e = e

-- a lone binding of the name x
abbrev lone : Bytes → List Binding
lone x = BB [] [] (Name x) (BV (SN [])) ∷ []

lone_listed : {s : Bytes} {e : ℕ} (x : Bytes) → Entry s e x → Provisions s (0 ∷ e ∷ []) (lone x)
unfolding Provisions Entries pattern_provides
lone_listed {s} {e} x h = (e ∷ [], [], refl, (h, tt), refl)

lone_needs : (x : Bytes) (ws : List Bytes) → ltb 0 (length (needs_of (items (lone x)) ws)) ≡ any (same x) ws
unfolding needs_of items item gives pattern_provides
lone_needs x ws =
    rw length-map (kept_some (λ y. any (gives y) (items (lone x))) ws)
    ∙ any_as (λ y. any (gives y) (items (lone x))) (same x) (λ y. or_none (same y x) (same x y) (same_sym y x)) ws

-- so its needs of a body say whether x is among the words
pub tells_word : (given : Provided) {s : Bytes} {entry body end : ℕ} {fresh needs : Listed ℕ} → given.bytes.now ≡ s → given.entries.now ≡ 0 ∷ entry ∷ [] → ListsBody given (take (length s - body) (drop body s)) 0 fresh needs end
    → fresh.count ≡ 0 → length fresh.items.now ≡ need_limit → TellsWord s body entry (ltb 0 needs.count)
tells_word given {s} {entry} {needs = needs} is lists h empty size top b x v at e =
    let p : Provisions given.bytes.now given.entries.now (lone x) = rw (is, lists) (lone_listed x e) in
    let n = (h.lists b v (into at)).lists (lone x) p (omega (arith, few_needs (items (lone x)) (words b), few_words b v.0, at.fits)) in
    let k : needs.count ≡ length (needs_of (items (lone x)) (words b)) = omega (arith, n.counted) in
    rw k (lone_needs x (words b))

-- the name of an entry
abbrev pub entry_name : Bytes → ℕ → Bytes
entry_name a e = take (e % places - e / places) (drop (e / places) a)

said : {a x : Bytes} (e : ℕ) → Entry a e x → entry_name a e ≡ x
said e h = at_is (e / places) (e % places - e / places) refl (omega (arith, h.ends)) h.there

-- flags that come to 0
zero_both : (f : Bool) (fs : List Bool) → bits (f ∷ fs) ≡ 0 → (f ≡ false) × (bits fs ≡ 0)
unfolding bits
zero_both true fs e = absurd (omega arith)
zero_both false fs e = (refl, omega arith)

zero_of : (f : Bool) (fs : List Bool) → f ≡ false → bits fs ≡ 0 → bits (f ∷ fs) ≡ 0
unfolding bits
zero_of true fs e z = let q : ◌≡◌ {A = ℕ} 0 1 = cc in absurd (omega arith)
zero_of false fs e z = omega arith

-- what each of two lists has, where each of both has it
module _ {A : Type 0} (P : A → Type 0) where
  each_parts : (xs ys : List A) → Each P (xs ++ ys) → Each P xs × Each P ys
  unfolding Each
  each_parts [] ys h = (tt, h)
  each_parts (x ∷ xs) ys h = let k = each_parts xs ys h.1 in ((h.0, k.0), k.1)

module _ (a x : Bytes) where
  -- an entry does not say x
  abbrev Other : ℕ → Type 0
  Other e = Entry a e x → ⊥

  -- entries of names none of which is x
  others : (es : List ℕ) (ys : List Bytes) → Entries a es ys → any (same x) ys ≡ false → Each Other es
  unfolding Entries Each
  others [] [] h z = tt
  others [] (y ∷ ys) h z = absurd h
  others (e ∷ es) [] h z = absurd h
  others (e ∷ es) (y ∷ ys) h z = go (same x y) refl (others es ys h.1) z
    where
      go : (b : Bool) → same x y ≡ b → (any (same x) ys ≡ false → Each Other es) → (b || any (same x) ys) ≡ false → Each Other (e ∷ es)
      go true q f w = let i : ◌≡◌ {A = ℕ} 0 1 = cc in absurd (omega arith)
      go false q f w = (λ k. same_yes x y (sym (said e k) ∙ said e h.0) q, f w)

  none_same : (es : List ℕ) (ys : List Bytes) → Entries a es ys → Each Other es → any (same x) ys ≡ false
  unfolding Entries Each
  none_same [] [] h o = refl
  none_same [] (y ∷ ys) h o = absurd h
  none_same (e ∷ es) [] h o = absurd h
  none_same (e ∷ es) (y ∷ ys) h o = go (same x y) refl (none_same es ys h.1 o.1)
    where
      go : (b : Bool) → same x y ≡ b → any (same x) ys ≡ false → (b || any (same x) ys) ≡ false
      go true q f = let i : x ≡ y = same→eq x y (rw q tt) in absurd (o.0 (rw i h.0))
      go false q f = f

  -- no binding provides x exactly where no entry says it
  none_says : (bs : List Binding) (given : List ℕ) → Provisions a given bs → providers (items bs) x ≡ 0 → Each Other given
  unfolding Provisions providers items item gives Each
  none_says [] given e z = rw e tt
  none_says (BB l nl p b ∷ bs) given (es, rest, e, en, pr) z =
      let w = zero_both (any (same x) (pattern_provides p)) (map (gives x) (map item bs)) z in
      rw e (λ k. k.some refl, each_append Other es rest (others es (pattern_provides p) en w.0) (none_says bs rest pr w.1))

  none_provides : (bs : List Binding) (given : List ℕ) → Provisions a given bs → Each Other given → providers (items bs) x ≡ 0
  unfolding Provisions providers items item gives Each bits
  none_provides [] given e o = refl
  none_provides (BB l nl p b ∷ bs) given (es, rest, e, en, pr) o =
      let q : Each Other (0 ∷ (es ++ rest)) = rw e at o in
      let w = each_parts Other es rest q.1 in
      zero_of (any (same x) (pattern_provides p)) (map (gives x) (map item bs)) (none_same es (pattern_provides p) en w.0) (none_provides bs rest pr w.1)

-- the names xs as one S record
spread : List Bytes → Sexp
spread [] = SN []
spread (x ∷ xs) = SC [] (SA [] x) (spread xs)

spread_provides : (xs : List Bytes) → pattern_provides (Complex (spread xs)) ≡ xs
unfolding spread make_provides_set pattern_provides
spread_provides [] = refl
spread_provides (x ∷ xs) = ap (λ (ys : List Bytes). x ∷ ys) (spread_provides xs)

-- the first entries are those of bindings too
module _ (a : Bytes) where
  -- each entry but a 0 says a name
  unfoldable Named : List ℕ → Type 0
  Named [] = Unit {0}
  Named (zero ∷ es) = Named es
  Named (suc e ∷ es) = ((x : Bytes) × Entry a (suc e) x) × Named es

  named_entries : (es rest : List ℕ) (ys : List Bytes) → Entries a es ys → Named rest → Named (es ++ rest)
  unfolding Entries Named
  named_entries [] rest [] h n = n
  named_entries [] rest (y ∷ ys) h n = absurd h
  named_entries (e ∷ es) rest [] h n = absurd h
  named_entries (zero ∷ es) rest (y ∷ ys) h n = named_entries es rest ys h.1 n
  named_entries (suc e ∷ es) rest (y ∷ ys) h n = ((y, h.0), named_entries es rest ys h.1 n)

  named : (bs : List Binding) (given : List ℕ) → Provisions a given bs → Named given
  unfolding Provisions Named
  named [] given e = rw e tt
  named (BB l nl p b ∷ bs) given (es, rest, e, en, pr) = rw e (named_entries es rest (pattern_provides p) en (named bs rest pr))

  named_take : (k : ℕ) (es : List ℕ) → Named es → Named (take k es)
  unfolding Named
  named_take zero es n = tt
  named_take (suc k) [] n = tt
  named_take (suc k) (zero ∷ es) n = named_take k es n
  named_take (suc k) (suc e ∷ es) n = (n.0, named_take k es n.1)

  -- behind a 0 they are those of bindings
  behind_zero : (g : List ℕ) → Named g
      → (es : List ℕ) × (rest : List ℕ) × (xs : List Bytes) × (cs : List Binding) × (g ≡ es ++ rest) × Entries a es xs × Provisions a rest cs
  unfolding Named Entries Provisions
  behind_zero [] n = ([], [], [], [], refl, tt, refl)
  behind_zero (zero ∷ g) n =
      let (es, rest, xs, cs, e, en, pr) = behind_zero g n in
      ([], zero ∷ g, [], BB [] [] (Complex (spread xs)) (BV (SN [])) ∷ cs, refl, tt, (es, rest, ap (λ (zs : List ℕ). 0 ∷ zs) e, rw (spread_provides xs) en, pr))
  behind_zero (suc e ∷ g) n =
      let (es, rest, xs, cs, q, en, pr) = behind_zero g n.1 in
      (suc e ∷ es, rest, n.0.0 ∷ xs, cs, ap (λ (zs : List ℕ). suc e ∷ zs) q, (n.0.1, en), pr)

  first_listed : (k : ℕ) (bs : List Binding) (given : List ℕ) → Provisions a given bs → (cs : List Binding) × Provisions a (take k given) cs
  unfolding Provisions Named
  first_listed zero bs given p = ([], refl)
  first_listed (suc k) [] given e = ([], rw e refl)
  first_listed (suc k) (BB l nl p b ∷ bs) given (es, rest, e, en, pr) =
      let n = named_entries es rest (pattern_provides p) en (named bs rest pr) in
      let (fs, more, xs, cs, q, en', pr') = behind_zero (take k (es ++ rest)) (named_take k (es ++ rest) n) in
      (BB [] [] (Complex (spread xs)) (BV (SN [])) ∷ cs, (fs, more, rw e (ap (λ (zs : List ℕ). 0 ∷ zs) q), rw (spread_provides xs) en', pr'))

-- what the test of an entry decides: the providers of its name are not all stuck; or they are, and q are those among the first k entries
module _ {given : Provided} {k stuck p : ℕ}
    (is : (bs : List Binding) → Provisions given.bytes.now given.entries.now bs → p ≡ providers (items bs) (entry_name given.bytes.now (get_or given.entries.now k 0))) where
  pub missing_not : (bit_and p stuck ≡ p → ⊥) → TellsMissing given k stuck (eqb (bit_and p stuck) p)
  missing_not n bs x pr en =
      let u : p ≡ providers (items bs) x = rw (said _ en) at (is bs pr) in
      (λ f. absurd (n (eqb-true (bit_and p stuck) p f)), λ m. absurd (n (rw u m.only)))

  pub missing_first : {q : ℕ} → bit_and p stuck ≡ p
      → ((cs : List Binding) → Provisions given.bytes.now (take k given.entries.now) cs → q ≡ providers (items cs) (entry_name given.bytes.now (get_or given.entries.now k 0))) → TellsMissing given k stuck (eqb q 0)
  missing_first {q} h first bs x pr en =
      let s = given.bytes.now in
      let (cs, pc) = first_listed s k bs given.entries.now pr in
      let u : p ≡ providers (items bs) x = rw (said _ en) at (is bs pr) in
      let v : q ≡ providers (items cs) x = rw (said _ en) at (first cs pc) in (
        λ f. record { only = rw (← u) h; first = none_says s x cs (take k given.entries.now) pc (sym v ∙ eqb-true q 0 f) },
        λ m. eq-eqb q 0 (v ∙ none_provides s x cs (take k given.entries.now) pc m.first),
      )
