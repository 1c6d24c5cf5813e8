-- The needs of an assign's bodies one after the other: what `find_needs` meets. Assumes nothing.
use mathlib.Core.Path.{◌≡◌, refl, ap, sym, ◌∙◌}
use mathlib.Core.List.{List, [], ◌∷◌, ◌++◌, map, append-nil, append_assoc}
use Prim.Native.Nat.{ℕ, zero, suc, ◌+◌, ◌-◌, ◌/◌, ◌%◌, ◌≤◌, ◌<◌}
use native.Mathlib.Decide.{dec_lt}
use native.Mathlib.Omega.{arith}
use lib.ListN.{length, take, drop, get_or, set, length-append, length-map, length-set, take-append-drop}
use lib.Seq.{take-suc, take_all, get_or-set_same, get_or-set_other}
use Rattle.names.specs.Names.{Bytes}
use Rattle.names.specs.Segments.{At}
use Rattle.names.proofs.Frames.{at_below, filled_at}
use Rattle.names.proofs.Parts.{at_part}
use Rattle.names.proofs.Places.{at_whole, at_place, at_left, at_right, at_join}
use Rattle.records.specs.Records.{Binding, BB}
use Rattle.records.specs.declared.Family.TheVariants.{Body as a_Body}
use Rattle.records.specs.Parts.{family_part}
use Rattle.ordering.specs.declared.listed.Listed.{Listed}
use Rattle.ordering.specs.declared.provides.Provided.{Provided}
use Rattle.ordering.specs.Assign.{no_binding, body_of, body_at, BodiesAt, all_needs}
use Rattle.ordering.specs.Items.{Item, item_at, any, keep, gives, needed}
use Rattle.ordering.specs.Listing.{Lists, all_words}
use Rattle.ordering.specs.Listed.{Added}
use Rattle.ordering.specs.Provisions.{Entries, Provisions, Given, listed_bindings, places}
use Rattle.ordering.specs.Needs.{binding_limit, providers, needs_of, NeedsAt, Starts}
use Rattle.ordering.specs.Words.{words, item, items, pattern_provides}
use Rattle.ordering.proofs.NeedLaws.{needs_append}

-- names and needs one after the other
words_append : {A : Type 0} (f : A → List Bytes) (xs ys : List A) → all_words f (xs ++ ys) ≡ all_words f xs ++ all_words f ys
words_append f [] ys = refl
words_append f (x ∷ xs) ys = ap (λ (zs : List Bytes). f x ++ zs) (words_append f xs ys) ∙ sym (append_assoc (f x) (all_words f xs) (all_words f ys))

all_append : (bs xs ys : List Binding) → all_needs bs (xs ++ ys) ≡ all_needs bs xs ++ all_needs bs ys
unfolding all_needs
all_append bs xs ys =
    ap (needs_of (items bs)) (words_append (λ b. words (body_of b)) xs ys) ∙ needs_append (items bs) (all_words (λ b. words (body_of b)) xs) (all_words (λ b. words (body_of b)) ys)

-- those of the binding with index j
abbrev own_needs : List Binding → ℕ → List ℕ
own_needs bs j = needs_of (items bs) (words (body_at bs j))

all_one : (bs : List Binding) (b : Binding) → all_needs bs (b ∷ []) ≡ needs_of (items bs) (words (body_of b))
unfolding all_needs
all_one bs b = ap (needs_of (items bs)) (append-nil (words (body_of b)))

all_next : (bs : List Binding) (j : ℕ) → j < length bs → all_needs bs (take (suc j) bs) ≡ all_needs bs (take j bs) ++ own_needs bs j
all_next bs j lt =
    ap (all_needs bs) (take-suc bs j no_binding lt) ∙ all_append bs (take j bs) (get_or bs j no_binding ∷ []) ∙ ap (λ (zs : List ℕ). all_needs bs (take j bs) ++ zs) (all_one bs (get_or bs j no_binding))

-- all of them, before and after the first j
all_split : (bs : List Binding) (j : ℕ) → all_needs bs bs ≡ all_needs bs (take j bs) ++ all_needs bs (drop j bs)
all_split bs j = ap (all_needs bs) (sym (take-append-drop j bs)) ∙ all_append bs (take j bs) (drop j bs)

all_few : (bs : List Binding) (j : ℕ) → length (all_needs bs (take j bs)) ≤ length (all_needs bs bs)
all_few bs j = omega (arith, ap length (all_split bs j), length-append (all_needs bs (take j bs)) (all_needs bs (drop j bs)))

-- what is known after j bodies
pub record Collected (needs : Listed ℕ) (starts : List ℕ) (j : ℕ) (bs : List Binding) : Type 0 where
  pub count : needs.count ≡ length (all_needs bs (take j bs))
  pub there : At needs.items.now 0 (all_needs bs (take j bs))
  pub starts_at : (k : ℕ) → k < j → get_or starts k 0 ≡ length (all_needs bs (take k bs))

-- none is behind
pub collected_none : {needs : Listed ℕ} {starts : List ℕ} (bs : List Binding) → needs.count ≡ 0 → Collected needs starts 0 bs
unfolding all_needs needs_of
collected_none bs e = record { count = e; there = record { fits = omega arith; there = refl }; starts_at = λ k h. absurd (omega arith) }

module _ {needs : Listed ℕ} {starts : List ℕ} {j : ℕ} {bs : List Binding} (f : Collected needs starts j bs) (lt : j < length bs) (fits : length (all_needs bs bs) ≤ length needs.items.now) where
  -- there is room for the next body's needs
  next_room : needs.count + length (own_needs bs j) ≤ length needs.items.now
  next_room = omega (arith, f.count, all_few bs (suc j), ap length (all_next bs j lt), length-append (all_needs bs (take j bs)) (own_needs bs j))

  -- one body more
  pub collected_next : {needs' : Listed ℕ} → j < length starts → Added needs needs' (own_needs bs j) → Collected needs' (set starts j needs.count) (j + 1) bs
  collected_next {needs'} h g =
      let one : j + 1 ≡ suc j = omega arith in
      let e = all_next bs j lt in
      let a : At needs'.items.now 0 (all_needs bs (take j bs)) = at_below g.filled.frame f.there (omega (arith, f.count)) in
      let b : At needs'.items.now (0 + length (all_needs bs (take j bs))) (own_needs bs j) = filled_at (0 + length (all_needs bs (take j bs))) g.filled next_room (at_whole (own_needs bs j)) (omega arith) (omega (arith, f.count)) in
      record {
        count = rw (one, e) (g.counted ∙ ap (λ (k : ℕ). k + length (own_needs bs j)) f.count ∙ sym (length-append (all_needs bs (take j bs)) (own_needs bs j)));
        there = rw (one, e) (at_join (all_needs bs (take j bs)) (own_needs bs j) a b);
        starts_at = λ k i. elim (dec_lt k j) [
          | yes q ↦ get_or-set_other starts j k needs.count 0 (λ w. omega (arith, w)) ∙ f.starts_at k q
          | no q ↦
              let k_is : k ≡ j = omega arith in
              rw k_is (get_or-set_same starts j needs.count 0 h ∙ f.count)
        ];
      }

  -- what is listed of the next body, from what `body_needs` promises
  pub body_added : {given : Provided} {bodies : List ℕ} {needs' : Listed ℕ} {end : ℕ} → Provisions given.bytes.now given.entries.now bs → BodiesAt given.bytes.now bodies bs
      → Lists (family_part a_Body) words given (take (length given.bytes.now - get_or bodies j 0) (drop (get_or bodies j 0) given.bytes.now)) 0 needs needs' end → Added needs needs' (own_needs bs j)
  body_added {given} {bodies} p b g =
      let a = b.there j lt in
      let at = get_or bodies j 0 in
      (g.lists (body_at bs j) (b.valid j lt) (at_part at (length given.bytes.now - at) a (omega arith) (omega (arith, a.fits)))).lists bs p next_room

-- what a binding needs are the names of its body
item_needs : (b : Binding) → (item b).needs ≡ words (body_of b)
unfolding item body_of
item_needs (BB l nl p b) = refl

pub items_length : (bs : List Binding) → length (items bs) ≡ length bs
unfolding items
items_length bs = length-map bs item

item_of : (bs : List Binding) (i : ℕ) → i < length bs → item_at (map item bs) i ≡ item (get_or bs i no_binding)
item_of [] i lt = absurd (omega arith)
item_of (b ∷ bs) zero lt = refl
item_of (b ∷ bs) (suc i) lt = item_of bs i (omega arith)

own_is : (bs : List Binding) (i : ℕ) → i < length bs → map (providers (items bs)) (needed (items bs) i) ≡ own_needs bs i
unfolding needed needs_of items
own_is bs i lt =
    ap (λ (xs : List Bytes). map (providers (items bs)) (keep (λ x. any (gives x) (items bs)) xs)) (ap (λ (x : Item). x.needs) (item_of bs i lt) ∙ item_needs (get_or bs i no_binding))

-- all are behind
module _ {needs : Listed ℕ} {starts : List ℕ} {j : ℕ} {bs : List Binding} (f : Collected needs starts j bs) (all : j ≡ length bs) (room : j < length starts) where
  -- every start, and the end of the last
  start_at : (k : ℕ) → k ≤ length bs → get_or (set starts j needs.count) k 0 ≡ length (all_needs bs (take k bs))
  start_at k le = elim (dec_lt k j) [
    | yes q ↦ get_or-set_other starts j k needs.count 0 (λ w. omega (arith, w)) ∙ f.starts_at k q
    | no q ↦
        let k_is : k ≡ j = omega arith in
        rw k_is (get_or-set_same starts j needs.count 0 room ∙ f.count)
  ]

  pub collected_starts : {listed : List ℕ} → length bs ≤ binding_limit → length (all_needs bs bs) ≤ length needs.items.now → listed ≡ needs.items.now → Starts (length bs) listed (set starts j needs.count)
  collected_starts few fits e = rw e record {
    few = few;
    many = omega (arith, length-set starts j needs.count);
    within = λ i le. omega (arith, start_at i le, all_few bs i);
  }

  pub collected_all : {listed : List ℕ} → listed ≡ needs.items.now → NeedsAt (items bs) listed (set starts j needs.count)
  collected_all e = rw e record {
    there = λ i lt.
        let h : i < length bs = omega (arith, items_length bs) in
        let a : At needs.items.now 0 (all_needs bs bs) = rw (all, take_all (length bs) bs (omega arith)) at f.there in
        let e : all_needs bs bs ≡ all_needs bs (take i bs) ++ (own_needs bs i ++ all_needs bs (drop (suc i) bs)) =
        all_split bs (suc i) ∙ ap (λ (zs : List ℕ). zs ++ all_needs bs (drop (suc i) bs)) (all_next bs i h) ∙ append_assoc (all_needs bs (take i bs)) (own_needs bs i) (all_needs bs (drop (suc i) bs)) in
        let r : At needs.items.now (0 + length (all_needs bs (take i bs))) (own_needs bs i ++ all_needs bs (drop (suc i) bs)) = at_right (all_needs bs (take i bs)) _ (rw e at a) in
        let o : At needs.items.now (0 + length (all_needs bs (take i bs))) (own_needs bs i) = at_left (own_needs bs i) _ r in
        rw (own_is bs i h) (at_place (get_or (set starts j needs.count) i 0) (omega (arith, start_at i (omega arith))) o);
    next = λ i lt.
        let h : i < length bs = omega (arith, items_length bs) in
        omega (
          arith,
          start_at (suc i) (omega arith),
          start_at i (omega arith),
          ap length (all_next bs i h),
          length-append (all_needs bs (take i bs)) (own_needs bs i),
          ap length (own_is bs i h),
          length-map (needed (items bs) i) (providers (items bs)),
        );
  }

-- a property of every entry
unfoldable All : (ℕ → Type 0) → List ℕ → Type 0
All P [] = Unit {0}
All P (e ∷ es) = P e × All P es

all_both : (P : ℕ → Type 0) (xs ys : List ℕ) → All P xs → All P ys → All P (xs ++ ys)
unfolding All
all_both P [] ys h k = k
all_both P (x ∷ xs) ys h k = (h.0, all_both P xs ys h.1 k)

all_get : (P : ℕ → Type 0) (xs : List ℕ) (k : ℕ) → All P xs → k < length xs → P (get_or xs k 0)
unfolding All
all_get P [] k h lt = absurd (omega arith)
all_get P (x ∷ xs) zero h lt = h.0
all_get P (x ∷ xs) (suc k) h lt = all_get P xs k h.1 (omega arith)

-- what is listed says places in a, and as many bindings as there are
module _ (a : Bytes) where
  abbrev Within : ℕ → Type 0
  Within e = (e / places ≤ e % places) × (e % places ≤ length a)

  entries_within : (es : List ℕ) (xs : List Bytes) → Entries a es xs → All Within es
  unfolding Entries All
  entries_within [] xs h = tt
  entries_within (e ∷ es) [] h = absurd h
  entries_within (e ∷ es) (x ∷ xs) h = ((omega (arith, h.0.ends), omega (arith, h.0.ends, h.0.there.fits)), entries_within es xs h.1)

  entries_listed : (es rest : List ℕ) (xs : List Bytes) → Entries a es xs → listed_bindings (es ++ rest) ≡ listed_bindings rest
  unfolding Entries listed_bindings
  entries_listed [] rest xs h = refl
  entries_listed (e ∷ es) rest [] h = absurd h
  entries_listed (zero ∷ es) rest (x ∷ xs) h = absurd (h.0.some refl)
  entries_listed (suc e ∷ es) rest (x ∷ xs) h = entries_listed es rest xs h.1

  provisions_within : (given : List ℕ) (bs : List Binding) → Provisions a given bs → All Within given × (listed_bindings given ≡ length bs)
  unfolding Provisions All listed_bindings
  provisions_within given [] e = rw e (tt, refl)
  provisions_within given (BB l nl p b ∷ bs) (es, rest, e, h, q) =
      let w = provisions_within rest bs q in
      rw e (
        ((omega arith, omega arith), all_both Within es rest (entries_within es (pattern_provides p) h) w.0),
        ap suc (entries_listed es rest (pattern_provides p) h ∙ w.1),
      )

  pub provisions_given : (given : List ℕ) (bs : List Binding) → Provisions a given bs → length bs ≤ binding_limit → Given a given
  provisions_given given bs p le =
      let w = provisions_within given bs p in
      record { few = omega (arith, w.1); within = λ k lt. all_get Within given k w.0 lt }
