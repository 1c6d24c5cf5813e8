-- Names that are listed one after the other, and what one name adds. Assumes nothing.
use mathlib.Core.Bool.{Bool, true, false, cond, ◌||◌}
use mathlib.Core.List.{List, [], ◌∷◌, ◌++◌, map, map-append}
use mathlib.Core.Path.{◌≡◌, refl, sym, ap, ◌∙◌}
use Prim.Native.Nat.{ℕ, ◌+◌, ◌≤◌, ◌<◌}
use native.Mathlib.Omega.{arith}
use lib.ListN.{length, length-append}
use Rattle.names.specs.Names.{Bytes}
use Rattle.records.specs.Records.{Binding}
use Rattle.ordering.specs.Items.{Item, any, keep, gives}
use Rattle.ordering.specs.Needs.{bits, providers, needs_of}
use Rattle.ordering.specs.Words.{items}
use Rattle.ordering.specs.Listing.{Names}
use Rattle.ordering.specs.Listed.{AddsOne, Added}
use Rattle.ordering.specs.Provisions.{Provisions}
use Rattle.ordering.specs.declared.listed.Listed.{Listed}
use Rattle.ordering.specs.declared.provides.Provided.{Provided}
use Rattle.ordering.proofs.EntryLaws.{room_same, room_then, added_none, one_added, added_then}

-- whether a flag is set, and the number of the flags
abbrev Signs : Bool → ℕ → Type 0
Signs true n = 0 < n
Signs false n = n ≡ 0

one_flag : (b : Bool) (bs : List Bool) (c : Bool) → Signs c (bits bs) → Signs (b || c) (bits (b ∷ bs))
unfolding bits
one_flag true bs c h = omega arith
one_flag false bs true h = omega arith
one_flag false bs false h = omega arith

module _ {A : Type 0} (f : A → Bool) where
  flags : (xs : List A) → Signs (any f xs) (bits (map f xs))
  unfolding bits
  flags [] = refl
  flags (x ∷ xs) = one_flag (f x) (map f xs) (any f xs) (flags xs)

  keep_one : (b : Bool) (x : A) (xs ys : List A) → keep f (xs ++ ys) ≡ keep f xs ++ keep f ys → cond b (x ∷ keep f (xs ++ ys)) (keep f (xs ++ ys)) ≡ cond b (x ∷ keep f xs) (keep f xs) ++ keep f ys
  keep_one true x xs ys e = ap (◌∷◌ x) e
  keep_one false x xs ys e = e

  keep_append : (xs ys : List A) → keep f (xs ++ ys) ≡ keep f xs ++ keep f ys
  keep_append [] ys = refl
  keep_append (x ∷ xs) ys = keep_one (f x) x xs ys (keep_append xs ys)

-- the needs of names one after the other
pub needs_append : (bs : List Item) (xs ys : List Bytes) → needs_of bs (xs ++ ys) ≡ needs_of bs xs ++ needs_of bs ys
unfolding needs_of
needs_append bs xs ys = ap (map (providers bs)) (keep_append (λ x. any (gives x) bs) xs ys) ∙ map-append (providers bs) (keep (λ x. any (gives x) bs) xs) (keep (λ x. any (gives x) bs) ys)

-- of one name, by whether any binding provides it
module _ (bs : List Item) (x : Bytes) where
  kept : (b : Bool) → Signs b (providers bs x) → (providers bs x ≡ 0 → map (providers bs) (cond b (x ∷ []) []) ≡ []) × (0 < providers bs x → map (providers bs) (cond b (x ∷ []) []) ≡ providers bs x ∷ [])
  kept true h = (λ q. absurd (omega arith), λ q. refl)
  kept false h = (λ q. refl, λ q. absurd (omega arith))

  provided : Signs (any (gives x) bs) (providers bs x)
  unfolding providers
  provided = flags (gives x) bs

  unneeded : providers bs x ≡ 0 → needs_of bs (x ∷ []) ≡ []
  unfolding needs_of
  unneeded = (kept (any (gives x) bs) provided).0

  needed : 0 < providers bs x → needs_of bs (x ∷ []) ≡ providers bs x ∷ []
  unfolding needs_of
  needed = (kept (any (gives x) bs) provided).1

-- names that are listed
module _ {given : Provided} {l : Listed ℕ} where
  pub names_none : Names [] given l l
  unfolding needs_of
  names_none = record { room = room_same; lists = λ bs p f. added_none }

  -- one name: of no binding; listed, or without room
  module _ {x : Bytes} {r : ℕ} (is : (bs : List Binding) → Provisions given.bytes.now given.entries.now bs → r ≡ providers (items bs) x) where
    pub name_unneeded : r ≡ 0 → Names (x ∷ []) given l l
    name_unneeded z = record { room = room_same; lists = λ bs p f. rw (unneeded (items bs) x (sym (is bs p) ∙ z)) added_none }

    pub name_listed : {l' : Listed ℕ} → (r ≡ 0 → ⊥) → AddsOne l l' r → Names (x ∷ []) given l l'
    name_listed z h = record {
      room = h.room;
      lists = λ bs p f.
          let e : needs_of (items bs) (x ∷ []) ≡ r ∷ [] = rw (is bs p) (needed (items bs) x (omega (arith, is bs p))) in
          rw e (one_added h (omega (arith, ap length e)));
    }

-- names, and then others
pub names_then : {xs ys : List Bytes} {given : Provided} {l₀ l₁ l₂ : Listed ℕ} → Names xs given l₀ l₁ → Names ys given l₁ l₂ → Names (xs ++ ys) given l₀ l₂
names_then {xs} {ys} {given} {l₀} {l₁} {l₂} f g = record { room = room_then f.room g.room; lists = go }
  where
    go : (bs : List Binding) → Provisions given.bytes.now given.entries.now bs → l₀.count + length (needs_of (items bs) (xs ++ ys)) ≤ length l₀.items.now → Added l₀ l₂ (needs_of (items bs) (xs ++ ys))
    go bs p q =
        let us : List ℕ = needs_of (items bs) xs in
        let vs : List ℕ = needs_of (items bs) ys in
        let e : needs_of (items bs) (xs ++ ys) ≡ us ++ vs = needs_append (items bs) xs ys in
        let k : length (needs_of (items bs) (xs ++ ys)) ≡ length us + length vs = ap length e ∙ length-append us vs in
        let u = f.lists bs p (omega arith) in
        rw e (added_then us vs u (g.lists bs p (omega (arith, u.counted, f.room.size))) (omega arith))
