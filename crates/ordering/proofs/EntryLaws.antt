-- What is listed: nothing, one entry, and more after what was listed. Assumes nothing.
use mathlib.Core.Path.{◌≡◌, refl, ap, ◌∙◌}
use mathlib.Core.List.{List, [], ◌∷◌, ◌++◌}
use mathlib.Core.Logic.{◌⊎◌, inl, inr}
use Prim.Native.Nat.{ℕ, zero, suc, ◌+◌, ◌-◌, ◌*◌, ◌/◌, ◌≤◌, ◌<◌}
use native.Mathlib.Omega.{arith}
use lib.ListN.{length, get_or, length-append}
use Rattle.names.specs.Names.{Bytes}
use Rattle.names.specs.Segments.{At}
use Rattle.names.proofs.Frames.{same_then, get_below, filled_none, filled_set, filled_at}
use Rattle.names.proofs.Order.{lt_or_le}
use Rattle.names.proofs.Places.{at_whole, at_get, at_place}
use Rattle.names.proofs.Segments.{filled_then}
use Rattle.records.specs.Parts.{Part}
use Rattle.ordering.specs.declared.listed.Listed.{Listed}
use Rattle.ordering.specs.Listed.{SameRoom, AddsOne, Added}
use Rattle.ordering.specs.Provisions.{places, Entry, Entries, EntryIn, Adds, ListsNames}

-- the room of a list
pub room_same : {l : Listed ℕ} → SameRoom l l
room_same = record { same = refl; size = refl }

pub room_then : {before mid after : Listed ℕ} → SameRoom before mid → SameRoom mid after → SameRoom before after
room_then f g = record { same = g.same ∙ f.same; size = g.size ∙ f.size }

-- nothing is listed
pub added_none : {l : Listed ℕ} → Added l l []
added_none = record { counted = omega arith; filled = filled_none }

-- one item is listed, or there is no room
module _ {before after : Listed ℕ} {e : ℕ} (h : AddsOne before after e) where
  pub one_added : before.count < length before.items.now → Added before after (e ∷ [])
  one_added lt = let r = h.one lt in record { counted = r.0; filled = rw r.1 (filled_set before.items.now before.count e lt) }

  pub one_full : length before.items.now ≤ before.count → Added before after []
  one_full le = let r = h.full le in record { counted = omega (arith, r.0); filled = rw r.1 filled_none }

-- what is listed are entries
added_adds : {size : ℕ} {before after : Listed ℕ} (es : List ℕ) → SameRoom before after → Added before after es → before.count + length es ≤ length before.items.now
    → ((k : ℕ) → k < length es → EntryIn size (get_or es k 0)) → Adds size before after
added_adds {size} {before} {after} es room f fit each = record {
  room = room;
  more = omega (arith, f.counted);
  frame = rw f.counted f.filled.frame;
  entries = λ k le lt.
      let n = before.count in
      let here : At after.items.now n es = filled_at n f.filled fit (at_whole es) (omega arith) (omega arith) in
      let e : n + (k - n) ≡ k = omega arith in
      rw (← e, at_get here (k - n) (omega (arith, f.counted))) (each (k - n) (omega (arith, f.counted)));
}

pub adds_none : {size : ℕ} {l : Listed ℕ} → Adds size l l
adds_none {l = l} = added_adds [] room_same added_none (omega (arith, l.within)) (λ k h. absurd (omega arith))

-- more is listed
module _ {before mid after : Listed ℕ} where
  pub adds_then : {size : ℕ} → Adds size before mid → Adds size mid after → Adds size before after
  adds_then {size} f g = record {
    room = room_then f.room g.room;
    more = omega (arith, f.more, g.more);
    frame = same_then before.count after.count (omega (arith, f.more)) (omega (arith, g.more)) (omega (arith, f.more)) (omega (arith, g.more)) f.frame g.frame;
    entries = λ k le lt. go k le lt (lt_or_le k mid.count);
  }
    where
      go : (k : ℕ) → before.count ≤ k → k < after.count → (k < mid.count) ⊎ (mid.count ≤ k) → EntryIn size (get_or after.items.now k 0)
      go k le lt (inl h) = rw (get_below g.frame k h) (f.entries k le h)
      go k le lt (inr h) = g.entries k h lt

  pub added_then : (es fs : List ℕ) → Added before mid es → Added mid after fs → before.count + length es + length fs ≤ length before.items.now → Added before after (es ++ fs)
  added_then es fs f g le =
      let l = length-append es fs in
      record { counted = omega (arith, f.counted, g.counted); filled = filled_then f.filled g.filled f.counted (omega arith) }

-- entries of names
module _ (a : Bytes) where
  pub entries_length : (es : List ℕ) (xs : List Bytes) → Entries a es xs → length es ≡ length xs
  unfolding Entries
  entries_length [] [] h = refl
  entries_length [] (x ∷ xs) h = absurd h
  entries_length (e ∷ es) [] h = absurd h
  entries_length (e ∷ es) (x ∷ xs) h = ap suc (entries_length es xs h.1)

  pub entries_then : (es fs : List ℕ) (xs ys : List Bytes) → Entries a es xs → Entries a fs ys → Entries a (es ++ fs) (xs ++ ys)
  unfolding Entries
  entries_then [] fs [] ys h k = k
  entries_then [] fs (x ∷ xs) ys h k = absurd h
  entries_then (e ∷ es) fs [] ys h k = absurd h
  entries_then (e ∷ es) fs (x ∷ xs) ys h k = (h.0, entries_then es fs xs ys h.1 k)

-- the names xs are listed
abbrev pub Lists : Bytes → Listed ℕ → Listed ℕ → List Bytes → Type 0
Lists a before after xs = (es : List ℕ) × Entries a es xs × Added before after es

pub lists_then : (a : Bytes) {before mid after : Listed ℕ} (xs ys : List Bytes) → length mid.items.now ≡ length before.items.now → Lists a before mid xs
    → (mid.count + length ys ≤ length mid.items.now → Lists a mid after ys) → before.count + length xs + length ys ≤ length before.items.now → Lists a before after (xs ++ ys)
lists_then a {before} {mid} {after} xs ys size (es, h, f) next le = go (next (omega (arith, f.counted, entries_length a es xs h)))
  where
    go : Lists a mid after ys → Lists a before after (xs ++ ys)
    go (fs, k, g) = (es ++ fs, entries_then a es fs xs ys h k, added_then es fs f g (omega (arith, entries_length a es xs h, entries_length a fs ys k)))

-- a name that starts and ends at places in a
module _ (a : Bytes) (start end : ℕ) (p : 0 < start) (f : start ≤ end) (w : end ≤ length a) (small : length a < places) where
  entry_in : EntryIn (length a) (places * start + end)
  entry_in = record { some = λ e. omega arith; forward = omega arith; within = omega arith }

  entry_of : {x : Bytes} → At a start x → end ≡ start + length x → Entry a (places * start + end) x
  entry_of h e = record { some = λ z. omega arith; there = at_place ((places * start + end) / places) (omega arith) h; ends = omega arith }

  one_adds : {before after : Listed ℕ} → AddsOne before after (places * start + end) → Adds (length a) before after
  one_adds {before} {after} h = go (lt_or_le before.count (length before.items.now))
    where
      only : (k : ℕ) → k < 1 → EntryIn (length a) (get_or ((places * start + end) ∷ []) k 0)
      only zero lt = entry_in
      only (suc k) lt = absurd (omega arith)

      go : (before.count < length before.items.now) ⊎ (length before.items.now ≤ before.count) → Adds (length a) before after
      go (inl lt) = added_adds ((places * start + end) ∷ []) h.room (one_added h lt) (omega arith) only
      go (inr full) = added_adds [] h.room (one_full h full) (omega (arith, before.within)) (λ k lt. absurd (omega arith))

-- a tree that provides one name, and stands before e
pub record OneName (a : Bytes) (start end e : ℕ) (xs : List Bytes) : Type 0 where
  pub name : Bytes
  pub only : xs ≡ name ∷ []
  pub there : At a start name
  pub ends : end ≡ start + length name
  pub whole : end ≡ e

-- what is promised where one name is listed, and where none is
module _ {p : Part} {names : p.0 → List Bytes} {a : Bytes} {at end : ℕ} {before : Listed ℕ} (w : end ≤ length a) where
  pub lists_one : {after : Listed ℕ} {start : ℕ} → length a < places → 0 < start → at ≤ start → start ≤ end → AddsOne before after (places * start + end)
      → ((t : p.0) → p.2 t → At a at (p.1 t) → OneName a start end (at + length (p.1 t)) (names t)) → ListsNames p names a at before after end
  unfolding Entries
  lists_one {after} {start} small pos l f h one = record {
    forward = omega arith;
    within = w;
    adds = one_adds a start end pos f w small h;
    ends = λ t v k. (one t v k).whole;
    lists = λ t v k room.
        let o = one t v k in
        ((places * start + end) ∷ [], rw o.only (entry_of a start end pos f w small o.there o.ends, tt), one_added h (omega (arith, ap length o.only)));
  }

  pub lists_none : at ≤ end → ((t : p.0) → p.2 t → At a at (p.1 t) → (end ≡ at + length (p.1 t)) × (names t ≡ [])) → ListsNames p names a at before before end
  unfolding Entries
  lists_none l none = record {
    forward = l;
    within = w;
    adds = adds_none;
    ends = λ t v k. (none t v k).0;
    lists = λ t v k room. ([], rw (none t v k).1 tt, added_none);
  }
