-- A map in memory, searched entry by entry. Assumes nothing.
use mathlib.Core.Path.{◌≡◌, refl, sym, ap, ◌∙◌}
use mathlib.Core.Bool.{Bool, true, false}
use mathlib.Core.List.{[], ◌∷◌, ◌++◌}
use mathlib.Core.Option.{none, some}
use native.Mathlib.Nat.{add-sub_cancel_left}
use native.Mathlib.Omega.{arith}
use Prim.Native.Nat.{ℕ, ◌+◌, ◌-◌, ◌≤◌, ◌<◌}
use denote.Ref.{Bor}
use lib.ListN.{length, take, drop, length-drop}
use Rattle.names.specs.Maps.{NameMap, lookup, renamed, found_at, Origin, map_bytes}
use Rattle.names.specs.Names.{Bytes, name_field, name_width, number_of, same}
use Rattle.names.proofs.Fields.{name_at, name_field_length}
use Rattle.names.proofs.Places.{at_own}

-- the first entry of a map: it is the name's, or the others say what the name becomes
module _ (x : Bytes) (e : Bytes × Bytes) (m : NameMap) where
  lookup_hit : same x e.0 ≡ true → lookup (e ∷ m) x ≡ some e.1
  unfolding lookup
  lookup_hit t = rw (t, lookup)

  lookup_miss : same x e.0 ≡ false → lookup (e ∷ m) x ≡ lookup m x
  unfolding lookup
  lookup_miss t = rw (t, lookup)

  at_hit : same x e.0 ≡ true → found_at (e ∷ m) x ≡ name_width + length e.0 + name_width
  unfolding found_at
  at_hit t = rw (t, found_at, name_field_length e.0)

  at_miss : same x e.0 ≡ false → found_at (e ∷ m) x ≡ name_width + length e.0 + (name_width + length e.1) + found_at m x
  unfolding found_at
  at_miss t = rw (t, found_at, name_field_length e.0, name_field_length e.1)

-- what a name becomes, by what is found
module _ (m : NameMap) (x : Bytes) where
  pub renamed_some : {v : Bytes} → lookup m x ≡ some v → v ≡ renamed m x
  unfolding renamed
  renamed_some e = rw (e, renamed)

  pub renamed_none : lookup m x ≡ none → x ≡ renamed m x
  unfolding renamed
  renamed_none e = rw (e, renamed)

-- a search of x in the bytes s of m has come to `at`: what is found from there on is what m has
pub record Searched (s : Bytes) (at : ℕ) (m : NameMap) (x : Bytes) : Type 0 where
  pub rest : NameMap
  pub is : drop at s ≡ map_bytes rest
  pub finds : lookup rest x ≡ lookup m x
  pub place : at + found_at rest x ≡ found_at m x

pub searched_all : {s : Bytes} {at : ℕ} {m : NameMap} {x : Bytes} → Searched s at m x → length s ≤ at → lookup m x ≡ none
unfolding lookup map_bytes
searched_all {s} {at} {m} {x} h le = go h.rest h.is h.finds
  where
    go : (r : NameMap) → drop at s ≡ map_bytes r → lookup r x ≡ lookup m x → lookup m x ≡ none
    go [] d g = sym g
    go (e ∷ r) d g = let f = name_at s at e.0 (name_field e.1 ++ map_bytes r) d in absurd (omega arith)

-- the new name of n bytes at p is what x becomes
pub record Hit (s : Bytes) (p n : ℕ) (m : NameMap) (x : Bytes) : Type 0 where
  pub finds : lookup m x ≡ some (take n (drop p s))
  pub place : p ≡ found_at m x

-- the entry at `at`, with an old name of o bytes and a new one of n: what x becomes by it, or that the search goes on
pub record Entry (s : Bytes) (at o n : ℕ) (m : NameMap) (x : Bytes) : Type 0 where
  pub fits : at + name_width + o + name_width + n ≤ length s
  pub hit : same x (take o (drop (at + name_width) s)) ≡ true → Hit s (at + name_width + o + name_width) n m x
  pub miss : same x (take o (drop (at + name_width) s)) ≡ false → Searched s (at + name_width + o + name_width + n) m x

pub entry : {s : Bytes} {at o n : ℕ} {m : NameMap} {x : Bytes} → Searched s at m x → at < length s → o ≡ number_of (take name_width (drop at s))
    → n ≡ number_of (take name_width (drop (at + name_width + o) s)) → Entry s at o n m x
unfolding map_bytes
entry {s} {at} {o} {n} {m} {x} h lt eo en = go h.rest h.is h.finds h.place
  where
    go : (r : NameMap) → drop at s ≡ map_bytes r → lookup r x ≡ lookup m x → at + found_at r x ≡ found_at m x → Entry s at o n m x
    go [] d g p = absurd (omega (arith, length-drop at s, ap length d))
    go (e ∷ r) d g p =
        let f = name_at s at e.0 (name_field e.1 ++ map_bytes r) d in
        let k = name_at s (at + name_width + length e.0) e.1 (map_bytes r) f.past in
        let lo : o ≡ length e.0 = eo ∙ f.size in
        let ln : n ≡ length e.1 = en ∙ rw lo k.size in
        rw (lo, ln) record {
          fits = k.fits;
          hit = λ t. record {
            finds = sym g ∙ lookup_hit x e r (rw f.name at t) ∙ ap some (sym k.name);
            place = omega (arith, p, at_hit x e r (rw f.name at t));
          };
          miss = λ t. record {
            rest = r;
            is = k.past;
            finds = sym (lookup_miss x e r (rw f.name at t)) ∙ g;
            place = omega (arith, p, at_miss x e r (rw f.name at t));
          };
        }

-- the same of each map that s is
pub entries : {s : Bytes} {at o n : ℕ} {x : Bytes} → ((m : NameMap) → s ≡ map_bytes m → Searched s at m x)
    → at < length s → o ≡ number_of (take name_width (drop at s))
    → n ≡ number_of (take name_width (drop (at + name_width + o) s)) → (m : NameMap) → s ≡ map_bytes m → Entry s at o n m x
entries h lt eo en m e = entry (h m e) lt eo en

-- the entry's old name was compared with x, as the bytes from its place up to its end
module _ {s : Bytes} {at o n : ℕ} {m : NameMap} {x : Bytes} {r : Bool} (v : Entry s at o n m x)
    (t : r ≡ same x (take (at + name_width + o - (at + name_width)) (drop (at + name_width) s))) where
  pub entry_hit : r ≡ true → Hit s (at + name_width + o + name_width) n m x
  entry_hit e = v.hit (sym (rw add-sub_cancel_left at t) ∙ e)

  pub entry_miss : r ≡ false → Searched s (at + name_width + o + name_width + n) m x
  entry_miss e = v.miss (sym (rw add-sub_cancel_left at t) ∙ e)

-- an answer that is a part of the map, by the entry that was found, or the name, where none was
module _ {m : NameMap} (name map : Bor Bytes) where
  pub from_map : {p n : ℕ} (r : Bor Bytes) → Hit map.now p n m name.now → p + n ≤ length map.now → r.ref_ptr ≡ (map.ref_ptr.0, p + map.ref_ptr.1)
      → r.now ≡ take n (drop p map.now) → Origin m name map r
  from_map {p} {n} r h fit e t = record {
    kept = λ z. absurd (let no : ◌≡◌ {A = ℕ} 0 1 = cc in omega arith);
    found = λ v z. record { points = rw (← h.place) e; there = rw (t, ← h.place) (at_own map.now p n fit) };
  }

  pub from_name : lookup m name.now ≡ none → Origin m name map name
  from_name e = record { kept = λ _. refl; found = λ v z. absurd (let no : ◌≡◌ {A = ℕ} 0 1 = cc in omega arith) }
