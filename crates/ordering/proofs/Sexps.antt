-- S records as their view shows them: whether one is true, and the names listed of one. Assumes nothing.
use mathlib.Core.Bool.{Bool, true, false, not}
use mathlib.Core.List.{List, [], ◌∷◌}
use mathlib.Core.Path.{◌≡◌, refl, sym, ap, ◌∙◌}
use Prim.Native.Nat.{ℕ, ◌+◌, ◌-◌, ◌≤◌}
use native.Mathlib.Omega.{arith}
use lib.ListN.{length}
use Rattle.names.specs.Names.{Bytes}
use Rattle.names.specs.Segments.{At}
use Rattle.names.proofs.Parts.{into, part, part_length}
use Rattle.names.proofs.Places.{at_place}
use Rattle.records.specs.Records.{Sexp, sexp_bytes}
use Rattle.records.specs.Sexps.{all_zero, truthy}
use Rattle.records.specs.Valid.{SexpFields}
use Rattle.records.specs.Parts.{Part, fields_part}
use Rattle.records.specs.Views.{NameAt, SexpAt, nil_at, pair_at, integer_at, text_at, atom_at, SeesSexp}
use Rattle.records.specs.declared.NameView.{NameView}
use Rattle.records.specs.declared.SexpView.{SexpView}
use Rattle.records.specs.declared.SexpView.TheVariants.{Nil, Pair, Unknown}
use Rattle.records.proofs.AnySexp.{Leaf, integer, text, name, leaf_places, bytes_are, unseen}
use Rattle.records.proofs.Views.{first_of, rest_of}
use Rattle.ordering.specs.declared.listed.Listed.{Listed}
use Rattle.ordering.specs.declared.provides.Provided.{Provided}
use Rattle.ordering.specs.Listed.{SameRoom}
use Rattle.ordering.specs.Listing.{Names, Lists, Reaches}
use Rattle.ordering.specs.Words.{make_provides_set}
use Rattle.ordering.proofs.EntryLaws.{room_same, room_then}
use Rattle.ordering.proofs.Patterns.{leaf_provides, nil_provides}
use Rattle.ordering.proofs.NeedLaws.{names_none, names_then}

-- what is known of every tree that stands at a place
module _ (p : Part) (names : p.0 → List Bytes) (given : Provided) where
  abbrev pub Tells : (s : Bytes) (at : ℕ) (before after : Listed ℕ) (end : ℕ) → Type 0
  Tells s at before after end = (t : p.0) → p.2 t → At s at (p.1 t) → (end ≡ at + length (p.1 t)) × Names (names t) given before after

module _ {p : Part} {names : p.0 → List Bytes} {given : Provided} {s : Bytes} {at : ℕ} {before after : Listed ℕ} {end : ℕ} where
  pub lists_of : at ≤ end → end ≤ length s → SameRoom before after → Tells p names given s at before after end → Lists p names given s at before after end
  lists_of f w m h = record { forward = f; within = w; room = m; ends = λ t v k. (h t v k).0; lists = λ t v k. (h t v k).1 }

  pub told : Lists p names given s at before after end → Tells p names given s at before after end
  told h t v k = (h.ends t v k, h.lists t v k)

  pub lists_reaches : Lists p names given s at before after end → Reaches 0 p names given s at before after end
  lists_reaches h = record { within = h.within; room = h.room; tells = λ z. told h }

  -- a tree at the start of a part of s stands in s where the part starts
  tells_part : at ≤ length s → Tells p names given (part s at (length s - at)) 0 before after end → Tells p names given s at before after (at + end)
  tells_part l h t v k = let u = h t v (into k) in (omega (arith, u.0), u.1)

module _ {p : Part} {names : p.0 → List Bytes} {given : Provided} {s : Bytes} {at : ℕ} {before after : Listed ℕ} {end : ℕ} where
  pub lists_part : at ≤ length s → Lists p names given (part s at (length s - at)) 0 before after end → Lists p names given s at before after (at + end)
  lists_part l h = lists_of (omega arith) (omega (arith, h.within, part_length s at (length s - at) (omega arith))) h.room (tells_part l (told h))

  pub reaches_part : at ≤ length s → Reaches 0 p names given (part s at (length s - at)) 0 before after end → Reaches 1 p names given s at before after (at + end)
  reaches_part l h = record { within = omega (arith, h.within, part_length s at (length s - at) (omega arith)); room = h.room; tells = λ z. tells_part l (h.tells (omega arith)) }

-- at the mark around it no child stands
pub reaches_none : {p : Part} {names : p.0 → List Bytes} {given : Provided} {s : Bytes} {at : ℕ} {l : Listed ℕ} → at ≡ 0 → Reaches 1 p names given s at l l 0
reaches_none e = record { within = omega arith; room = room_same; tells = λ z. absurd (omega arith) }

-- an S record, by its view
module _ {given : Provided} {s : Bytes} where
  module _ {l₀ l₁ l₂ : Listed ℕ} {p h r : ℕ} where
    pub pair_lists : SeesSexp s (Pair p) → Lists fields_part make_provides_set given s p l₀ l₁ h → Lists fields_part make_provides_set given s h l₁ l₂ r → Lists fields_part make_provides_set given s 0 l₀ l₂ r
    unfolding SexpFields make_provides_set
    pair_lists x f g = lists_of (omega arith) g.within (room_then f.room g.room) (λ t w k. go w (x.sees t w k))
      where
        go : {t : Sexp} → SexpFields t → SexpAt s (Pair p) t → (r ≡ 0 + length (sexp_bytes t)) × Names (make_provides_set t) given l₀ l₂
        go w (pair_at {h = hd} {t = tl} k q) =
            let i = told f hd w.1 (first_of k) in
            let j = told g tl w.2 (at_place h (sym i.0) (first_of (rest_of k))) in
            (omega (arith, i.0, j.0), names_then i.1 j.1)

  -- an SI, SQ or SA, whose bytes are one name
  pub leaf_lists : {l l' : Listed ℕ} {b : NameView} {v : SexpView} → Leaf b v → SeesSexp s v → Names (part s b.start (b.end - b.start) ∷ []) given l l' → Lists fields_part make_provides_set given s 0 l l' b.end
  leaf_lists {l} {l'} {b} k x f = lists_of (omega arith) (leaf_places k x.places).within f.room (λ t w h. go t (leaf_provides k (x.sees t w h)))
    where
      go : (t : Sexp) → (c : Bytes) × NameAt s b c (length (sexp_bytes t)) × (make_provides_set t ≡ c ∷ []) → (b.end ≡ 0 + length (sexp_bytes t)) × Names (make_provides_set t) given l l'
      go t (c, h, q) = (omega (arith, h.past), rw (q, ← bytes_are h) f)

  -- an SN
  pub nil_lists : {l : Listed ℕ} {e : ℕ} → SeesSexp s (Nil e) → Lists fields_part make_provides_set given s 0 l l e
  nil_lists x = lists_of (omega arith) x.places.1 room_same (λ t w k. let q = nil_provides (x.sees t w k) in (omega (arith, q.0), rw q.1 names_none))

  -- none of them
  pub no_lists : {l : Listed ℕ} → SeesSexp s Unknown → Lists fields_part make_provides_set given s 0 l l (length s)
  no_lists x = lists_of (omega arith) (omega arith) room_same (λ t w k. absurd (unseen (x.sees t w k)))

-- whether an S record is true, by its view
module _ {s : Bytes} (t : Sexp) (w : SexpFields t) (k : At s 0 (sexp_bytes t)) where
  pub nil_truth : {e : ℕ} → SeesSexp s (Nil e) → false ≡ truthy t
  unfolding truthy
  nil_truth {e} x = go (x.sees t w k)
    where
      go : {u : Sexp} → SexpAt s (Nil e) u → false ≡ truthy u
      go (nil_at q) = refl

  pub leaf_truth : {r : Bool} {n : NameView} {v : SexpView} → Leaf n v → SeesSexp s v → r ≡ not (all_zero (part s n.start (n.end - n.start))) → r ≡ truthy t
  unfolding truthy
  leaf_truth {n = n} l x h = h ∙ go l (x.sees t w k)
    where
      zero : {b : Bytes} {e : ℕ} → NameAt s n b e → not (all_zero (part s n.start (n.end - n.start))) ≡ not (all_zero b)
      zero e = ap (λ (y : Bytes). not (all_zero y)) (bytes_are e)

      go : {v : SexpView} {u : Sexp} → Leaf n v → SexpAt s v u → not (all_zero (part s n.start (n.end - n.start))) ≡ truthy u
      go integer (integer_at e) = zero e
      go text (text_at e) = zero e
      go name (atom_at e) = zero e

  pub pair_truth : {p : ℕ} → SeesSexp s (Pair p) → true ≡ truthy t
  unfolding truthy
  pair_truth {p} x = go (x.sees t w k)
    where
      go : {u : Sexp} → SexpAt s (Pair p) u → true ≡ truthy u
      go (pair_at e q) = refl

  pub no_truth : SeesSexp s Unknown → true ≡ truthy t
  no_truth x = absurd (unseen (x.sees t w k))
