-- What the views say of an S record and a pattern, as the names that are listed of it. Assumes nothing.
use mathlib.Core.Path.{◌≡◌, refl, ap, sym, subst, ◌∙◌}
use mathlib.Core.List.{List, [], ◌∷◌, ◌++◌}
use Prim.Native.Nat.{ℕ, ◌+◌, ◌-◌, ◌*◌, ◌≤◌, ◌<◌}
use native.Mathlib.Nat.{add-zero}
use native.Mathlib.Omega.{arith}
use lib.ListN.{length, take, drop, get_or, length-append, length-drop}
use lib.Seq.{take_all}
use Rattle.names.specs.Names.{Bytes}
use Rattle.names.specs.Segments.{At}
use Rattle.names.proofs.Places.{at_get, at_place, at_right, at_into_drop, at_from_drop}
use Rattle.records.specs.Records.{Sexp, sexp_bytes, Pattern, Name, Complex, pattern_field}
use Rattle.records.specs.Valid.{SexpFields, ValidPattern}
use Rattle.records.specs.Parts.{fields_part, pattern_part}
use Rattle.records.specs.Views.{NameAt, SexpAt, nil_at, pair_at, integer_at, text_at, atom_at, BytesIn, SeesSexp, SeesName}
use Rattle.records.specs.declared.NameView.{NameView}
use Rattle.records.specs.declared.SexpView.{SexpView}
use Rattle.records.specs.declared.SexpView.TheVariants.{Nil, Pair, Unknown}
use Rattle.records.proofs.AnySexp.{Leaf, integer, text, name, leaf_places, unseen}
use Rattle.records.proofs.Views.{first_of, rest_of}
use Rattle.ordering.specs.Listed.{AddsOne}
use Rattle.ordering.specs.Provisions.{places, ListsNames}
use Rattle.ordering.specs.Words.{make_provides_set, pattern_provides}
use Rattle.ordering.specs.declared.listed.Listed.{Listed}
use Rattle.ordering.proofs.EntryLaws.{Lists, adds_then, lists_then, OneName, lists_one, lists_none}

-- an SI, SQ or SA: its bytes, which are what it provides
pub leaf_provides : {s : Bytes} {n : NameView} {v : SexpView} {t : Sexp} → Leaf n v → SexpAt s v t → (b : Bytes) × NameAt s n b (length (sexp_bytes t)) × (make_provides_set t ≡ b ∷ [])
unfolding make_provides_set
leaf_provides integer (integer_at {b = b} k) = (b, k, refl)
leaf_provides text (text_at {n = n} k) = (n, k, refl)
leaf_provides name (atom_at {n = n} k) = (n, k, refl)

-- an SN
pub nil_provides : {s : Bytes} {e : ℕ} {t : Sexp} → SexpAt s (Nil e) t → (e ≡ length (sexp_bytes t)) × (make_provides_set t ≡ [])
unfolding make_provides_set
nil_provides (nil_at q) = (q, refl)

-- what is left of a from a place on, as the code takes it
part_is : (a : Bytes) (at : ℕ) → take (length a - at) (drop at a) ≡ drop at a
part_is a at = take_all (length a - at) (drop at a) (omega (arith, length-drop at a))

-- an SC whose head stands in a at a place, and which ends at e
record PairAt (a : Bytes) (start e : ℕ) (t : Sexp) : Type 0 where
  head : Sexp
  tail : Sexp
  head_fields : SexpFields head
  tail_fields : SexpFields tail
  head_at : At a start (sexp_bytes head)
  tail_at : At a (start + length (sexp_bytes head)) (sexp_bytes tail)
  whole : e ≡ start + length (sexp_bytes head) + length (sexp_bytes tail)
  provides : make_provides_set t ≡ make_provides_set head ++ make_provides_set tail

as_pair : (a : Bytes) (at : ℕ) {p : ℕ} {t : Sexp} → at ≤ length a → SexpFields t → SexpAt (drop at a) (Pair p) t → PairAt a (at + p) (at + length (sexp_bytes t)) t
unfolding SexpFields make_provides_set
as_pair a at le k (pair_at {h = h} {t = u} {p = p} w q) = record {
  head = h;
  tail = u;
  head_fields = k.1;
  tail_fields = k.2;
  head_at = at_from_drop at le (first_of w);
  tail_at = at_place (at + p + length (sexp_bytes h)) (omega arith) (at_from_drop at le (first_of (rest_of w)));
  whole = omega arith;
  provides = refl;
}

-- the S record at a place in the assign
module _ (a : Bytes) (at : ℕ) {v : SexpView} (le : at ≤ length a) (h : SeesSexp (take (length a - at) (drop at a)) v) where
  seen : SeesSexp (drop at a) v
  seen = rw part_is at h

  sees_at : (t : Sexp) → SexpFields t → At a at (sexp_bytes t) → SexpAt (drop at a) v t
  sees_at t k w = seen.sees t k (at_into_drop at (at_place (at + 0) (omega arith) w))

  -- an SI, SQ or SA
  module _ {b : NameView} (k : Leaf b v) where
    pub leaf_in : BytesIn (length a - at) b
    leaf_in = let p = leaf_places k seen.places in record { moved = p.moved; forward = p.forward; within = omega (arith, p.within, length-drop at a) }

    pub leaf_names : {before after : Listed ℕ} → 0 < at → length a < places → AddsOne before after (places * (at + b.start) + (at + b.end))
        → ListsNames fields_part make_provides_set a at before after (at + b.end)
    leaf_names p small f = let i = leaf_in in lists_one (omega (arith, i.within)) small (omega arith) (omega arith) (omega (arith, i.forward)) f go
      where
        go : (t : Sexp) → SexpFields t → At a at (sexp_bytes t) → OneName a (at + b.start) (at + b.end) (at + length (sexp_bytes t)) (make_provides_set t)
        go t f w =
            let l = leaf_provides k (sees_at t f w) in
            record { name = l.0; only = l.2; there = at_from_drop at le l.1.bytes; ends = omega (arith, l.1.ends); whole = omega (arith, l.1.past) }

module _ (a : Bytes) (at : ℕ) (le : at ≤ length a) where
  abbrev Sees : SexpView → Type 0
  Sees v = SeesSexp (take (length a - at) (drop at a)) v

  -- where an SN ends
  pub nil_in : {e : ℕ} → Sees (Nil e) → at + e ≤ length a
  nil_in h = omega (arith, (seen a at le h).places.1, length-drop at a)

  pub nil_names : {l : Listed ℕ} {e : ℕ} → Sees (Nil e) → ListsNames fields_part make_provides_set a at l l (at + e)
  nil_names h =
      lists_none (nil_in h) (omega arith)
      λ t f w. let q = nil_provides (sees_at a at le h t f w) in (omega (arith, q.0), q.1)

  pub no_names : {l : Listed ℕ} → Sees Unknown → ListsNames fields_part make_provides_set a at l l (length a)
  no_names h = lists_none (omega arith) le λ t f w. absurd (unseen (sees_at a at le h t f w))

  -- where the head of an SC stands
  pub head_in : {p : ℕ} → Sees (Pair p) → (0 < p) × (at + p ≤ length a)
  head_in h = let p = (seen a at le h).places in (p.0, omega (arith, p.1, length-drop at a))

  pub pair_names : {before mid after : Listed ℕ} {p x y : ℕ} → Sees (Pair p) → ListsNames fields_part make_provides_set a (at + p) before mid x
      → ListsNames fields_part make_provides_set a x mid after y → ListsNames fields_part make_provides_set a at before after y
  pair_names {before} {after = after} {x = x} h f g = record {
    forward = omega (arith, f.forward, g.forward);
    within = g.within;
    adds = adds_then f.adds g.adds;
    ends = λ t k w.
        let o = as_pair a at le k (sees_at a at le h t k w) in
        let e = f.ends o.head o.head_fields o.head_at in
        omega (arith, o.whole, e, g.ends o.tail o.tail_fields (at_place x (sym e) o.tail_at));
    lists = λ t k w room.
        let o = as_pair a at le k (sees_at a at le h t k w) in
        let l : length (make_provides_set t) ≡ length (make_provides_set o.head) + length (make_provides_set o.tail) =
        ap length o.provides ∙ length-append (make_provides_set o.head) (make_provides_set o.tail) in
        let e = f.ends o.head o.head_fields o.head_at in
        subst (λ (xs : List Bytes). Lists a before after xs) (sym o.provides)
        (lists_then a (make_provides_set o.head) (make_provides_set o.tail) f.adds.frame.size (f.lists o.head o.head_fields o.head_at (omega arith))
        (g.lists o.tail o.tail_fields (at_place x (sym e) o.tail_at)) (omega arith));
  }

-- the pattern at a place in the assign
module _ (a : Bytes) (at : ℕ) where
  -- no byte is left
  pub no_pattern : {l : Listed ℕ} → at ≤ length a → length a ≤ at → ListsNames pattern_part pattern_provides a at l l at
  unfolding pattern_field
  no_pattern w le = lists_none w (omega arith) λ p v k. absurd (go p k)
    where
      go : (p : Pattern) → At a at (pattern_field p) → ⊥
      go (Name x) w = omega (arith, w.fits)
      go (Complex t) w = omega (arith, w.fits)

  -- the tag, and what follows it
  tag_is : {b : ℕ} {bs : Bytes} → At a at (b ∷ bs) → get_or a at 0 ≡ b
  tag_is w = rw add-zero at (at_get w 0 (omega arith))

  behind : {b : ℕ} {bs : Bytes} → At a at (b ∷ bs) → At a (at + 1) bs
  behind {b} {bs} w = at_right (b ∷ []) bs w

  pub name_names : {v : NameView} {before after : Listed ℕ} → length a < places → at < length a → get_or a at 0 ≡ 0 → SeesName (take (length a - (at + 1)) (drop (at + 1) a)) 0 v
      → AddsOne before after (places * (at + 1 + v.start) + (at + 1 + v.end)) → ListsNames pattern_part pattern_provides a at before after (at + 1 + v.end)
  unfolding pattern_field pattern_provides ValidPattern
  name_names {v} small lt q h k =
      lists_one (omega (arith, seen.within, length-drop (at + 1) a)) small (omega arith) (omega arith) (omega (arith, seen.forward)) k go
    where
      next : at + 1 ≤ length a
      next = omega arith

      seen : SeesName (drop (at + 1) a) 0 v
      seen = rw part_is at h

      go : (p : Pattern) → ValidPattern p → At a at (pattern_field p) → OneName a (at + 1 + v.start) (at + 1 + v.end) (at + length (pattern_field p)) (pattern_provides p)
      go (Name x) f w =
          let s = seen.sees x f (at_into_drop (at + 1) (at_place (at + 1 + 0) (omega arith) (behind w))) in
          record { name = x; only = refl; there = at_from_drop (at + 1) next s.bytes; ends = omega (arith, s.ends); whole = omega (arith, s.past) }
      go (Complex t) f w = absurd (omega (arith, tag_is w))

  pub complex_names : {before after : Listed ℕ} {end : ℕ} → (get_or a at 0 ≡ 0 → ⊥) → ListsNames fields_part make_provides_set a (at + 1) before after end → ListsNames pattern_part pattern_provides a at before after end
  unfolding pattern_field pattern_provides ValidPattern
  complex_names {before} {after} {end} q f = record { forward = omega (arith, f.forward); within = f.within; adds = f.adds; ends = ends; lists = lists }
    where
      ends : (p : Pattern) → ValidPattern p → At a at (pattern_field p) → end ≡ at + length (pattern_field p)
      ends (Name x) v w = absurd (q (tag_is w))
      ends (Complex t) v w = omega (arith, f.ends t v.0 (behind w))

      lists : (p : Pattern) → ValidPattern p → At a at (pattern_field p) → before.count + length (pattern_provides p) ≤ length before.items.now → Lists a before after (pattern_provides p)
      lists (Name x) v w room = absurd (q (tag_is w))
      lists (Complex t) v w room = f.lists t v.0 (behind w) room
