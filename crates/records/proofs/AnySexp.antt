-- What the view of an S record says, by the place of its mark; and how long the record is, by its view. Assumes nothing.
use mathlib.Core.Path.{◌≡◌, refl, ap, sym, subst, ◌∙◌}
use mathlib.Core.List.{List, [], ◌∷◌, ◌++◌, flatten}
use Prim.Native.Nat.{ℕ, zero, suc, ◌+◌, ◌-◌, ◌≤◌, ◌<◌}
use Prim.Native.String.{String}
use native.Mathlib.Omega.{arith}
use lib.ListN.{length, take, get_or, length-append, length-take}
use Rattle.names.specs.Names.{Bytes, ascii, same, name_field}
use Rattle.names.specs.Segments.{At}
use Rattle.names.proofs.Parts.{into, part, part_length}
use Rattle.names.proofs.Places.{at_is, at_left, at_place}
use Rattle.records.specs.Records.{mark_width, Loc, record_bytes, byte, integer_field, Sexp, SN, SC, SI, SQ, SA, sexp_bytes}
use Rattle.records.specs.Scan.{mark_index, sexp_marks}
use Rattle.records.proofs.RecordLaws.{index_mark}
use Rattle.records.specs.Valid.{ValidLoc, SexpFields}
use Rattle.records.specs.Parts.{Past, Skips, fields_part, fixed_part}
use Rattle.records.specs.Views.{Stands, PastHead, NameAt, SeesBytes, SeesName, SeesInteger, SexpAt, nil_at, pair_at, integer_at, text_at, atom_at, view_index, BytesIn, PlacesIn, SeesSexp}
use Rattle.records.specs.declared.NameView.{NameView}
use Rattle.records.specs.declared.SexpView.{SexpView}
use Rattle.records.specs.declared.SexpView.TheVariants.{Nil, Pair, Integer, Text, Atom, Unknown}
use Rattle.records.proofs.Views.{opened, first_of, rest_of, step, byte_length}

-- the place of the mark that s starts with, among those of S records
abbrev pub index : Bytes → ℕ
index s = mark_index (take mark_width s) sexp_marks

-- P of every S record whose mark has that place
unfoldable SexpOf : ℕ → (Sexp → Type 0) → Type 0
SexpOf zero P = (l : Loc) → P (SN l)
SexpOf (suc zero) P = (l : Loc) (h t : Sexp) → P (SC l h t)
SexpOf (suc (suc zero)) P = (l : Loc) (v : Bytes) → P (SI l v)
SexpOf (suc (suc (suc zero))) P = (l : Loc) (q : ℕ) (n : Bytes) → P (SQ l q n)
SexpOf (suc (suc (suc (suc zero)))) P = (l : Loc) (n : Bytes) → P (SA l n)
SexpOf (suc (suc (suc (suc (suc k))))) P = Unit {0}

-- a mark has bytes
some_bytes : (s : Bytes) (i : ℕ) → i ≡ index s → i < length sexp_marks → length (ascii (get_or sexp_marks i "")) ≡ mark_width → 0 < length s
some_bytes s i q h e = omega (arith, ap length (index_mark (take mark_width s) sexp_marks i (sym q) h), length-take mark_width s)

module _ {s : Bytes} where
  -- a record's mark
  pub mark_of : (w : String) (fs : List Bytes) → length (ascii w) ≡ mark_width → At s 0 (record_bytes w fs) → take mark_width s ≡ ascii w
  unfolding record_bytes
  mark_of w fs e a = at_is 0 mark_width refl (sym e) (at_left (ascii w) (flatten fs) a)

  mark_there : (w : String) (fs : List Bytes) (i : ℕ) → length (ascii w) ≡ mark_width → mark_index (ascii w) sexp_marks ≡ i → At s 0 (record_bytes w fs) → index s ≡ i
  mark_there w fs i e q a = ap (λ (x : Bytes). mark_index x sexp_marks) (mark_of w fs e a) ∙ q

  by_mark : (P : Sexp → Type 0) {k : ℕ} → k ≡ index s → SexpOf k P → (t : Sexp) → At s 0 (sexp_bytes t) → P t
  unfolding SexpOf sexp_bytes ascii mark_index same
  by_mark P q f (SN l) a = subst (λ (j : ℕ). SexpOf j P) (q ∙ mark_there "SN" _ 0 refl refl a) f l
  by_mark P q f (SC l h t) a = subst (λ (j : ℕ). SexpOf j P) (q ∙ mark_there "SC" _ 1 refl refl a) f l h t
  by_mark P q f (SI l v) a = subst (λ (j : ℕ). SexpOf j P) (q ∙ mark_there "SI" _ 2 refl refl a) f l v
  by_mark P q f (SQ l b n) a = subst (λ (j : ℕ). SexpOf j P) (q ∙ mark_there "SQ" _ 3 refl refl a) f l b n
  by_mark P q f (SA l n) a = subst (λ (j : ℕ). SexpOf j P) (q ∙ mark_there "SA" _ 4 refl refl a) f l n

  -- the view of one kind, from what it says of records of this kind
  by_kind : {v : SexpView} → view_index v ≡ index s → PlacesIn (length s) v → SexpOf (view_index v) (λ t. SexpFields t → At s 0 (sexp_bytes t) → SexpAt s v t) → SeesSexp s v
  by_kind {v} q p f = record { marked = q; places = p; sees = λ t w a. by_mark (λ t. SexpFields t → At s 0 (sexp_bytes t) → SexpAt s v t) q f t a w a }

  module _ {head : ℕ} (x : PastHead s head) where
    -- the fields after L, and where they start
    after_head : (m : String) (l : Bytes) (fs : List Bytes) → length (ascii m) ≡ mark_width → ValidLoc l → At s 0 (record_bytes m (l ∷ fs))
        → Stands s head fs × (length (record_bytes m (l ∷ fs)) ≡ head + length (flatten fs))
    unfolding record_bytes flatten
    after_head m l fs e v a =
        let h = opened m (l ∷ fs) a in
        (x.past (ascii m) l fs e v h, omega (arith, x.ends (ascii m) l fs e v h, length-append (ascii m) (l ++ flatten fs), length-append l (flatten fs)))

    one_field : (f : Bytes) → length (flatten (f ∷ [])) ≡ length f
    unfolding flatten
    one_field f = omega (arith, length-append f [])

    -- bytes behind the head
    bytes_in : {w : ℕ} {field : Bytes → Bytes} {Fits : Bytes → Type 0} {at : ℕ} {v : NameView} → 0 < length s → head ≤ at → SeesBytes w field Fits s at v → BytesIn (length s) v
    bytes_in z le y = record { moved = omega (arith, x.moved z, y.onward); forward = y.forward; within = y.within }

    -- and their end, said of the whole record
    ends_with : {v : NameView} {b : Bytes} {e n : ℕ} → NameAt s v b e → n ≡ e → NameAt s v b n
    ends_with h q = rw q h

    pub sees_nil : 0 ≡ index s → SeesSexp s (Nil head)
    unfolding SexpOf SexpFields sexp_bytes ascii flatten
    sees_nil q = by_kind q (x.moved (some_bytes s 0 q (omega arith) refl), x.within) λ l f a. nil_at (omega (arith, (after_head "SN" l [] refl f a).1))

    pub sees_pair : 1 ≡ index s → SeesSexp s (Pair head)
    unfolding SexpOf SexpFields sexp_bytes ascii flatten
    sees_pair q =
        by_kind q (x.moved (some_bytes s 1 q (omega arith) refl), x.within)
        λ l h t f a.
        let k = after_head "SC" l (sexp_bytes h ∷ sexp_bytes t ∷ []) refl f.0 a in
        pair_at k.0 (omega (arith, k.1, length-append (sexp_bytes h) (sexp_bytes t ++ []), one_field (sexp_bytes t)))

    pub sees_number : {v : NameView} → 2 ≡ index s → SeesInteger s head v → SeesSexp s (Integer v)
    unfolding SexpOf SexpFields sexp_bytes ascii
    sees_number q y =
        by_kind q (bytes_in (some_bytes s 2 q (omega arith) refl) (omega arith) y)
        λ l b f a.
        let k = after_head "SI" l (integer_field b ∷ []) refl f.0 a in
        integer_at (ends_with (y.sees b f.1 (first_of k.0)) (omega (arith, k.1, one_field (integer_field b))))

    pub sees_text : {at : ℕ} {v : NameView} → 3 ≡ index s → Past (fixed_part 1) s head at → SeesName s at v → SeesSexp s (Text v)
    unfolding SexpOf SexpFields sexp_bytes ascii flatten
    sees_text q z y =
        by_kind q (bytes_in (some_bytes s 3 q (omega arith) refl) z.onward y)
        λ l b n f a.
        let k = after_head "SQ" l (byte b ∷ name_field n ∷ []) refl f.0 a in
        let w = z.past (byte b) (byte_length b) (first_of k.0) in
        text_at (ends_with (y.sees n f.2 (first_of (step z (byte b) (byte_length b) k.0))) (omega (arith, k.1, w, length-append (byte b) (name_field n ++ []), one_field (name_field n))))

    pub sees_name_of : {v : NameView} → 4 ≡ index s → SeesName s head v → SeesSexp s (Atom v)
    unfolding SexpOf SexpFields sexp_bytes ascii
    sees_name_of q y =
        by_kind q (bytes_in (some_bytes s 4 q (omega arith) refl) (omega arith) y)
        λ l n f a.
        let k = after_head "SA" l (name_field n ∷ []) refl f.0 a in
        atom_at (ends_with (y.sees n f.1 (first_of k.0)) (omega (arith, k.1, one_field (name_field n))))

  pub sees_unknown : 5 ≡ index s → SeesSexp s Unknown
  unfolding SexpOf
  sees_unknown q = by_kind q tt tt

-- the view of an SI, SQ or SA by its bytes
pub data Leaf (n : NameView) : SexpView → Type 0 where
  integer : Leaf n (Integer n)
  text : Leaf n (Text n)
  name : Leaf n (Atom n)

pub leaf_places : {m : ℕ} {n : NameView} {v : SexpView} → Leaf n v → PlacesIn m v → BytesIn m n
leaf_places integer p = p
leaf_places text p = p
leaf_places name p = p

-- its bytes, as the code takes them
pub bytes_are : {s b : Bytes} {n : NameView} {e : ℕ} → NameAt s n b e → part s n.start (n.end - n.start) ≡ b
bytes_are {n = n} h = at_is n.start (n.end - n.start) refl (omega (arith, h.ends)) h.bytes

-- a record has a view
pub unseen : {s : Bytes} {t : Sexp} → SexpAt s Unknown t → ⊥
unseen {s} h = omega (arith, below h)
  where
    below : {v : SexpView} {t : Sexp} → SexpAt s v t → view_index v < length sexp_marks
    below (nil_at q) = omega arith
    below (pair_at k q) = omega arith
    below (integer_at k) = omega arith
    below (text_at k) = omega arith
    below (atom_at k) = omega arith

-- how long a record is, by its view
module _ {s : Bytes} where
  pub skips_nil : {e : ℕ} → SeesSexp s (Nil e) → Skips fields_part s e
  skips_nil {e} x = record { within = x.places.1; skips = λ t w a. go (x.sees t w a) }
    where
      go : {t : Sexp} → SexpAt s (Nil e) t → e ≡ length (sexp_bytes t)
      go (nil_at q) = q

  pub skips_leaf : {n : NameView} {v : SexpView} → Leaf n v → SeesSexp s v → Skips fields_part s n.end
  skips_leaf {n} k x = record { within = (leaf_places k x.places).within; skips = λ t w a. go k (x.sees t w a) }
    where
      go : {v : SexpView} {t : Sexp} → Leaf n v → SexpAt s v t → n.end ≡ length (sexp_bytes t)
      go integer (integer_at h) = h.past
      go text (text_at h) = h.past
      go name (atom_at h) = h.past

  pub skips_none : SeesSexp s Unknown → Skips fields_part s (length s)
  skips_none x = record { within = omega arith; skips = λ t w a. absurd (unseen (x.sees t w a)) }

  pub skips_pair : {p h k : ℕ} → SeesSexp s (Pair p) → Skips fields_part (part s p (length s - p)) h → Skips fields_part (part s (p + h) (length s - (p + h))) k → Skips fields_part s (p + h + k)
  unfolding SexpFields
  skips_pair {p} {h} {k} x y z =
      let la = part_length s p (length s - p) (omega (arith, x.places.1)) in
      let lb = part_length s (p + h) (length s - (p + h)) (omega (arith, x.places.1, y.within)) in
      record { within = omega (arith, y.within, z.within, x.places.1); skips = λ t w a. go w (x.sees t w a) }
    where
      go : {t : Sexp} → SexpFields t → SexpAt s (Pair p) t → p + h + k ≡ length (sexp_bytes t)
      go w (pair_at {h = hd} {t = tl} u q) =
          let i = y.skips hd w.1 (into (first_of u)) in
          let j = z.skips tl w.2 (into (at_place (p + h) (omega (arith, i)) (first_of (rest_of u)))) in
          omega (arith, i, j)
