-- Pieces that are listed one after the other: those that are behind are entered, and the others stand where the list ends. Assumes nothing.
use mathlib.Core.Path.{◌≡◌, refl, ap, sym, subst, ◌∙◌}
use mathlib.Core.List.{List, [], ◌∷◌, ◌++◌}
use Prim.Native.Nat.{ℕ, ◌+◌, ◌≤◌, ◌<◌}
use native.Mathlib.Omega.{arith}
use lib.ListN.{length, drop}
use lib.Seq.{drop-length}
use Rattle.names.specs.Names.{Bytes}
use Rattle.names.specs.Segments.{At}
use Rattle.names.proofs.Places.{at_left, at_right, at_place}
use Rattle.outline.specs.declared.Around.{Around}
use Rattle.outline.specs.declared.Counted.{Counted}
use Rattle.outline.specs.declared.Field.{Field}
use Rattle.outline.specs.declared.Field.TheVariants as fields
use Rattle.outline.specs.declared.index.Listing.{Listing}
use Rattle.outline.specs.Outline.{Outline, Pieces, no_more, record_alone, ◌++ᵖ◌, pieces_bytes}
use Rattle.outline.specs.Shape.{records_then, AllInShape, more_in_shape, FieldsAre, no_fields, more_fields, FieldIs, a_record, Begun, GoesOn, Entered, IndexesOn}
use Rattle.outline.specs.Listing.{so_far, SameRecord, Lists}
use Rattle.outline.proofs.Listings.{pieces_bytes_join, join_none, join_assoc}
use Rattle.outline.proofs.EnteredLaws.{goes_nowhere, goes_then, entered_none, entered_join}

-- of p, which stands where c ends, a part is listed up to d; what is left is P and stands there
pub record Reached (P : Pieces → Type 0) (s mem : Bytes) (a : Around) (c d : Counted) (p : Pieces) : Type 0 where
  pub done : Pieces
  pub rest : Pieces
  pub whole : done ++ᵖ rest ≡ p
  pub left : P rest
  pub there : At s d.end (pieces_bytes rest)
  pub lists : Entered mem a c d done

-- of n records i are behind; the others are p
pub record Many (i n : ℕ) (p : Pieces) : Type 0 where
  pub all : List Outline
  pub number : i + length all ≡ n
  pub good : AllInShape all
  pub same : records_then all ≡ p

-- from l to m what is Q is listed as far as R is left
pub record Onward (Q R : Pieces → Type 0) (l m : Listing) : Type 0 where
  pub same : SameRecord l m
  pub goes : GoesOn l.bytes.now l.mem.now m.mem.now (so_far l) (so_far m)
  pub lists : (p : Pieces) → Q p → At l.bytes.now l.end (pieces_bytes p) → Reached R l.bytes.now m.mem.now l.around (so_far l) (so_far m) p

-- nothing is behind
pub reached_none : {P : Pieces → Type 0} {s mem : Bytes} {a : Around} {c : Counted} → Begun s mem a c → (p : Pieces) → P p → At s c.end (pieces_bytes p) → Reached P s mem a c c p
unfolding ◌++ᵖ◌
reached_none b p v h = record { done = no_more; rest = p; whole = refl; left = v; there = h; lists = entered_none b }

-- one more of the pieces is behind
module _ {P Q R : Pieces → Type 0} {s mem mem' : Bytes} {a : Around} {c d r : Counted} {p : Pieces} where
  reached_more : (h : Reached P s mem a c d p) (q qs : Pieces) → q ++ᵖ qs ≡ h.rest → Q q → R qs → IndexesOn Q s mem mem' a d r → Reached R s mem' a c r p
  reached_more h q qs e v w x =
      let there : At s d.end (pieces_bytes q ++ pieces_bytes qs) = rw (← e, pieces_bytes_join) at h.there in
      let l = x.lists q v (at_left (pieces_bytes q) (pieces_bytes qs) there) in
      record {
        done = h.done ++ᵖ q;
        rest = qs;
        whole = join_assoc h.done q qs ∙ ap (λ (z : Pieces). h.done ++ᵖ z) e ∙ h.whole;
        left = w;
        there = at_place r.end (sym l.ends) (at_right (pieces_bytes q) (pieces_bytes qs) there);
        lists = entered_join h.lists x.goes l;
      }

module _ {s mem mem' : Bytes} {a : Around} {c d r : Counted} {p : Pieces} where
  -- one more field is behind
  pub reached_field : {f : Field} {fs gs : List Field} → fs ≡ f ∷ gs → Reached (FieldsAre fs) s mem a c d p → IndexesOn (FieldIs f) s mem mem' a d r → Reached (FieldsAre gs) s mem' a c r p
  reached_field {f} {fs} {gs} e h x = go (rw e at h.left) refl
    where
      go : {ps : Pieces} → FieldsAre (f ∷ gs) ps → ps ≡ h.rest → Reached (FieldsAre gs) s mem' a c r p
      go (more_fields {p = y} {ps = ys} v vs) q = reached_more h y ys q v vs x

  -- one more record is behind
  pub reached_record : {i n : ℕ} → Reached (Many i n) s mem a c d p → i < n → IndexesOn (FieldIs fields.Record) s mem mem' a d r → Reached (Many (i + 1) n) s mem' a c r p
  unfolding records_then ◌++ᵖ◌
  reached_record {i} {n} h l x = go h.left.all h.left.number h.left.good h.left.same
    where
      go : (xs : List Outline) → i + length xs ≡ n → AllInShape xs → records_then xs ≡ h.rest → Reached (Many (i + 1) n) s mem' a c r p
      go [] m v e = absurd (omega arith)
      go (y ∷ ys) m (more_in_shape v vs) e = reached_more h (record_alone y) (records_then ys) e (a_record v) (record { all = ys; number = omega arith; good = vs; same = refl }) x

module _ {s mem : Bytes} {a : Around} {c d : Counted} {p : Pieces} where
  -- nothing is left
  reached_last : {P : Pieces → Type 0} → (h : Reached P s mem a c d p) → h.rest ≡ no_more → Entered mem a c d p
  reached_last h e = subst (Entered mem a c d) (sym (join_none h.done) ∙ ap (λ (q : Pieces). h.done ++ᵖ q) (sym e) ∙ h.whole) h.lists

  -- no field is left
  pub reached_fields : Reached (FieldsAre []) s mem a c d p → Entered mem a c d p
  reached_fields h = reached_last h (go h.left)
    where
      go : {q : Pieces} → FieldsAre [] q → q ≡ no_more
      go no_fields = refl

  -- no record is left
  pub reached_records : {i n : ℕ} → Reached (Many i n) s mem a c d p → n ≤ i → Entered mem a c d p
  unfolding records_then
  reached_records {i} {n} h l = reached_last h (go h.left.all h.left.number h.left.same)
    where
      go : (xs : List Outline) → i + length xs ≡ n → records_then xs ≡ h.rest → h.rest ≡ no_more
      go [] m e = sym e
      go (x ∷ xs) m e = absurd (omega arith)

-- the same record, and again
pub same_then : {l m n : Listing} → SameRecord l m → SameRecord m n → SameRecord l n
same_then h k = record { bytes = k.bytes ∙ h.bytes; mem = k.mem ∙ h.mem; around = k.around ∙ h.around }

-- nothing is listed yet
pub onward_none : {P : Pieces → Type 0} (l : Listing) → Onward P P l l
onward_none l = record { same = record { bytes = refl; mem = refl; around = refl }; goes = goes_nowhere l.begun; lists = reached_none l.begun }

-- as it is listed from m on, so for the record of l
listed_from : {P : Pieces → Type 0} {l m n : Listing} → SameRecord l m → Lists P m n → IndexesOn P l.bytes.now m.mem.now n.mem.now l.around (so_far m) (so_far n)
listed_from h k = rw (h.bytes, h.around) at k.indexes

module _ {Q : Pieces → Type 0} {l m n : Listing} where
  -- one field more
  pub onward_field : {f : Field} {fs gs : List Field} → fs ≡ f ∷ gs → Onward Q (FieldsAre fs) l m → Lists (FieldIs f) m n → Onward Q (FieldsAre gs) l n
  onward_field e h k =
      let x = listed_from h.same k in
      record { same = same_then h.same k.same; goes = goes_then h.goes x.goes; lists = λ p v there. reached_field e (h.lists p v there) x }

  -- one record more
  pub onward_record : {i c : ℕ} → i < c → Onward Q (Many i c) l m → Lists (FieldIs fields.Record) m n → Onward Q (Many (i + 1) c) l n
  onward_record lt h k =
      let x = listed_from h.same k in
      record { same = same_then h.same k.same; goes = goes_then h.goes x.goes; lists = λ p v there. reached_record (h.lists p v there) lt x }

-- no field is left
pub onward_fields : {row : List Field} {i : ℕ} {l m : Listing} → length row ≡ i → Onward (FieldsAre row) (FieldsAre (drop i row)) l m → Lists (FieldsAre row) l m
onward_fields e h = record { same = h.same; indexes = record { goes = h.goes; lists = λ p v w. reached_fields (rw (← e, drop-length) at (h.lists p v w)) } }
