-- Atoms of a word, what ends a proper list, and a proper list of one element, as the views show them. Assumes nothing.
use mathlib.Core.Path.{◌≡◌, refl, sym, ap, subst, ◌∙◌}
use mathlib.Core.Bool.{Bool, true, false}
use mathlib.Core.List.{[], ◌∷◌}
use native.Mathlib.Omega.{arith}
use Prim.Native.Nat.{ℕ, ◌+◌, ◌-◌}
use Prim.Native.String.{String}
use lib.Dec.{eqb}
use lib.ListN.{length}
use borrow.Author.Tests.{eq-eqb, ne_eqb}
use Rattle.std.specs.Prelude.{Option, Some, None}
use Rattle.names.specs.Names.{Bytes, same}
use Rattle.names.specs.Segments.{At}
use Rattle.names.proofs.Parts.{into, part}
use Rattle.names.proofs.Places.{at_place}
use Rattle.records.specs.Parts.{Skips, fields_part}
use Rattle.records.specs.Records.{head_width, Loc, Sexp, SC, sexp_bytes}
use Rattle.records.specs.Sexps.{all_zero, is_empty, nilp, is_atom, only}
use Rattle.records.specs.Valid.{SexpFields}
use Rattle.records.specs.Views.{SexpAt, nil_at, pair_at, integer_at, text_at, atom_at, SeesSexp}
use Rattle.records.specs.declared.NameView.{NameView}
use Rattle.records.specs.declared.SexpView.{SexpView}
use Rattle.records.specs.declared.SexpView.TheVariants.{Nil, Pair, Integer, Text, Atom}
use Rattle.records.proofs.AnySexp.{bytes_are}
use Rattle.records.proofs.Views.{first_of, rest_of}
use Rattle.walk.specs.Plans.{substitution, OnlyAt, only_none, only_one, SeesOnly, HeadAt, IsAtom, OnlyOfTailAt, single_none, single_one, SeesOnlyOfTail, Planned, keeps, renames, Plans, PlansPair}
use Rattle.walk.specs.RenameInCons.{rename_in_cons}
use Rattle.walk.specs.declared.Plan.{Plan}
use Rattle.walk.specs.declared.Plan.TheVariants.{Kept, ByMap}
use Rattle.walk.specs.declared.Quasi.{Quasi}
use Rattle.walk.specs.declared.Quasi.TheVariants.{Ignored, Outside, Inside}
use Rattle.walk.proofs.Views.{NoPair, NoAtom, left, atom}
use Rattle.walk.proofs.Pairs.{cons, cons_width, cons_length}

-- the atom of a word
pub not_atom : {s word : Bytes} {v : SexpView} → NoAtom v → SeesSexp s v → IsAtom s word false
unfolding is_atom
not_atom {s} q x = record { is = λ w e t fine a. go w q (x.sees t fine a) }
  where
    go : (w : String) {v : SexpView} {t : Sexp} → NoAtom v → SexpAt s v t → false ≡ is_atom w t
    go w q (nil_at e) = refl
    go w q (pair_at k e) = refl
    go w q (integer_at k) = refl
    go w q (text_at k) = refl
    go w q (atom_at {v = n} k) = absurd (q n refl)

pub the_atom : {s word : Bytes} {v : NameView} → SeesSexp s (Atom v) → IsAtom s word (same (part s v.start (v.end - v.start)) word)
unfolding is_atom
the_atom {s} {word} x =
    record { is = λ w e t fine a. let k = atom x t fine a in ap (λ (y : Bytes). same y word) (bytes_are k.name) ∙ ap (same k.n) e ∙ sym (ap (is_atom w) k.is) }

-- what ends a proper list
empty_is : (b : Bytes) (x y : ℕ) → y ≡ x + length b → eqb x y ≡ is_empty b
unfolding is_empty
empty_is [] x y e = eq-eqb x y (omega arith)
empty_is (z ∷ b) x y e = ne_eqb x y (λ q. omega arith)

module _ {s : Bytes} (t : Sexp) (w : SexpFields t) (a : At s 0 (sexp_bytes t)) where
  pub nil_nilp : {e : ℕ} → SeesSexp s (Nil e) → true ≡ nilp t
  unfolding nilp
  nil_nilp {e} x = go (x.sees t w a)
    where
      go : {u : Sexp} → SexpAt s (Nil e) u → true ≡ nilp u
      go (nil_at q) = refl

  pub pair_nilp : {p : ℕ} → SeesSexp s (Pair p) → false ≡ nilp t
  unfolding nilp
  pair_nilp {p} x = go (x.sees t w a)
    where
      go : {u : Sexp} → SexpAt s (Pair p) u → false ≡ nilp u
      go (pair_at k q) = refl

  pub number_nilp : {n : NameView} {r : Bool} → SeesSexp s (Integer n) → r ≡ all_zero (part s n.start (n.end - n.start)) → r ≡ nilp t
  unfolding nilp
  number_nilp {n} x e = e ∙ go (x.sees t w a)
    where
      go : {u : Sexp} → SexpAt s (Integer n) u → all_zero (part s n.start (n.end - n.start)) ≡ nilp u
      go (integer_at k) = ap all_zero (bytes_are k)

  pub text_nilp : {n : NameView} → SeesSexp s (Text n) → eqb n.start n.end ≡ nilp t
  unfolding nilp
  text_nilp {n} x = go (x.sees t w a)
    where
      go : {u : Sexp} → SexpAt s (Text n) u → eqb n.start n.end ≡ nilp u
      go (text_at {n = b} k) = empty_is b n.start n.end k.ends

  pub atom_nilp : {n : NameView} → SeesSexp s (Atom n) → eqb n.start n.end ≡ nilp t
  unfolding nilp
  atom_nilp {n} x = go (x.sees t w a)
    where
      go : {u : Sexp} → SexpAt s (Atom n) u → eqb n.start n.end ≡ nilp u
      go (atom_at {n = b} k) = empty_is b n.start n.end k.ends

-- a proper list of one element
pub onlys_left : {s : Bytes} {v : SexpView} → NoPair v → SeesSexp s v → SeesOnly s None
onlys_left q x = record { within = tt; onlys = λ t w a. only_none refl (left q (x.sees t w a)).no_list }

module _ {s : Bytes} {p : ℕ} (x : SeesSexp s (Pair p)) where
  -- where the head stands
  pub head_at : HeadAt s p
  unfolding SexpFields
  head_at = record { within = x.places.1; is = λ l h u w a. go w (x.sees (SC l h u) w a) }
    where
      go : {l : Loc} {h u : Sexp} → SexpFields (SC l h u) → SexpAt s (Pair p) (SC l h u) → p ≡ head_width
      go {l} {h} {u} w (pair_at k e) = omega (arith, cons_length l h u (cons_width l w.0))

  module _ {n : ℕ} {r : Bool} (size : Skips fields_part (part s p (length s - p)) n)
      (end : (t : Sexp) → SexpFields t → At (part s (p + n) (length s - (p + n))) 0 (sexp_bytes t) → r ≡ nilp t) where
    -- what ends the SC is known
    ends : {l : Loc} {h u : Sexp} → SexpFields (SC l h u) → SexpAt s (Pair p) (SC l h u) → r ≡ nilp u
    unfolding SexpFields
    ends {h = h} {u} w (pair_at k e) =
        let i = size.skips h w.1 (into (first_of k)) in
        end u w.2 (into (at_place (p + n) (omega (arith, i)) (first_of (rest_of k))))

    pub onlys_one : r ≡ true → SeesOnly s (Some p)
    onlys_one e = record { within = x.places.1; onlys = λ t w a. go w a (x.sees t w a) }
      where
        go : {t : Sexp} → SexpFields t → At s 0 (sexp_bytes t) → SexpAt s (Pair p) t → OnlyAt t (Some p)
        go w a (pair_at {l = l} {h = h} {t = u} k q) = only_one l h u refl (sym (ends w (pair_at k q)) ∙ e) (ap (λ (i : ℕ). Some i) (head_at.is l h u w a))

    pub onlys_none : r ≡ false → SeesOnly s None
    unfolding only
    onlys_none e = record { within = tt; onlys = λ t w a. go w (x.sees t w a) }
      where
        go : {t : Sexp} → SexpFields t → SexpAt s (Pair p) t → OnlyAt t None
        go w (pair_at k q) = only_none refl (rw (sym (ends w (pair_at k q)) ∙ e, only))

-- the element of a tail
module _ {s : Bytes} {n k : ℕ} {x : Option ℕ} (hd : HeadAt s n) (size : Skips fields_part (part s n (length s - n)) k) (o : SeesOnly (part s (n + k) (length s - (n + k))) x) where
  tail_only : (l : Loc) (h u : Sexp) → SexpFields (SC l h u) → At s 0 (sexp_bytes (SC l h u)) → OnlyAt u x × (n + k ≡ head_width + length (sexp_bytes h))
  tail_only l h u w a =
      let v = cons l h u w a in
      let e = hd.is l h u w a in
      let i = size.skips h v.fields_h (into (at_place n (sym e) v.left)) in
      (o.onlys u v.fields_u (into (at_place (n + k) (omega (arith, i, e)) v.right)), omega (arith, i, e))

  pub singles_none : x ≡ None → SeesOnlyOfTail s None
  singles_none z = record { singles = λ l h u w a. go h u (tail_only l h u w a).0 }
    where
      go : (h u : Sexp) → OnlyAt u x → OnlyOfTailAt h u None
      go h u (only_none e q) = single_none refl q
      go h u (only_one y c d e q r) = absurd (cc)

  pub singles_one : {i : ℕ} → x ≡ Some i → SeesOnlyOfTail s (Some (n + k + i))
  singles_one {i} z = record { singles = λ l h u w a. go h u (tail_only l h u w a) }
    where
      go : (h u : Sexp) → OnlyAt u x × (n + k ≡ head_width + length (sexp_bytes h)) → OnlyOfTailAt h u (Some (n + k + i))
      go h u (only_none r q, f) = absurd (cc)
      go h u (only_one y c d g q r, f) = let j : i ≡ head_width = cc in single_one y c d g q (ap (λ (p : ℕ). Some p) (omega arith))

-- the plan by the view
module _ {s : Bytes} where
  -- of a record that is no SC
  module _ {v : SexpView} (q : NoPair v) (x : SeesSexp s v) where
    pub left_inside : {quasi : Quasi} {n : ℕ} → Skips fields_part s n → quasi ≡ Inside → Plans (substitution quasi) s (Kept n)
    left_inside {n = n} size e =
        subst (λ (i : Quasi). Plans (substitution i) s (Kept n)) (sym e)
        record { plans = λ t w a. keeps (ap Kept (size.skips t w a)) ((left q (x.sees t w a)).in_qq true) }

    left_by_map : (qq : Bool) → Plans (rename_in_cons qq) s ByMap
    left_by_map qq = record { plans = λ t w a. renames refl ((left q (x.sees t w a)).in_cons qq) }

    pub left_outside : {quasi : Quasi} → quasi ≡ Outside → Plans (substitution quasi) s ByMap
    left_outside e = subst (λ (i : Quasi). Plans (substitution i) s ByMap) (sym e) (left_by_map true)

    pub left_ignored : {quasi : Quasi} → quasi ≡ Ignored → Plans (substitution quasi) s ByMap
    left_ignored e = subst (λ (i : Quasi). Plans (substitution i) s ByMap) (sym e) (left_by_map false)

  -- of an SC
  pub pair_plans : {p : Plan} {quasi : Quasi} {head : ℕ} (i : Quasi) → SeesSexp s (Pair head) → quasi ≡ i → PlansPair (substitution i) s p → Plans (substitution quasi) s p
  pair_plans {p} {head = head} i x e f = subst (λ (j : Quasi). Plans (substitution j) s p) (sym e) record { plans = λ t w a. go w a (x.sees t w a) }
    where
      go : {t : Sexp} → SexpFields t → At s 0 (sexp_bytes t) → SexpAt s (Pair head) t → Planned (substitution i) s p t
      go w a (pair_at {l = l} {h = h} {t = u} k q) = f.pairs l h u w a
