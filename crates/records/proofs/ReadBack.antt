-- How a reader reads bytes back, whatever follows: the pieces joined, and each field. Assumes nothing.
use mathlib.Core.Path.{◌≡◌, refl, ap, sym, ◌∙◌}
use mathlib.Core.Bool.{Bool, true}
use mathlib.Core.Logic.{inl, inr}
use mathlib.Core.List.{List, [], ◌∷◌, ◌++◌, flatten, append_assoc, append-nil}
use Rattle.std.specs.Prelude.{Option, None, Some}
use Prim.Native.Nat.{ℕ, zero, suc, ◌+◌, ◌-◌, ◌≤◌}
use Prim.Native.String.{String}
use native.Mathlib.Nat.{zero-add, div-one}
use native.Mathlib.Omega.{arith}
use lib.Dec.{leb, le→leb}
use lib.ListN.{length, length-append}
use Rattle.names.specs.Names.{Bytes, ascii, same, number_field, number_of, number_after, name_width, name_field}
use Rattle.records.specs.Limits.{cons_limit, count_limit}
use Rattle.records.specs.Records.{mark_width, Loc, loc_width, byte, integer_field, Sexp, SN, SC, SI, SQ, SA, sexp_bytes, record_bytes, kind_field, Pattern, Name, Complex, pattern_field}
use Rattle.records.specs.declared.Kind.{Kind}
use Rattle.records.specs.declared.Kind.TheVariants.{Parallel, Sequential, Assign}
use Rattle.records.proofs.Readers.{true_of}
use Rattle.records.proofs.FirstMods.{earlier, behind, earlier_none, earlier_behind, noted_behind}
use Rattle.records.specs.Valid.{ValidLoc, ValidName, ValidKeyword, ValidHint, ValidRaw, ValidCount, cons_depth, SexpFields, ValidSexp, ValidPattern, Outside}
use Rattle.records.specs.Read.{Zone, Plain, InBinding, InMod, Context, sexp_rule, cons_rule, sexp_at, sexp, noted, note, kind_of, binding_zone, in_bindings, pattern_after, pattern_of}
use Rattle.records.specs.ReadFields.{Input, Fault, malformed, over_limit, Read, done, refused, Reader, ◌>>=◌, ◌>>◌, ret, check, times, deeper, in_lambda, in_zone, next, bytes, choose, marked, loc, name, raw_field, integer, up_to, with_loc, keyword, hint, count, counted, shortest, at_most, optional_loc}

-- the context of a record that stands at p
abbrev pub context : ℕ → ℕ → ℕ → Zone → Context
context p n k z = record { mark = p; room = n; lambdas = k; zone = z }

-- r is done with a after bs, and `more` is left; the first BM noted is that noted before, or the one x bytes on
pub record Ends {A : Type 0} (x : Option ℕ) (i : Input) (bs : Bytes) (a : A) (more : Bytes) (r : Read A) : Type 0 where
  pub end : Input
  pub ran : r ≡ done a end
  pub left : end.rest ≡ more
  pub moved : end.offset ≡ i.offset + length bs
  pub notes : end.first_mod ≡ earlier i.first_mod (behind i.offset x)

-- with room n, k lambdas and zone z, m reads bs as a, whatever follows; x is the first BM that it notes, and there is none exactly if Q
pub record Reads {A : Type 0} (Q : Type 0) (x : Option ℕ) (n k : ℕ) (z : Zone) (m : Reader A) (bs : Bytes) (a : A) : Type 0 where
  pub reads : (p : ℕ) (i : Input) (more : Bytes) → i.rest ≡ bs ++ more → Ends x i bs a more (m (context p n k z) i)
  pub clear : x ≡ None → Q
  pub stays : Q → x ≡ None

-- no BM is among what is read
abbrev pub Quiet : {A : Type 0} → ℕ → ℕ → Zone → Reader A → Bytes → A → Type 0
Quiet n k z m bs a = Reads (Unit {0}) None n k z m bs a

module _ {A : Type 0} {Q : Type 0} {x : Option ℕ} {n k : ℕ} {z : Zone} {m : Reader A} {bs : Bytes} {a : A} where
  -- the same said otherwise
  reads_so : {Q' : Type 0} → (Q' → Q) → (Q → Q') → Reads Q x n k z m bs a → Reads Q' x n k z m bs a
  reads_so f g s = record { reads = s.reads; clear = λ h. g (s.clear h); stays = λ q. s.stays (f q) }

  -- where there is none
  pub reads_quiet : x ≡ None → Reads Q x n k z m bs a → Quiet n k z m bs a
  reads_quiet h s = record { reads = λ p i more e. rw h at (s.reads p i more e); clear = λ _. tt; stays = λ _. refl }

  pub reads_check : (y : Fault) {ok : Bool} → ok ≡ true → Reads Q x n k z m bs a → Reads Q x n k z (check y ok m) bs a
  unfolding check
  reads_check y q s = rw q s

  pub reads_in_zone : {y : Zone} → Reads Q x n k z m bs a → Reads Q x n k y (in_zone z m) bs a
  unfolding in_zone
  reads_in_zone s = record { reads = s.reads; clear = s.clear; stays = s.stays }

  pub reads_deeper : (d : ℕ) → d ≤ n → Reads Q x (n - d) k z m bs a → Reads Q x n k z (deeper d m) bs a
  unfolding deeper
  reads_deeper d h s = record { reads = λ p i more e. rw (true_of (leb d n) (le→leb d n h), deeper) (s.reads p i more e); clear = s.clear; stays = s.stays }

  pub reads_in_lambda : 1 ≤ k → Reads Q x n (k - 1) z m bs a → Reads Q x n k z (in_lambda m) bs a
  unfolding in_lambda
  reads_in_lambda h s = record { reads = λ p i more e. rw (true_of (leb 1 k) (le→leb 1 k h), in_lambda) (s.reads p i more e); clear = s.clear; stays = s.stays }

  pub reads_in_bindings : (y : Kind) → Reads Q x n k (binding_zone y z) m bs a → Reads Q x n k z (in_bindings y m) bs a
  unfolding in_bindings in_zone
  reads_in_bindings y s = record { reads = s.reads; clear = s.clear; stays = s.stays }

-- neither is a BM noted before nor behind
both_clear : (n : ℕ) (x y : Option ℕ) → earlier x (behind n y) ≡ None → (x ≡ None) × (y ≡ None)
both_clear n None None h = (refl, refl)
both_clear n None (Some q) h = absurd (let z : ◌≡◌ {A = ℕ} 0 1 = cc in omega arith)
both_clear n (Some p) y h = absurd (let z : ◌≡◌ {A = ℕ} 0 1 = cc in omega arith)

module _ {A B : Type 0} {Q R : Type 0} {x y : Option ℕ} {n k : ℕ} {z : Zone} {m : Reader A} {bs cs : Bytes} {a : A} {b : B} where
  -- one after the other
  pub reads_both : (f : A → Reader B) → Reads Q x n k z m bs a → Reads R y n k z (f a) cs b
      → Reads (Q × R) (earlier x (behind (length bs) y)) n k z (m >>= f) (bs ++ cs) b
  unfolding ◌>>=◌
  reads_both f s t = record {
    reads = λ p i more e.
        let u = s.reads p i (cs ++ more) (e ∙ append_assoc bs cs more) in
        let v = t.reads p u.end more u.left in
        record {
          end = v.end;
          ran = ap (λ (r : Read A). elim r as (λ _. Read B) [ done x l ↦ f x (context p n k z) l | refused y q ↦ refused y q ]) u.ran ∙ v.ran;
          left = v.left;
          moved = omega (arith, u.moved, v.moved, length-append bs cs);
          notes = v.notes ∙ rw (u.notes, u.moved) (earlier_behind i.first_mod x y i.offset (length bs));
        };
    clear = λ h. let e = both_clear (length bs) x y h in (s.clear e.0, t.clear e.1);
    stays = λ q. rw (s.stays q.0, t.stays q.1);
  }

module _ {A B : Type 0} {Q : Type 0} {x : Option ℕ} {n k : ℕ} {z : Zone} {m : Reader A} {bs cs : Bytes} {a : A} {b : B} where
  -- no BM is among the first
  pub reads_bind : (f : A → Reader B) → Quiet n k z m bs a → Reads Q x n k z (f a) cs b → Reads Q (behind (length bs) x) n k z (m >>= f) (bs ++ cs) b
  reads_bind f s t = reads_so (λ q. (tt, q)) (λ q. q.1) (reads_both f s t)

module _ {A : Type 0} {n k : ℕ} {z : Zone} {a b : A} where
  pub reads_ret : a ≡ b → Quiet n k z (ret a) [] b
  unfolding ret
  reads_ret q = record {
    reads = λ p i more e. record { end = i; ran = ap (λ (x : A). done x i) q; left = e; moved = omega arith; notes = sym (earlier_none i.first_mod) };
    clear = λ _. tt;
    stays = λ _. refl;
  }

module _ {A B : Type 0} {Q : Type 0} {x : Option ℕ} {n k : ℕ} {z : Zone} {m : Reader A} {bs : Bytes} {a : A} {b : B} where
  -- m stands last
  pub reads_last : (g : A → B) → g a ≡ b → Reads Q x n k z m bs a → Reads Q (earlier x None) n k z (m >>= λ y. ret (g y)) (bs ++ []) b
  reads_last g q s = reads_so (λ y. (y, tt)) (λ y. y.0) (reads_both (λ y. ret (g y)) s (reads_ret q))

  pub reads_then : (g : A → B) → g a ≡ b → Reads Q x n k z m bs a → Reads Q (earlier x None) n k z (m >>= λ y. ret (g y)) bs b
  reads_then g q s = rw append-nil at (reads_last g q s)

-- a BM is noted exactly in a binding body of an assign
clear_noted : (z : Zone) → noted z None 0 ≡ None → Outside z
unfolding noted Outside
clear_noted Plain h = tt
clear_noted InBinding h = absurd (let x : ◌≡◌ {A = ℕ} 0 1 = cc in omega arith)
clear_noted InMod h = tt

stays_noted : (z : Zone) → Outside z → noted z None 0 ≡ None
unfolding noted Outside
stays_noted Plain q = refl
stays_noted InBinding q = absurd q
stays_noted InMod q = refl

module _ {n k : ℕ} {z : Zone} where
  pub reads_next : (b : ℕ) → Quiet n k z next (byte b) b
  unfolding next byte
  reads_next b = record {
    reads = λ p i more e. record {
      end = record { offset = i.offset + 1; rest = more; first_mod = i.first_mod };
      ran = rw (e, next);
      left = refl;
      moved = refl;
      notes = sym (earlier_none i.first_mod);
    };
    clear = λ _. tt;
    stays = λ _. refl;
  }

module _ {A : Type 0} {n k : ℕ} {z : Zone} (m : Reader A) where
  pub reads_none : Quiet n k z (times zero m) [] []
  unfolding times
  reads_none = reads_ret refl

  pub reads_more : {Q R : Type 0} {x y : Option ℕ} (c : ℕ) {bs cs : Bytes} {a : A} {l : List A} → Reads Q x n k z m bs a → Reads R y n k z (times c m) cs l
      → Reads (Q × R) (earlier x (behind (length bs) (earlier y None))) n k z (times (suc c) m) (bs ++ cs) (a ∷ l)
  unfolding times
  reads_more c {a} s t = reads_both _ s (reads_then (λ l. a ∷ l) refl t)

number_back : (x : ℕ) → number_of (number_field name_width x) ≡ x
unfolding number_field number_of number_after
number_back x = zero-add _ ∙ div-one x

module _ {n k : ℕ} {z : Zone} where
  reads_length : (l : Bytes) → Quiet n k z (bytes (length l)) l l
  unfolding bytes byte
  reads_length [] = reads_none next
  reads_length (b ∷ l) = reads_so (λ _. (tt, tt)) (λ _. tt) (reads_more next _ (reads_next b) (reads_length l))

  reads_bytes : (w : ℕ) {l : Bytes} → length l ≡ w → Quiet n k z (bytes w) l l
  reads_bytes w {l} q = rw q at (reads_length l)

  pub reads_loc : {l : Loc} → ValidLoc l → Quiet n k z loc l l
  reads_loc q = reads_bytes loc_width q.width

  reads_counted : (m : Bytes) → Quiet n k z (counted 1) (number_field 1 (length m) ++ m) m
  unfolding counted number_field
  reads_counted m = reads_bind _ (reads_bytes 1 refl) (reads_bytes _ (sym (number_back (length m))))

  pub reads_name : {m : Bytes} → ValidName m → Quiet n k z name (name_field m) m
  unfolding name_field
  reads_name {m} h = reads_counted m

  pub reads_raw : {x : Bytes} → ValidRaw x → Quiet n k z raw_field x x
  unfolding raw_field
  reads_raw (b, bs, p, q, e) = rw e (reads_bind _ (reads_bytes _ p) (reads_then (λ y. b ++ y) refl (reads_bytes _ q)))

  reads_integer : {v : Bytes} → shortest v ≡ true → Quiet n k z integer (integer_field v) v
  unfolding integer integer_field
  reads_integer {v} q = rw (← append-nil (integer_field v)) (reads_bind _ (reads_counted v) (reads_check malformed q (reads_ret refl)))

  reads_at_most : {b : ℕ} (f : Fault) (x : ℕ) → b ≤ x → Quiet n k z (at_most f x) (byte b) b
  unfolding at_most byte
  reads_at_most {b} f x h = reads_bind _ (reads_next b) (reads_check f (true_of (leb b x) (le→leb b x h)) (reads_ret refl))

  pub reads_up_to : {b : ℕ} (x : ℕ) → b ≤ x → Quiet n k z (up_to x) (byte b) b
  reads_up_to x h = reads_at_most malformed x h

  pub reads_count : {c : ℕ} → ValidCount c → Quiet n k z count (byte c) c
  reads_count h = reads_at_most over_limit count_limit h

  reads_with_loc : (b : ℕ) {l : Loc} → ValidLoc l → Quiet n k z (with_loc true b) l (b ∷ l)
  unfolding with_loc
  reads_with_loc b q = reads_then (λ l. b ∷ l) refl (reads_loc q)

  pub reads_keyword : {w : Bytes} → ValidKeyword w → Quiet n k z keyword w w
  unfolding optional_loc with_loc byte
  reads_keyword (inl e) = rw e (reads_bind _ (reads_up_to 1 (omega arith)) (reads_ret refl))
  reads_keyword (inr (l, q, e)) = rw e (reads_bind _ (reads_up_to 1 (omega arith)) (reads_with_loc 1 q))

  pub reads_hint : {w : Bytes} → ValidHint w → Quiet n k z hint w w
  unfolding optional_loc with_loc byte
  reads_hint (inl e) = rw e (reads_bind _ (reads_up_to 3 (omega arith)) (reads_ret refl))
  reads_hint (inr (inl e)) = rw e (reads_bind _ (reads_up_to 3 (omega arith)) (reads_ret refl))
  reads_hint (inr (inr (inl (l, q, e)))) = rw e (reads_bind _ (reads_up_to 3 (omega arith)) (reads_with_loc 2 q))
  reads_hint (inr (inr (inr (l, q, e)))) = rw e (reads_bind _ (reads_up_to 3 (omega arith)) (reads_with_loc 3 q))

module _ {A : Type 0} {Q : Type 0} {x : Option ℕ} {n k : ℕ} {z : Zone} {bs : Bytes} {a : A} where
  -- the record of a mark
  pub reads_marked : (es : List (String × Reader A)) (s : String) → length (ascii s) ≡ mark_width → Reads Q x n k z (choose (ascii s) es) bs a
      → Reads Q (behind (length (ascii s)) x) n k z (marked es) (ascii s ++ bs) a
  unfolding marked
  reads_marked es s q t = record { reads = λ p i more e. all.reads i.offset i more e; clear = all.clear; stays = all.stays }
    where
      all : Reads Q (behind (length (ascii s)) x) n k z (bytes mark_width >>= λ y. choose y es) (ascii s ++ bs) a
      all = reads_bind _ (reads_bytes mark_width q) t

module _ {A : Type 0} {n k : ℕ} {z : Zone} {bs : Bytes} {a : A} where
  -- a record whose mark is noted, and nothing in it
  pub reads_noted : (es : List (String × Reader A)) (s : String) (m : Reader A) → length (ascii s) ≡ mark_width
      → choose (ascii s) es ≡ deeper 1 (note >> m) → 1 ≤ n → Quiet (n - 1) k z m bs a
      → Reads (Outside z) (noted z None 0) n k z (marked es) (ascii s ++ bs) a
  unfolding marked ◌>>=◌ ◌>>◌ deeper note
  reads_noted es s m q h l t = record {
    reads = λ p i more e.
        let w : Quiet n k z (bytes mark_width) (ascii s) (ascii s) = reads_bytes mark_width q in
        let c : Context = context i.offset n k z in
        let u = w.reads i.offset i (bs ++ more) (e ∙ append_assoc (ascii s) bs more) in
        let j : Input = record { offset = u.end.offset; rest = u.end.rest; first_mod = noted z u.end.first_mod i.offset } in
        let v = t.reads i.offset j more u.left in
        record {
          end = v.end;
          ran =
              ap (λ (r : Read Bytes). elim r as (λ _. Read A) [ done y d ↦ choose y es c d | refused y d ↦ refused y d ]) u.ran
              ∙ ap (λ (f : Reader A). f c u.end) h
              ∙ rw (true_of (leb 1 n) (le→leb 1 n l), deeper) v.ran;
          left = v.left;
          moved = omega (arith, u.moved, v.moved, length-append (ascii s) bs);
          notes =
              v.notes ∙ earlier_none _ ∙ ap (λ (f : Option ℕ). noted z f i.offset) (u.notes ∙ earlier_none i.first_mod)
              ∙ noted_behind z i.first_mod i.offset;
        };
    clear = clear_noted z;
    stays = stays_noted z;
  }

module _ {n k : ℕ} {z : Zone} where
  reads_sexp_rule : (d : ℕ) (cons : Reader Sexp)
      → ((l : Loc) (h t : Sexp) → SexpFields (SC l h t) → cons_depth (SC l h t) ≤ d → Quiet n k z cons (flatten (l ∷ sexp_bytes h ∷ sexp_bytes t ∷ [])) (SC l h t))
      → (s : Sexp) → SexpFields s → cons_depth s ≤ d → Quiet n k z (sexp_rule cons) (sexp_bytes s) s
  unfolding sexp_rule sexp_bytes record_bytes flatten SexpFields choose same ascii
  reads_sexp_rule d cons f (SN l) v e = reads_marked _ "SN" refl (reads_last _ refl (reads_loc v))
  reads_sexp_rule d cons f (SC l h t) v e = reads_marked _ "SC" refl (f l h t v e)
  reads_sexp_rule d cons f (SI l x) v e = reads_marked _ "SI" refl (reads_bind _ (reads_loc v.0) (reads_last _ refl (reads_integer v.1.0)))
  reads_sexp_rule d cons f (SQ l q m) v e = reads_marked _ "SQ" refl (reads_bind _ (reads_loc v.0) (reads_bind _ (reads_next q) (reads_last _ refl (reads_name v.2))))
  reads_sexp_rule d cons f (SA l m) v e = reads_marked _ "SA" refl (reads_bind _ (reads_loc v.0) (reads_last _ refl (reads_name v.1)))

  reads_sexp_at : (d : ℕ) (s : Sexp) → SexpFields s → cons_depth s ≤ d → Quiet n k z (sexp_at d) (sexp_bytes s) s
  unfolding sexp_at cons_rule flatten SexpFields cons_depth
  reads_sexp_at zero = reads_sexp_rule zero _ (λ l h t v e. absurd (omega arith))
  reads_sexp_at (suc d) = reads_sexp_rule (suc d) _ λ l h t v e.
      reads_bind _ (reads_loc v.0) (reads_bind _ (reads_sexp_at d h v.1 (omega arith)) (reads_last _ refl (reads_sexp_at d t v.2 (omega arith))))

  pub reads_sexp : {s : Sexp} → ValidSexp s → Quiet n k z sexp (sexp_bytes s) s
  unfolding sexp
  reads_sexp {s} v = reads_sexp_at cons_limit s v.0 v.1

  pub reads_pattern_of : (x : Pattern) → ValidPattern x → Quiet n k z pattern_of (pattern_field x) x
  unfolding pattern_of pattern_after pattern_field ValidPattern byte
  reads_pattern_of (Name m) v = reads_bind _ (reads_up_to 1 (omega arith)) (reads_then Name refl (reads_name v))
  reads_pattern_of (Complex s) v = reads_bind _ (reads_up_to 1 (omega arith)) (reads_then Complex refl (reads_sexp v))

pub reads_kind : {A : Type 0} {Q : Type 0} {y : Option ℕ} {n k : ℕ} {z : Zone} {bs : Bytes} {a : A} (f : Kind → Reader A) (x : Kind)
    → Reads Q y n k z (f x) bs a → Reads Q (behind (length (kind_field x)) y) n k z (up_to 2 >>= λ b. f (kind_of b)) (kind_field x ++ bs) a
unfolding kind_of kind_field
reads_kind f Parallel s = reads_bind _ (reads_up_to 2 (omega arith)) s
reads_kind f Sequential s = reads_bind _ (reads_up_to 2 (omega arith)) s
reads_kind f Assign s = reads_bind _ (reads_up_to 2 (omega arith)) s
