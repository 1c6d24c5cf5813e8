-- What a reader takes is what the serializer writes. Assumes nothing.
use mathlib.Core.Path.{◌≡◌, refl, ap, sym, ◌∙◌, subst}
use mathlib.Core.Bool.{Bool, true, false}
use Rattle.std.specs.Prelude.{Option}
use mathlib.Core.List.{List, [], ◌∷◌, ◌++◌, flatten, append_assoc, append-nil}
use Prim.Native.Nat.{ℕ, zero, suc, ◌+◌, ◌-◌, ◌≤◌}
use Prim.Native.String.{String}
use native.Mathlib.Nat.{zero-add, div-one}
use native.Mathlib.Omega.{arith}
use lib.Dec.{leb, eqb, leb→le, eqb→eq}
use lib.ListN.{length, length-append, drop}
use lib.Seq.{drop-append_seam}
use Rattle.names.specs.Names.{Bytes, ascii, same, number_field, number_of, number_after, name_field}
use Rattle.names.specs.Refusals.{place_at}
use Rattle.names.proofs.Same.{same→eq}
use Rattle.records.specs.Lists.{joined}
use Rattle.records.specs.Limits.{level_limit, cons_limit, count_limit}
use Rattle.records.proofs.Readers.{Any, not_done, same_value, same_input, T_of, reads_whole}
use Rattle.records.specs.Records.{mark_width, byte, loc_width, raw_width, integer_field, Sexp, SN, SC, SI, SQ, SA, sexp_bytes, record_bytes, kind_field, Name, Complex, pattern_field, Body, BL, BQ, BV, BC, BM, BF, body_bytes, bodies_bytes, tail_bytes, no_tail, tail, Binding, BB, binding_bytes, bindings_bytes, Helper, HC, HM, HD, HN, HR, helper_bytes, helpers_bytes, Form, CF, form_bytes, to_bodies, to_bindings, to_helpers, bodies_count, bindings_count, helpers_count}
use Rattle.records.specs.declared.Kind.{Kind}
use Rattle.records.specs.declared.Kind.TheVariants.{Assign}
use Rattle.records.specs.Read.{Zone, Context, sexp_rule, cons_rule, sexp_at, sexp, note, Readers, kind_of, more_levels, in_bindings, pattern_after, pattern_of, binding, let_of, tail_after, call_tail, body_rule, helper_rule, form_rule, rules, readers, assign_of, whole, read_whole}
use Rattle.records.specs.ReadFields.{Input, Fault, malformed, over_limit, Read, done, refused, Reader, ◌>>=◌, ret, refuse, check, times, deeper, in_lambda, in_zone, next, bytes, choose, marked, loc, counted, name, raw_field, integer, at_most, up_to, with_loc, optional_loc, keyword, hint, count, shortest, ◌>>◌}

-- from i, after the bytes `pre` of the same record, to j stands what f writes of a; a has P; the offset has gone on by what was taken
abbrev pub Taken : {A : Type 0} → (A → Type 0) → (A → Bytes) → Bytes → Input → A → Input → Type 0
Taken P f pre i a j = (pre ++ i.rest ≡ f a ++ j.rest) × P a × (length pre + j.offset ≡ length (f a) + i.offset)

-- after the bytes `pre` of the same record, m takes what f writes of its result; and each result has P
pub record Exact {A : Type 0} (P : A → Type 0) (f : A → Bytes) (pre : Bytes) (m : Reader A) : Type 0 where
  pub takes : (c : Context) (i : Input) (a : A) (j : Input) → m c i ≡ done a j → Taken P f pre i a j

pub exact_ret : {A : Type 0} {P : A → Type 0} {f : A → Bytes} {pre : Bytes} (a : A) → P a → pre ≡ f a → Exact P f pre (ret a)
unfolding ret
exact_ret {P} {f} {pre} a p e = record { takes = λ c i b j h. (cc (e, same_value h, same_input h), subst P (same_value h) p, cc (e, same_value h, same_input h)) }

pub exact_refuse : {A : Type 0} {P : A → Type 0} {f : A → Bytes} {pre : Bytes} (n : Fault) → Exact P f pre (refuse n)
unfolding refuse
exact_refuse n = record { takes = λ c i b j h. absurd (not_done h) }

module _ {A B : Type 0} {Q : A → Type 0} {g : A → Bytes} {P : B → Type 0} {f : B → Bytes} {pre : Bytes} {m : Reader A} {k : A → Reader B} where
  pub exact_bind : Exact Q g [] m → ((a : A) → Q a → Exact P f (pre ++ g a) (k a)) → Exact P f pre (m >>= k)
  unfolding ◌>>=◌
  exact_bind em ek = record { takes = λ c i b j h. go c i b j (m c i) refl h }
    where
      go : (c : Context) (i : Input) (b : B) (j : Input) (r : Read A) → m c i ≡ r
          → ◌≡◌ {A = Read B} (elim r [ done a l ↦ k a c l | refused n p ↦ refused n p ]) (done b j) → Taken P f pre i b j
      go c i b j (done a l) e h =
          let t = em.takes c i a l e in
          let u = (ek a t.1).takes c l b j h in
          (ap (λ (x : Bytes). pre ++ x) t.0 ∙ sym (append_assoc pre (g a) l.rest) ∙ u.0, u.1, omega (arith, t.2, u.2, length-append pre (g a)))
      go c i b j (refused n p) e h = absurd (not_done h)

module _ {A : Type 0} {P : A → Type 0} {f : A → Bytes} {pre : Bytes} {m : Reader A} where
  pub exact_check : (n : Fault) (ok : Bool) → (ok ≡ true → Exact P f pre m) → Exact P f pre (check n ok m)
  unfolding check
  exact_check n ok e = record { takes = λ c i b j h. go c i b j ok refl h }
    where
      go : (c : Context) (i : Input) (b : A) (j : Input) (o : Bool) → ok ≡ o
          → ◌≡◌ {A = Read A} (elim o [ true ↦ m c i | false ↦ refused n (place_at c.mark) ]) (done b j) → Taken P f pre i b j
      go c i b j true q h = (e q).takes c i b j h
      go c i b j false q h = absurd (not_done h)

  pub exact_deeper : (n : ℕ) → Exact P f pre m → Exact P f pre (deeper n m)
  unfolding deeper
  exact_deeper n e = record { takes = λ c i b j h. go c i b j (leb n c.room) h }
    where
      go : (c : Context) (i : Input) (b : A) (j : Input) (o : Bool)
          → ◌≡◌ {A = Read A} (elim o [ true ↦ m (record { mark = c.mark; room = c.room - n; lambdas = c.lambdas; zone = c.zone }) i | false ↦ refused over_limit (place_at c.mark) ]) (done b j)
          → Taken P f pre i b j
      go c i b j true h = e.takes _ i b j h
      go c i b j false h = absurd (not_done h)

  pub exact_in_lambda : Exact P f pre m → Exact P f pre (in_lambda m)
  unfolding in_lambda
  exact_in_lambda e = record { takes = λ c i b j h. go c i b j (leb 1 c.lambdas) h }
    where
      go : (c : Context) (i : Input) (b : A) (j : Input) (o : Bool)
          → ◌≡◌ {A = Read A} (elim o [ true ↦ m (record { mark = c.mark; room = c.room; lambdas = c.lambdas - 1; zone = c.zone }) i | false ↦ refused over_limit (place_at c.mark) ]) (done b j)
          → Taken P f pre i b j
      go c i b j true h = e.takes _ i b j h
      go c i b j false h = absurd (not_done h)

  pub exact_in_zone : (z : Zone) → Exact P f pre m → Exact P f pre (in_zone z m)
  unfolding in_zone
  exact_in_zone z e = record { takes = λ c i b j h. e.takes _ i b j h }

-- m stands last
pub exact_last : {A : Type 0} {P Q : A → Type 0} {f g : A → Bytes} {pre : Bytes} {m : Reader A} → ((a : A) → P a → pre ++ g a ≡ f a) → ((a : A) → P a → Q a) → Exact P g [] m → Exact Q f pre m
exact_last {g} {pre} s q e = record {
  takes = λ c i b j h.
      let t = e.takes c i b j h in
      (ap (λ (x : Bytes). pre ++ x) t.0 ∙ sym (append_assoc pre (g b) j.rest) ∙ ap (λ (x : Bytes). x ++ j.rest) (s b t.1), q b t.1, omega (arith, t.2, length-append pre (g b), ap length (s b t.1)));
}

pub exact_next : Exact Any byte [] next
unfolding next byte
exact_next = record { takes = λ c i b j h. go c i b j i.rest refl h }
  where
    go : (c : Context) (i : Input) (b : ℕ) (j : Input) (r : Bytes) → i.rest ≡ r
        → ◌≡◌ {A = Read ℕ} (elim r [ [] ↦ refused malformed (place_at c.mark) | x ∷ xs ↦ done x (record { offset = i.offset + 1; rest = xs; first_mod = i.first_mod }) ]) (done b j)
        → Taken Any byte [] i b j
    go c i b j [] e h = absurd (not_done h)
    go c i b j (x ∷ xs) e h = (cc (e, same_value h, ap (λ (l : Input). l.rest) (same_input h)), tt, omega (arith, ap (λ (l : Input). l.offset) (same_input h)))

pub exact_times : {A : Type 0} {P : A → Type 0} {g : A → Bytes} {m : Reader A} (n : ℕ) → Exact P g [] m → Exact (λ l. length l ≡ n) (joined g) [] (times n m)
unfolding times joined
exact_times zero e = exact_ret [] refl refl
exact_times (suc n) e = exact_bind e λ a p. exact_bind (exact_times n e) λ l q. exact_ret (a ∷ l) (ap suc q) refl

joined_byte : (l : Bytes) → joined byte l ≡ l
unfolding byte joined
joined_byte [] = refl
joined_byte (x ∷ xs) = ap (λ (r : Bytes). x ∷ r) (joined_byte xs)

-- n bytes as they stand
abbrev pub raw : Bytes → Bytes
raw l = l

pub exact_bytes : (n : ℕ) → Exact (λ l. length l ≡ n) raw [] (bytes n)
unfolding bytes
exact_bytes n = exact_last (λ l q. joined_byte l) (λ l q. q) (exact_times n exact_next)

pub exact_loc : Exact (λ l. length l ≡ loc_width) raw [] loc
exact_loc = exact_bytes loc_width

-- a length of one byte is read as it is written
length_back : (b : Bytes) → length b ≡ 1 → number_field 1 (number_of b) ≡ b
unfolding number_field number_of number_after
length_back [] q = absurd (omega arith)
length_back (x ∷ []) q = ap (λ (n : ℕ). n ∷ []) (div-one _ ∙ zero-add x)
length_back (x ∷ y ∷ b) q = absurd (omega arith)

pub exact_counted : Exact Any (λ l. number_field 1 (length l) ++ l) [] (counted 1)
unfolding counted
exact_counted =
    exact_bind (exact_bytes 1) λ b p.
    exact_last (λ l q. ap (λ (x : Bytes). x ++ l) (sym (ap (number_field 1) q ∙ length_back b p))) (λ l q. tt) (exact_bytes (number_of b))

pub exact_name : Exact Any name_field [] name
unfolding name_field
exact_name = exact_counted

pub exact_integer : Exact Any integer_field [] integer
unfolding integer integer_field
exact_integer = exact_bind exact_counted λ v p. exact_check malformed (shortest v) (λ q. exact_ret v tt refl)

pub exact_raw_field : Exact Any raw [] raw_field
unfolding raw_field
exact_raw_field = exact_bind (exact_bytes raw_width) λ b p. exact_bind (exact_bytes (number_of b)) λ bs q. exact_ret (b ++ bs) tt refl

pub exact_at_most : (f : Fault) (n : ℕ) → Exact (λ b. leb b n ≡ true) byte [] (at_most f n)
unfolding at_most
exact_at_most f n = exact_bind exact_next λ b p. exact_check f (leb b n) (λ q. exact_ret b q refl)

pub exact_up_to : (n : ℕ) → Exact (λ b. leb b n ≡ true) byte [] (up_to n)
exact_up_to n = exact_at_most malformed n

exact_with_loc : (more : Bool) (b : ℕ) → Exact Any raw (byte b) (with_loc more b)
unfolding with_loc byte
exact_with_loc true b = exact_bind exact_loc λ l p. exact_ret (b ∷ l) tt refl
exact_with_loc false b = exact_ret (b ∷ []) tt refl

pub exact_optional_loc : (least n : ℕ) → Exact Any raw [] (optional_loc least n)
unfolding optional_loc
exact_optional_loc least n = exact_bind (exact_up_to n) λ b p. exact_with_loc (leb least b) b

pub exact_keyword : Exact Any raw [] keyword
exact_keyword = exact_optional_loc 1 1

pub exact_hint : Exact Any raw [] hint
exact_hint = exact_optional_loc 2 3

pub exact_count : Exact (λ b. leb b count_limit ≡ true) byte [] count
exact_count = exact_at_most over_limit count_limit

-- each alternative, after its mark
pub data Alternatives {A : Type 0} (P : A → Type 0) (f : A → Bytes) : List (String × Reader A) → Type 0 where
  none_left : Alternatives P f []
  also : {s : String} {m : Reader A} {es : List (String × Reader A)} → Exact P f (ascii s) m → Alternatives P f es → Alternatives P f ((s, m) ∷ es)

exact_choose : {A : Type 0} {P : A → Type 0} {f : A → Bytes} {es : List (String × Reader A)} (x : Bytes) → Alternatives P f es → Exact P f x (choose x es)
unfolding choose
exact_choose x none_left = exact_refuse malformed
exact_choose {A} {P} {f} x (also {s} {m} {es} e rest') = go (same x (ascii s)) refl (exact_choose x rest')
  where
    go : (o : Bool) → same x (ascii s) ≡ o → Exact P f x (choose x es) → Exact P f x (elim o [ true ↦ m | false ↦ choose x es ])
    go true q ih = rw (same→eq x (ascii s) (T_of q)) e
    go false q ih = ih

exact_marked : {A : Type 0} {P : A → Type 0} {f : A → Bytes} {es : List (String × Reader A)} → Alternatives P f es → Exact P f [] (marked es)
unfolding marked
exact_marked {A} {P} {f} {es} alts = record { takes = λ c i b j h. all.takes _ i b j h }
  where
    all : Exact P f [] (bytes mark_width >>= λ x. choose x es)
    all = exact_bind (exact_bytes mark_width) λ x p. exact_choose x alts

exact_sexp_rule : (cons : Reader Sexp) → Exact Any sexp_bytes (ascii "SC") cons → Exact Any sexp_bytes [] (sexp_rule cons)
unfolding sexp_rule sexp_bytes record_bytes flatten
exact_sexp_rule cons e = exact_marked
    (also (exact_bind exact_loc λ l p. exact_ret (SN l) tt (simp append-nil))
    (also e
    (also (exact_bind exact_loc λ l p. exact_bind exact_integer λ v q. exact_ret (SI l v) tt (simp (append_assoc, append-nil)))
    (also (exact_bind exact_loc λ l p. exact_bind exact_next λ x q. exact_bind exact_name λ n r. exact_ret (SQ l x n) tt (simp (append_assoc, append-nil)))
    (also (exact_bind exact_loc λ l p. exact_bind exact_name λ n q. exact_ret (SA l n) tt (simp (append_assoc, append-nil)))
    none_left)))))

pub exact_sexp_at : (d : ℕ) → Exact Any sexp_bytes [] (sexp_at d)
unfolding sexp_at cons_rule sexp_bytes record_bytes flatten
exact_sexp_at zero = exact_sexp_rule _ (exact_refuse over_limit)
exact_sexp_at (suc d) = exact_sexp_rule _
    (exact_bind exact_loc λ l p. exact_bind (exact_sexp_at d) λ h q. exact_bind (exact_sexp_at d) λ t r. exact_ret (SC l h t) tt (simp (append_assoc, append-nil)))

pub exact_sexp : Exact Any sexp_bytes [] sexp
unfolding sexp
exact_sexp = exact_sexp_at cons_limit

-- a byte at most 1 or 2, from its test
one : (b : ℕ) → leb (suc b) 1 ≡ true → suc b ≡ 1
one b e = let h : suc b ≤ 1 = leb→le (suc b) 1 (T_of e) in omega arith

kind_back : (b : ℕ) → leb b 2 ≡ true → kind_field (kind_of b) ≡ byte b
unfolding kind_field kind_of byte
kind_back zero e = refl
kind_back (suc zero) e = refl
kind_back (suc (suc b)) e = let h : suc (suc b) ≤ 2 = leb→le (suc (suc b)) 2 (T_of e) in let q : 2 ≡ suc (suc b) = omega arith in ap (λ (k : ℕ). k ∷ []) q

exact_pattern_after : (b : ℕ) → leb b 1 ≡ true → Exact Any pattern_field (byte b) (pattern_after b)
unfolding pattern_after pattern_field byte
exact_pattern_after zero e = exact_bind exact_name λ n p. exact_ret (Name n) tt refl
exact_pattern_after (suc b) e = exact_bind exact_sexp λ s p. exact_ret (Complex s) tt (ap (λ (k : ℕ). k ∷ sexp_bytes s) (one b e))

pub exact_pattern_of : Exact Any pattern_field [] pattern_of
unfolding pattern_of
exact_pattern_of = exact_bind (exact_up_to 1) λ b p. exact_pattern_after b p

exact_tail_after : {m : Reader Body} → Exact Any body_bytes [] m → (b : ℕ) → leb b 1 ≡ true → Exact Any tail_bytes (byte b) (tail_after m b)
unfolding tail_after tail_bytes byte
exact_tail_after e zero h = exact_ret no_tail tt refl
exact_tail_after e (suc b) h = exact_bind e λ t p. exact_ret (tail t) tt (ap (λ (k : ℕ). k ∷ body_bytes t) (one b h))

pub exact_call_tail : {m : Reader Body} → Exact Any body_bytes [] m → Exact Any tail_bytes [] (call_tail m)
unfolding call_tail
exact_call_tail e = exact_bind (exact_up_to 1) λ b p. exact_tail_after e b p

-- the lists of a record
bindings_back : (l : List Binding) → bindings_bytes (to_bindings l) ≡ joined binding_bytes l
unfolding joined bindings_bytes to_bindings
bindings_back [] = refl
bindings_back (b ∷ bs) = ap (λ (x : Bytes). binding_bytes b ++ x) (bindings_back bs)

pub bindings_counted : (l : List Binding) → bindings_count (to_bindings l) ≡ length l
unfolding bindings_count to_bindings
bindings_counted [] = refl
bindings_counted (b ∷ bs) = ap suc (bindings_counted bs)

bodies_back : (l : List Body) → bodies_bytes (to_bodies l) ≡ joined body_bytes l
unfolding joined bodies_bytes to_bodies
bodies_back [] = refl
bodies_back (b ∷ bs) = ap (λ (x : Bytes). body_bytes b ++ x) (bodies_back bs)

pub bodies_counted : (l : List Body) → bodies_count (to_bodies l) ≡ length l
unfolding bodies_count to_bodies
bodies_counted [] = refl
bodies_counted (b ∷ bs) = ap suc (bodies_counted bs)

helpers_back : (l : List Helper) → helpers_bytes (to_helpers l) ≡ joined helper_bytes l
unfolding joined helpers_bytes to_helpers
helpers_back [] = refl
helpers_back (b ∷ bs) = ap (λ (x : Bytes). helper_bytes b ++ x) (helpers_back bs)

pub helpers_counted : (l : List Helper) → helpers_count (to_helpers l) ≡ length l
unfolding helpers_count to_helpers
helpers_counted [] = refl
helpers_counted (b ∷ bs) = ap suc (helpers_counted bs)

-- a set for what is left at the end of a record
ruleset fields = (append_assoc, append-nil, bindings_back, bindings_counted, bodies_back, bodies_counted, helpers_back, helpers_counted)

pub exact_binding : {m : Reader Body} → Exact Any body_bytes [] m → Exact Any binding_bytes [] (binding m)
unfolding binding binding_bytes record_bytes flatten
exact_binding e = exact_marked (also
    (exact_bind exact_loc λ l p. exact_bind exact_loc λ nl q. exact_bind exact_pattern_of λ x r. exact_bind e λ b s. exact_ret (BB l nl x b) tt (simp fields))
    none_left)

pub exact_in_bindings : {A : Type 0} {P : A → Type 0} {f : A → Bytes} {pre : Bytes} {m : Reader A} (k : Kind) → Exact P f pre m → Exact P f pre (in_bindings k m)
unfolding in_bindings in_zone
exact_in_bindings k e = record { takes = λ c i b j h. e.takes _ i b j h }

pub exact_note : Exact Any (λ u. []) [] note
unfolding note
exact_note = record { takes = λ c i b j h. (ap (λ (l : Input). l.rest) (same_input h), tt, omega (arith, ap (λ (l : Input). l.offset) (same_input h))) }

module _ (r : Readers) (eb : Exact Any body_bytes [] r.body) (eh : Exact Any helper_bytes [] r.helper) (ef : Exact Any form_bytes [] r.form) where
  pub exact_let_of : (k : Kind) → Exact Any body_bytes (ascii "BL" ++ kind_field k) (let_of r k)
  unfolding let_of body_bytes record_bytes flatten
  exact_let_of k =
      exact_bind exact_loc λ l p. exact_bind exact_keyword λ w q. exact_bind exact_hint λ h s. exact_bind exact_count λ n t.
      exact_deeper (more_levels k n)
      (exact_bind (exact_in_bindings k (exact_times n (exact_binding eb))) λ bs u. exact_bind eb λ b v.
      exact_ret (BL k l w h (to_bindings bs) b) tt (simp (fields, u)))

  exact_body_rule : Exact Any body_bytes [] (body_rule r)
  unfolding body_rule body_bytes record_bytes flatten ◌>>◌
  exact_body_rule = exact_marked
      (also (exact_deeper 1 (exact_bind (exact_up_to 2) λ k p. rw (← kind_back k p) (exact_let_of (kind_of k))))
      (also (exact_deeper 1 (exact_bind exact_sexp λ s p. exact_ret (BQ s) tt (simp fields)))
      (also (exact_deeper 1 (exact_bind exact_sexp λ s p. exact_ret (BV s) tt (simp fields)))
      (also (exact_deeper 1 (exact_bind exact_loc λ l p. exact_bind exact_count λ n q. exact_bind (exact_times n eb) λ bs s.
      exact_bind (exact_call_tail eb) λ t u. exact_ret (BC l (to_bodies bs) t) tt (simp (fields, s))))
      (also (exact_deeper 1 (exact_bind exact_note λ x p. exact_bind exact_loc λ l q. exact_bind (exact_in_zone _ ef) λ f s. exact_ret (BM l f) tt (simp fields)))
      (also (exact_deeper 1 (exact_in_lambda (exact_bind exact_loc λ l p. exact_bind exact_keyword λ w q. exact_bind exact_sexp λ ca s.
      exact_bind eb λ c t. exact_bind exact_sexp λ a u. exact_bind eb λ b v. exact_ret (BF l w ca c a b) tt (simp fields))))
      none_left))))))

  exact_helper_rule : Exact Any helper_bytes [] (helper_rule r)
  unfolding helper_rule helper_bytes record_bytes flatten
  exact_helper_rule = exact_marked
      (also (exact_deeper 1 (exact_bind exact_loc λ l p. exact_bind exact_name λ n q. exact_bind exact_raw_field λ x s. exact_bind eb λ b t. exact_ret (HC l n x b) tt (simp fields)))
      (also (exact_deeper 1 (exact_bind exact_loc λ l p. exact_bind exact_name λ n q. exact_bind exact_raw_field λ x s. exact_bind exact_sexp λ a t. exact_bind ef λ f u. exact_ret (HM l n x a f) tt (simp fields)))
      (also (exact_deeper 1 (exact_bind exact_loc λ l p. exact_bind (exact_up_to 1) λ i o. exact_bind exact_name λ n q. exact_bind exact_raw_field λ x s. exact_bind exact_sexp λ a t. exact_bind eb λ b u. exact_ret (HD l i n x a b) tt (simp fields)))
      (also (exact_deeper 1 (exact_bind exact_loc λ l p. exact_bind exact_name λ n q. exact_bind exact_raw_field λ x s. exact_bind exact_count λ k t. exact_bind (exact_times k eh) λ hs u. exact_ret (HN l n x (to_helpers hs)) tt (simp (fields, u))))
      (also (exact_deeper 1 (exact_bind exact_loc λ l p. exact_bind exact_name λ n q. exact_bind exact_raw_field λ x s. exact_ret (HR l n x) tt (simp fields)))
      none_left)))))

  exact_form_rule : Exact Any form_bytes [] (form_rule r)
  unfolding form_rule form_bytes record_bytes flatten
  exact_form_rule = exact_marked (also
      (exact_deeper 1 (exact_bind exact_loc λ l p. exact_bind exact_raw_field λ x q. exact_bind exact_sexp λ a s. exact_bind exact_count λ n t. exact_bind (exact_times n eh) λ hs u. exact_bind eb λ b v.
      exact_ret (CF l x a (to_helpers hs) b) tt (simp (fields, u))))
      none_left)

pub record ExactReaders (r : Readers) : Type 0 where
  pub body : Exact Any body_bytes [] r.body
  pub helper : Exact Any helper_bytes [] r.helper
  pub form : Exact Any form_bytes [] r.form

exact_rules : (r : Readers) → ExactReaders r → ExactReaders (rules r)
unfolding rules
exact_rules r e = record {
  body = exact_body_rule r e.body e.helper e.form;
  helper = exact_helper_rule r e.body e.helper e.form;
  form = exact_form_rule r e.body e.helper e.form;
}

pub exact_readers : (fuel : ℕ) → ExactReaders (readers fuel)
unfolding readers
exact_readers zero = exact_rules _ (record { body = exact_refuse over_limit; helper = exact_refuse over_limit; form = exact_refuse over_limit })
exact_readers (suc fuel) = exact_rules _ (exact_readers fuel)

two : (k : ℕ) → eqb k 2 ≡ true → byte k ≡ kind_field Assign
unfolding kind_field
two k q = ap byte (eqb→eq k 2 (T_of q))

pub exact_assign_of : Exact Any body_bytes [] assign_of
unfolding assign_of
exact_assign_of = let e = exact_readers (level_limit - 1) in exact_marked (also
    (exact_deeper 1 (exact_bind exact_next λ k p. exact_check malformed (eqb k 2) λ q. rw (two k q) (exact_let_of _ e.body e.helper e.form Assign)))
    none_left)

-- a reader that is done has gone on by the length of what it took, and what is left is the rest after that
pub record Advanced {A : Type 0} (f : A → Bytes) (i : Input) (a : A) (j : Input) : Type 0 where
  pub took : i.rest ≡ f a ++ j.rest
  pub left : j.rest ≡ drop (length (f a)) i.rest
  pub moved : j.offset ≡ i.offset + length (f a)

pub advances : {A : Type 0} {P : A → Type 0} {f : A → Bytes} {m : Reader A} → Exact P f [] m → (c : Context) (i : Input) (a : A) (j : Input) → m c i ≡ done a j → Advanced f i a j
advances {f} e c i a j h = let t = e.takes c i a j h in
    record { took = t.0; left = sym (drop-append_seam (f a) j.rest) ∙ ap (drop (length (f a))) (sym t.0); moved = omega (arith, t.2) }

-- an input that is read whole is the bytes of its tree
pub read_back : {A : Type 0} {f : A → Bytes} {m : Reader A} → Exact Any f [] m → (input : Bytes) (a : A) (o : Option ℕ) → read_whole m input ≡ whole a o → input ≡ f a
read_back {A} {f} {m} e input a o h =
    let r = reads_whole m input a o h in
    (e.takes _ _ a r.end r.ran).0 ∙ ap (λ (x : Bytes). f a ++ x) r.nothing_left ∙ append-nil (f a)

pub form_read_back : (input : Bytes) (t : Form) (o : Option ℕ) → read_whole (readers level_limit).form input ≡ whole t o → input ≡ form_bytes t
form_read_back = read_back (exact_readers level_limit).form

pub assign_read_back : (input : Bytes) (t : Body) (o : Option ℕ) → read_whole assign_of input ≡ whole t o → input ≡ body_bytes t
assign_read_back = read_back exact_assign_of

pub helper_read_back : (input : Bytes) (t : Helper) (o : Option ℕ) → read_whole (readers level_limit).helper input ≡ whole t o → input ≡ helper_bytes t
helper_read_back = read_back (exact_readers level_limit).helper
