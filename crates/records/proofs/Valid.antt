-- Whatever is read from bytes is a valid tree. Assumes nothing.
use mathlib.Core.Path.{◌≡◌, refl, ap}
use mathlib.Core.Bool.{Bool, true, false}
use mathlib.Core.Logic.{inl, inr}
use mathlib.Core.List.{List, [], ◌∷◌, ◌++◌}
use Rattle.std.specs.Prelude.{Option}
use Prim.Native.Nat.{ℕ, zero, suc, ◌+◌, ◌-◌, ◌≤◌}
use Prim.Native.String.{String}
use native.Mathlib.Omega.{arith}
use lib.Dec.{leb, eqb, leb→le}
use lib.ListN.{length}
use Rattle.names.specs.Names.{Bytes, ascii, same, number_of, number_after, name_width, name_limit}
use Rattle.names.specs.Refusals.{place_at}
use Rattle.records.specs.Lists.{Each}
use Rattle.records.specs.Limits.{level_limit, cons_limit, lambda_limit, count_limit}
use Rattle.records.specs.Records.{mark_width, loc_width, raw_width, byte, Sexp, SN, SC, SI, SQ, SA, Name, Complex, Body, BL, BQ, BV, BC, BM, BF, Tail, no_tail, tail, Binding, BB, Helper, HC, HM, HD, HN, HR, Form, CF, to_bodies, to_bindings, to_helpers, integer_width}
use Rattle.records.specs.declared.Kind.{Kind}
use Rattle.records.specs.declared.Kind.TheVariants.{Assign}
use Rattle.records.specs.Valid.{IsByte, AreBytes, ValidLoc, ValidName, WithLoc, ValidKeyword, ValidHint, ValidRaw, ValidCount, cons_depth, SexpFields, ValidSexp, ValidPattern, BodyFields, BodiesFields, TailFields, BindingFields, BindingsFields, HelperFields, HelpersFields, FormFields, lambda_depth, bodies_lambda_depth, tail_lambda_depth, binding_lambda_depth, bindings_lambda_depth, helper_lambda_depth, helpers_lambda_depth, form_lambda_depth, ValidHelper, ValidForm, ValidAssign, IsLet}
use Rattle.records.specs.Read.{Zone, Context, sexp_rule, cons_rule, sexp_at, sexp, note, Readers, kind_of, more_levels, in_bindings, pattern_after, pattern_of, binding, let_of, tail_after, call_tail, body_rule, helper_rule, form_rule, rules, readers, assign_of, whole, read_whole}
use Rattle.records.specs.ReadFields.{Input, Fault, malformed, over_limit, Read, done, refused, Reader, ◌>>=◌, ◌>>◌, ret, refuse, check, times, deeper, in_lambda, in_zone, next, bytes, choose, marked, loc, name, raw_field, integer, up_to, with_loc, keyword, hint, count, shortest, counted, at_most, optional_loc}
use Rattle.records.proofs.Readers.{Any, not_done, same_value, same_input, T_of, reads_whole}
use Rattle.records.proofs.Depth.{form_deep, helper_deep, assign_deep}
use Rattle.records.proofs.Exact.{bindings_counted, bodies_counted, helpers_counted}

-- from bytes, and in a context with k lambdas, each result has P, and what is left are bytes
pub record Yields {A : Type 0} (k : ℕ) (P : A → Type 0) (m : Reader A) : Type 0 where
  pub yields : (c : Context) (i : Input) (a : A) (j : Input) → c.lambdas ≡ k → AreBytes i.rest → m c i ≡ done a j → P a × AreBytes j.rest

module _ {A : Type 0} {k : ℕ} {P : A → Type 0} where
  yields_ret : (a : A) → P a → Yields k P (ret a)
  unfolding ret
  yields_ret a p = record { yields = λ c i b j q s h. (rw (← same_value h) p, rw (← same_input h) s) }

  yields_refuse : (x : Fault) → Yields k P (refuse x)
  unfolding refuse
  yields_refuse x = record { yields = λ c i b j q s h. absurd (not_done h) }

  yields_bind : {B : Type 0} {Q : B → Type 0} {m : Reader A} {f : A → Reader B} → Yields k P m → ((a : A) → P a → Yields k Q (f a)) → Yields k Q (m >>= f)
  unfolding ◌>>=◌
  yields_bind {B} {Q} {m} {f} s t = record { yields = λ c i b j q x h. go c i b j q x (m c i) refl h }
    where
      go : (c : Context) (i : Input) (b : B) (j : Input) → c.lambdas ≡ k → AreBytes i.rest → (r : Read A) → m c i ≡ r
          → ◌≡◌ {A = Read B} (elim r [ done a l ↦ f a c l | refused y p ↦ refused y p ]) (done b j) → Q b × AreBytes j.rest
      go c i b j q x (done a l) e h = let u = s.yields c i a l q x e in (t a u.0).yields c l b j q u.1 h
      go c i b j q x (refused y p) e h = absurd (not_done h)

module _ {A : Type 0} {k : ℕ} {P : A → Type 0} {m : Reader A} where
  yields_check : (y : Fault) (ok : Bool) → (ok ≡ true → Yields k P m) → Yields k P (check y ok m)
  unfolding check
  yields_check y ok s = record { yields = λ c i b j q x h. go c i b j q x ok refl h }
    where
      go : (c : Context) (i : Input) (b : A) (j : Input) → c.lambdas ≡ k → AreBytes i.rest → (o : Bool) → ok ≡ o
          → ◌≡◌ {A = Read A} (elim o [ true ↦ m c i | false ↦ refused y (place_at c.mark) ]) (done b j) → P b × AreBytes j.rest
      go c i b j q x true e h = (s e).yields c i b j q x h
      go c i b j q x false e h = absurd (not_done h)

  yields_deeper : (d : ℕ) → Yields k P m → Yields k P (deeper d m)
  unfolding deeper
  yields_deeper d s = record { yields = λ c i b j q x h. go c i b j q x (leb d c.room) h }
    where
      go : (c : Context) (i : Input) (b : A) (j : Input) → c.lambdas ≡ k → AreBytes i.rest → (o : Bool)
          → ◌≡◌ {A = Read A} (elim o [ true ↦ m (record { mark = c.mark; room = c.room - d; lambdas = c.lambdas; zone = c.zone }) i | false ↦ refused over_limit (place_at c.mark) ]) (done b j)
          → P b × AreBytes j.rest
      go c i b j q x true h = s.yields _ i b j q x h
      go c i b j q x false h = absurd (not_done h)

  yields_in_zone : (z : Zone) → Yields k P m → Yields k P (in_zone z m)
  unfolding in_zone
  yields_in_zone z s = record { yields = λ c i b j q x h. s.yields _ i b j q x h }

  yields_in_bindings : (y : Kind) → Yields k P m → Yields k P (in_bindings y m)
  unfolding in_bindings in_zone
  yields_in_bindings y s = record { yields = λ c i b j q x h. s.yields _ i b j q x h }

yields_in_lambda : {A : Type 0} {P : A → Type 0} {m : Reader A} (k : ℕ) → (1 ≤ k → Yields (k - 1) P m) → Yields k P (in_lambda m)
unfolding in_lambda
yields_in_lambda {A} {P} {m} k s = record { yields = λ c i b j q x h. go c i b j q x (leb 1 c.lambdas) refl h }
  where
    go : (c : Context) (i : Input) (b : A) (j : Input) → c.lambdas ≡ k → AreBytes i.rest → (o : Bool) → leb 1 c.lambdas ≡ o
        → ◌≡◌ {A = Read A} (elim o [ true ↦ m (record { mark = c.mark; room = c.room; lambdas = c.lambdas - 1; zone = c.zone }) i | false ↦ refused over_limit (place_at c.mark) ]) (done b j)
        → P b × AreBytes j.rest
    go c i b j q x true e h = (s (omega (arith, leb→le 1 c.lambdas (T_of e)))).yields _ i b j (ap (λ (y : ℕ). y - 1) q) x h
    go c i b j q x false e h = absurd (not_done h)

module _ {A : Type 0} {k : ℕ} {P : A → Type 0} {m : Reader A} where
  yields_times : (n : ℕ) → Yields k P m → Yields k (λ l. Each P l × (length l ≡ n)) (times n m)
  unfolding times Each
  yields_times zero s = yields_ret [] (tt, refl)
  yields_times (suc n) s = yields_bind s λ a p. yields_bind (yields_times n s) λ l q. yields_ret (a ∷ l) ((p, q.0), ap suc q.1)

  weaken : {Q : A → Type 0} → ((a : A) → P a → Q a) → Yields k P m → Yields k Q m
  weaken f s = record { yields = λ c i a j q x h. let u = s.yields c i a j q x h in (f a u.0, u.1) }

pub data Alternatives {A : Type 0} (k : ℕ) (P : A → Type 0) : List (String × Reader A) → Type 0 where
  none_left : Alternatives k P []
  also : {s : String} {m : Reader A} {es : List (String × Reader A)} → Yields k P m → Alternatives k P es → Alternatives k P ((s, m) ∷ es)

yields_choose : {A : Type 0} {k : ℕ} {P : A → Type 0} {es : List (String × Reader A)} (x : Bytes) → Alternatives k P es → Yields k P (choose x es)
unfolding choose
yields_choose x none_left = yields_refuse malformed
yields_choose {A} {k} {P} x (also {s} {m} {es} e rest) = go (same x (ascii s)) (yields_choose x rest)
  where
    go : (o : Bool) → Yields k P (choose x es) → Yields {A = A} k P (elim o [ true ↦ m | false ↦ choose x es ])
    go true t = e
    go false t = t

-- one byte holds no more than the length of a name may be
name_within : (b : Bytes) → Each IsByte b → length b ≡ name_width → number_of b ≤ name_limit
unfolding Each number_of number_after
name_within [] s q = absurd (omega arith)
name_within (x ∷ []) s q = omega (arith, s.0)
name_within (x ∷ y ∷ b) s q = absurd (omega arith)

module _ {k : ℕ} where
  yields_next : Yields k IsByte next
  unfolding next
  yields_next = record { yields = λ c i b j q x h. go c i b j i.rest x h }
    where
      go : (c : Context) (i : Input) (b : ℕ) (j : Input) (r : Bytes) → AreBytes r
          → ◌≡◌ {A = Read ℕ} (elim r [ [] ↦ refused malformed (place_at c.mark) | y ∷ ys ↦ done y (record { offset = i.offset + 1; rest = ys; first_mod = i.first_mod }) ]) (done b j)
          → IsByte b × AreBytes j.rest
      go c i b j [] x h = absurd (not_done h)
      go c i b j (y ∷ ys) x h = (rw (← same_value h) (x 0), rw (← same_input h) (λ n. x (suc n)))

  yields_note : Yields k Any note
  unfolding note
  yields_note = record { yields = λ c i b j q x h. (tt, rw (← same_input h) x) }

  yields_bytes : (n : ℕ) → Yields k (λ l. Each IsByte l × (length l ≡ n)) (bytes n)
  unfolding bytes
  yields_bytes n = yields_times n yields_next

  yields_loc : Yields k ValidLoc loc
  yields_loc = weaken (λ l p. record { width = p.1 }) (yields_bytes loc_width)

  yields_name : Yields k ValidName name
  unfolding counted
  yields_name = yields_bind (yields_bytes name_width) λ b p. weaken (λ l q. omega (arith, q.1, name_within b p.0 p.1)) (yields_bytes (number_of b))

  yields_raw : Yields k ValidRaw raw_field
  unfolding raw_field
  yields_raw = yields_bind (yields_bytes raw_width) λ b p. yields_bind (yields_bytes (number_of b)) λ bs q. yields_ret (b ++ bs) (b, bs, p.1, q.1, refl)

  yields_integer : Yields k (λ v. (shortest v ≡ true) × IsByte (length v)) integer
  unfolding integer counted
  yields_integer =
      yields_bind (yields_bind (yields_bytes integer_width) λ b p. weaken (λ l q. omega (arith, q.1, name_within b p.0 p.1)) (yields_bytes (number_of b)))
      λ v p. yields_check malformed (shortest v) λ q. yields_ret v (q, p)

  yields_at_most : (f : Fault) (x : ℕ) → Yields k (λ b. b ≤ x) (at_most f x)
  unfolding at_most
  yields_at_most f x = yields_bind yields_next λ b p. yields_check f (leb b x) λ q. yields_ret b (leb→le b x (T_of q))

  yields_up_to : (x : ℕ) → Yields k (λ b. b ≤ x) (up_to x)
  yields_up_to x = yields_at_most malformed x

  yields_count : Yields k ValidCount count
  yields_count = yields_at_most over_limit count_limit

  yields_with_loc : (b : ℕ) → Yields k (WithLoc b) (with_loc true b)
  unfolding with_loc
  yields_with_loc b = yields_bind yields_loc λ l p. yields_ret (b ∷ l) (l, p, refl)

  yields_keyword_after : (b : ℕ) → b ≤ 1 → Yields k ValidKeyword (with_loc (leb 1 b) b)
  unfolding with_loc byte
  yields_keyword_after zero h = yields_ret _ (inl refl)
  yields_keyword_after (suc zero) h = weaken (λ w p. inr p) (yields_with_loc 1)
  yields_keyword_after (suc (suc b)) h = absurd (omega arith)

  yields_keyword : Yields k ValidKeyword keyword
  unfolding optional_loc
  yields_keyword = yields_bind (yields_up_to 1) yields_keyword_after

  yields_hint_after : (b : ℕ) → b ≤ 3 → Yields k ValidHint (with_loc (leb 2 b) b)
  unfolding with_loc byte
  yields_hint_after zero h = yields_ret _ (inl refl)
  yields_hint_after (suc zero) h = yields_ret _ (inr (inl refl))
  yields_hint_after (suc (suc zero)) h = weaken (λ w p. inr (inr (inl p))) (yields_with_loc 2)
  yields_hint_after (suc (suc (suc zero))) h = weaken (λ w p. inr (inr (inr p))) (yields_with_loc 3)
  yields_hint_after (suc (suc (suc (suc b)))) h = absurd (omega arith)

  yields_hint : Yields k ValidHint hint
  unfolding optional_loc
  yields_hint = yields_bind (yields_up_to 3) yields_hint_after

  yields_marked : {A : Type 0} {P : A → Type 0} {es : List (String × Reader A)} → Alternatives k P es → Yields k P (marked es)
  unfolding marked
  yields_marked {A} {P} {es} s = record { yields = λ c i b j q x h. all.yields _ i b j q x h }
    where
      all : Yields k P (bytes mark_width >>= λ x. choose x es)
      all = yields_bind (yields_bytes mark_width) λ x _. yields_choose x s

  yields_sexp_rule : (d : ℕ) (cons : Reader Sexp) → Yields k (λ s. SexpFields s × (cons_depth s ≤ d)) cons → Yields k (λ s. SexpFields s × (cons_depth s ≤ d)) (sexp_rule cons)
  unfolding sexp_rule SexpFields cons_depth
  yields_sexp_rule d cons s = yields_marked
      (also (yields_bind yields_loc λ l p. yields_ret (SN l) (p, omega arith))
      (also s
      (also (yields_bind yields_loc λ l p. yields_bind yields_integer λ v q. yields_ret (SI l v) ((p, q), omega arith))
      (also (yields_bind yields_loc λ l p. yields_bind yields_next λ x q. yields_bind yields_name λ m t. yields_ret (SQ l x m) ((p, q, t), omega arith))
      (also (yields_bind yields_loc λ l p. yields_bind yields_name λ m t. yields_ret (SA l m) ((p, t), omega arith))
      none_left)))))

  yields_sexp_at : (d : ℕ) → Yields k (λ s. SexpFields s × (cons_depth s ≤ d)) (sexp_at d)
  unfolding sexp_at cons_rule SexpFields cons_depth
  yields_sexp_at zero = yields_sexp_rule zero _ (yields_refuse over_limit)
  yields_sexp_at (suc d) = yields_sexp_rule (suc d) _
      (yields_bind yields_loc λ l p. yields_bind (yields_sexp_at d) λ h q. yields_bind (yields_sexp_at d) λ t u. yields_ret (SC l h t) ((p, q.0, u.0), omega (arith, q.1, u.1)))

  yields_sexp : Yields k ValidSexp sexp
  unfolding sexp
  yields_sexp = yields_sexp_at cons_limit

  yields_pattern_after : (b : ℕ) → Yields k ValidPattern (pattern_after b)
  unfolding pattern_after ValidPattern
  yields_pattern_after zero = yields_bind yields_name λ m p. yields_ret (Name m) p
  yields_pattern_after (suc b) = yields_bind yields_sexp λ s p. yields_ret (Complex s) p

  yields_pattern_of : Yields k ValidPattern pattern_of
  unfolding pattern_of
  yields_pattern_of = yields_bind (yields_up_to 1) λ b _. yields_pattern_after b

-- the fields, and how deep BF nest
abbrev pub BodyWithin : ℕ → Body → Type 0
BodyWithin k b = BodyFields b × (lambda_depth b ≤ k)

abbrev pub BindingWithin : ℕ → Binding → Type 0
BindingWithin k b = BindingFields b × (binding_lambda_depth b ≤ k)

abbrev pub TailWithin : ℕ → Tail → Type 0
TailWithin k t = TailFields t × (tail_lambda_depth t ≤ k)

abbrev pub HelperWithin : ℕ → Helper → Type 0
HelperWithin k h = HelperFields h × (helper_lambda_depth h ≤ k)

abbrev pub FormWithin : ℕ → Form → Type 0
FormWithin k f = FormFields f × (form_lambda_depth f ≤ k)

bodies_within : {k : ℕ} (l : List Body) → Each (BodyWithin k) l → BodiesFields (to_bodies l) × (bodies_lambda_depth (to_bodies l) ≤ k)
unfolding Each to_bodies BodiesFields bodies_lambda_depth
bodies_within [] s = (tt, omega arith)
bodies_within (b ∷ l) s = let t = bodies_within l s.1 in ((s.0.0, t.0), omega (arith, s.0.1, t.1))

bindings_within : {k : ℕ} (l : List Binding) → Each (BindingWithin k) l → BindingsFields (to_bindings l) × (bindings_lambda_depth (to_bindings l) ≤ k)
unfolding Each to_bindings BindingsFields bindings_lambda_depth
bindings_within [] s = (tt, omega arith)
bindings_within (b ∷ l) s = let t = bindings_within l s.1 in ((s.0.0, t.0), omega (arith, s.0.1, t.1))

helpers_within : {k : ℕ} (l : List Helper) → Each (HelperWithin k) l → HelpersFields (to_helpers l) × (helpers_lambda_depth (to_helpers l) ≤ k)
unfolding Each to_helpers HelpersFields helpers_lambda_depth
helpers_within [] s = (tt, omega arith)
helpers_within (b ∷ l) s = let t = helpers_within l s.1 in ((s.0.0, t.0), omega (arith, s.0.1, t.1))

-- whatever r reads has fields within their limits
pub record ValidReaders (r : Readers) : Type 0 where
  pub body : (k : ℕ) → Yields k (BodyWithin k) r.body
  pub helper : (k : ℕ) → Yields k (HelperWithin k) r.helper
  pub form : (k : ℕ) → Yields k (FormWithin k) r.form

module _ (r : Readers) (v : ValidReaders r) where
  yields_binding : (k : ℕ) → Yields k (BindingWithin k) (binding r.body)
  unfolding binding BindingFields binding_lambda_depth
  yields_binding k = yields_marked
      (also (yields_bind yields_loc λ l p. yields_bind yields_loc λ nl q. yields_bind yields_pattern_of λ x s. yields_bind (v.body k) λ b t. yields_ret (BB l nl x b) ((p, q, s, t.0), t.1))
      none_left)

  yields_tail_after : (k b : ℕ) → Yields k (TailWithin k) (tail_after r.body b)
  unfolding tail_after TailFields tail_lambda_depth
  yields_tail_after k zero = yields_ret no_tail (tt, omega arith)
  yields_tail_after k (suc b) = yields_bind (v.body k) λ t p. yields_ret (tail t) p

  yields_call_tail : (k : ℕ) → Yields k (TailWithin k) (call_tail r.body)
  unfolding call_tail
  yields_call_tail k = yields_bind (yields_up_to 1) λ b _. yields_tail_after k b

  yields_let_of : (k : ℕ) (x : Kind) → Yields k (λ b. IsLet x b × BodyWithin k b) (let_of r x)
  unfolding let_of BodyFields lambda_depth IsLet
  yields_let_of k x = yields_bind yields_loc λ l p. yields_bind yields_keyword λ w q. yields_bind yields_hint λ h s. yields_bind yields_count λ n t. yields_deeper (more_levels x n)
      (yields_bind (yields_in_bindings x (yields_times n (yields_binding k))) λ bs u. yields_bind (v.body k) λ b y.
      let g = bindings_within bs u.0 in
      yields_ret (BL x l w h (to_bindings bs) b) (refl, ((p, q, s, omega (arith, t, u.1, bindings_counted bs), g.0, y.0), omega (arith, g.1, y.1))))

  yields_body_rule : (k : ℕ) → Yields k (BodyWithin k) (body_rule r)
  unfolding body_rule BodyFields lambda_depth ◌>>◌
  yields_body_rule k = yields_marked
      (also (yields_deeper 1 (yields_bind (yields_up_to 2) λ x _. weaken (λ b p. p.1) (yields_let_of k (kind_of x))))
      (also (yields_deeper 1 (yields_bind yields_sexp λ s p. yields_ret (BQ s) (p, omega arith)))
      (also (yields_deeper 1 (yields_bind yields_sexp λ s p. yields_ret (BV s) (p, omega arith)))
      (also (yields_deeper 1 (yields_bind yields_loc λ l p. yields_bind yields_count λ n q. yields_bind (yields_times n (v.body k)) λ bs s. yields_bind (yields_call_tail k) λ t u.
      let g = bodies_within bs s.0 in
      yields_ret (BC l (to_bodies bs) t) ((p, omega (arith, q, s.1, bodies_counted bs), g.0, u.0), omega (arith, g.1, u.1))))
      (also (yields_deeper 1 (yields_bind yields_note λ _ _. yields_bind yields_loc λ l p. yields_bind (yields_in_zone _ (v.form k)) λ f q. yields_ret (BM l f) ((p, q.0), q.1)))
      (also (yields_deeper 1 (yields_in_lambda k λ h. yields_bind yields_loc λ l p. yields_bind yields_keyword λ w q. yields_bind yields_sexp λ ca s. yields_bind (v.body (k - 1)) λ c t.
      yields_bind yields_sexp λ a u. yields_bind (v.body (k - 1)) λ b y. yields_ret (BF l w ca c a b) ((p, q, s, t.0, u, y.0), omega (arith, t.1, y.1))))
      none_left))))))

  yields_helper_rule : (k : ℕ) → Yields k (HelperWithin k) (helper_rule r)
  unfolding helper_rule HelperFields helper_lambda_depth
  yields_helper_rule k = yields_marked
      (also (yields_deeper 1 (yields_bind yields_loc λ l p. yields_bind yields_name λ m q. yields_bind yields_raw λ x s. yields_bind (v.body k) λ b t. yields_ret (HC l m x b) ((p, q, s, t.0), t.1)))
      (also (yields_deeper 1 (yields_bind yields_loc λ l p. yields_bind yields_name λ m q. yields_bind yields_raw λ x s. yields_bind yields_sexp λ a u. yields_bind (v.form k) λ f t.
      yields_ret (HM l m x a f) ((p, q, s, u, t.0), t.1)))
      (also (yields_deeper 1 (yields_bind yields_loc λ l p. yields_bind (yields_up_to 1) λ i o. yields_bind yields_name λ m q. yields_bind yields_raw λ x s. yields_bind yields_sexp λ a u. yields_bind (v.body k) λ b t.
      yields_ret (HD l i m x a b) ((p, o, q, s, u, t.0), t.1)))
      (also (yields_deeper 1 (yields_bind yields_loc λ l p. yields_bind yields_name λ m q. yields_bind yields_raw λ x s. yields_bind yields_count λ n t. yields_bind (yields_times n (v.helper k)) λ hs u.
      let g = helpers_within hs u.0 in
      yields_ret (HN l m x (to_helpers hs)) ((p, q, s, omega (arith, t, u.1, helpers_counted hs), g.0), g.1)))
      (also (yields_deeper 1 (yields_bind yields_loc λ l p. yields_bind yields_name λ m q. yields_bind yields_raw λ x s. yields_ret (HR l m x) ((p, q, s), omega arith)))
      none_left)))))

  yields_form_rule : (k : ℕ) → Yields k (FormWithin k) (form_rule r)
  unfolding form_rule FormFields form_lambda_depth
  yields_form_rule k = yields_marked
      (also (yields_deeper 1 (yields_bind yields_loc λ l p. yields_bind yields_raw λ x q. yields_bind yields_sexp λ a s. yields_bind yields_count λ n t. yields_bind (yields_times n (v.helper k)) λ hs u. yields_bind (v.body k) λ b y.
      let g = helpers_within hs u.0 in
      yields_ret (CF l x a (to_helpers hs) b) ((p, q, s, omega (arith, t, u.1, helpers_counted hs), g.0, y.0), omega (arith, g.1, y.1))))
      none_left)

  valid_rules : ValidReaders (rules r)
  unfolding rules
  valid_rules = record { body = yields_body_rule; helper = yields_helper_rule; form = yields_form_rule }

pub valid_readers : (fuel : ℕ) → ValidReaders (readers fuel)
unfolding readers
valid_readers zero = valid_rules _ (record { body = λ k. yields_refuse over_limit; helper = λ k. yields_refuse over_limit; form = λ k. yields_refuse over_limit })
valid_readers (suc fuel) = valid_rules _ (valid_readers fuel)

pub yields_assign_of : (k : ℕ) → Yields k (λ b. IsLet Assign b × BodyWithin k b) assign_of
unfolding assign_of
yields_assign_of k = yields_marked
    (also (yields_deeper 1 (yields_bind yields_next λ x _. yields_check malformed (eqb x 2) λ _. yields_let_of _ (valid_readers (level_limit - 1)) k Assign))
    none_left)

-- what is read whole
yields_whole : {A : Type 0} {P : A → Type 0} {m : Reader A} → Yields lambda_limit P m → (input : Bytes) (a : A) (o : Option ℕ) → AreBytes input → read_whole m input ≡ whole a o → P a
yields_whole {m} s input a o x h = let r = reads_whole m input a o h in (s.yields _ _ a r.end refl x r.ran).0

pub form_valid : (input : Bytes) (t : Form) (o : Option ℕ) → AreBytes input → read_whole (readers level_limit).form input ≡ whole t o → ValidForm t
form_valid input t o x h = let p = yields_whole ((valid_readers level_limit).form lambda_limit) input t o x h in (p.0, form_deep input t o h, p.1)

pub helper_valid : (input : Bytes) (t : Helper) (o : Option ℕ) → AreBytes input → read_whole (readers level_limit).helper input ≡ whole t o → ValidHelper t
helper_valid input t o x h = let p = yields_whole ((valid_readers level_limit).helper lambda_limit) input t o x h in (p.0, helper_deep input t o h, p.1)

pub assign_valid : (input : Bytes) (t : Body) (o : Option ℕ) → AreBytes input → read_whole assign_of input ≡ whole t o → ValidAssign t
assign_valid input t o x h = let p = yields_whole (yields_assign_of lambda_limit) input t o x h in (p.0, (p.1.0, assign_deep input t o h, p.1.1))
