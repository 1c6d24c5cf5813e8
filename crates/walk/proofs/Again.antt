-- Each rule keeps what Kept.antt says of a tree, no result is deeper (Limits.antt), and a step's record is at most F long; and no assign reached on the way has a BM in a binding body. Assumes nothing.
use mathlib.Core.Path.{◌≡◌, refl, ap}
use mathlib.Core.Bool.{Bool, true, false}
use mathlib.Core.List.Memᴰ
use mathlib.Core.List.{List, [], ◌∷◌, ◌++◌}
use mathlib.Core.Option.{Option, none, some}
use Prim.Native.Nat.{ℕ, zero, suc, ◌+◌, ◌-◌, ◌≤◌, ◌<◌}
use native.Mathlib.Omega.{arith}
use lib.Dec.{leb, leb→le}
use lib.ListN.{length, get_or}
use Rattle.names.specs.Names.{Bytes, ascii, same, name_limit, gensym}
use Rattle.names.specs.Maps.{NameMap}
use Rattle.records.specs.declared.Zone.{Zone}
use Rattle.records.specs.declared.Zone.TheVariants.{Plain}
use Rattle.records.specs.Limits.{level_limit, lambda_limit}
use Rattle.records.specs.Read.{binding_zone}
use Rattle.records.specs.Records.{Loc, Sexp, SN, SC, SI, SQ, SA, Pattern, Name, Complex, Body, BL, BQ, BV, BC, BM, BF, Bodies, []ᵇ, ◌∷ᵇ◌, Tail, no_tail, tail, Binding, BB, Helper, HC, HM, HD, HN, HR, Helpers, []ʰ, ◌∷ʰ◌, Form, CF, list_of, bodies_count, helpers_count, form_bytes, helper_bytes}
use Rattle.records.specs.declared.Kind.TheVariants.{Parallel, Sequential, Assign}
use Rattle.records.specs.Valid.{ValidName, ValidSexp, ValidPattern, BodyFields, HelperFields, FormFields, lambda_depth, helper_lambda_depth, form_lambda_depth, NoMod, HelperNoMod, FormNoMod}
use Rattle.records.proofs.Complete.{bindings_same}
use Rattle.records.proofs.Readers.{Any, T_of}
use Rattle.ordering.specs.Lawful.{◌is_in◌}
use Rattle.ordering.specs.Toposort.{Toposorted, ordered, deadlock}
use Rattle.ordering.specs.Words.{toposort_assign_bindings}
use Rattle.walk.specs.Steps.{M, Out, made, done, refused, over_long, Visit, refuse, out_of_fuel, ◌>>◌, after, step, child, further, add_to_sum, take_from_sum, fits, form_size, helper_size}
use Rattle.walk.specs.Invent.{name_too_long, draw, invent_new_names_sexp, rename_in_cons_step}
use Rattle.walk.specs.Patterns.{make_binding_unique, make_bindings_unique}
use Rattle.walk.specs.Bodyforms.{each_body, call_tail, each_binding_body, Rules, args_then_in, rename_args_let, rename_args_desugared, rename_args_sequential, rename_assign_binding, rename_assign_bindings, rename_args_ordered, rename_args_assign, rename_args_bodyform, in_elements, rename_in_bodyform, body_rules, walk, deadlocked, log_assign, logged, no_binding, rename_in_quoted, rename_in_value}
use Rattle.walk.specs.Helperforms.{FormRules, each_helper, further_helpers, rename_args_helperform, rename_in_helperform, rename_args_compileform, rename_in_compileform, rename_children_compileform, form_rules, form_walk, whole_walk, children_walk, helper_walk}
use Rattle.walk.proofs.All.{All, all_none, all_cons, all_append}
use Rattle.walk.proofs.Sizes.{order_below}
use Rattle.walk.proofs.Splits.{order_length}
use Rattle.walk.proofs.Kept.{Named, valid_cons, valid_atom, BodyKept, BodiesKept, TailKept, BindingKept, HelperKept, HelpersKept, FormKept, ListKept, all_at, LetKept, let_parts, let_kept, one_binding, kept_desugar}
use Rattle.walk.proofs.Keeping.{ClearIn, Fine, Fits, Gives, Keeps, KeepsForm, KeepsForms, KeepsHelper, KeepsRules, fine_after, gives_around, gives_bind, gives_either, gives_refuse, gives_ret, gives_weaken}

module _ (F : ℕ) where
  gives_add_to_sum : {z : Zone} (n : ℕ) → Gives z Any (add_to_sum F n)
  unfolding add_to_sum
  gives_add_to_sum {z} n = record { fine = λ c x. go c x (leb (x + n) F) }
    where
      go : (c x : ℕ) (b : Bool) → Fine {A = Unit {0}} z Any (elim b [ true ↦ done [] tt c (x + n) | false ↦ refused [] over_long ])
      go c x true = (all_none, tt)
      go c x false = all_none

  gives_take_from_sum : {z : Zone} (n : ℕ) → Gives z Any (take_from_sum F n)
  unfolding take_from_sum
  gives_take_from_sum n = record { fine = λ c x. (all_none, tt) }

  module _ {A : Type 0} {z : Zone} {P : A → Type 0} (size : A → ℕ) where
    -- a step's record is at most F long besides
    gives_fitting : {m : M A} → Gives z P m → Gives z (λ a. P a × (size a ≤ F)) (step F size m)
    unfolding step fits
    gives_fitting {m} s = record { fine = λ c x. go x (m c 0) (s.fine c 0) }
      where
        go₂ : (a : A) (c x : ℕ) → P a → (b : Bool) → leb (size a) F ≡ b → Fine {A = A} z (λ a. P a × (size a ≤ F)) (elim b [ true ↦ done [] a c x | false ↦ refused [] over_long ])
        go₂ a c x p true e = (all_none, (p, leb→le (size a) F (T_of e)))
        go₂ a c x p false e = all_none

        go : (x : ℕ) (o : Out A) → Fine z P o → Fine {A = A} z (λ a. P a × (size a ≤ F)) (elim o [ done log a c' x' ↦ after log (fits F size a c' x) | refused log r ↦ refused log r ])
        go x (done log a c' x') p = fine_after z _ log (fits F size a c' x) p.0 (go₂ a c' x p.1 (leb (size a) F) refl)
        go x (refused log r) q = q

    gives_step : {m : M A} → Gives z P m → Gives z P (step F size m)
    gives_step s = gives_weaken (λ a p. p.0) (gives_fitting s)

    gives_child : {m : M A} → Gives z P m → Gives z P (child F size m)
    unfolding child ◌>>◌
    gives_child s = gives_bind s λ a p. gives_bind (gives_add_to_sum (size a)) λ _ _. gives_ret a p

    gives_further : (f : A → M A) (old : A) → Gives z P (f old) → Gives z P (further F size old f)
    unfolding further ◌>>◌
    gives_further f old s = gives_bind s λ a p. gives_bind (gives_take_from_sum (size old)) λ _ _. gives_bind (gives_add_to_sum (size a)) λ _ _. gives_ret a p

  gives_draw : {z : Zone} (n : Bytes) → Gives z ValidName (draw n)
  unfolding draw
  gives_draw {z} n = record { fine = λ c x. go c x (leb (length (gensym n c)) name_limit) refl }
    where
      go : (c x : ℕ) (b : Bool) → leb (length (gensym n c)) name_limit ≡ b → Fine {A = Bytes} z ValidName (elim b [ true ↦ done (made n (gensym n c) ∷ []) (gensym n c) (c + 1) x | false ↦ refused [] name_too_long ])
      go c x true e = (all_none, leb→le (length (gensym n c)) name_limit (T_of e))
      go c x false e = all_none

  gives_invent_new_names_sexp : {z : Zone} (m : NameMap) (s : Sexp) → Named m → Gives z Named (invent_new_names_sexp m s)
  unfolding invent_new_names_sexp
  gives_invent_new_names_sexp m (SN l) n = gives_ret m n
  gives_invent_new_names_sexp m (SC l h t) n = gives_bind (gives_invent_new_names_sexp m h n) λ m' n'. gives_invent_new_names_sexp m' t n'
  gives_invent_new_names_sexp m (SI l v) n = gives_ret m n
  gives_invent_new_names_sexp m (SQ l q x) n = gives_ret m n
  gives_invent_new_names_sexp m (SA l x) n = gives_either (same x (ascii "@")) (gives_ret m n) (gives_bind (gives_draw x) λ x' p. gives_ret ((x, x') ∷ m) (all_cons p n))

  gives_rename_in_cons_step : {z : Zone} (qq : Bool) {m : NameMap} (s : Sexp) → Named m → ValidSexp s → Gives z ValidSexp (rename_in_cons_step F qq m s)
  unfolding rename_in_cons_step
  gives_rename_in_cons_step qq s n p = gives_step _ (gives_ret _ (valid_cons qq n s p))

  gives_make_binding_unique : {z : Zone} (p : Pattern) → ValidPattern p → Gives z (λ v. Named v.0 × ValidPattern v.1) (make_binding_unique F p)
  unfolding make_binding_unique ValidPattern
  gives_make_binding_unique (Name n) p = gives_bind (gives_draw n) λ n' q. gives_ret _ (all_cons q all_none, q)
  gives_make_binding_unique (Complex s) p =
      gives_bind (gives_invent_new_names_sexp [] s all_none) λ m n. gives_bind (gives_child _ (gives_rename_in_cons_step false s n p)) λ s' q. gives_ret _ (n, q)

  module _ {z : Zone} {k : ℕ} where
    gives_make_bindings_unique : {y : Zone} (m : NameMap) (bs : List Binding) → Named m → All (BindingKept z k) bs
        → Gives y (λ v. Named v.0 × ListKept z k (length bs) v.1) (make_bindings_unique F m bs)
    unfolding make_bindings_unique BodyFields lambda_depth NoMod
    gives_make_bindings_unique m [] n ps = gives_ret _ (n, (all_none, refl))
    gives_make_bindings_unique m (BB l nl p b ∷ bs) n (all_cons q ps) =
        gives_bind (gives_make_binding_unique p q.fields.2) λ u g. gives_bind (gives_make_bindings_unique (u.0 ++ m) bs (all_append g.0 n) ps) λ v h.
        gives_ret _ (h.0, (all_cons (record { fields = (q.fields.0, q.fields.1, g.1, q.fields.3); lambdas = q.lambdas; clear = q.clear }) h.1.0, ap suc h.1.1))

  module _ {f : Body → M Body} (s : Keeps f) (z : Zone) (k : ℕ) where
    gives_each_body : (bs : Bodies) → BodiesKept z k bs → Gives z (λ r. BodiesKept z k r × (bodies_count r ≡ bodies_count bs)) (each_body F f bs)
    unfolding each_body BodyFields lambda_depth NoMod bodies_count
    gives_each_body []ᵇ p = gives_ret _ (p, refl)
    gives_each_body (b ∷ᵇ bs) p =
        gives_bind (gives_child _ (s z k b (record { fields = p.fields.0; lambdas = omega arith; clear = p.clear.0 }))) λ b' q.
        gives_bind (gives_each_body bs (record { fields = p.fields.1; lambdas = omega arith; clear = p.clear.1 })) λ bs' r.
        gives_ret _ (record { fields = (q.fields, r.0.fields); lambdas = omega arith; clear = (q.clear, r.0.clear) }, ap suc r.1)

    gives_call_tail : (t : Tail) → TailKept z k t → Gives z (TailKept z k) (call_tail F f t)
    unfolding call_tail BodyFields lambda_depth NoMod
    gives_call_tail no_tail p = gives_ret _ p
    gives_call_tail (tail b) p =
        gives_bind (gives_child _ (s z k b (record { fields = p.fields; lambdas = p.lambdas; clear = p.clear }))) λ b' q. gives_ret _ (record { fields = q.fields; lambdas = q.lambdas; clear = q.clear })

    gives_each_binding_body : (bs : List Binding) → All (BindingKept z k) bs → Gives z (ListKept z k (length bs)) (each_binding_body F f bs)
    unfolding each_binding_body BodyFields lambda_depth NoMod
    gives_each_binding_body [] ps = gives_ret _ (all_none, refl)
    gives_each_binding_body (BB l nl p b ∷ bs) (all_cons q ps) =
        gives_bind (gives_child _ (s z k b (record { fields = q.fields.3; lambdas = q.lambdas; clear = q.clear }))) λ b' g. gives_bind (gives_each_binding_body bs ps) λ bs' h.
        gives_ret _ (all_cons (record { fields = (q.fields.0, q.fields.1, q.fields.2, g.fields); lambdas = g.lambdas; clear = g.clear }) h.0, ap suc h.1)

  module _ {r : Rules} (s : KeepsRules r) {z : Zone} {k : ℕ} where
    gives_args_then_in : {m : NameMap} {b : Body} → Named m → BodyKept z k b → Gives z (BodyKept z k) (args_then_in F r m b)
    unfolding args_then_in
    gives_args_then_in n p = gives_bind (gives_child _ (s.args_bodyform z k _ p)) λ o q. gives_further _ _ o (s.in_bodyform _ n z k o q)

    gives_rename_args_let : {l : Loc} {w h : Bytes} {bs : List Binding} {b : Body} → LetKept Parallel z k l w h bs b → Gives z (BodyKept z k) (rename_args_let F r l w h bs b)
    unfolding rename_args_let
    gives_rename_args_let {bs} p =
        gives_bind (gives_make_bindings_unique [] bs all_none p.bindings) λ u e. gives_bind (gives_around Parallel z (gives_each_binding_body s.args_bodyform _ k u.1 e.1.0)) λ v g.
        gives_bind (gives_args_then_in e.0 p.body) λ b' q.
        gives_ret _ (let_kept (record { loc = p.loc; keyword = p.keyword; hint = p.hint; count = omega arith; bindings = g.0; body = q }))

    gives_rename_args_desugared : (bs : List Binding) {b : Body} → All (BindingKept z k) bs → BodyKept z k b → Gives z (BodyKept z k) (rename_args_desugared F r bs b)
    unfolding rename_args_desugared
    gives_rename_args_desugared [] ps q = s.args_bodyform z k _ q
    gives_rename_args_desugared (BB l nl p e ∷ bs) (all_cons g ps) q = gives_step _ (gives_rename_args_let (one_binding g (kept_desugar bs ps q)))

    gives_rename_args_sequential : (bs : List Binding) {b : Body} → All (BindingKept z k) bs → BodyKept z k b → Gives z (BodyKept z k) (rename_args_sequential F r bs b)
    unfolding rename_args_sequential
    gives_rename_args_sequential bs ps q = gives_bind {P = Any} (gives_child _ (gives_ret _ tt)) λ d _. gives_further _ _ d (gives_rename_args_desugared bs ps q)

    gives_rename_assign_binding : (m : NameMap) (b : Binding) → Named m → BindingKept z k b → Gives z (λ v. Named v.0 × BindingKept z k v.1) (rename_assign_binding F r m b)
    unfolding rename_assign_binding BodyFields ValidPattern lambda_depth NoMod
    gives_rename_assign_binding m (BB l nl (Name x) b) n q = gives_ret _ (n, q)
    gives_rename_assign_binding m (BB l nl (Complex p) b) n q =
        gives_bind (gives_invent_new_names_sexp m p n) λ m' n'.
        gives_bind (gives_child _ (s.args_bodyform z k b (record { fields = q.fields.3; lambdas = q.lambdas; clear = q.clear }))) λ o g.
        gives_bind (gives_child _ (gives_rename_in_cons_step false p n' q.fields.2)) λ p' h. gives_bind (gives_further _ _ o (s.in_bodyform m' n' z k o g)) λ b' i.
        gives_ret _ (n', record { fields = (q.fields.0, q.fields.1, h, i.fields); lambdas = i.lambdas; clear = i.clear })

    gives_rename_assign_bindings : (bs : List Binding) (is : List ℕ) (m : NameMap) (w : List Binding) → All (BindingKept z k) bs → ((i : ℕ) → i is_in is → i < length bs) → Named m → All (BindingKept z k) w
        → Gives z (λ v. Named v.0 × ListKept z k (length is + length w) v.1) (rename_assign_bindings F r bs is m w)
    unfolding rename_assign_bindings
    gives_rename_assign_bindings bs [] m w ps h n qs = gives_ret _ (n, (qs, omega arith))
    gives_rename_assign_bindings bs (i ∷ is) m w ps h n qs =
        gives_bind (gives_rename_assign_binding m (get_or bs i no_binding) n (all_at no_binding ps i (h i (Memᴰ.head refl)))) λ u g.
        gives_weaken (λ v q. (q.0, (q.1.0, omega arith))) (gives_rename_assign_bindings bs is u.0 (u.1 ∷ w) ps (λ j y. h j (Memᴰ.tail y)) g.0 (all_cons g.1 qs))

  module _ {r : Rules} (s : KeepsRules r) where
    gives_rename_args_assign : {z : Zone} {k : ℕ} {l : Loc} {w h : Bytes} {bs : List Binding} {b : Body} → LetKept Assign z k l w h bs b → Gives z (BodyKept z k) (rename_args_assign F r l w h bs b)
    unfolding rename_args_assign rename_args_ordered
    gives_rename_args_assign {z} {k} {l} {w} {h} {bs} {b} p = go (toposort_assign_bindings bs) refl
      where
        go : (o : Toposorted) → toposort_assign_bindings bs ≡ o
            → Gives z (BodyKept z k) (elim o as (λ _. M Body) [ deadlock _ ↦ refuse (deadlocked l) | ordered is ↦ rename_args_ordered F r l w h bs b is ])
        go (deadlock left) e = gives_refuse (deadlocked l)
        go (ordered is) e =
            gives_bind (gives_around Assign z (gives_rename_assign_bindings s bs is [] [] p.bindings (order_below bs is e) all_none all_none)) λ u g. gives_bind (gives_args_then_in s g.0 p.body) λ b' q.
            gives_ret _ (let_kept (record { loc = p.loc; keyword = p.keyword; hint = p.hint; count = omega (arith, p.count, g.1.1, order_length bs is e); bindings = g.1.0; body = q }))

    gives_rename_args_bodyform : Keeps (rename_args_bodyform F r)
    unfolding rename_args_bodyform BodyFields lambda_depth NoMod binding_zone
    gives_rename_args_bodyform z k (BL Parallel l w h bs b) p = gives_rename_args_let s (let_parts p)
    gives_rename_args_bodyform z k (BL Sequential l w h bs b) p = let q = let_parts p in gives_rename_args_sequential s (list_of bs) q.bindings q.body
    gives_rename_args_bodyform z k (BL Assign l w h bs b) p = gives_rename_args_assign (let_parts p)
    gives_rename_args_bodyform z k (BQ x) p = gives_ret _ p
    gives_rename_args_bodyform z k (BV x) p = gives_ret _ p
    gives_rename_args_bodyform z k (BC l bs t) p =
        gives_bind (gives_each_body s.args_bodyform z k bs (record { fields = p.fields.2; lambdas = omega arith; clear = p.clear.0 })) λ bs' q.
        gives_bind (gives_call_tail s.args_bodyform z k t (record { fields = p.fields.3; lambdas = omega arith; clear = p.clear.1 })) λ t' g.
        gives_ret _ (record { fields = (p.fields.0, omega arith, q.0.fields, g.fields); lambdas = omega arith; clear = (q.0.clear, g.clear) })
    gives_rename_args_bodyform z k (BM l f) p = gives_ret _ p
    gives_rename_args_bodyform z k (BF l w ca c a b) p =
        gives_bind (gives_invent_new_names_sexp [] a all_none) λ m n. gives_bind (gives_child _ (gives_rename_in_cons_step false a n p.fields.4)) λ a' q.
        gives_bind (gives_args_then_in s {z = z} {k = k - 1} {b = b} n (record { fields = p.fields.5; lambdas = omega arith; clear = p.clear.1 })) λ b' g.
        gives_ret _ (record { fields = (p.fields.0, p.fields.1, p.fields.2, p.fields.3, q, g.fields); lambdas = omega arith; clear = (p.clear.0, g.clear) })

    gives_in_elements : (m : NameMap) → Named m → (z : Zone) (k : ℕ) (bs : Bodies) → BodiesKept z k bs → Gives z (λ r. BodiesKept z k r × (bodies_count r ≡ bodies_count bs)) (in_elements F r m bs)
    unfolding in_elements BodyFields lambda_depth NoMod bodies_count
    gives_in_elements m n z k []ᵇ p = gives_ret _ (p, refl)
    gives_in_elements m n z k (b ∷ᵇ bs) p =
        let u : BodyKept z k b = record { fields = p.fields.0; lambdas = omega arith; clear = p.clear.0 } in
        gives_bind (gives_child _ (s.in_bodyform m n z k b u)) λ b' _. gives_bind {P = BodyKept z k} (gives_further _ _ b' (gives_ret b u)) λ b'' q.
        gives_bind (gives_each_body (s.in_bodyform m n) z k bs (record { fields = p.fields.1; lambdas = omega arith; clear = p.clear.1 })) λ bs' g.
        gives_ret _ (record { fields = (q.fields, g.0.fields); lambdas = omega arith; clear = (q.clear, g.0.clear) }, ap suc g.1)

    gives_rename_in_bodyform : (m : NameMap) → Named m → Keeps (rename_in_bodyform F r m)
    unfolding rename_in_quoted rename_in_value rename_in_bodyform BodyFields lambda_depth NoMod
    gives_rename_in_bodyform m n z k (BL x l w h bs b) p =
        let q = let_parts p in
        gives_bind (gives_around x z (gives_each_binding_body (s.in_bodyform m n) (binding_zone x z) k (list_of bs) q.bindings)) λ bs' g. gives_bind (gives_child _ (s.in_bodyform m n z k b q.body)) λ b' i.
        gives_ret _ (let_kept (record { loc = q.loc; keyword = q.keyword; hint = q.hint; count = omega arith; bindings = g.0; body = i }))
    gives_rename_in_bodyform m n z k (BQ x) p = gives_ret _ (record { fields = valid_atom n x p.fields; lambdas = omega arith; clear = tt })
    gives_rename_in_bodyform m n z k (BV x) p = gives_ret _ (record { fields = valid_atom n x p.fields; lambdas = omega arith; clear = tt })
    gives_rename_in_bodyform m n z k (BC l bs t) p =
        gives_bind (gives_in_elements m n z k bs (record { fields = p.fields.2; lambdas = omega arith; clear = p.clear.0 })) λ bs' q.
        gives_bind (gives_call_tail (s.in_bodyform m n) z k t (record { fields = p.fields.3; lambdas = omega arith; clear = p.clear.1 })) λ t' g.
        gives_ret _ (record { fields = (p.fields.0, omega arith, q.0.fields, g.fields); lambdas = omega arith; clear = (q.0.clear, g.clear) })
    gives_rename_in_bodyform m n z k (BM l f) p = gives_ret _ p
    gives_rename_in_bodyform m n z k (BF l w ca c a b) p =
        gives_bind (gives_child _ (s.in_bodyform m n z (k - 1) c (record { fields = p.fields.3; lambdas = omega arith; clear = p.clear.0 }))) λ c' q.
        gives_bind (gives_child _ (gives_rename_in_cons_step false ca n p.fields.2)) λ ca' i.
        gives_bind (gives_args_then_in s {z = z} {k = k - 1} {b = b} n (record { fields = p.fields.5; lambdas = omega arith; clear = p.clear.1 })) λ b' g.
        gives_ret _ (record { fields = (p.fields.0, p.fields.1, i, q.fields, p.fields.4, g.fields); lambdas = omega arith; clear = (q.clear, g.clear) })

  fine_logged : (z : Zone) (P : Body → Type 0) (e : Option Body → Visit) → ((o : Option Body) → ClearIn z (e o)) → (o : Out Body) → Fine z P o → Fine z P (logged e o)
  unfolding logged
  fine_logged z P e h (done log a c x) f = (all_cons (h (some a)) f.0, f.1)
  fine_logged z P e h (refused log r) f = all_cons (h none) f

  gives_log_assign : {z : Zone} {k : ℕ} {P : Body → Type 0} {m : M Body} (b : Body) → BodyKept z k b → Gives z P m → Gives z P (log_assign b m)
  unfolding log_assign NoMod
  gives_log_assign (BL Parallel l w h bs b) p s = s
  gives_log_assign (BL Sequential l w h bs b) p s = s
  gives_log_assign {z} {P = P} {m} (BL Assign l w h bs b) p s = record { fine = λ c x. fine_logged z P _ (λ o. rw (bindings_same bs) p.clear.0) (m c x) (s.fine c x) }
  gives_log_assign (BQ x) p s = s
  gives_log_assign (BV x) p s = s
  gives_log_assign (BC l bs t) p s = s
  gives_log_assign (BM l f) p s = s
  gives_log_assign (BF l w ca c a b) p s = s

  pub keeps_walk : (fuel : ℕ) → KeepsRules (walk F fuel)
  unfolding walk body_rules
  keeps_walk zero = record { args_bodyform = λ z k b p. gives_refuse out_of_fuel; in_bodyform = λ m n z k b p. gives_refuse out_of_fuel }
  keeps_walk (suc fuel) =
      let s = keeps_walk fuel in
      record { args_bodyform = λ z k b p. gives_log_assign b p (gives_step _ (gives_rename_args_bodyform s z k b p)); in_bodyform = λ m n z k b p. gives_step _ (gives_rename_in_bodyform s m n z k b p) }

  module _ {f : Helper → M Helper} (s : KeepsHelper f) (z : Zone) (k : ℕ) where
    gives_each_helper : (xs : Helpers) → HelpersKept z k xs → Gives z (λ r. HelpersKept z k r × (helpers_count r ≡ helpers_count xs)) (each_helper F f xs)
    unfolding each_helper HelperFields helper_lambda_depth HelperNoMod helpers_count
    gives_each_helper []ʰ p = gives_ret _ (p, refl)
    gives_each_helper (x ∷ʰ xs) p =
        gives_bind (gives_child _ (s z k x (record { fields = p.fields.0; lambdas = omega arith; clear = p.clear.0 }))) λ x' q.
        gives_bind (gives_each_helper xs (record { fields = p.fields.1; lambdas = omega arith; clear = p.clear.1 })) λ xs' r.
        gives_ret _ (record { fields = (q.fields, r.0.fields); lambdas = omega arith; clear = (q.clear, r.0.clear) }, ap suc r.1)

    gives_further_helpers : (xs : Helpers) → HelpersKept z k xs → Gives z (λ r. HelpersKept z k r × (helpers_count r ≡ helpers_count xs)) (further_helpers F f xs)
    unfolding further_helpers HelperFields helper_lambda_depth HelperNoMod helpers_count
    gives_further_helpers []ʰ p = gives_ret _ (p, refl)
    gives_further_helpers (x ∷ʰ xs) p =
        gives_bind (gives_further _ _ x (s z k x (record { fields = p.fields.0; lambdas = omega arith; clear = p.clear.0 }))) λ x' q.
        gives_bind (gives_further_helpers xs (record { fields = p.fields.1; lambdas = omega arith; clear = p.clear.1 })) λ xs' r.
        gives_ret _ (record { fields = (q.fields, r.0.fields); lambdas = omega arith; clear = (q.clear, r.0.clear) }, ap suc r.1)

  module _ {r : Rules} {q : FormRules} (s : KeepsRules r) (t : KeepsForms q) where
    gives_rename_args_helperform : KeepsHelper (rename_args_helperform F r q)
    unfolding rename_args_helperform HelperFields helper_lambda_depth HelperNoMod
    gives_rename_args_helperform z k (HC l x y b) p =
        gives_bind (gives_child _ (s.args_bodyform z k b (record { fields = p.fields.3; lambdas = p.lambdas; clear = p.clear }))) λ b' g.
        gives_ret _ (record { fields = (p.fields.0, p.fields.1, p.fields.2, g.fields); lambdas = g.lambdas; clear = g.clear })
    gives_rename_args_helperform z k (HM l x y a f) p =
        gives_bind (gives_invent_new_names_sexp [] a all_none) λ m n. gives_bind (gives_child _ (gives_rename_in_cons_step true a n p.fields.3)) λ a' i.
        gives_bind (gives_child _ (t.args_compileform z k f (record { fields = p.fields.4; lambdas = p.lambdas; clear = p.clear }))) λ f' g.
        gives_bind (gives_further _ _ f' (t.in_compileform m n z k f' g)) λ f'' h.
        gives_ret _ (record { fields = (p.fields.0, p.fields.1, p.fields.2, i, h.fields); lambdas = h.lambdas; clear = h.clear })
    gives_rename_args_helperform z k (HD l j x y a b) p =
        gives_bind (gives_invent_new_names_sexp [] a all_none) λ m n. gives_bind (gives_child _ (gives_rename_in_cons_step true a n p.fields.4)) λ a' i.
        gives_bind (gives_args_then_in s {z = z} {k = k} {b = b} n (record { fields = p.fields.5; lambdas = p.lambdas; clear = p.clear })) λ b' g.
        gives_ret _ (record { fields = (p.fields.0, p.fields.1, p.fields.2, p.fields.3, i, g.fields); lambdas = g.lambdas; clear = g.clear })
    gives_rename_args_helperform z k (HN l x y hs) p =
        gives_bind (gives_each_helper t.args_helperform z k hs (record { fields = p.fields.4; lambdas = p.lambdas; clear = p.clear })) λ hs' g.
        gives_ret _ (record { fields = (p.fields.0, p.fields.1, p.fields.2, omega arith, g.0.fields); lambdas = g.0.lambdas; clear = g.0.clear })
    gives_rename_args_helperform z k (HR l x y) p = gives_ret _ p

    gives_rename_in_helperform : (m : NameMap) → Named m → KeepsHelper (rename_in_helperform F r q m)
    unfolding rename_in_helperform HelperFields helper_lambda_depth HelperNoMod
    gives_rename_in_helperform m n z k (HC l x y b) p =
        gives_bind (gives_child _ (s.in_bodyform m n z k b (record { fields = p.fields.3; lambdas = p.lambdas; clear = p.clear }))) λ b' g.
        gives_ret _ (record { fields = (p.fields.0, p.fields.1, p.fields.2, g.fields); lambdas = g.lambdas; clear = g.clear })
    gives_rename_in_helperform m n z k (HM l x y a f) p =
        gives_bind (gives_child _ (t.in_compileform m n z k f (record { fields = p.fields.4; lambdas = p.lambdas; clear = p.clear }))) λ f' g.
        gives_ret _ (record { fields = (p.fields.0, p.fields.1, p.fields.2, p.fields.3, g.fields); lambdas = g.lambdas; clear = g.clear })
    gives_rename_in_helperform m n z k (HD l j x y a b) p =
        gives_bind (gives_child _ (s.in_bodyform m n z k b (record { fields = p.fields.5; lambdas = p.lambdas; clear = p.clear }))) λ b' g.
        gives_ret _ (record { fields = (p.fields.0, p.fields.1, p.fields.2, p.fields.3, p.fields.4, g.fields); lambdas = g.lambdas; clear = g.clear })
    gives_rename_in_helperform m n z k (HN l x y hs) p = gives_ret _ p
    gives_rename_in_helperform m n z k (HR l x y) p = gives_ret _ p

    gives_rename_args_compileform : KeepsForm (rename_args_compileform F r q)
    unfolding rename_args_compileform FormFields form_lambda_depth FormNoMod
    gives_rename_args_compileform z k (CF l x a hs b) p =
        gives_bind (gives_invent_new_names_sexp [] a all_none) λ m n. gives_bind (gives_child _ (gives_rename_in_cons_step true a n p.fields.2)) λ a' i.
        gives_bind (gives_each_helper t.args_helperform z k hs (record { fields = p.fields.4; lambdas = omega arith; clear = p.clear.0 })) λ hs' g.
        gives_bind (gives_child _ (s.args_bodyform z k b (record { fields = p.fields.5; lambdas = omega arith; clear = p.clear.1 }))) λ b' h.
        gives_bind (gives_further_helpers (t.in_helperform m n) z k hs' g.0) λ hs'' u. gives_bind (gives_further _ _ b' (s.in_bodyform m n z k b' h)) λ b'' v.
        gives_ret _ (record {
          fields = (p.fields.0, p.fields.1, i, omega arith, u.0.fields, v.fields);
          lambdas = omega arith;
          clear = (u.0.clear, v.clear);
        })

    gives_rename_in_compileform : (m : NameMap) → Named m → KeepsForm (rename_in_compileform F r q m)
    unfolding rename_in_compileform FormFields form_lambda_depth FormNoMod
    gives_rename_in_compileform m n z k (CF l x a hs b) p =
        gives_bind (gives_each_helper (t.in_helperform m n) z k hs (record { fields = p.fields.4; lambdas = omega arith; clear = p.clear.0 })) λ hs' g.
        gives_bind (gives_child _ (s.in_bodyform m n z k b (record { fields = p.fields.5; lambdas = omega arith; clear = p.clear.1 }))) λ b' h.
        gives_ret _ (record {
          fields = (p.fields.0, p.fields.1, p.fields.2, omega arith, g.0.fields, h.fields);
          lambdas = omega arith;
          clear = (g.0.clear, h.clear);
        })

    gives_rename_children_compileform : KeepsForm (rename_children_compileform F r q)
    unfolding rename_children_compileform FormFields form_lambda_depth FormNoMod
    gives_rename_children_compileform z k (CF l x a hs b) p =
        gives_bind (gives_each_helper t.args_helperform z k hs (record { fields = p.fields.4; lambdas = omega arith; clear = p.clear.0 })) λ hs' g.
        gives_bind (gives_child _ (s.args_bodyform z k b (record { fields = p.fields.5; lambdas = omega arith; clear = p.clear.1 }))) λ b' h.
        gives_ret _ (record {
          fields = (p.fields.0, p.fields.1, p.fields.2, omega arith, g.0.fields, h.fields);
          lambdas = omega arith;
          clear = (g.0.clear, h.clear);
        })

  pub keeps_form_walk : (fuel : ℕ) → KeepsForms (form_walk F fuel)
  unfolding form_walk form_rules
  keeps_form_walk zero = record {
    args_helperform = λ z k x p. gives_refuse out_of_fuel;
    in_helperform = λ m n z k x p. gives_refuse out_of_fuel;
    args_compileform = λ z k f p. gives_refuse out_of_fuel;
    in_compileform = λ m n z k f p. gives_refuse out_of_fuel;
  }
  keeps_form_walk (suc fuel) =
      let s = keeps_walk fuel in
      let t = keeps_form_walk fuel in
      record {
        args_helperform = λ z k x p. gives_step _ (gives_rename_args_helperform s t z k x p);
        in_helperform = λ m n z k x p. gives_step _ (gives_rename_in_helperform s t m n z k x p);
        args_compileform = λ z k f p. gives_step _ (gives_rename_args_compileform s t z k f p);
        in_compileform = λ m n z k f p. gives_step _ (gives_rename_in_compileform s t m n z k f p);
      }

  -- the walks of the three calls
  pub whole_keeps : (f : Form) → FormKept Plain lambda_limit f → Gives Plain (Fits F form_bytes (FormKept Plain lambda_limit)) (whole_walk F f)
  unfolding whole_walk form_walk form_rules form_size
  whole_keeps f p = gives_fitting _ (gives_rename_args_compileform (keeps_walk (level_limit - 1)) (keeps_form_walk (level_limit - 1)) Plain lambda_limit f p)

  pub children_keeps : (f : Form) → FormKept Plain lambda_limit f → Gives Plain (Fits F form_bytes (FormKept Plain lambda_limit)) (children_walk F f)
  unfolding children_walk form_size
  children_keeps f p = gives_fitting _ (gives_rename_children_compileform (keeps_walk (level_limit - 1)) (keeps_form_walk (level_limit - 1)) Plain lambda_limit f p)

  pub helper_keeps : (x : Helper) → HelperKept Plain lambda_limit x → Gives Plain (Fits F helper_bytes (HelperKept Plain lambda_limit)) (helper_walk F x)
  unfolding helper_walk form_walk form_rules helper_size
  helper_keeps x p = gives_fitting _ (gives_rename_args_helperform (keeps_walk (level_limit - 1)) (keeps_form_walk (level_limit - 1)) Plain lambda_limit x p)
