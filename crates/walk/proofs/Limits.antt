-- A rule with fuel d, on a record at most d deep that has n atoms (specs/Draws.antt), refuses with 5, 6 or 7 alone (and so never runs out of fuel), draws at most n times 2 to the d numbers, and gives back a record no deeper and with no more atoms. Assumes nothing.
use mathlib.Core.Path.{◌≡◌, refl, ap, ◌∙◌}
use mathlib.Core.Logic.{inl, inr}
use mathlib.Core.Bool.{Bool, true, false}
use mathlib.Core.List.Memᴰ
use mathlib.Core.List.{List, [], ◌∷◌, ◌++◌}
use mathlib.Core.Option.{Option, none, some}
use Prim.Native.Nat.{ℕ, zero, suc, ◌+◌, ◌≤◌, ◌<◌, max}
use native.Mathlib.Omega.{arith}
use lib.Dec.{leb}
use lib.ListN.{length, get_or}
use Rattle.names.specs.Names.{Bytes, ascii, same, name_limit, gensym}
use Rattle.names.specs.Maps.{NameMap}
use Rattle.records.specs.Depth.{levels, depth, bodies_depth, tail_depth, binding_depth, list_depth}
use Rattle.records.specs.Records.{Loc, Sexp, SN, SC, SI, SQ, SA, Pattern, Name, Complex, Body, BL, BQ, BV, BC, BM, BF, Bodies, []ᵇ, ◌∷ᵇ◌, Tail, no_tail, tail, Binding, BB, list_of, bindings_count}
use Rattle.records.specs.declared.Kind.TheVariants.{Parallel, Sequential, Assign}
use Rattle.records.proofs.Exact.{bindings_counted}
use Rattle.records.proofs.Readers.{Any}
use Rattle.ordering.specs.Lawful.{◌is_in◌}
use Rattle.ordering.specs.Toposort.{Toposorted, ordered, deadlock}
use Rattle.ordering.specs.Words.{toposort_assign_bindings}
use Rattle.walk.specs.Steps.{M, Out, made, done, refused, over_long, Visit, refuse, ◌>>◌, after, step, child, further, add_to_sum, take_from_sum, fits}
use Rattle.walk.specs.Invent.{name_too_long, draw, invent_new_names_sexp, rename_in_cons_step}
use Rattle.walk.specs.Patterns.{make_binding_unique, make_bindings_unique}
use Rattle.walk.specs.Bodyforms.{desugar_sequential_let_bindings, each_body, call_tail, each_binding_body, Rules, args_then_in, rename_args_let, rename_args_desugared, rename_args_sequential, rename_assign_binding, rename_assign_bindings, rename_args_ordered, rename_args_assign, rename_args_bodyform, in_elements, rename_in_bodyform, body_rules, walk, deadlocked, log_assign, logged, no_binding, rename_in_quoted, rename_in_value}
use Rattle.walk.specs.Draws.{dbl, sexp_atoms, pattern_atoms, atoms, bodies_atoms, tail_atoms, binding_atoms, bindings_atoms, patterns_of, inside_of, list_atoms}
use Rattle.records.proofs.Lists.{list_count}
use Rattle.walk.proofs.All.{all_none, all_cons}
use Rattle.walk.proofs.Sizes.{dbl_add, dbl_mono, dbl_least, dbl_twice, sum_at, order_below, order_sum, depth_to_bindings, depth_list_of, depth_desugar, positive, pick_depth, atoms_desugar, some_level}
use Rattle.walk.proofs.Atoms.{list_parts, atoms_to_bindings, atoms_list_of, most_cons}
use Rattle.walk.proofs.RunBounds.{Below, Fine, Like, Runs, Small, fine_after, runs_bind, runs_deadlock, runs_more, runs_ret, runs_weaken}

module _ (F : ℕ) where
  runs_add_to_sum : (n : ℕ) → Runs 0 Any (add_to_sum F n)
  unfolding add_to_sum
  runs_add_to_sum n = record { fine = λ c x. go c x (leb (x + n) F) }
    where
      go : (c x : ℕ) (b : Bool) → Fine {A = Unit {0}} 0 Any c (elim b [ true ↦ done [] tt c (x + n) | false ↦ refused [] over_long ])
      go c x true = (all_none, omega arith, tt)
      go c x false = (all_none, inr (inr refl))

  runs_take_from_sum : (n : ℕ) → Runs 0 Any (take_from_sum F n)
  unfolding take_from_sum
  runs_take_from_sum n = record { fine = λ c x. (all_none, omega arith, tt) }

  module _ {A : Type 0} {P : A → Type 0} {n : ℕ} (size : A → ℕ) where
    pub runs_step : {m : M A} → Runs n P m → Runs n P (step F size m)
    unfolding step fits
    runs_step {m} s = record { fine = λ c x. go c x (m c 0) (s.fine c 0) }
      where
        go₂ : (c : ℕ) (a : A) (c' x : ℕ) → (c' ≤ c + n) × P a → (b : Bool) → Fine {A = A} n P c (elim b [ true ↦ done [] a c' x | false ↦ refused [] over_long ])
        go₂ c a c' x p true = (all_none, p.0, p.1)
        go₂ c a c' x p false = (all_none, inr (inr refl))

        go : (c x : ℕ) (o : Out A) → Fine n P c o → Fine {A = A} n P c (elim o [ done log a c' x' ↦ after log (fits F size a c' x) | refused log r ↦ refused log r ])
        go c x (done log a c' x') f = fine_after n P c log (fits F size a c' x) f.0 (go₂ c a c' x (f.1, f.2) (leb (size a) F))
        go c x (refused log r) f = f

    pub runs_child : {m : M A} → Runs n P m → Runs n P (child F size m)
    unfolding child ◌>>◌
    runs_child s = runs_more (omega arith) (runs_bind s λ a p. runs_bind (runs_add_to_sum (size a)) λ _ _. runs_ret {n = 0} a p)

    pub runs_further : (f : A → M A) (old : A) → Runs n P (f old) → Runs n P (further F size old f)
    unfolding further ◌>>◌
    runs_further f old s = runs_more (omega arith) (runs_bind s λ a p. runs_bind (runs_take_from_sum (size old)) λ _ _. runs_bind (runs_add_to_sum (size a)) λ _ _. runs_ret {n = 0} a p)

  pub runs_draw : (n : Bytes) → Runs 1 Any (draw n)
  unfolding draw
  runs_draw n = record { fine = λ c x. go c x (leb (length (gensym n c)) name_limit) }
    where
      go : (c x : ℕ) (b : Bool) → Fine {A = Bytes} 1 Any c (elim b [ true ↦ done (made n (gensym n c) ∷ []) (gensym n c) (c + 1) x | false ↦ refused [] name_too_long ])
      go c x true = (all_none, omega arith, tt)
      go c x false = (all_none, inr (inl refl))

  runs_either : {A : Type 0} {n : ℕ} {P : A → Type 0} {m k : M A} (b : Bool) → Runs n P m → Runs n P k → Runs {A = A} n P (elim b [ true ↦ m | false ↦ k ])
  runs_either true s t = s
  runs_either false s t = t

  pub runs_invent_new_names_sexp : (m : NameMap) (s : Sexp) → Runs (sexp_atoms s) Any (invent_new_names_sexp m s)
  unfolding invent_new_names_sexp sexp_atoms
  runs_invent_new_names_sexp m (SN l) = runs_ret m tt
  runs_invent_new_names_sexp m (SC l x y) = runs_bind (runs_invent_new_names_sexp m x) λ m' _. runs_invent_new_names_sexp m' y
  runs_invent_new_names_sexp m (SI l v) = runs_ret m tt
  runs_invent_new_names_sexp m (SQ l q n) = runs_ret m tt
  runs_invent_new_names_sexp m (SA l n) = runs_either (same n (ascii "@")) (runs_ret m tt) (runs_bind (runs_draw n) λ n' _. runs_ret {n = 0} ((n, n') ∷ m) tt)

  pub runs_rename_in_cons_step : (qq : Bool) (m : NameMap) (s : Sexp) → Runs 0 (λ r. sexp_atoms r ≤ sexp_atoms s) (rename_in_cons_step F qq m s)
  unfolding rename_in_cons_step
  runs_rename_in_cons_step qq m s = runs_step _ (runs_ret _ (most_cons qq m s).few)

  pub runs_make_binding_unique : (p : Pattern) → Runs (pattern_atoms p) (λ v. pattern_atoms v.1 ≤ pattern_atoms p) (make_binding_unique F p)
  unfolding make_binding_unique pattern_atoms
  runs_make_binding_unique (Name n) = runs_bind (runs_draw n) λ n' _. runs_ret {n = 0} _ (omega arith)
  runs_make_binding_unique (Complex s) = runs_more (omega arith) (runs_bind (runs_invent_new_names_sexp [] s) λ m _. runs_bind (runs_child _ (runs_rename_in_cons_step false m s)) λ s' q. runs_ret {n = 0} _ q)

  pub runs_make_bindings_unique : (m : NameMap) (bs : List Binding) → Runs (patterns_of bs) (λ v. Like bs v.1) (make_bindings_unique F m bs)
  unfolding make_bindings_unique patterns_of inside_of list_depth binding_depth
  runs_make_bindings_unique m [] = runs_ret _ (record { deep = omega arith; long = refl; patterns = omega arith; inside = omega arith })
  runs_make_bindings_unique m (BB l nl p b ∷ bs) =
      runs_more (omega arith)
      (runs_bind (runs_make_binding_unique p) λ u q. runs_bind (runs_make_bindings_unique (u.0 ++ m) bs) λ v e.
      runs_ret {n = 0} _ (record { deep = omega (arith, e.deep); long = ap suc e.long; patterns = omega (arith, e.patterns); inside = omega (arith, e.inside) }))

  -- f is within the bounds, with fuel d
  abbrev pub Bounded : ℕ → (Body → M Body) → Type 0
  Bounded d f = (b : Body) → depth b ≤ d → Runs (dbl d (atoms b)) (Small (depth b) (atoms b)) (f b)

  module _ (d : ℕ) {f : Body → M Body} (s : Bounded d f) where
    pub runs_each_body : (bs : Bodies) → bodies_depth bs ≤ d → Runs (dbl d (bodies_atoms bs)) (λ k. (bodies_depth k ≤ bodies_depth bs) × (bodies_atoms k ≤ bodies_atoms bs)) (each_body F f bs)
    unfolding each_body atoms depth
    runs_each_body []ᵇ h = runs_ret _ (omega arith, omega arith)
    runs_each_body (b ∷ᵇ bs) h =
        runs_more (omega (arith, dbl_add d (atoms b) (bodies_atoms bs)))
        (runs_bind (runs_child _ (s b (omega arith))) λ b' p. runs_bind (runs_each_body bs (omega arith)) λ bs' q. runs_ret {n = 0} _ (omega arith, omega arith))

    pub runs_call_tail : (t : Tail) → tail_depth t ≤ d → Runs (dbl d (tail_atoms t)) (λ k. (tail_depth k ≤ tail_depth t) × (tail_atoms k ≤ tail_atoms t)) (call_tail F f t)
    unfolding call_tail atoms depth
    runs_call_tail no_tail h = runs_ret _ (omega arith, omega arith)
    runs_call_tail (tail b) h = runs_more (omega arith) (runs_bind (runs_child _ (s b h)) λ b' p. runs_ret {n = 0} _ p)

    pub runs_each_binding_body : (bs : List Binding) → list_depth bs ≤ d → Runs (dbl d (inside_of bs)) (Like bs) (each_binding_body F f bs)
    unfolding each_binding_body patterns_of inside_of list_depth binding_depth
    runs_each_binding_body [] h = runs_ret _ (record { deep = omega arith; long = refl; patterns = omega arith; inside = omega arith })
    runs_each_binding_body (BB l nl p b ∷ bs) h =
        runs_more (omega (arith, dbl_add d (atoms b) (inside_of bs)))
        (runs_bind (runs_child _ (s b (omega arith))) λ b' q. runs_bind (runs_each_binding_body bs (omega arith)) λ bs' e.
        runs_ret {n = 0} _ (record { deep = omega (arith, e.deep); long = ap suc e.long; patterns = omega (arith, e.patterns); inside = omega (arith, e.inside) }))

  pub record BoundedRules (d : ℕ) (r : Rules) : Type 0 where
    pub args_bodyform : Bounded d r.args_bodyform
    pub in_bodyform : (m : NameMap) → Bounded d (r.in_bodyform m)

  module _ (d : ℕ) (r : Rules) (s : BoundedRules d r) where
    -- on what another rule gave
    pub runs_in_bodyform : (m : NameMap) (b o : Body) → depth b ≤ d → Small (depth b) (atoms b) o → Runs (dbl d (atoms b)) (Small (depth b) (atoms b)) (r.in_bodyform m o)
    runs_in_bodyform m b o h q = runs_weaken (dbl_mono d (atoms o) (atoms b) q.1) (λ a p. (omega arith, omega arith)) (s.in_bodyform m o (omega arith))

    pub runs_args_then_in : (m : NameMap) (b : Body) → depth b ≤ d → Runs (dbl d (atoms b) + dbl d (atoms b)) (Small (depth b) (atoms b)) (args_then_in F r m b)
    unfolding args_then_in
    runs_args_then_in m b h = runs_bind (runs_child _ (s.args_bodyform b h)) λ o p. runs_further _ _ o (runs_in_bodyform m b o h p)

    pub runs_rename_args_let : (l : Loc) (k h : Bytes) (bs : List Binding) (b : Body) → list_depth bs ≤ d → depth b ≤ d
        → let n : ℕ = patterns_of bs + inside_of bs + atoms b in Runs (dbl (suc d) n) (Small (1 + max (list_depth bs) (depth b)) n) (rename_args_let F r l k h bs b)
    unfolding rename_args_let atoms depth levels
    runs_rename_args_let l k h bs b x y =
        let p = patterns_of bs in
        let i = inside_of bs in
        let n = atoms b in
        runs_more (omega (arith, dbl_twice d (p + i + n), dbl_add d (p + i) n, dbl_add d p i, dbl_least d p))
        (runs_bind (runs_make_bindings_unique [] bs) λ u e.
        runs_bind (runs_more (dbl_mono d (inside_of u.1) i e.inside) (runs_each_binding_body d s.args_bodyform u.1 (omega (arith, e.deep)))) λ v g.
        runs_bind (runs_args_then_in u.0 b y) λ b' w.
        runs_ret {n = 0} _ (omega (arith, depth_to_bindings v, e.deep, g.deep), omega (arith, atoms_to_bindings v, list_parts v, e.patterns, e.inside, g.patterns, g.inside)))

    runs_rename_args_desugared : (bs : List Binding) (b : Body) → max (length bs) 1 + max (list_depth bs) (depth b) ≤ suc d
        → let n : ℕ = patterns_of bs + inside_of bs + atoms b in Runs (dbl (suc d) n) (Small (max (length bs) 1 + max (list_depth bs) (depth b)) n) (rename_args_desugared F r bs b)
    unfolding rename_args_desugared patterns_of inside_of list_depth binding_depth
    runs_rename_args_desugared [] b h =
        runs_weaken (omega (arith, dbl_twice d (0 + 0 + atoms b), dbl_mono d (atoms b) (0 + 0 + atoms b) (omega arith))) (λ a q. (omega arith, omega arith)) (s.args_bodyform b (omega arith))
    runs_rename_args_desugared (BB l nl p e ∷ bs) b h =
        let x = pattern_atoms p + 0 + (atoms e + 0) + atoms (desugar_sequential_let_bindings bs b) in
        let y = pattern_atoms p + patterns_of bs + (atoms e + inside_of bs) + atoms b in
        runs_weaken (dbl_mono (suc d) x y (omega (arith, atoms_desugar bs b))) (λ a q. (omega (arith, depth_desugar bs b), omega (arith, atoms_desugar bs b)))
        (runs_step _ (runs_rename_args_let l _ _ (BB l nl p e ∷ []) (desugar_sequential_let_bindings bs b) (omega arith) (omega (arith, depth_desugar bs b))))

    runs_rename_args_sequential : (bs : List Binding) (b : Body) → max (length bs) 1 + max (list_depth bs) (depth b) ≤ suc d
        → let n : ℕ = patterns_of bs + inside_of bs + atoms b in Runs (dbl (suc d) n) (Small (max (length bs) 1 + max (list_depth bs) (depth b)) n) (rename_args_sequential F r bs b)
    unfolding rename_args_sequential
    runs_rename_args_sequential bs b h = runs_more (omega arith) (runs_bind {n = 0} {P = Any} (runs_child _ (runs_ret _ tt)) λ x _. runs_further _ _ x (runs_rename_args_desugared bs b h))

    pub runs_rename_assign_binding : (m : NameMap) (b : Binding) → binding_depth b ≤ d
        → Runs (dbl (suc d) (binding_atoms b)) (λ v. (binding_depth v.1 ≤ binding_depth b) × (binding_atoms v.1 ≤ binding_atoms b)) (rename_assign_binding F r m b)
    unfolding rename_assign_binding atoms pattern_atoms depth
    runs_rename_assign_binding m (BB l nl (Name n) b) h = runs_ret _ (omega arith, omega arith)
    runs_rename_assign_binding m (BB l nl (Complex p) b) h =
        let x = sexp_atoms p in
        let n = atoms b in
        runs_more (omega (arith, dbl_twice d (x + n), dbl_add d x n, dbl_least d x))
        (runs_bind (runs_invent_new_names_sexp m p) λ m' _. runs_bind (runs_child _ (s.args_bodyform b h)) λ o q. runs_bind (runs_child _ (runs_rename_in_cons_step false m' p)) λ p' u.
        runs_bind (runs_further _ _ o (runs_in_bodyform m' b o h q)) λ b' w. runs_ret {n = 0} _ (omega arith, omega arith))

    pub runs_rename_assign_bindings : (bs : List Binding) (is : List ℕ) (m : NameMap) (w : List Binding) → list_depth bs ≤ d → ((i : ℕ) → i is_in is → i < length bs) → list_depth w ≤ list_depth bs
        → Runs (dbl (suc d) (sum_at bs is)) (λ v. (list_depth v.1 ≤ list_depth bs) × (list_atoms v.1 ≤ list_atoms w + sum_at bs is)) (rename_assign_bindings F r bs is m w)
    unfolding rename_assign_bindings sum_at list_atoms list_depth
    runs_rename_assign_bindings bs [] m w h p q = runs_ret _ (q, omega arith)
    runs_rename_assign_bindings bs (i ∷ is) m w h p q =
        let x = binding_atoms (get_or bs i no_binding) in
        let y = pick_depth bs i (p i (Memᴰ.head refl)) in
        runs_more (omega (arith, dbl_add (suc d) x (sum_at bs is)))
        (runs_bind {k = dbl (suc d) (sum_at bs is)} {Q = λ v. (list_depth v.1 ≤ list_depth bs) × (list_atoms v.1 ≤ list_atoms w + (x + sum_at bs is))}
        (runs_rename_assign_binding m (get_or bs i no_binding) (omega arith)) λ u e.
        runs_weaken (omega arith) (λ a g. (g.0, omega arith)) (runs_rename_assign_bindings bs is u.0 (u.1 ∷ w) h (λ j z. p j (Memᴰ.tail z)) (omega arith)))

    runs_rename_args_ordered : (l : Loc) (k h : Bytes) (bs : List Binding) (b : Body) (is : List ℕ) → toposort_assign_bindings bs ≡ ordered is → list_depth bs ≤ d → depth b ≤ d
        → Runs (dbl (suc d) (list_atoms bs + atoms b)) (Small (1 + max (list_depth bs) (depth b)) (list_atoms bs + atoms b)) (rename_args_ordered F r l k h bs b is)
    unfolding rename_args_ordered atoms depth levels list_atoms list_depth
    runs_rename_args_ordered l k h bs b is e x y =
        let n = list_atoms bs in
        let i = atoms b in
        let z = order_sum bs is e in
        runs_more (omega (arith, dbl_add (suc d) n i, dbl_twice d i, dbl_mono (suc d) (sum_at bs is) n z))
        (runs_bind (runs_rename_assign_bindings bs is [] [] x (order_below bs is e) (omega arith)) λ u g. runs_bind (runs_args_then_in u.0 b y) λ b' w.
        runs_ret {n = 0} _ (omega (arith, depth_to_bindings u.1), omega (arith, atoms_to_bindings u.1)))

    runs_rename_args_assign : (l : Loc) (k h : Bytes) (bs : List Binding) (b : Body) → list_depth bs ≤ d → depth b ≤ d
        → Runs (dbl (suc d) (list_atoms bs + atoms b)) (Small (1 + max (list_depth bs) (depth b)) (list_atoms bs + atoms b)) (rename_args_assign F r l k h bs b)
    unfolding rename_args_assign
    runs_rename_args_assign l k h bs b x y = go (toposort_assign_bindings bs) refl
      where
        go : (o : Toposorted) → toposort_assign_bindings bs ≡ o
            → Runs (dbl (suc d) (list_atoms bs + atoms b)) (Small (1 + max (list_depth bs) (depth b)) (list_atoms bs + atoms b)) (elim o as (λ _. M Body) [ deadlock _ ↦ refuse (deadlocked l) | ordered is ↦ rename_args_ordered F r l k h bs b is ])
        go (deadlock left) q = runs_deadlock l
        go (ordered is) q = runs_rename_args_ordered l k h bs b is q x y

    runs_rename_args_bodyform : Bounded (suc d) (rename_args_bodyform F r)
    unfolding rename_args_bodyform atoms depth levels
    runs_rename_args_bodyform (BL Parallel l k h bs b) z =
        runs_weaken (dbl_mono (suc d) _ _ (omega (arith, atoms_list_of bs, list_parts (list_of bs)))) (λ a q. (omega (arith, depth_list_of bs), omega (arith, atoms_list_of bs, list_parts (list_of bs))))
        (runs_rename_args_let l k h (list_of bs) b (omega (arith, depth_list_of bs)) (omega arith))
    runs_rename_args_bodyform (BL Sequential l k h bs b) z =
        runs_weaken (dbl_mono (suc d) _ _ (omega (arith, atoms_list_of bs, list_parts (list_of bs))))
        (λ a q. (omega (arith, depth_list_of bs, list_count bs), omega (arith, atoms_list_of bs, list_parts (list_of bs))))
        (runs_rename_args_sequential (list_of bs) b (omega (arith, depth_list_of bs, list_count bs)))
    runs_rename_args_bodyform (BL Assign l k h bs b) z =
        runs_weaken (dbl_mono (suc d) _ _ (omega (arith, atoms_list_of bs))) (λ a q. (omega (arith, depth_list_of bs), omega (arith, atoms_list_of bs)))
        (runs_rename_args_assign l k h (list_of bs) b (omega (arith, depth_list_of bs)) (omega arith))
    runs_rename_args_bodyform (BQ x) z = runs_ret _ (omega arith, omega arith)
    runs_rename_args_bodyform (BV x) z = runs_ret _ (omega arith, omega arith)
    runs_rename_args_bodyform (BC l bs t) z =
        runs_more (omega (arith, dbl_twice d (bodies_atoms bs + tail_atoms t), dbl_add d (bodies_atoms bs) (tail_atoms t)))
        (runs_bind (runs_each_body d s.args_bodyform bs (omega arith)) λ bs' p. runs_bind (runs_call_tail d s.args_bodyform t (omega arith)) λ t' q. runs_ret {n = 0} _ (omega arith, omega arith))
    runs_rename_args_bodyform (BM l f) z = runs_ret _ (omega arith, omega arith)
    runs_rename_args_bodyform (BF l k ca c a b) z =
        let v = atoms c in
        let x = sexp_atoms a in
        let y = atoms b in
        runs_more (omega (arith, dbl_twice d (v + (x + y)), dbl_add d v (x + y), dbl_add d x y, dbl_least d x))
        (runs_bind (runs_invent_new_names_sexp [] a) λ m _. runs_bind (runs_child _ (runs_rename_in_cons_step false m a)) λ a' p. runs_bind (runs_args_then_in m b (omega arith)) λ b' q. runs_ret {n = 0} _ (omega arith, omega arith))

    pub runs_in_elements : (m : NameMap) (bs : Bodies) → bodies_depth bs ≤ d → Runs (dbl d (bodies_atoms bs)) (λ k. (bodies_depth k ≤ bodies_depth bs) × (bodies_atoms k ≤ bodies_atoms bs)) (in_elements F r m bs)
    unfolding in_elements atoms depth
    runs_in_elements m []ᵇ h = runs_ret _ (omega arith, omega arith)
    runs_in_elements m (b ∷ᵇ bs) h =
        runs_more (omega (arith, dbl_add d (atoms b) (bodies_atoms bs)))
        (runs_bind (runs_child _ (s.in_bodyform m b (omega arith))) λ b' p. runs_bind {n = 0} {P = λ x. x ≡ b} (runs_further _ _ b' (runs_ret b refl)) λ b'' e.
        runs_bind (runs_each_body d (s.in_bodyform m) bs (omega arith)) λ bs' q. runs_ret {n = 0} _ (omega (arith, ap depth e), omega (arith, ap atoms e)))

    runs_rename_in_bodyform : (m : NameMap) → Bounded (suc d) (rename_in_bodyform F r m)
    unfolding rename_in_quoted rename_in_value rename_in_bodyform atoms depth
    runs_rename_in_bodyform m (BL k l w h bs b) z =
        let x = inside_of (list_of bs) in
        let y = atoms b in
        let v = some_level k (bindings_count bs) in
        runs_more (omega (arith, dbl_twice d (bindings_atoms bs + y), dbl_add d (bindings_atoms bs) y, dbl_mono d x (bindings_atoms bs) (omega (arith, atoms_list_of bs, list_parts (list_of bs)))))
        (runs_bind (runs_each_binding_body d (s.in_bodyform m) (list_of bs) (omega (arith, depth_list_of bs))) λ bs' e. runs_bind (runs_child _ (s.in_bodyform m b (omega arith))) λ b' q.
        runs_ret {n = 0} _ (
          omega (arith, depth_list_of bs, depth_to_bindings bs', e.deep, ap (levels k) (bindings_counted bs' ∙ e.long ∙ list_count bs)),
          omega (arith, atoms_list_of bs, list_parts (list_of bs), atoms_to_bindings bs', list_parts bs', e.patterns, e.inside),
        ))
    runs_rename_in_bodyform m (BQ x) z = runs_ret _ (omega arith, omega arith)
    runs_rename_in_bodyform m (BV x) z = runs_ret _ (omega arith, omega arith)
    runs_rename_in_bodyform m (BC l bs t) z =
        runs_more (omega (arith, dbl_twice d (bodies_atoms bs + tail_atoms t), dbl_add d (bodies_atoms bs) (tail_atoms t)))
        (runs_bind (runs_in_elements m bs (omega arith)) λ bs' p. runs_bind (runs_call_tail d (s.in_bodyform m) t (omega arith)) λ t' q. runs_ret {n = 0} _ (omega arith, omega arith))
    runs_rename_in_bodyform m (BM l f) z = runs_ret _ (omega arith, omega arith)
    runs_rename_in_bodyform m (BF l k ca c a b) z =
        let v = atoms c in
        let x = sexp_atoms a in
        let y = atoms b in
        runs_more (omega (arith, dbl_twice d (v + (x + y)), dbl_add d v (x + y), dbl_add d x y))
        (runs_bind (runs_child _ (s.in_bodyform m c (omega arith))) λ c' p. runs_bind (runs_child _ (runs_rename_in_cons_step false m ca)) λ ca' _. runs_bind (runs_args_then_in m b (omega arith)) λ b' q.
        runs_ret {n = 0} _ (omega arith, omega arith))

  fine_logged : (n : ℕ) (P : Body → Type 0) (c : ℕ) (e : Option Body → Visit) → ((o : Option Body) → Below (c + n) (e o)) → (o : Out Body) → Fine n P c o → Fine n P c (logged e o)
  unfolding logged
  fine_logged n P c e h (done log a c' x) f = (all_cons (h (some a)) f.0, f.1, f.2)
  fine_logged n P c e h (refused log r) f = (all_cons (h none) f.0, f.1)

  runs_reach : {n : ℕ} {P : Body → Type 0} {m : M Body} (b : Body) → Runs n P m → Runs n P (log_assign b m)
  unfolding log_assign
  runs_reach (BL Parallel l k h bs b) s = s
  runs_reach (BL Sequential l k h bs b) s = s
  runs_reach {n} {P} {m} (BL Assign l k h bs b) s = record { fine = λ c x. fine_logged n P c _ (λ o. omega arith) (m c x) (s.fine c x) }
  runs_reach (BQ x) s = s
  runs_reach (BV x) s = s
  runs_reach (BC l bs t) s = s
  runs_reach (BM l f) s = s
  runs_reach (BF l k ca c a b) s = s

  -- the rules of bodies
  pub runs_walk : (fuel : ℕ) → BoundedRules fuel (walk F fuel)
  unfolding walk body_rules
  runs_walk zero = record { args_bodyform = λ b h. absurd (omega (arith, positive b)); in_bodyform = λ m b h. absurd (omega (arith, positive b)) }
  runs_walk (suc fuel) =
      let s = runs_walk fuel in
      record { args_bodyform = λ b h. runs_reach b (runs_step _ (runs_rename_args_bodyform fuel _ s b h)); in_bodyform = λ m b h. runs_step _ (runs_rename_in_bodyform fuel _ s m b h) }
