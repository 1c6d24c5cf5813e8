-- What holds of all the assigns that a walk reaches; the calls' demand 3 follows (Demand.antt). Assumes nothing.
use mathlib.Core.Path.{◌≡◌, refl, ap, sym, ◌∙◌, subst}
use mathlib.Core.Logic.{◌⊎◌, inl, inr}
use mathlib.Core.Bool.{Bool, true, false}
use mathlib.Core.List.{List, [], ◌∷◌, ◌++◌, map, reverse_aux, append_assoc}
use mathlib.Core.Option.{Option, none, some}
use Prim.Native.Nat.{ℕ, zero, suc, ◌+◌, ◌≤◌, ◌<◌}
use native.Mathlib.Omega.{arith}
use lib.Dec.{leb}
use lib.ListN.{length, get_or, length-map}
use Rattle.names.specs.Names.{Bytes, ascii, same, name_limit, gensym}
use Rattle.names.specs.Maps.{NameMap}
use Rattle.names.specs.declared.Refusal.{Refusal}
use Rattle.names.specs.Refusals.{reason_number}
use Rattle.records.specs.Limits.{level_limit}
use Rattle.records.specs.Records.{Loc, Sexp, SN, SC, SI, SQ, SA, Pattern, Name, Complex, Body, BL, BQ, BV, BC, BM, BF, Bodies, []ᵇ, ◌∷ᵇ◌, Tail, no_tail, tail, Binding, BB, Bindings, to_bindings, list_of}
use Rattle.records.specs.declared.Kind.TheVariants.{Parallel, Sequential, Assign}
use Rattle.records.proofs.Complete.{bindings_same}
use Rattle.ordering.specs.Toposort.{Toposorted, ordered, deadlock}
use Rattle.ordering.specs.Words.{toposort_assign_bindings}
use Rattle.walk.proofs.All.{All, all_none, all_cons, all_append, all_map}
use Rattle.walk.proofs.Reached.{visits_append, all_visits}
use Rattle.walk.proofs.Fuel.{agreed, less_rename_assign_binding, less_walk}
use Rattle.walk.specs.Assigns.{HasOrder, Makes, makes_none, makes_next, Finished}
use Rattle.walk.specs.Steps.{M, Out, Event, reached, made, done, refused, over_long, Visit, visits, ret, refuse, out_of_fuel, ◌>>=◌, ◌>>◌, after, step, child, further, add_to_sum, take_from_sum, fits, body_size}
use Rattle.walk.specs.Invent.{name_too_long, draw, invent_new_names_sexp, rename_in_cons_step}
use Rattle.walk.specs.Patterns.{make_binding_unique, make_bindings_unique}
use Rattle.walk.specs.Bodyforms.{each_body, call_tail, each_binding_body, Rules, args_then_in, rename_args_let, rename_args_desugared, rename_args_sequential, rename_assign_binding, rename_assign_bindings, rename_args_ordered, rename_args_assign, rename_args_bodyform, in_elements, rename_in_bodyform, body_rules, walk, deadlocked, visit, log_assign, logged, no_binding, rename_in_quoted, rename_in_value}
use Rattle.walk.proofs.Splits.{full_order, no_order, not_done, not_some, order_length, same_some, same_value, split}

module _ (F : ℕ) where
  abbrev pub Good : Visit → Type 0
  Good e = (back : Body) → e.back ≡ some back → Finished F e back

  -- after a walk that is not refused
  pub record Done (e : Visit) : Type 0 where
    pub good : Good e
    pub order : HasOrder e
    pub back : Body
    pub is_back : e.back ≡ some back

  -- a refusal at the last assign, which has no order
  pub record Deadlocked (list : List Visit) (r : Refusal) : Type 0 where
    pub earlier : List Visit
    pub last : Visit
    pub ends : list ≡ earlier ++ (last ∷ [])
    pub before : All HasOrder earlier
    pub none_there : ¬ HasOrder last
    pub refusal : r ≡ deadlocked last.loc

  -- another refusal
  pub record Stopped (list : List Visit) (r : Refusal) : Type 0 where
    pub all_ordered : All HasOrder list
    pub late : 5 < reason_number r.reason
    pub not_8 : reason_number r.reason ≡ 8 → ⊥

  abbrev pub Ends : List Visit → Refusal → Type 0
  Ends list r = Deadlocked list r ⊎ Stopped list r

  abbrev pub Fine : {A : Type 0} → Out A → Type 0
  Fine (done log a c x) = All Done (visits log)
  Fine (refused log r) = All Good (visits log) × Ends (visits log) r

  pub record Sound {A : Type 0} (m : M A) : Type 0 where
    pub fine : (c x : ℕ) → Fine (m c x)

  later : {list list' : List Visit} {r : Refusal} → All HasOrder list → Ends list' r → Ends (list ++ list') r
  later {list} a (inl d) = inl (record {
    earlier = list ++ d.earlier;
    last = d.last;
    ends = ap (λ (l : List Visit). list ++ l) d.ends ∙ sym (append_assoc list d.earlier (d.last ∷ []));
    before = all_append a d.before;
    none_there = d.none_there;
    refusal = d.refusal;
  })
  later a (inr s) = inr (record { all_ordered = all_append a s.all_ordered; late = s.late; not_8 = s.not_8 })

  fine_after : {A : Type 0} (log : List Event) (o : Out A) → All Done (visits log) → Fine o → Fine (after log o)
  unfolding after
  fine_after log (done log' a c x) g f = all_visits log log' g f
  fine_after log (refused log' r) g f = (all_visits log log' (all_map (λ e d. d.good) g) f.0, rw (visits_append log log') (later (all_map (λ e d. d.order) g) f.1))

  pub sound_ret : {A : Type 0} (a : A) → Sound (ret a)
  unfolding ret
  sound_ret a = record { fine = λ c x. all_none }

  pub sound_bind : {A B : Type 0} {m : M A} {k : A → M B} → Sound m → ((a : A) → Sound (k a)) → Sound (m >>= k)
  unfolding ◌>>=◌
  sound_bind {A} {B} {m} {k} s t = record { fine = λ c x. go (m c x) (s.fine c x) }
    where
      go : (o : Out A) → Fine o → Fine {A = B} (elim o [ done log a c' x' ↦ after log (k a c' x') | refused log r ↦ refused log r ])
      go (done log a c' x') f = fine_after log (k a c' x') f ((t a).fine c' x')
      go (refused log r) f = f

  -- a refusal that is not 5
  other : {r : Refusal} → 5 < reason_number r.reason → (reason_number r.reason ≡ 8 → ⊥) → All Good [] × Ends [] r
  other h z = (all_none, inr (record { all_ordered = all_none; late = h; not_8 = z }))

  pub sound_out : {A : Type 0} → Sound {A = A} (refuse out_of_fuel)
  unfolding refuse out_of_fuel
  sound_out = record { fine = λ c x. other (omega arith) (omega arith) }

  sound_add_to_sum : (n : ℕ) → Sound (add_to_sum F n)
  unfolding add_to_sum
  sound_add_to_sum n = record { fine = λ c x. go c x (leb (x + n) F) }
    where
      go : (c x : ℕ) (b : Bool) → Fine {A = Unit {0}} (elim b [ true ↦ done [] tt c (x + n) | false ↦ refused [] over_long ])
      go c x true = all_none
      go c x false = other (omega arith) (omega arith)

  sound_take_from_sum : (n : ℕ) → Sound (take_from_sum F n)
  unfolding take_from_sum
  sound_take_from_sum n = record { fine = λ c x. all_none }

  module _ {A : Type 0} (size : A → ℕ) where
    fine_fits : (a : A) (c x : ℕ) → Fine (fits F size a c x)
    unfolding fits
    fine_fits a c x = go (leb (size a) F)
      where
        go : (b : Bool) → Fine {A = A} (elim b [ true ↦ done [] a c x | false ↦ refused [] over_long ])
        go true = all_none
        go false = other (omega arith) (omega arith)

    pub sound_step : {m : M A} → Sound m → Sound (step F size m)
    unfolding step
    sound_step {m} s = record { fine = λ c x. go x (m c 0) (s.fine c 0) }
      where
        go : (x : ℕ) (o : Out A) → Fine o → Fine {A = A} (elim o [ done log a c' x' ↦ after log (fits F size a c' x) | refused log r ↦ refused log r ])
        go x (done log a c' x') f = fine_after log (fits F size a c' x) f (fine_fits a c' x)
        go x (refused log r) f = f

    pub sound_child : {m : M A} → Sound m → Sound (child F size m)
    unfolding child ◌>>◌
    sound_child s = sound_bind s λ a. sound_bind (sound_add_to_sum (size a)) λ _. sound_ret a

    pub sound_further : {f : A → M A} (old : A) → ((a : A) → Sound (f a)) → Sound (further F size old f)
    unfolding further ◌>>◌
    sound_further old s = sound_bind (s old) λ a. sound_bind (sound_take_from_sum (size old)) λ _. sound_bind (sound_add_to_sum (size a)) λ _. sound_ret a

  sound_draw : (n : Bytes) → Sound (draw n)
  unfolding draw
  sound_draw n = record { fine = λ c x. go c x (leb (length (gensym n c)) name_limit) }
    where
      go : (c x : ℕ) (b : Bool) → Fine {A = Bytes} (elim b [ true ↦ done (made n (gensym n c) ∷ []) (gensym n c) (c + 1) x | false ↦ refused [] name_too_long ])
      go c x true = all_none
      go c x false = other (omega arith) (omega arith)

  sound_either : {A : Type 0} {m k : M A} (b : Bool) → Sound m → Sound k → Sound {A = A} (elim b [ true ↦ m | false ↦ k ])
  sound_either true s t = s
  sound_either false s t = t

  pub sound_invent_new_names_sexp : (m : NameMap) (s : Sexp) → Sound (invent_new_names_sexp m s)
  unfolding invent_new_names_sexp
  sound_invent_new_names_sexp m (SN l) = sound_ret m
  sound_invent_new_names_sexp m (SC l x y) = sound_bind (sound_invent_new_names_sexp m x) λ m'. sound_invent_new_names_sexp m' y
  sound_invent_new_names_sexp m (SI l v) = sound_ret m
  sound_invent_new_names_sexp m (SQ l q n) = sound_ret m
  sound_invent_new_names_sexp m (SA l n) = sound_either (same n (ascii "@")) (sound_ret m) (sound_bind (sound_draw n) λ n'. sound_ret ((n, n') ∷ m))

  pub sound_rename_in_cons_step : (qq : Bool) (m : NameMap) (s : Sexp) → Sound (rename_in_cons_step F qq m s)
  unfolding rename_in_cons_step
  sound_rename_in_cons_step qq m s = sound_step _ (sound_ret _)

  sound_make_binding_unique : (p : Pattern) → Sound (make_binding_unique F p)
  unfolding make_binding_unique
  sound_make_binding_unique (Name n) = sound_bind (sound_draw n) λ n'. sound_ret _
  sound_make_binding_unique (Complex s) = sound_bind (sound_invent_new_names_sexp [] s) λ m. sound_bind (sound_child _ (sound_rename_in_cons_step false m s)) λ s'. sound_ret _

  sound_make_bindings_unique : (m : NameMap) (bs : List Binding) → Sound (make_bindings_unique F m bs)
  unfolding make_bindings_unique
  sound_make_bindings_unique m [] = sound_ret _
  sound_make_bindings_unique m (BB l nl p b ∷ bs) =
      sound_bind (sound_make_binding_unique p) λ u. sound_bind (sound_make_bindings_unique (u.0 ++ m) bs) λ v. sound_ret _

  module _ {f : Body → M Body} (s : (b : Body) → Sound (f b)) where
    sound_each_body : (bs : Bodies) → Sound (each_body F f bs)
    unfolding each_body
    sound_each_body []ᵇ = sound_ret _
    sound_each_body (b ∷ᵇ bs) = sound_bind (sound_child _ (s b)) λ b'. sound_bind (sound_each_body bs) λ bs'. sound_ret _

    sound_call_tail : (t : Tail) → Sound (call_tail F f t)
    unfolding call_tail
    sound_call_tail no_tail = sound_ret _
    sound_call_tail (tail b) = sound_bind (sound_child _ (s b)) λ b'. sound_ret _

    sound_each_binding_body : (bs : List Binding) → Sound (each_binding_body F f bs)
    unfolding each_binding_body
    sound_each_binding_body [] = sound_ret _
    sound_each_binding_body (BB l nl p b ∷ bs) = sound_bind (sound_child _ (s b)) λ b'. sound_bind (sound_each_binding_body bs) λ bs'. sound_ret _

  module _ (r : Rules) (so : (b : Body) → Sound (r.args_bodyform b)) (si : (m : NameMap) (b : Body) → Sound (r.in_bodyform m b)) where
    pub sound_args_then_in : (m : NameMap) (b : Body) → Sound (args_then_in F r m b)
    unfolding args_then_in
    sound_args_then_in m b = sound_bind (sound_child _ (so b)) λ b'. sound_further _ b' (si m)

    sound_rename_args_let : (l : Loc) (k h : Bytes) (bs : List Binding) (b : Body) → Sound (rename_args_let F r l k h bs b)
    unfolding rename_args_let
    sound_rename_args_let l k h bs b =
        sound_bind (sound_make_bindings_unique [] bs) λ u. sound_bind (sound_each_binding_body so u.1) λ v. sound_bind (sound_args_then_in u.0 b) λ w. sound_ret _

    sound_rename_args_desugared : (bs : List Binding) (b : Body) → Sound (rename_args_desugared F r bs b)
    unfolding rename_args_desugared
    sound_rename_args_desugared [] b = so b
    sound_rename_args_desugared (BB l nl p e ∷ bs) b = sound_step _ (sound_rename_args_let _ _ _ _ _)

    sound_rename_args_sequential : (bs : List Binding) (b : Body) → Sound (rename_args_sequential F r bs b)
    unfolding rename_args_sequential
    sound_rename_args_sequential bs b = sound_bind (sound_child _ (sound_ret _)) λ d. sound_further _ d (λ _. sound_rename_args_desugared bs b)

    sound_rename_assign_binding : (m : NameMap) (b : Binding) → Sound (rename_assign_binding F r m b)
    unfolding rename_assign_binding
    sound_rename_assign_binding m (BB l nl (Name n) b) = sound_ret _
    sound_rename_assign_binding m (BB l nl (Complex p) b) =
        sound_bind (sound_invent_new_names_sexp m p) λ m'. sound_bind (sound_child _ (so b)) λ o. sound_bind (sound_child _ (sound_rename_in_cons_step false m' p)) λ p'.
        sound_bind (sound_further _ o (si m')) λ b'. sound_ret _

    sound_rename_assign_bindings : (bs : List Binding) (is : List ℕ) (m : NameMap) (w : List Binding) → Sound (rename_assign_bindings F r bs is m w)
    unfolding rename_assign_bindings
    sound_rename_assign_bindings bs [] m w = sound_ret _
    sound_rename_assign_bindings bs (i ∷ is) m w = sound_bind (sound_rename_assign_binding m _) λ u. sound_rename_assign_bindings bs is u.0 (u.1 ∷ w)

    sound_rename_args_ordered : (l : Loc) (k h : Bytes) (bs : List Binding) (b : Body) (is : List ℕ) → Sound (rename_args_ordered F r l k h bs b is)
    unfolding rename_args_ordered
    sound_rename_args_ordered l k h bs b is = sound_bind (sound_rename_assign_bindings bs is [] []) λ u. sound_bind (sound_args_then_in u.0 b) λ b'. sound_ret _

  -- the bindings written, the last made first
  pub record MakesList (m : NameMap) (c x : ℕ) (l w ws : List Binding) : Type 0 where
    pub bindings : List Binding
    pub each : Makes F m c x l bindings
    pub reversed : ws ≡ reverse_aux bindings w

  makes_bindings : (fuel : ℕ) → fuel ≤ level_limit → (bs : List Binding) (is : List ℕ) (m : NameMap) (w : List Binding) (c x : ℕ) {log : List Event} {v : NameMap × List Binding} {c' x' : ℕ}
      → rename_assign_bindings F (walk F fuel) bs is m w c x ≡ done log v c' x' → MakesList m c x (map (λ i. get_or bs i no_binding) is) w v.1
  unfolding rename_assign_bindings ret
  makes_bindings fuel le bs [] m w c x h = record { bindings = []; each = makes_none; reversed = sym (ap (λ (v : NameMap × List Binding). v.1) (same_value h)) }
  makes_bindings fuel le bs (i ∷ is) m w c x h =
      let s = split (rename_assign_binding F (walk F fuel) m (get_or bs i no_binding)) _ c x h in
      let t = makes_bindings fuel le bs is s.value.0 (s.value.1 ∷ w) s.counter s.sum s.second in
      record { bindings = s.value.1 ∷ t.bindings; each = makes_next (agreed (less_rename_assign_binding F (less_walk F fuel level_limit le) m _) s.first) t.each; reversed = t.reversed }

  makes_length : {m : NameMap} {c x : ℕ} {l k : List Binding} → Makes F m c x l k → length k ≡ length l
  makes_length makes_none = refl
  makes_length (makes_next e d) = ap suc (makes_length d)

  -- what a finished step went through; it ends so from any sum
  pub record Ended {A : Type 0} (size : A → ℕ) (m : M A) (c : ℕ) (log : List Event) (a : A) (c' : ℕ) : Type 0 where
    pub inner : List Event
    pub sum : ℕ
    pub ran : m c 0 ≡ done inner a c' sum
    pub again : (x : ℕ) → step F size m c x ≡ done log a c' x

  ended : {A : Type 0} (size : A → ℕ) (m : M A) (c x : ℕ) {log : List Event} {a : A} {c' x' : ℕ} → step F size m c x ≡ done log a c' x' → Ended size m c log a c'
  unfolding step after fits
  ended {A} size m c x {log} {a} {c'} {x'} h = go (m c 0) refl h
    where
      go₂ : (log₁ : List Event) (b : A) (c₁ x₁ : ℕ) → m c 0 ≡ done log₁ b c₁ x₁ → (t : Bool) → leb (size b) F ≡ t
          → after log₁ (elim t as (λ _. Out A) [ true ↦ done [] b c₁ x | false ↦ refused [] over_long ]) ≡ done log a c' x' → Ended size m c log a c'
      go₂ log₁ b c₁ x₁ e true t q =
          record { inner = log₁; sum = x₁; ran = cc (e, q); again = λ y. rw (e, t, step, fits) (cc) }
      go₂ log₁ b c₁ x₁ e false t q = absurd (not_done q)

      go : (o : Out A) → m c 0 ≡ o → ◌≡◌ {A = Out A} (elim o [ done log₁ b c₁ x₁ ↦ after log₁ (fits F size b c₁ x) | refused log₁ r ↦ refused log₁ r ]) (done log a c' x') → Ended size m c log a c'
      go (done log₁ b c₁ x₁) e q = go₂ log₁ b c₁ x₁ e (leb (size b) F) refl q
      go (refused log₁ r) e q = absurd (not_done q)

  module _ (fuel : ℕ) (le : suc fuel ≤ level_limit) (l : Loc) (k h : Bytes) (bs : Bindings) (b : Body) where
    abbrev entry : ℕ → Option Body → Visit
    entry = visit l k h bs b

    -- Own of the assign, where its bindings have this order
    own_ordered : (is : List ℕ) → toposort_assign_bindings (list_of bs) ≡ ordered is → (c x : ℕ)
        → (walk F (suc fuel)).args_bodyform (BL Assign l k h bs b) c x ≡ logged (entry c) (step F body_size (rename_args_ordered F (walk F fuel) l k h (list_of bs) b is) c x)
    unfolding walk body_rules log_assign rename_args_bodyform rename_args_assign
    own_ordered is q c x = rw (q, rename_args_assign)

    -- with all the fuel
    own_limit : (c x : ℕ) {log : List Event} {a : Body} {c' x' : ℕ} → (walk F (suc fuel)).args_bodyform (BL Assign l k h bs b) c x ≡ done log a c' x'
        → (walk F level_limit).args_bodyform (BL Assign l k h (to_bindings (list_of bs)) b) c x ≡ done log a c' x'
    own_limit c x e = rw (bindings_same bs) (agreed ((less_walk F (suc fuel) level_limit le).args_bodyform (BL Assign l k h bs b)) e)

    finished_assign : (is : List ℕ) → toposort_assign_bindings (list_of bs) ≡ ordered is → (c x : ℕ) {log : List Event} {a : Body} {c' x' : ℕ}
        → step F body_size (rename_args_ordered F (walk F fuel) l k h (list_of bs) b is) c x ≡ done log a c' x' → Finished F (entry c (some a)) a
    unfolding rename_args_ordered ret logged
    finished_assign is q c x {log} {a} {c'} e =
        let n = ended body_size _ c x e in
        let s = split (rename_assign_bindings F (walk F fuel) (list_of bs) is [] []) _ c 0 n.ran in
        let t = split (args_then_in F (walk F fuel) s.value.0 b) _ s.counter s.sum s.second in
        let m = makes_bindings fuel (omega arith) (list_of bs) is [] [] c 0 s.first in
        record {
          order = is;
          exact = q;
          full = full_order (list_of bs) is q;
          bindings = m.bindings;
          count = makes_length m.each ∙ length-map is _ ∙ order_length (list_of bs) is q;
          renamed = m.each;
          body = t.value;
          written = sym (same_value t.second) ∙ ap (λ (w : List Binding). BL Assign l k h (to_bindings w) t.value) m.reversed;
          log = reached (entry c (some a)) ∷ log;
          counter = c';
          given_back = λ y. own_limit c y (own_ordered is q c y ∙ ap (logged (entry c)) (n.again y));
        }

    sound_assign : ((b : Body) → Sound ((walk F fuel).args_bodyform b)) → ((m : NameMap) (b : Body) → Sound ((walk F fuel).in_bodyform m b))
        → Sound (log_assign (BL Assign l k h bs b) (step F body_size (rename_args_bodyform F (walk F fuel) (BL Assign l k h bs b))))
    unfolding log_assign logged rename_args_bodyform rename_args_assign step refuse
    sound_assign so si = record { fine = λ c x. go c x (toposort_assign_bindings (list_of bs)) refl }
      where
        unfinished : (c : ℕ) → Good (entry c none)
        unfinished c back e = absurd (not_some e)

        go₂ : (c x : ℕ) (is : List ℕ) → toposort_assign_bindings (list_of bs) ≡ ordered is → (o : Out Body) → step F body_size (rename_args_ordered F (walk F fuel) l k h (list_of bs) b is) c x ≡ o → Fine o → Fine (logged (entry c) o)
        go₂ c x is q (done log a c' x') e f =
            all_cons (record { good = λ back w. subst (Finished F (entry c (some a))) (same_some w) (finished_assign is q c x e); order = (is, full_order (list_of bs) is q); back = a; is_back = refl }) f
        go₂ c x is q (refused log r) e f = (all_cons (unfinished c) f.0, later (all_cons (is, full_order (list_of bs) is q) all_none) f.1)

        go : (c x : ℕ) (o : Toposorted) → toposort_assign_bindings (list_of bs) ≡ o
            → Fine (logged (entry c) (step F body_size (elim o as (λ _. M Body) [ deadlock _ ↦ refuse (deadlocked l) | ordered is ↦ rename_args_ordered F (walk F fuel) l k h (list_of bs) b is ]) c x))
        go c x (deadlock is) q = (
          all_cons (unfinished c) all_none,
          inl (record { earlier = []; last = entry c none; ends = refl; before = all_none; none_there = no_order (list_of bs) is q; refusal = refl }),
        )
        go c x (ordered is) q = go₂ c x is q _ refl ((sound_step body_size (sound_rename_args_ordered (walk F fuel) so si l k h (list_of bs) b is)).fine c x)

  pub record SoundRules (r : Rules) : Type 0 where
    pub args_bodyform : (b : Body) → Sound (r.args_bodyform b)
    pub in_bodyform : (m : NameMap) (b : Body) → Sound (r.in_bodyform m b)

  module _ (fuel : ℕ) (le : suc fuel ≤ level_limit) (s : SoundRules (walk F fuel)) where
    sound_args_step : (b : Body) → Sound (log_assign b (step F body_size (rename_args_bodyform F (walk F fuel) b)))
    unfolding log_assign rename_args_bodyform
    sound_args_step (BL Parallel l k h bs b) = sound_step _ (sound_rename_args_let _ s.args_bodyform s.in_bodyform l k h (list_of bs) b)
    sound_args_step (BL Sequential l k h bs b) = sound_step _ (sound_rename_args_sequential _ s.args_bodyform s.in_bodyform (list_of bs) b)
    sound_args_step (BL Assign l k h bs b) = sound_assign fuel le l k h bs b s.args_bodyform s.in_bodyform
    sound_args_step (BQ x) = sound_step _ (sound_ret _)
    sound_args_step (BV x) = sound_step _ (sound_ret _)
    sound_args_step (BC l bs t) = sound_step _ (sound_bind (sound_each_body s.args_bodyform bs) λ bs'. sound_bind (sound_call_tail s.args_bodyform t) λ t'. sound_ret _)
    sound_args_step (BM l f) = sound_step _ (sound_ret _)
    sound_args_step (BF l k ca c a b) = sound_step _
        (sound_bind (sound_invent_new_names_sexp [] a) λ m. sound_bind (sound_child _ (sound_rename_in_cons_step false m a)) λ a'. sound_bind (sound_args_then_in _ s.args_bodyform s.in_bodyform m b) λ b'. sound_ret _)

    sound_in_elements : (m : NameMap) (bs : Bodies) → Sound (in_elements F (walk F fuel) m bs)
    unfolding in_elements
    sound_in_elements m []ᵇ = sound_ret _
    sound_in_elements m (b ∷ᵇ bs) =
        sound_bind (sound_child _ (s.in_bodyform m b)) λ b'. sound_bind (sound_further _ b' (λ _. sound_ret _)) λ b''. sound_bind (sound_each_body (s.in_bodyform m) bs) λ bs'. sound_ret _

    sound_rename_in_bodyform : (m : NameMap) (b : Body) → Sound (rename_in_bodyform F (walk F fuel) m b)
    unfolding rename_in_quoted rename_in_value rename_in_bodyform
    sound_rename_in_bodyform m (BL k l w h bs b) = sound_bind (sound_each_binding_body (s.in_bodyform m) (list_of bs)) λ bs'. sound_bind (sound_child _ (s.in_bodyform m b)) λ b'. sound_ret _
    sound_rename_in_bodyform m (BQ x) = sound_ret _
    sound_rename_in_bodyform m (BV x) = sound_ret _
    sound_rename_in_bodyform m (BC l bs t) = sound_bind (sound_in_elements m bs) λ bs'. sound_bind (sound_call_tail (s.in_bodyform m) t) λ t'. sound_ret _
    sound_rename_in_bodyform m (BM l f) = sound_ret _
    sound_rename_in_bodyform m (BF l k ca c a b) =
        sound_bind (sound_child _ (s.in_bodyform m c)) λ c'. sound_bind (sound_child _ (sound_rename_in_cons_step false m ca)) λ ca'. sound_bind (sound_args_then_in _ s.args_bodyform s.in_bodyform m b) λ b'. sound_ret _

  pub sound_walk : (fuel : ℕ) → fuel ≤ level_limit → SoundRules (walk F fuel)
  unfolding walk body_rules
  sound_walk zero le = record { args_bodyform = λ b. sound_out; in_bodyform = λ m b. sound_out }
  sound_walk (suc fuel) le =
      let s = sound_walk fuel (omega arith) in
      record { args_bodyform = sound_args_step fuel le s; in_bodyform = λ m b. sound_step _ (sound_rename_in_bodyform fuel le s m b) }
