-- More fuel changes nothing, unless the fuel runs out. Assumes nothing.
use mathlib.Core.Path.{◌≡◌, refl, ap, ◌∙◌}
use mathlib.Core.Logic.{◌⊎◌, inl, inr}
use mathlib.Core.List.{List, [], ◌∷◌}
use Prim.Native.Nat.{ℕ, zero, suc, ◌≤◌}
use native.Mathlib.Omega.{arith}
use mathlib.Core.Option.{Option}
use Rattle.names.specs.Names.{Bytes}
use Rattle.names.specs.Maps.{NameMap}
use Rattle.records.specs.Records.{Loc, Name, Complex, Body, BL, BQ, BV, BC, BM, BF, Bodies, []ᵇ, ◌∷ᵇ◌, Tail, no_tail, tail, Binding, BB, list_of}
use Rattle.records.specs.declared.Kind.TheVariants.{Parallel, Sequential, Assign}
use Rattle.ordering.specs.Toposort.{Toposorted, ordered, deadlock}
use Rattle.ordering.specs.Words.{toposort_assign_bindings}
use Rattle.walk.specs.Steps.{M, Out, Event, done, refused, Visit, refuse, out_of_fuel, ◌>>=◌, after, step, child, further, fits}
use Rattle.walk.specs.Bodyforms.{each_body, call_tail, each_binding_body, Rules, args_then_in, rename_args_let, rename_args_desugared, rename_args_sequential, rename_assign_binding, rename_assign_bindings, rename_args_ordered, rename_args_assign, rename_args_bodyform, in_elements, rename_in_bodyform, body_rules, walk, deadlocked, log_assign, logged, rename_in_quoted, rename_in_value}

-- the fuel ran out
abbrev pub OutOfFuel : {A : Type 0} → Out A → Type 0
OutOfFuel (done log a c x) = ⊥
OutOfFuel (refused log r) = r ≡ out_of_fuel

-- unless the first ran out of fuel, the second is the same
abbrev pub Agrees : {A : Type 0} → Out A → Out A → Type 0
Agrees o o' = OutOfFuel o ⊎ (o' ≡ o)

pub record Less {A : Type 0} (m k : M A) : Type 0 where
  pub agrees : (c x : ℕ) → Agrees (m c x) (k c x)

module _ {A : Type 0} where
  less_refl : (m : M A) → Less m m
  less_refl m = record { agrees = λ c x. inr refl }

  less_out : (k : M A) → Less (refuse out_of_fuel) k
  unfolding refuse
  less_out k = record { agrees = λ c x. inl refl }

  agrees_after : (log : List Event) (o o' : Out A) → Agrees o o' → Agrees (after log o) (after log o')
  unfolding after
  agrees_after log (done log₂ a c x) o' (inl f) = absurd f
  agrees_after log (refused log₂ r) o' (inl f) = inl f
  agrees_after log o o' (inr e) = inr (ap (after log) e)

  -- the two are the same
  pub same_run : {m k : M A} (c x : ℕ) → Less m k → ¬ OutOfFuel (m c x) → k c x ≡ m c x
  same_run {m} {k} c x s h = go (s.agrees c x)
    where
      go : Agrees (m c x) (k c x) → k c x ≡ m c x
      go (inl f) = absurd (h f)
      go (inr e) = e

  pub agreed : {m k : M A} {c x c' x' : ℕ} {log : List Event} {a : A} → Less m k → m c x ≡ done log a c' x' → k c x ≡ done log a c' x'
  agreed {m} {k} {c} {x} s e = same_run c x s (rw e (λ f. f)) ∙ e

less_bind : {A B : Type 0} {m m' : M A} {k k' : A → M B} → Less m m' → ((a : A) → Less (k a) (k' a)) → Less (m >>= k) (m' >>= k')
unfolding ◌>>=◌
less_bind {A} {B} {m} {m'} {k} {k'} s t = record { agrees = λ c x. go (m c x) (m' c x) (s.agrees c x) }
  where
    go : (o o' : Out A) → Agrees o o'
        → Agrees {A = B} (elim o [ done log a c x ↦ after log (k a c x) | refused log r ↦ refused log r ]) (elim o' [ done log a c x ↦ after log (k' a c x) | refused log r ↦ refused log r ])
    go (done log a c x) o' (inl f) = absurd f
    go (done log a c x) o' (inr e) = rw e (agrees_after log (k a c x) (k' a c x) ((t a).agrees c x))
    go (refused log r) o' (inl f) = inl f
    go (refused log r) o' (inr e) = rw e (inr refl)

module _ (F : ℕ) where
  module _ {A : Type 0} (size : A → ℕ) where
    less_step : {m m' : M A} → Less m m' → Less (step F size m) (step F size m')
    unfolding step
    less_step {m} {m'} s = record { agrees = λ c x. go x (m c 0) (m' c 0) (s.agrees c 0) }
      where
        go : (x : ℕ) (o o' : Out A) → Agrees o o'
            → Agrees {A = A} (elim o [ done log a c h ↦ after log (fits F size a c x) | refused log r ↦ refused log r ]) (elim o' [ done log a c h ↦ after log (fits F size a c x) | refused log r ↦ refused log r ])
        go x (done log a c h) o' (inl f) = absurd f
        go x (done log a c h) o' (inr e) = rw e (inr refl)
        go x (refused log r) o' (inl f) = inl f
        go x (refused log r) o' (inr e) = rw e (inr refl)

    less_child : {m m' : M A} → Less m m' → Less (child F size m) (child F size m')
    unfolding child
    less_child s = less_bind s λ a. less_refl _

    less_further : {f f' : A → M A} (old : A) → ((a : A) → Less (f a) (f' a)) → Less (further F size old f) (further F size old f')
    unfolding further
    less_further old s = less_bind (s old) λ a. less_refl _

  module _ {f f' : Body → M Body} (s : (b : Body) → Less (f b) (f' b)) where
    less_each_body : (bs : Bodies) → Less (each_body F f bs) (each_body F f' bs)
    unfolding each_body
    less_each_body []ᵇ = less_refl _
    less_each_body (b ∷ᵇ bs) = less_bind (less_child _ (s b)) λ b'. less_bind (less_each_body bs) λ bs'. less_refl _

    less_call_tail : (t : Tail) → Less (call_tail F f t) (call_tail F f' t)
    unfolding call_tail
    less_call_tail no_tail = less_refl _
    less_call_tail (tail b) = less_bind (less_child _ (s b)) λ b'. less_refl _

    less_each_binding_body : (bs : List Binding) → Less (each_binding_body F f bs) (each_binding_body F f' bs)
    unfolding each_binding_body
    less_each_binding_body [] = less_refl _
    less_each_binding_body (BB l nl p b ∷ bs) = less_bind (less_child _ (s b)) λ b'. less_bind (less_each_binding_body bs) λ bs'. less_refl _

  pub record LessRules (r r' : Rules) : Type 0 where
    pub args_bodyform : (b : Body) → Less (r.args_bodyform b) (r'.args_bodyform b)
    pub in_bodyform : (m : NameMap) (b : Body) → Less (r.in_bodyform m b) (r'.in_bodyform m b)

  module _ {r r' : Rules} (s : LessRules r r') where
    less_args_then_in : (m : NameMap) (b : Body) → Less (args_then_in F r m b) (args_then_in F r' m b)
    unfolding args_then_in
    less_args_then_in m b = less_bind (less_child _ (s.args_bodyform b)) λ b'. less_further _ b' (s.in_bodyform m)

    less_rename_args_let : (l : Loc) (k h : Bytes) (bs : List Binding) (b : Body) → Less (rename_args_let F r l k h bs b) (rename_args_let F r' l k h bs b)
    unfolding rename_args_let
    less_rename_args_let l k h bs b = less_bind (less_refl _) λ u. less_bind (less_each_binding_body s.args_bodyform u.1) λ v. less_bind (less_args_then_in u.0 b) λ w. less_refl _

    less_rename_args_desugared : (bs : List Binding) (b : Body) → Less (rename_args_desugared F r bs b) (rename_args_desugared F r' bs b)
    unfolding rename_args_desugared
    less_rename_args_desugared [] b = s.args_bodyform b
    less_rename_args_desugared (BB l nl p e ∷ bs) b = less_step _ (less_rename_args_let _ _ _ _ _)

    less_rename_args_sequential : (bs : List Binding) (b : Body) → Less (rename_args_sequential F r bs b) (rename_args_sequential F r' bs b)
    unfolding rename_args_sequential
    less_rename_args_sequential bs b = less_bind (less_refl _) λ d. less_further _ d (λ _. less_rename_args_desugared bs b)

    pub less_rename_assign_binding : (m : NameMap) (b : Binding) → Less (rename_assign_binding F r m b) (rename_assign_binding F r' m b)
    unfolding rename_assign_binding
    less_rename_assign_binding m (BB l nl (Name n) b) = less_refl _
    less_rename_assign_binding m (BB l nl (Complex p) b) =
        less_bind (less_refl _) λ m'. less_bind (less_child _ (s.args_bodyform b)) λ o. less_bind (less_refl _) λ p'. less_bind (less_further _ o (s.in_bodyform m')) λ b'. less_refl _

    less_rename_assign_bindings : (bs : List Binding) (is : List ℕ) (m : NameMap) (w : List Binding) → Less (rename_assign_bindings F r bs is m w) (rename_assign_bindings F r' bs is m w)
    unfolding rename_assign_bindings
    less_rename_assign_bindings bs [] m w = less_refl _
    less_rename_assign_bindings bs (i ∷ is) m w = less_bind (less_rename_assign_binding m _) λ u. less_rename_assign_bindings bs is u.0 (u.1 ∷ w)

    less_rename_args_assign : (l : Loc) (k h : Bytes) (bs : List Binding) (b : Body) → Less (rename_args_assign F r l k h bs b) (rename_args_assign F r' l k h bs b)
    unfolding rename_args_assign rename_args_ordered
    less_rename_args_assign l k h bs b = go (toposort_assign_bindings bs)
      where
        go : (o : Toposorted)
            → Less {A = Body} (elim o as (λ _. M Body) [ deadlock _ ↦ refuse (deadlocked l) | ordered is ↦ rename_args_ordered F r l k h bs b is ]) (elim o as (λ _. M Body) [ deadlock _ ↦ refuse (deadlocked l) | ordered is ↦ rename_args_ordered F r' l k h bs b is ])
        go (deadlock l') = less_refl _
        go (ordered is) = less_bind (less_rename_assign_bindings bs is [] []) λ u. less_bind (less_args_then_in u.0 b) λ b'. less_refl _

    less_rename_args_bodyform : (b : Body) → Less (rename_args_bodyform F r b) (rename_args_bodyform F r' b)
    unfolding rename_args_bodyform
    less_rename_args_bodyform (BL Parallel l k h bs b) = less_rename_args_let l k h (list_of bs) b
    less_rename_args_bodyform (BL Sequential l k h bs b) = less_rename_args_sequential (list_of bs) b
    less_rename_args_bodyform (BL Assign l k h bs b) = less_rename_args_assign l k h (list_of bs) b
    less_rename_args_bodyform (BQ x) = less_refl _
    less_rename_args_bodyform (BV x) = less_refl _
    less_rename_args_bodyform (BC l bs t) = less_bind (less_each_body s.args_bodyform bs) λ bs'. less_bind (less_call_tail s.args_bodyform t) λ t'. less_refl _
    less_rename_args_bodyform (BM l f) = less_refl _
    less_rename_args_bodyform (BF l k ca c a b) = less_bind (less_refl _) λ m. less_bind (less_refl _) λ a'. less_bind (less_args_then_in m b) λ b'. less_refl _

    less_in_elements : (m : NameMap) (bs : Bodies) → Less (in_elements F r m bs) (in_elements F r' m bs)
    unfolding in_elements
    less_in_elements m []ᵇ = less_refl _
    less_in_elements m (b ∷ᵇ bs) = less_bind (less_child _ (s.in_bodyform m b)) λ b'. less_bind (less_refl _) λ b''. less_bind (less_each_body (s.in_bodyform m) bs) λ bs'. less_refl _

    less_rename_in_bodyform : (m : NameMap) (b : Body) → Less (rename_in_bodyform F r m b) (rename_in_bodyform F r' m b)
    unfolding rename_in_quoted rename_in_value rename_in_bodyform
    less_rename_in_bodyform m (BL k l w h bs b) = less_bind (less_each_binding_body (s.in_bodyform m) (list_of bs)) λ bs'. less_bind (less_child _ (s.in_bodyform m b)) λ b'. less_refl _
    less_rename_in_bodyform m (BQ x) = less_refl _
    less_rename_in_bodyform m (BV x) = less_refl _
    less_rename_in_bodyform m (BC l bs t) = less_bind (less_in_elements m bs) λ bs'. less_bind (less_call_tail (s.in_bodyform m) t) λ t'. less_refl _
    less_rename_in_bodyform m (BM l f) = less_refl _
    less_rename_in_bodyform m (BF l k ca c a b) = less_bind (less_child _ (s.in_bodyform m c)) λ c'. less_bind (less_refl _) λ ca'. less_bind (less_args_then_in m b) λ b'. less_refl _

  agrees_logged : (e : Option Body → Visit) (o o' : Out Body) → Agrees o o' → Agrees (logged e o) (logged e o')
  unfolding logged
  agrees_logged e (done log a c x) o' (inl f) = absurd f
  agrees_logged e (refused log r) o' (inl f) = inl f
  agrees_logged e o o' (inr q) = inr (ap (logged e) q)

  less_reach : {m m' : M Body} (b : Body) → Less m m' → Less (log_assign b m) (log_assign b m')
  unfolding log_assign
  less_reach (BL Parallel l k h bs b) s = s
  less_reach (BL Sequential l k h bs b) s = s
  less_reach {m} {m'} (BL Assign l k h bs b) s = record { agrees = λ c x. agrees_logged _ (m c x) (m' c x) (s.agrees c x) }
  less_reach (BQ x) s = s
  less_reach (BV x) s = s
  less_reach (BC l bs t) s = s
  less_reach (BM l f) s = s
  less_reach (BF l k ca c a b) s = s

  pub less_walk : (n k : ℕ) → n ≤ k → LessRules (walk F n) (walk F k)
  unfolding walk body_rules
  less_walk zero k h = record { args_bodyform = λ b. less_out _; in_bodyform = λ m b. less_out _ }
  less_walk (suc n) zero h = absurd (omega arith)
  less_walk (suc n) (suc k) h = let s = less_walk n k (omega arith) in record { args_bodyform = λ b. less_reach b (less_step _ (less_rename_args_bodyform s b)); in_bodyform = λ m b. less_step _ (less_rename_in_bodyform s m b) }
