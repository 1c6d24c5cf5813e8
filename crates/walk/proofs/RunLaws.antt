-- What runs one after the other give, from any sum: a run that leaves the sum as it was, a step, and the rules of the walk. Assumes nothing.
use mathlib.Core.Path.{◌≡◌, refl, sym, ap, ◌∙◌}
use mathlib.Core.Bool.{Bool, true, false}
use mathlib.Core.List.{List, [], ◌∷◌, ◌++◌}
use mathlib.Core.Option.{Option}
use native.Mathlib.Omega.{arith}
use borrow.Author.Tests.{le-leb, lt-leb, leb-true, leb-false}
use Prim.Native.Nat.{ℕ, zero, suc, ◌+◌, ◌-◌, ◌≤◌, ◌<◌}
use lib.Dec.{leb}
use lib.ListN.{length}
use Rattle.names.specs.Maps.{NameMap}
use Rattle.names.specs.Names.{Bytes, ascii, same, name_limit, gensym}
use Rattle.names.specs.declared.Refusal.{Refusal}
use Rattle.records.specs.StepAnswer.{Outcome, gives, refuses}
use Rattle.records.specs.Records.{Sexp, SN, SC, SI, SQ, SA, Body, BL, BQ, BV, BC, BM, BF}
use Rattle.records.specs.declared.Kind.TheVariants.{Parallel, Sequential, Assign}
use Rattle.walk.specs.Arena.{outcome}
use Rattle.walk.specs.Bodyforms.{body_rules, walk, log_assign, logged, visit, rename_args_bodyform, rename_in_bodyform}
use Rattle.walk.specs.Invent.{name_too_long, draw, invent_new_names_sexp, rename_in_cons_step}
use Rattle.walk.specs.Steps.{M, Out, Event, Visit, made, done, refused, DoneWith, RefusedWith, over_long, out_of_fuel, ◌>>=◌, after, ret, refuse, fits, step, sexp_size, body_size}
use Rattle.walk.specs.Walking.{rule}

-- an outcome with another sum
unfoldable pub with_sum : {A : Type 0} → ℕ → Out A → Out A
with_sum x (done log a c y) = done log a c x
with_sum x (refused log r) = refused log r

-- a run that neither sees nor changes the sum
pub record Neutral {A : Type 0} (m : M A) : Type 0 where
  pub same_run : (c x : ℕ) → m c x ≡ with_sum x (m c 0)

-- what happened before does not change what is given
pub outcome_after : {A : Type 0} (log : List Event) (o : Out A) → outcome (after log o) ≡ outcome o
unfolding outcome after
outcome_after log (done l a c x) = refl
outcome_after log (refused l r) = refl

after_with_sum : {A : Type 0} (x : ℕ) (log : List Event) (o : Out A) → after log (with_sum x o) ≡ with_sum x (after log o)
unfolding with_sum after
after_with_sum x log (done l a c y) = refl
after_with_sum x log (refused l r) = refl

-- a run that gives a value ended with it, at some sum
pub ended : {A : Type 0} (o : Out A) {a : A} {c : ℕ} → outcome o ≡ gives a c → (x : ℕ) × DoneWith o a c x
unfolding outcome
ended (done log b d y) {a} {c} e =
    let p : b ≡ a = cc in
    let q : d ≡ c = cc in
    (y, (log, cc))
ended (refused log r) e = let z : ◌≡◌ {A = ℕ} 0 1 = cc in absurd (omega arith)

-- and one that gives a refusal ended with that
pub ended_stops : {A : Type 0} (o : Out A) {r : Refusal} → outcome o ≡ refuses r → RefusedWith o r
unfolding outcome
ended_stops (done log a c x) e = let z : ◌≡◌ {A = ℕ} 0 1 = cc in absurd (omega arith)
ended_stops (refused log q) {r} e = let p : q ≡ r = cc in (log, ap (refused log) p)

-- what a run does next
module _ {A B : Type 0} (k : A → M B) where
  unfoldable pub onward : Out A → Out B
  onward (done log a c x) = after log (k a c x)
  onward (refused log r) = refused log r

  pub bind_onward : (m : M A) (c x : ℕ) → (m >>= k) c x ≡ onward (m c x)
  unfolding ◌>>=◌ onward
  bind_onward m c x = go (m c x)
    where
      go : (o : Out A) → elim o as (λ _. Out B) [ done log a c' x' ↦ after log (k a c' x') | refused log r ↦ refused log r ] ≡ onward o
      go (done log a c x) = refl
      go (refused log r) = refl

  -- a value at once
  pub ret_then : (a : A) (c x : ℕ) → outcome ((ret a >>= k) c x) ≡ outcome (k a c x)
  unfolding ret onward
  ret_then a c x = ap outcome (bind_onward (ret a) c x) ∙ outcome_after [] (k a c x)

-- one run after another, and a third
module _ {A B C : Type 0} (m : M A) (f : A → M B) (k : B → M C) where
  pub then_then : (c x : ℕ) → outcome (((m >>= f) >>= k) c x) ≡ outcome ((m >>= λ a. f a >>= k) c x)
  unfolding after onward
  then_then c x =
      ap outcome (bind_onward k (m >>= f) c x ∙ ap (onward k) (bind_onward f m c x)) ∙ go (m c x)
      ∙ ap outcome (sym (bind_onward (λ a. f a >>= k) m c x))
    where
      late : (log : List Event) (o : Out B) → outcome (onward k (after log o)) ≡ outcome (onward k o)
      late log (done l b c x) = outcome_after (log ++ l) (k b c x) ∙ sym (outcome_after l (k b c x))
      late log (refused l r) = outcome_after {A = C} log (refused l r)

      go : (o : Out A) → outcome (onward k (onward f o)) ≡ outcome (onward (λ a. f a >>= k) o)
      go (done log a c x) = late log (f a c x) ∙ ap outcome (sym (bind_onward k (f a) c x)) ∙ sym (outcome_after log ((f a >>= k) c x))
      go (refused log r) = refl

-- what follows a run may be replaced by what gives the same
pub then_same : {A B : Type 0} (m : M A) (f g : A → M B) → ((a : A) (c x : ℕ) → outcome (f a c x) ≡ outcome (g a c x)) → (c x : ℕ) → outcome ((m >>= f) c x) ≡ outcome ((m >>= g) c x)
unfolding onward
then_same {A} {B} m f g h c x = ap outcome (bind_onward f m c x) ∙ go (m c x) ∙ ap outcome (sym (bind_onward g m c x))
  where
    go : (o : Out A) → outcome (onward f o) ≡ outcome (onward g o)
    go (done log a d y) = outcome_after log (f a d y) ∙ h a d y ∙ sym (outcome_after log (g a d y))
    go (refused log r) = refl

-- nothing after a run
pub then_ret : {A : Type 0} (m : M A) (c x : ℕ) → outcome ((m >>= ret) c x) ≡ outcome (m c x)
unfolding ret onward outcome
then_ret {A} m c x = ap outcome (bind_onward ret m c x) ∙ go (m c x)
  where
    go : (o : Out A) → outcome (onward ret o) ≡ outcome o
    go (done log a c x) = outcome_after log (done [] a c x)
    go (refused log r) = refl

-- what is given, by a function of its value
abbrev pub mapped : {A B : Type 0} → (A → B) → Outcome A → Outcome B
mapped g (gives a c) = gives (g a) c
mapped g (refuses r) = refuses r

mapped_same : {A : Type 0} (o : Outcome A) → mapped (λ a. a) o ≡ o
mapped_same (gives a c) = refl
mapped_same (refuses r) = refl

module _ (F : ℕ) where
  -- a step
  module _ {A : Type 0} (size : A → ℕ) (m : M A) where
    fits_sum : (a : A) (c x : ℕ) → fits F size a c x ≡ with_sum x (fits F size a c 0)
    unfolding fits with_sum
    fits_sum a c x = go (leb (size a) F)
      where
        go : (b : Bool) → elim b as (λ _. Out A) [ true ↦ done [] a c x | false ↦ refused [] over_long ] ≡ with_sum {A = A} x (elim b as (λ _. Out A) [ true ↦ done [] a c 0 | false ↦ refused [] over_long ])
        go true = refl
        go false = refl

    pub neutral_step : Neutral (step F size m)
    unfolding step with_sum
    neutral_step = record { same_run = λ c x. go c x (m c 0) }
      where
        go : (c x : ℕ) (o : Out A) → elim o as (λ _. Out A) [ done log a c' x' ↦ after log (fits F size a c' x) | refused log r ↦ refused log r ]
            ≡ with_sum {A = A} x (elim o as (λ _. Out A) [ done log a c' x' ↦ after log (fits F size a c' 0) | refused log r ↦ refused log r ])
        go c x (done log a d y) = ap (after log) (fits_sum a d x) ∙ after_with_sum x log (fits F size a d 0)
        go c x (refused log r) = refl

    module _ (c x : ℕ) where
      pub step_gives : {a : A} {c' : ℕ} → outcome (m c 0) ≡ gives a c' → size a ≤ F → outcome (step F size m c x) ≡ gives a c'
      unfolding step outcome fits after
      step_gives e le = rw ((ended (m c 0) e).1.1, le-leb _ _ le, step, fits)

      pub step_over : {a : A} {c' : ℕ} → outcome (m c 0) ≡ gives a c' → F < size a → outcome (step F size m c x) ≡ refuses over_long
      unfolding step outcome fits after
      step_over e lt = rw ((ended (m c 0) e).1.1, lt-leb _ _ lt, step, fits)

      pub step_refuses : {r : Refusal} → outcome (m c 0) ≡ refuses r → outcome (step F size m c x) ≡ refuses r
      unfolding step outcome
      step_refuses e = rw ((ended_stops (m c 0) e).1, step)

  -- steps whose runs give the same but for a function of the value, which keeps its size
  module _ {A B : Type 0} (g : A → B) (size : A → ℕ) (whole : B → ℕ) (keeps : (a : A) → whole (g a) ≡ size a) (m : M B) (n : M A) (c d x y : ℕ) where
    pub step_mapped : outcome (m c 0) ≡ mapped g (outcome (n d 0)) → outcome (step F whole m c x) ≡ mapped g (outcome (step F size n d y))
    step_mapped e = go (outcome (n d 0)) refl
      where
        fit : (a : A) (k : ℕ) → outcome (n d 0) ≡ gives a k → (b : Bool) → leb (size a) F ≡ b → outcome (step F whole m c x) ≡ mapped g (outcome (step F size n d y))
        fit a k q true l =
            step_gives whole m c x (e ∙ ap (mapped g) q) (omega (arith, leb-true (size a) F l, keeps a)) ∙ ap (mapped g) (sym (step_gives size n d y q (leb-true _ _ l)))
        fit a k q false l =
            step_over whole m c x (e ∙ ap (mapped g) q) (omega (arith, leb-false (size a) F l, keeps a)) ∙ ap (mapped g) (sym (step_over size n d y q (leb-false _ _ l)))

        go : (o : Outcome A) → outcome (n d 0) ≡ o → outcome (step F whole m c x) ≡ mapped g (outcome (step F size n d y))
        go (gives a k) q = fit a k q (leb (size a) F) refl
        go (refuses r) q = step_refuses whole m c x (e ∙ ap (mapped g) q) ∙ ap (mapped g) (sym (step_refuses size n d y q))

  -- and those whose runs give the same
  pub step_same : {A : Type 0} (size : A → ℕ) (m n : M A) (c d x y : ℕ) → outcome (m c 0) ≡ outcome (n d 0) → outcome (step F size m c x) ≡ outcome (step F size n d y)
  step_same size m n c d x y e = step_mapped (λ a. a) size size (λ a. refl) m n c d x y (e ∙ sym (mapped_same (outcome (n d 0)))) ∙ mapped_same (outcome (step F size n d y))

  pub neutral_rename_in_cons_step : (qq : Bool) (m : NameMap) (s : Sexp) → Neutral (rename_in_cons_step F qq m s)
  unfolding rename_in_cons_step
  neutral_rename_in_cons_step qq m s = neutral_step sexp_size _

pub neutral_ret : {A : Type 0} (a : A) → Neutral (ret a)
unfolding ret with_sum
neutral_ret a = record { same_run = λ c x. refl }

pub neutral_refuse : {A : Type 0} (r : Refusal) → Neutral {A = A} (refuse r)
unfolding refuse with_sum
neutral_refuse r = record { same_run = λ c x. refl }

neutral_bind : {A B : Type 0} {m : M A} {k : A → M B} → Neutral m → ((a : A) → Neutral (k a)) → Neutral (m >>= k)
unfolding onward with_sum
neutral_bind {A} {B} {m} {k} n h = record { same_run = λ c x. bind_onward k m c x ∙ ap (onward k) (n.same_run c x) ∙ go x (m c 0) ∙ ap (with_sum x) (sym (bind_onward k m c 0 ∙ ap (onward k) (n.same_run c 0))) }
  where
    go : (x : ℕ) (o : Out A) → onward k (with_sum x o) ≡ with_sum x (onward k (with_sum 0 o))
    go x (done log a c y) = ap (after log) ((h a).same_run c x) ∙ after_with_sum x log (k a c 0)
    go x (refused log r) = refl

pub neutral_draw : (n : Bytes) → Neutral (draw n)
unfolding draw with_sum
neutral_draw n = record { same_run = λ c x. go c x (leb (length (gensym n c)) name_limit) }
  where
    go : (c x : ℕ) (b : Bool) → elim b as (λ _. Out Bytes) [ true ↦ done (made n (gensym n c) ∷ []) (gensym n c) (c + 1) x | false ↦ refused [] name_too_long ]
        ≡ with_sum {A = Bytes} x (elim b as (λ _. Out Bytes) [ true ↦ done (made n (gensym n c) ∷ []) (gensym n c) (c + 1) 0 | false ↦ refused [] name_too_long ])
    go c x true = refl
    go c x false = refl

neutral_either : {A : Type 0} {m k : M A} (b : Bool) → Neutral m → Neutral k → Neutral {A = A} (elim b as (λ _. M A) [ true ↦ m | false ↦ k ])
neutral_either true p q = p
neutral_either false p q = q

pub neutral_invent : (m : NameMap) (s : Sexp) → Neutral (invent_new_names_sexp m s)
unfolding invent_new_names_sexp
neutral_invent m (SN l) = neutral_ret m
neutral_invent m (SC l h t) = neutral_bind (neutral_invent m h) (λ m'. neutral_invent m' t)
neutral_invent m (SI l v) = neutral_ret m
neutral_invent m (SQ l q n) = neutral_ret m
neutral_invent m (SA l n) = neutral_either (same n (ascii "@")) (neutral_ret m) (neutral_bind (neutral_draw n) (λ n'. neutral_ret _))

-- the list of assigns does not change what is given
module _ (F : ℕ) where
  logged_outcome : (e : Option Body → Visit) (o : Out Body) → outcome (logged e o) ≡ outcome o
  unfolding logged outcome
  logged_outcome e (done log a d y) = refl
  logged_outcome e (refused log r) = refl

  logged_sum : (e : Option Body → Visit) (x : ℕ) (o : Out Body) → logged e (with_sum x o) ≡ with_sum x (logged e o)
  unfolding logged with_sum
  logged_sum e x (done log a d y) = refl
  logged_sum e x (refused log r) = refl

  pub outcome_log_assign : (b : Body) (m : M Body) (c x : ℕ) → outcome (log_assign b m c x) ≡ outcome (m c x)
  unfolding log_assign
  outcome_log_assign (BL Parallel l k h bs b) m c x = refl
  outcome_log_assign (BL Sequential l k h bs b) m c x = refl
  outcome_log_assign (BL Assign l k h bs b) m c x = logged_outcome (visit l k h bs b c) (m c x)
  outcome_log_assign (BQ s) m c x = refl
  outcome_log_assign (BV s) m c x = refl
  outcome_log_assign (BC l bs t) m c x = refl
  outcome_log_assign (BM l f) m c x = refl
  outcome_log_assign (BF l k ca d a b) m c x = refl

  neutral_log_assign : (b : Body) {m : M Body} → Neutral m → Neutral (log_assign b m)
  unfolding log_assign
  neutral_log_assign (BL Parallel l k h bs b) n = n
  neutral_log_assign (BL Sequential l k h bs b) n = n
  neutral_log_assign (BL Assign l k h bs b) {m} n = record { same_run = λ c x. ap (logged (visit l k h bs b c)) (n.same_run c x) ∙ logged_sum (visit l k h bs b c) x (m c 0) }
  neutral_log_assign (BQ s) n = n
  neutral_log_assign (BV s) n = n
  neutral_log_assign (BC l bs t) n = n
  neutral_log_assign (BM l f) n = n
  neutral_log_assign (BF l k ca c a b) n = n

  -- the rules of the walk
  pub neutral_rule : (owning : Bool) (d : ℕ) (m : NameMap) (b : Body) → Neutral (rule F owning d m b)
  unfolding walk body_rules
  neutral_rule true zero m b = neutral_refuse out_of_fuel
  neutral_rule true (suc d) m b = neutral_log_assign b (neutral_step F body_size _)
  neutral_rule false zero m b = neutral_refuse out_of_fuel
  neutral_rule false (suc d) m b = neutral_step F body_size _

  -- what a rule gives of a record is what its step gives, one level down
  pub own_step : (d : ℕ) (m : NameMap) (b : Body) (c : ℕ) → 1 ≤ d → outcome (rule F true d m b c 0) ≡ outcome (step F body_size (rename_args_bodyform F (walk F (d - 1)) b) c 0)
  unfolding walk body_rules
  own_step d m b c le = let e : d ≡ suc (d - 1) = omega arith in ap (λ (n : ℕ). outcome (rule F true n m b c 0)) e ∙ outcome_log_assign b _ c 0

  pub in_step : (d : ℕ) (m : NameMap) (b : Body) (c : ℕ) → 1 ≤ d → outcome (rule F false d m b c 0) ≡ outcome (step F body_size (rename_in_bodyform F (walk F (d - 1)) m b) c 0)
  unfolding walk body_rules
  in_step d m b c le = let e : d ≡ suc (d - 1) = omega arith in ap (λ (n : ℕ). outcome (rule F false n m b c 0)) e
