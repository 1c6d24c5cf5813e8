-- The list of reached assigns leaves nothing out. The events of Own on an assign are its entry and then those of its step; of two runs, one after the
-- other, those of the first and then those of the second; and no other rule adds an entry. Assumes nothing.
use mathlib.Core.Path.{◌≡◌, refl, ap, ◌∙◌}
use mathlib.Core.Bool.{Bool, true, false}
use mathlib.Core.List.{List, [], ◌∷◌, ◌++◌, append-nil}
use mathlib.Core.Option.{Option, none, some}
use Prim.Native.Nat.{ℕ, suc, ◌+◌, ◌-◌}
use lib.Dec.{leb}
use lib.ListN.{length}
use Rattle.names.specs.Maps.{NameMap}
use Rattle.names.specs.Names.{Bytes, name_limit, gensym}
use Rattle.names.specs.declared.Refusal.{Refusal}
use Rattle.records.specs.Limits.{level_limit}
use Rattle.records.specs.Records.{Loc, Body, BL, BQ, BV, BC, BM, BF, Bindings, Helper, Form, list_of}
use Rattle.records.specs.declared.Kind.TheVariants.{Parallel, Sequential, Assign}
use Rattle.records.specs.Valid.{IsLet}
use Rattle.walk.specs.Bodyforms.{visit, logged, log_assign, rename_args_assign, rename_args_bodyform, rename_in_bodyform, body_rules, walk}
use Rattle.walk.specs.Helperforms.{rename_args_helperform, rename_in_helperform, rename_args_compileform, rename_in_compileform, rename_children_compileform, form_rules, form_walk, children_walk}
use Rattle.walk.specs.Invent.{name_too_long, draw}
use Rattle.walk.specs.Steps.{M, Out, done, refused, over_long, Visit, Event, reached, made, visits, events, after, ◌>>=◌, ◌>>◌, ret, refuse, add_to_sum, take_from_sum, fits, step, child, further, body_size, helper_size, form_size}
use Rattle.walk.proofs.All.{All, all_append}

-- the assigns reached of two lists of events, one after the other
pub visits_append : (log log' : List Event) → visits (log ++ log') ≡ visits log ++ visits log'
visits_append [] log' = refl
visits_append (reached e ∷ log) log' = ap (λ (l : List Visit). e ∷ l) (visits_append log log')
visits_append (made n n' ∷ log) log' = visits_append log log'

pub all_visits : {P : Visit → Type 0} (log log' : List Event) → All P (visits log) → All P (visits log') → All P (visits (log ++ log'))
all_visits log log' g f = rw (visits_append log log') (all_append g f)

-- nothing happens
abbrev pub Silent : {A : Type 0} → M A → Type 0
Silent m = (c x : ℕ) → events (m c x) ≡ []

-- no assign is reached
abbrev pub ReachesNone : {A : Type 0} → M A → Type 0
ReachesNone m = (c x : ℕ) → visits (events (m c x)) ≡ []

-- the value of a finished run
abbrev pub value : {A : Type 0} → Out A → Option A
value (done log a c x) = some a
value (refused log r) = none

-- the events of what follows a run, where it is finished
abbrev pub following : {A B : Type 0} → Out A → (A → M B) → List Event
following (done log a c x) k = events (k a c x)
following (refused log r) k = []

events_after : {A : Type 0} (log : List Event) (o : Out A) → events (after log o) ≡ log ++ events o
unfolding after
events_after log (done log' a c x) = refl
events_after log (refused log' r) = refl

-- one run, and then another
pub bind_events : {A B : Type 0} (m : M A) (k : A → M B) (c x : ℕ) → events ((m >>= k) c x) ≡ events (m c x) ++ following (m c x) k
unfolding ◌>>=◌
bind_events {A} {B} m k c x = go (m c x)
  where
    go : (o : Out A) → events {A = B} (elim o [ done log a c' x' ↦ after log (k a c' x') | refused log r ↦ refused log r ]) ≡ events o ++ following o k
    go (done log a c' x') = events_after log (k a c' x')
    go (refused log r) = rw append-nil

-- the runs that nothing happens in
pub ret_silent : {A : Type 0} (a : A) → Silent (ret a)
unfolding ret
ret_silent a c x = refl

pub refuse_silent : (A : Type 0) (r : Refusal) → Silent {A = A} (refuse r)
unfolding refuse
refuse_silent A r c x = refl

-- where what follows is silent
bind_silent : {A B : Type 0} (m : M A) (k : A → M B) → ((a : A) → Silent (k a)) → (c x : ℕ) → events ((m >>= k) c x) ≡ events (m c x)
bind_silent {A} m k s c x = bind_events m k c x ∙ go (m c x)
  where
    go : (o : Out A) → events o ++ following o k ≡ events o
    go (done log a c' x') = rw (s a c' x', append-nil)
    go (refused log r) = rw append-nil

module _ (F : ℕ) where
  pub add_to_sum_silent : (n : ℕ) → Silent (add_to_sum F n)
  unfolding add_to_sum
  add_to_sum_silent n c x = go (leb (x + n) F)
    where
      go : (b : Bool) → events {A = Unit {0}} (elim b [ true ↦ done [] tt c (x + n) | false ↦ refused [] over_long ]) ≡ []
      go true = refl
      go false = refl

  pub take_from_sum_silent : (n : ℕ) → Silent (take_from_sum F n)
  unfolding take_from_sum
  take_from_sum_silent n c x = refl

  module _ {A : Type 0} (size : A → ℕ) where
    pub fits_silent : (a : A) → Silent (fits F size a)
    unfolding fits
    fits_silent a c x = go (leb (size a) F)
      where
        go : (b : Bool) → events {A = A} (elim b [ true ↦ done [] a c x | false ↦ refused [] over_long ]) ≡ []
        go true = refl
        go false = refl

    -- a step, a child's result, and a result that is taken further: what their run has
    pub step_events : (m : M A) (c x : ℕ) → events (step F size m c x) ≡ events (m c 0)
    unfolding step
    step_events m c x = go (m c 0)
      where
        go : (o : Out A) → events {A = A} (elim o [ done log a c' x' ↦ after log (fits F size a c' x) | refused log r ↦ refused log r ]) ≡ events o
        go (done log a c' x') = events_after log (fits F size a c' x) ∙ rw (fits_silent a c' x, append-nil)
        go (refused log r) = refl

    pub child_events : (m : M A) (c x : ℕ) → events (child F size m c x) ≡ events (m c x)
    unfolding child ◌>>◌
    child_events m = bind_silent m _ λ a c x. bind_silent (add_to_sum F (size a)) _ (λ _. ret_silent a) c x ∙ add_to_sum_silent (size a) c x

    pub further_events : (old : A) (f : A → M A) (c x : ℕ) → events (further F size old f c x) ≡ events (f old c x)
    unfolding further ◌>>◌
    further_events old f =
        bind_silent (f old) _ λ a c x.
        bind_silent (take_from_sum F (size old)) _ (λ _ c x. bind_silent (add_to_sum F (size a)) _ (λ _. ret_silent a) c x ∙ add_to_sum_silent (size a) c x) c x
        ∙ take_from_sum_silent (size old) c x

-- a draw reaches none: it has the name that it makes alone
pub draw_reaches_none : (n : Bytes) → ReachesNone (draw n)
unfolding draw
draw_reaches_none n c x = go (leb (length (gensym n c)) name_limit)
  where
    go : (b : Bool) → visits (events {A = Bytes} (elim b [ true ↦ done (made n (gensym n c) ∷ []) (gensym n c) (c + 1) x | false ↦ refused [] name_too_long ])) ≡ []
    go true = refl
    go false = refl

-- a use of a rule
module _ (F n : ℕ) (c x : ℕ) where
  -- Own on an assign: its entry, and then what its step has
  pub assign_events : (l : Loc) (k h : Bytes) (bs : Bindings) (b : Body)
      → let o : Out Body = step F body_size (rename_args_assign F (walk F n) l k h (list_of bs) b) c x in
      events ((walk F (suc n)).args_bodyform (BL Assign l k h bs b) c x) ≡ reached (visit l k h bs b c (value o)) ∷ events o
  unfolding walk body_rules log_assign logged rename_args_bodyform
  assign_events l k h bs b = go (step F body_size (rename_args_assign F (walk F n) l k h (list_of bs) b) c x)
    where
      go : (o : Out Body) → events (logged (visit l k h bs b c) o) ≡ reached (visit l k h bs b c (value o)) ∷ events o
      go (done log a c' x') = refl
      go (refused log r) = refl

  -- Own on any other record, and the other rules: what their step has
  pub args_bodyform_events : (b : Body) → ¬ IsLet Assign b → events ((walk F (suc n)).args_bodyform b c x) ≡ events (rename_args_bodyform F (walk F n) b c 0)
  unfolding walk body_rules log_assign IsLet
  args_bodyform_events (BL Parallel l k h bs b) p = step_events F body_size _ c x
  args_bodyform_events (BL Sequential l k h bs b) p = step_events F body_size _ c x
  args_bodyform_events (BL Assign l k h bs b) p = absurd (p refl)
  args_bodyform_events (BQ s) p = step_events F body_size _ c x
  args_bodyform_events (BV s) p = step_events F body_size _ c x
  args_bodyform_events (BC l bs t) p = step_events F body_size _ c x
  args_bodyform_events (BM l f) p = step_events F body_size _ c x
  args_bodyform_events (BF l k ca cs a b) p = step_events F body_size _ c x

  pub in_bodyform_events : (m : NameMap) (b : Body) → events ((walk F (suc n)).in_bodyform m b c x) ≡ events (rename_in_bodyform F (walk F n) m b c 0)
  unfolding walk body_rules
  in_bodyform_events m b = step_events F body_size _ c x

  pub args_helperform_events : (y : Helper) → events ((form_walk F (suc n)).args_helperform y c x) ≡ events (rename_args_helperform F (walk F n) (form_walk F n) y c 0)
  unfolding form_walk form_rules
  args_helperform_events y = step_events F helper_size _ c x

  pub in_helperform_events : (m : NameMap) (y : Helper) → events ((form_walk F (suc n)).in_helperform m y c x) ≡ events (rename_in_helperform F (walk F n) (form_walk F n) m y c 0)
  unfolding form_walk form_rules
  in_helperform_events m y = step_events F helper_size _ c x

  pub args_compileform_events : (f : Form) → events ((form_walk F (suc n)).args_compileform f c x) ≡ events (rename_args_compileform F (walk F n) (form_walk F n) f c 0)
  unfolding form_walk form_rules
  args_compileform_events f = step_events F form_size _ c x

  pub in_compileform_events : (m : NameMap) (f : Form) → events ((form_walk F (suc n)).in_compileform m f c x) ≡ events (rename_in_compileform F (walk F n) (form_walk F n) m f c 0)
  unfolding form_walk form_rules
  in_compileform_events m f = step_events F form_size _ c x

-- the one use of `rename_children_compileform`
pub children_events : (F : ℕ) (f : Form) (c x : ℕ) → events (children_walk F f c x) ≡ events (rename_children_compileform F (walk F (level_limit - 1)) (form_walk F (level_limit - 1)) f c 0)
unfolding children_walk
children_events F f c x = step_events F form_size _ c x
