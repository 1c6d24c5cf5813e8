-- The walk of helpers and forms runs within its bounds, and so do the walks of the three calls. Assumes nothing.
use mathlib.Core.Bool.{true}
use mathlib.Core.List.{[]}
use Prim.Native.Nat.{ℕ, zero, suc, ◌+◌, ◌-◌, ◌≤◌}
use native.Mathlib.Omega.{arith}
use Rattle.names.specs.Maps.{NameMap}
use Rattle.records.specs.Depth.{helper_depth, helpers_depth, form_depth}
use Rattle.records.specs.Limits.{level_limit}
use Rattle.records.specs.Records.{Helper, HC, HM, HD, HN, HR, Helpers, []ʰ, ◌∷ʰ◌, Form, CF}
use Rattle.walk.specs.Steps.{M}
use Rattle.walk.specs.Bodyforms.{Rules}
use Rattle.walk.specs.Helperforms.{FormRules, each_helper, further_helpers, rename_args_helperform, rename_in_helperform, rename_args_compileform, rename_in_compileform, rename_children_compileform, form_rules, form_walk, whole_walk, children_walk, helper_walk}
use Rattle.walk.specs.Draws.{dbl, sexp_atoms, atoms, helper_atoms, helpers_atoms, form_atoms}
use Rattle.walk.proofs.Sizes.{dbl_add, dbl_mono, dbl_least, dbl_twice, helper_positive, form_positive}
use Rattle.walk.proofs.RunBounds.{Runs, SmallForm, SmallHelper, runs_bind, runs_more, runs_ret, runs_weaken}
use Rattle.walk.proofs.Limits.{runs_step, runs_child, runs_further, runs_invent_new_names_sexp, runs_rename_in_cons_step, BoundedRules, runs_in_bodyform, runs_args_then_in, runs_walk}

module _ (F : ℕ) where
  -- a rule of helpers, and one of forms
  abbrev pub BoundedHelper : ℕ → (Helper → M Helper) → Type 0
  BoundedHelper d f = (x : Helper) → helper_depth x ≤ d → Runs (dbl d (helper_atoms x)) (SmallHelper (helper_depth x) (helper_atoms x)) (f x)

  abbrev pub BoundedForm : ℕ → (Form → M Form) → Type 0
  BoundedForm d f = (x : Form) → form_depth x ≤ d → Runs (dbl d (form_atoms x)) (SmallForm (form_depth x) (form_atoms x)) (f x)

  -- at most so deep, and so many atoms
  abbrev pub SmallHelpers : ℕ → ℕ → Helpers → Type 0
  SmallHelpers d n xs = (helpers_depth xs ≤ d) × (helpers_atoms xs ≤ n)

  module _ (d : ℕ) {f : Helper → M Helper} (s : BoundedHelper d f) where
    pub runs_each_helper : (xs : Helpers) → helpers_depth xs ≤ d → Runs (dbl d (helpers_atoms xs)) (SmallHelpers (helpers_depth xs) (helpers_atoms xs)) (each_helper F f xs)
    unfolding each_helper helpers_atoms helpers_depth
    runs_each_helper []ʰ h = runs_ret _ (omega arith, omega arith)
    runs_each_helper (x ∷ʰ xs) h =
        runs_more (omega (arith, dbl_add d (helper_atoms x) (helpers_atoms xs)))
        (runs_bind (runs_child F _ (s x (omega arith))) λ x' p. runs_bind (runs_each_helper xs (omega arith)) λ xs' q. runs_ret {n = 0} _ (omega arith, omega arith))

    pub runs_further_helpers : (xs : Helpers) → helpers_depth xs ≤ d → Runs (dbl d (helpers_atoms xs)) (SmallHelpers (helpers_depth xs) (helpers_atoms xs)) (further_helpers F f xs)
    unfolding further_helpers helpers_atoms helpers_depth
    runs_further_helpers []ʰ h = runs_ret _ (omega arith, omega arith)
    runs_further_helpers (x ∷ʰ xs) h =
        runs_more (omega (arith, dbl_add d (helper_atoms x) (helpers_atoms xs)))
        (runs_bind (runs_further F _ _ x (s x (omega arith))) λ x' p. runs_bind (runs_further_helpers xs (omega arith)) λ xs' q. runs_ret {n = 0} _ (omega arith, omega arith))

  pub record BoundedForms (d : ℕ) (q : FormRules) : Type 0 where
    pub args_helperform : BoundedHelper d q.args_helperform
    pub in_helperform : (m : NameMap) → BoundedHelper d (q.in_helperform m)
    pub args_compileform : BoundedForm d q.args_compileform
    pub in_compileform : (m : NameMap) → BoundedForm d (q.in_compileform m)

  module _ (d : ℕ) (r : Rules) (q : FormRules) (s : BoundedRules F d r) (t : BoundedForms d q) where
    runs_rename_args_helperform : BoundedHelper (suc d) (rename_args_helperform F r q)
    unfolding rename_args_helperform helper_atoms helper_depth
    runs_rename_args_helperform (HC l n x b) h = runs_more (omega (arith, dbl_twice d (atoms b))) (runs_bind (runs_child F _ (s.args_bodyform b (omega arith))) λ b' p. runs_ret {n = 0} _ (omega arith, omega arith))
    runs_rename_args_helperform (HM l n x a f) h =
        let y = sexp_atoms a in
        let z = form_atoms f in
        runs_more (omega (arith, dbl_twice d (y + z), dbl_add d y z, dbl_least d y))
        (runs_bind (runs_invent_new_names_sexp F [] a) λ m _. runs_bind (runs_child F _ (runs_rename_in_cons_step F true m a)) λ a' u. runs_bind (runs_child F _ (t.args_compileform f (omega arith))) λ f' p.
        runs_bind
        (runs_weaken {P = SmallForm (form_depth f') (form_atoms f')} {Q = SmallForm (form_depth f) z} (dbl_mono d (form_atoms f') z p.1) (λ g v. (omega arith, omega arith)) (runs_further F _ _ f' (t.in_compileform m f' (omega arith))))
        λ f'' w. runs_ret {n = 0} _ (omega arith, omega arith))
    runs_rename_args_helperform (HD l i n x a b) h =
        let y = sexp_atoms a in
        let z = atoms b in
        runs_more (omega (arith, dbl_twice d (y + z), dbl_add d y z, dbl_least d y))
        (runs_bind (runs_invent_new_names_sexp F [] a) λ m _. runs_bind (runs_child F _ (runs_rename_in_cons_step F true m a)) λ a' u. runs_bind (runs_args_then_in F d r s m b (omega arith)) λ b' p. runs_ret {n = 0} _ (omega arith, omega arith))
    runs_rename_args_helperform (HN l n x hs) h =
        runs_more (omega (arith, dbl_twice d (helpers_atoms hs))) (runs_bind (runs_each_helper d t.args_helperform hs (omega arith)) λ hs' p. runs_ret {n = 0} _ (omega arith, omega arith))
    runs_rename_args_helperform (HR l n x) h = runs_ret _ (omega arith, omega arith)

    runs_rename_in_helperform : (m : NameMap) → BoundedHelper (suc d) (rename_in_helperform F r q m)
    unfolding rename_in_helperform helper_atoms helper_depth
    runs_rename_in_helperform m (HC l n x b) h = runs_more (omega (arith, dbl_twice d (atoms b))) (runs_bind (runs_child F _ (s.in_bodyform m b (omega arith))) λ b' p. runs_ret {n = 0} _ (omega arith, omega arith))
    runs_rename_in_helperform m (HM l n x a f) h =
        runs_more (omega (arith, dbl_twice d (sexp_atoms a + form_atoms f), dbl_add d (sexp_atoms a) (form_atoms f)))
        (runs_bind (runs_child F _ (t.in_compileform m f (omega arith))) λ f' p. runs_ret {n = 0} _ (omega arith, omega arith))
    runs_rename_in_helperform m (HD l i n x a b) h =
        runs_more (omega (arith, dbl_twice d (sexp_atoms a + atoms b), dbl_add d (sexp_atoms a) (atoms b)))
        (runs_bind (runs_child F _ (s.in_bodyform m b (omega arith))) λ b' p. runs_ret {n = 0} _ (omega arith, omega arith))
    runs_rename_in_helperform m (HN l n x hs) h = runs_ret _ (omega arith, omega arith)
    runs_rename_in_helperform m (HR l n x) h = runs_ret _ (omega arith, omega arith)

    runs_rename_args_compileform : BoundedForm (suc d) (rename_args_compileform F r q)
    unfolding rename_args_compileform form_atoms form_depth
    runs_rename_args_compileform (CF l x a hs b) h =
        let w = sexp_atoms a in
        let y = helpers_atoms hs in
        let z = atoms b in
        runs_more (omega (arith, dbl_twice d (w + (y + z)), dbl_add d w (y + z), dbl_add d y z, dbl_least d w))
        (runs_bind (runs_invent_new_names_sexp F [] a) λ m _. runs_bind (runs_child F _ (runs_rename_in_cons_step F true m a)) λ a' u. runs_bind (runs_each_helper d t.args_helperform hs (omega arith)) λ hs' p.
        runs_bind (runs_child F _ (s.args_bodyform b (omega arith))) λ b' v.
        runs_bind
        (runs_weaken {P = SmallHelpers (helpers_depth hs') (helpers_atoms hs')} {Q = SmallHelpers (helpers_depth hs) y} (dbl_mono d (helpers_atoms hs') y p.1) (λ k e. (omega arith, omega arith)) (runs_further_helpers d (t.in_helperform m) hs' (omega arith)))
        λ hs'' e. runs_bind (runs_further F _ _ b' (runs_in_bodyform F d r s m b b' (omega arith) v)) λ b'' g. runs_ret {n = 0} _ (omega arith, omega arith))

    runs_rename_in_compileform : (m : NameMap) → BoundedForm (suc d) (rename_in_compileform F r q m)
    unfolding rename_in_compileform form_atoms form_depth
    runs_rename_in_compileform m (CF l x a hs b) h =
        let w = sexp_atoms a in
        let y = helpers_atoms hs in
        let z = atoms b in
        runs_more (omega (arith, dbl_twice d (w + (y + z)), dbl_add d w (y + z), dbl_add d y z))
        (runs_bind (runs_each_helper d (t.in_helperform m) hs (omega arith)) λ hs' p. runs_bind (runs_child F _ (s.in_bodyform m b (omega arith))) λ b' u. runs_ret {n = 0} _ (omega arith, omega arith))

    runs_rename_children_compileform : BoundedForm (suc d) (rename_children_compileform F r q)
    unfolding rename_children_compileform form_atoms form_depth
    runs_rename_children_compileform (CF l x a hs b) h =
        let w = sexp_atoms a in
        let y = helpers_atoms hs in
        let z = atoms b in
        runs_more (omega (arith, dbl_twice d (w + (y + z)), dbl_add d w (y + z), dbl_add d y z))
        (runs_bind (runs_each_helper d t.args_helperform hs (omega arith)) λ hs' p. runs_bind (runs_child F _ (s.args_bodyform b (omega arith))) λ b' u. runs_ret {n = 0} _ (omega arith, omega arith))

  -- the rules of helpers and forms
  pub runs_form_walk : (fuel : ℕ) → BoundedForms fuel (form_walk F fuel)
  unfolding form_walk form_rules
  runs_form_walk zero = record {
    args_helperform = λ x h. absurd (omega (arith, helper_positive x));
    in_helperform = λ m x h. absurd (omega (arith, helper_positive x));
    args_compileform = λ f h. absurd (omega (arith, form_positive f));
    in_compileform = λ m f h. absurd (omega (arith, form_positive f));
  }
  runs_form_walk (suc fuel) =
      let s = runs_walk F fuel in
      let t = runs_form_walk fuel in
      record {
        args_helperform = λ x h. runs_step F _ (runs_rename_args_helperform fuel _ _ s t x h);
        in_helperform = λ m x h. runs_step F _ (runs_rename_in_helperform fuel _ _ s t m x h);
        args_compileform = λ f h. runs_step F _ (runs_rename_args_compileform fuel _ _ s t f h);
        in_compileform = λ m f h. runs_step F _ (runs_rename_in_compileform fuel _ _ s t m f h);
      }

  -- the walks of the three calls
  pub whole_runs : BoundedForm level_limit (whole_walk F)
  unfolding whole_walk
  whole_runs f h = (runs_form_walk level_limit).args_compileform f h

  pub children_runs : BoundedForm level_limit (children_walk F)
  unfolding children_walk
  children_runs f h = runs_step F _ (runs_rename_children_compileform (level_limit - 1) _ _ (runs_walk F (level_limit - 1)) (runs_form_walk (level_limit - 1)) f h)

  pub helper_runs : BoundedHelper level_limit (helper_walk F)
  unfolding helper_walk
  helper_runs x h = (runs_form_walk level_limit).args_helperform x h
