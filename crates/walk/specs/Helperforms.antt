-- The rules of helpers and compile forms (rename.rs), and the walks of the three calls. docs/FORMAT.md, 'The walk'.
-- Assumes nothing.
use Rattle.std.specs.Prelude.{true, [], ℕ, zero, suc, ◌-◌}
use Rattle.names.specs.Maps.{NameMap}
use Rattle.records.specs.Limits.{level_limit}
use Rattle.records.specs.Records.{Helper, HC, HM, HD, HN, HR, Helpers, []ʰ, ◌∷ʰ◌, Form, CF}
use Rattle.walk.specs.Steps.{M, ◌>>=◌, ret, refuse, out_of_fuel, sexp_size, body_size, helper_size, form_size, step, child, further}
use Rattle.walk.specs.Invent.{invent_new_names_sexp, rename_in_cons_step}
use Rattle.walk.specs.Bodyforms.{Rules, args_then_in, walk}

-- the four rules, on the records one level down
pub record FormRules : Type 0 where
  pub args_helperform : Helper → M Helper
  pub in_helperform : NameMap → Helper → M Helper
  pub args_compileform : Form → M Form
  pub in_compileform : NameMap → Form → M Form

-- F: the longest record
module _ (F : ℕ) where
  -- a rule on each helper
  unfoldable pub each_helper : (Helper → M Helper) → Helpers → M Helpers
  each_helper f []ʰ = ret []ʰ
  each_helper f (x ∷ʰ xs) = do
    x' ← child F helper_size (f x)
    xs' ← each_helper f xs
    ret (x' ∷ʰ xs')

  -- another rule takes each helper's result further
  unfoldable pub further_helpers : (Helper → M Helper) → Helpers → M Helpers
  further_helpers f []ʰ = ret []ʰ
  further_helpers f (x ∷ʰ xs) = do
    x' ← further F helper_size x f
    xs' ← further_helpers f xs
    ret (x' ∷ʰ xs')

  module _ (r : Rules) (q : FormRules) where
    -- `rename_args_helperform`
    unfoldable pub rename_args_helperform : Helper → M Helper
    rename_args_helperform (HC l n x b) = child F body_size (r.args_bodyform b) >>= λ b'. ret (HC l n x b')
    rename_args_helperform (HM l n x a f) = do
      m ← invent_new_names_sexp [] a
      a' ← child F sexp_size (rename_in_cons_step F true m a)
      f' ← child F form_size (q.args_compileform f)
      f'' ← further F form_size f' (q.in_compileform m)
      ret (HM l n x a' f'')
    rename_args_helperform (HD l i n x a b) = do
      m ← invent_new_names_sexp [] a
      a' ← child F sexp_size (rename_in_cons_step F true m a)
      b' ← args_then_in F r m b
      ret (HD l i n x a' b')
    rename_args_helperform (HN l n x hs) = each_helper q.args_helperform hs >>= λ hs'. ret (HN l n x hs')
    rename_args_helperform (HR l n x) = ret (HR l n x)

    -- `rename_in_helperform`
    unfoldable pub rename_in_helperform : NameMap → Helper → M Helper
    rename_in_helperform m (HC l n x b) = child F body_size (r.in_bodyform m b) >>= λ b'. ret (HC l n x b')
    rename_in_helperform m (HM l n x a f) = child F form_size (q.in_compileform m f) >>= λ f'. ret (HM l n x a f')
    rename_in_helperform m (HD l i n x a b) = child F body_size (r.in_bodyform m b) >>= λ b'. ret (HD l i n x a b')
    rename_in_helperform m (HN l n x hs) = ret (HN l n x hs)
    rename_in_helperform m (HR l n x) = ret (HR l n x)

    -- `rename_args_compileform`
    unfoldable pub rename_args_compileform : Form → M Form
    rename_args_compileform (CF l x a hs b) = do
      m ← invent_new_names_sexp [] a
      a' ← child F sexp_size (rename_in_cons_step F true m a)
      hs' ← each_helper q.args_helperform hs
      b' ← child F body_size (r.args_bodyform b)
      hs'' ← further_helpers (q.in_helperform m) hs'
      b'' ← further F body_size b' (r.in_bodyform m)
      ret (CF l x a' hs'' b'')

    -- `rename_in_compileform`
    unfoldable pub rename_in_compileform : NameMap → Form → M Form
    rename_in_compileform m (CF l x a hs b) = do
      hs' ← each_helper (q.in_helperform m) hs
      b' ← child F body_size (r.in_bodyform m b)
      ret (CF l x a hs' b')

    -- `rename_children_compileform`
    unfoldable pub rename_children_compileform : Form → M Form
    rename_children_compileform (CF l x a hs b) = do
      hs' ← each_helper q.args_helperform hs
      b' ← child F body_size (r.args_bodyform b)
      ret (CF l x a hs' b')

    -- each use of a rule is a step
    unfoldable pub form_rules : FormRules
    form_rules = record {
      args_helperform = λ x. step F helper_size (rename_args_helperform x);
      in_helperform = λ m x. step F helper_size (rename_in_helperform m x);
      args_compileform = λ f. step F form_size (rename_args_compileform f);
      in_compileform = λ m f. step F form_size (rename_in_compileform m f);
    }

  -- the rules on records at most `fuel` deep
  unfoldable pub form_walk : ℕ → FormRules
  form_walk zero = record {
    args_helperform = λ x. refuse out_of_fuel;
    in_helperform = λ m x. refuse out_of_fuel;
    args_compileform = λ f. refuse out_of_fuel;
    in_compileform = λ m f. refuse out_of_fuel;
  }
  form_walk (suc fuel) = form_rules (walk F fuel) (form_walk fuel)

  -- the walks of Whole form, Children only and Single helper
  unfoldable pub whole_walk : Form → M Form
  whole_walk = (form_walk level_limit).args_compileform

  unfoldable pub children_walk : Form → M Form
  children_walk f = step F form_size (rename_children_compileform (walk F (level_limit - 1)) (form_walk (level_limit - 1)) f)

  unfoldable pub helper_walk : Helper → M Helper
  helper_walk = (form_walk level_limit).args_helperform

-- unfolds with every definition of this file
unfoldable pub computing_helperforms : Unit {0}
unfolding each_helper further_helpers rename_args_helperform rename_in_helperform rename_args_compileform rename_in_compileform rename_children_compileform form_rules form_walk whole_walk children_walk helper_walk
computing_helperforms = tt
