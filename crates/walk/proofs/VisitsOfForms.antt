-- What holds of all the assigns that a walk reaches: of helpers and forms, and of the walks of the three calls. Assumes nothing.
use mathlib.Core.Bool.{true}
use mathlib.Core.List.{[]}
use Prim.Native.Nat.{ℕ, zero, suc, ◌-◌, ◌≤◌}
use native.Mathlib.Omega.{arith}
use Rattle.names.specs.Maps.{NameMap}
use Rattle.records.specs.Limits.{level_limit}
use Rattle.records.specs.Records.{Helper, HC, HM, HD, HN, HR, Helpers, []ʰ, ◌∷ʰ◌, Form, CF}
use Rattle.walk.specs.Steps.{M}
use Rattle.walk.specs.Bodyforms.{Rules}
use Rattle.walk.specs.Helperforms.{FormRules, each_helper, further_helpers, rename_args_helperform, rename_in_helperform, rename_args_compileform, rename_in_compileform, rename_children_compileform, form_rules, form_walk, whole_walk, children_walk, helper_walk}
use Rattle.walk.proofs.Visits.{Sound, sound_ret, sound_bind, sound_out, sound_step, sound_child, sound_further, sound_invent_new_names_sexp, sound_rename_in_cons_step, sound_args_then_in, SoundRules, sound_walk}

module _ (F : ℕ) where
  module _ {f : Helper → M Helper} (s : (x : Helper) → Sound F (f x)) where
    sound_each_helper : (xs : Helpers) → Sound F (each_helper F f xs)
    unfolding each_helper
    sound_each_helper []ʰ = sound_ret F _
    sound_each_helper (x ∷ʰ xs) = sound_bind F (sound_child F _ (s x)) λ x'. sound_bind F (sound_each_helper xs) λ xs'. sound_ret F _

    sound_further_helpers : (xs : Helpers) → Sound F (further_helpers F f xs)
    unfolding further_helpers
    sound_further_helpers []ʰ = sound_ret F _
    sound_further_helpers (x ∷ʰ xs) = sound_bind F (sound_further F _ x s) λ x'. sound_bind F (sound_further_helpers xs) λ xs'. sound_ret F _

  pub record SoundForms (q : FormRules) : Type 0 where
    pub args_helperform : (x : Helper) → Sound F (q.args_helperform x)
    pub in_helperform : (m : NameMap) (x : Helper) → Sound F (q.in_helperform m x)
    pub args_compileform : (f : Form) → Sound F (q.args_compileform f)
    pub in_compileform : (m : NameMap) (f : Form) → Sound F (q.in_compileform m f)

  module _ {r : Rules} {q : FormRules} (s : SoundRules F r) (t : SoundForms q) where
    sound_rename_args_helperform : (x : Helper) → Sound F (rename_args_helperform F r q x)
    unfolding rename_args_helperform
    sound_rename_args_helperform (HC l n x b) = sound_bind F (sound_child F _ (s.args_bodyform b)) λ b'. sound_ret F _
    sound_rename_args_helperform (HM l n x a f) =
        sound_bind F (sound_invent_new_names_sexp F [] a) λ m. sound_bind F (sound_child F _ (sound_rename_in_cons_step F true m a)) λ a'. sound_bind F (sound_child F _ (t.args_compileform f)) λ f'.
        sound_bind F (sound_further F _ f' (t.in_compileform m)) λ f''. sound_ret F _
    sound_rename_args_helperform (HD l i n x a b) =
        sound_bind F (sound_invent_new_names_sexp F [] a) λ m. sound_bind F (sound_child F _ (sound_rename_in_cons_step F true m a)) λ a'. sound_bind F (sound_args_then_in F r s.args_bodyform s.in_bodyform m b) λ b'. sound_ret F _
    sound_rename_args_helperform (HN l n x hs) = sound_bind F (sound_each_helper t.args_helperform hs) λ hs'. sound_ret F _
    sound_rename_args_helperform (HR l n x) = sound_ret F _

    sound_rename_in_helperform : (m : NameMap) (x : Helper) → Sound F (rename_in_helperform F r q m x)
    unfolding rename_in_helperform
    sound_rename_in_helperform m (HC l n x b) = sound_bind F (sound_child F _ (s.in_bodyform m b)) λ b'. sound_ret F _
    sound_rename_in_helperform m (HM l n x a f) = sound_bind F (sound_child F _ (t.in_compileform m f)) λ f'. sound_ret F _
    sound_rename_in_helperform m (HD l i n x a b) = sound_bind F (sound_child F _ (s.in_bodyform m b)) λ b'. sound_ret F _
    sound_rename_in_helperform m (HN l n x hs) = sound_ret F _
    sound_rename_in_helperform m (HR l n x) = sound_ret F _

    sound_rename_args_compileform : (f : Form) → Sound F (rename_args_compileform F r q f)
    unfolding rename_args_compileform
    sound_rename_args_compileform (CF l x a hs b) =
        sound_bind F (sound_invent_new_names_sexp F [] a) λ m. sound_bind F (sound_child F _ (sound_rename_in_cons_step F true m a)) λ a'. sound_bind F (sound_each_helper t.args_helperform hs) λ hs'.
        sound_bind F (sound_child F _ (s.args_bodyform b)) λ b'. sound_bind F (sound_further_helpers (t.in_helperform m) hs') λ hs''. sound_bind F (sound_further F _ b' (s.in_bodyform m)) λ b''. sound_ret F _

    sound_rename_in_compileform : (m : NameMap) (f : Form) → Sound F (rename_in_compileform F r q m f)
    unfolding rename_in_compileform
    sound_rename_in_compileform m (CF l x a hs b) = sound_bind F (sound_each_helper (t.in_helperform m) hs) λ hs'. sound_bind F (sound_child F _ (s.in_bodyform m b)) λ b'. sound_ret F _

    sound_rename_children_compileform : (f : Form) → Sound F (rename_children_compileform F r q f)
    unfolding rename_children_compileform
    sound_rename_children_compileform (CF l x a hs b) = sound_bind F (sound_each_helper t.args_helperform hs) λ hs'. sound_bind F (sound_child F _ (s.args_bodyform b)) λ b'. sound_ret F _

  sound_form_walk : (fuel : ℕ) → fuel ≤ level_limit → SoundForms (form_walk F fuel)
  unfolding form_walk form_rules
  sound_form_walk zero le = record { args_helperform = λ x. sound_out F; in_helperform = λ m x. sound_out F; args_compileform = λ f. sound_out F; in_compileform = λ m f. sound_out F }
  sound_form_walk (suc fuel) le =
      let s = sound_walk F fuel (omega arith) in
      let t = sound_form_walk fuel (omega arith) in
      record {
        args_helperform = λ x. sound_step F _ (sound_rename_args_helperform s t x);
        in_helperform = λ m x. sound_step F _ (sound_rename_in_helperform s t m x);
        args_compileform = λ f. sound_step F _ (sound_rename_args_compileform s t f);
        in_compileform = λ m f. sound_step F _ (sound_rename_in_compileform s t m f);
      }

  -- the claim, for the walk of each call
  pub whole_sound : (f : Form) → Sound F (whole_walk F f)
  unfolding whole_walk
  whole_sound f = (sound_form_walk level_limit (omega arith)).args_compileform f

  pub children_sound : (f : Form) → Sound F (children_walk F f)
  unfolding children_walk
  children_sound f = sound_step F _ (sound_rename_children_compileform (sound_walk F (level_limit - 1) (omega arith)) (sound_form_walk (level_limit - 1) (omega arith)) f)

  pub helper_sound : (x : Helper) → Sound F (helper_walk F x)
  unfolding helper_walk
  helper_sound x = (sound_form_walk level_limit (omega arith)).args_helperform x
