-- What the rules on H records and CF give, as steps one level down, and their runs grouped as a head, args and a rest have them. Assumes nothing.
use mathlib.Core.Path.{◌≡◌, refl, sym, ap, ◌∙◌}
use mathlib.Core.Bool.{true, false}
use mathlib.Core.List.{[]}
use Prim.Native.Nat.{ℕ, ◌-◌, ◌≤◌}
use Rattle.names.specs.Maps.{NameMap}
use Rattle.names.specs.Names.{Bytes}
use Rattle.records.specs.Records.{Loc, Sexp, Body, Helper, HM, HD, Helpers, Form, CF}
use Rattle.walk.specs.Arena.{outcome}
use Rattle.walk.specs.Bodyforms.{args_then_in, walk}
use Rattle.walk.specs.FormWalks.{tree_rule, RestOf, rest_by, both_by, renewed_by}
use Rattle.walk.specs.Helperforms.{form_rules, form_walk, rename_args_helperform, rename_in_helperform, rename_args_compileform, rename_in_compileform, rename_children_compileform}
use Rattle.walk.specs.Invent.{invent_new_names_sexp, rename_in_cons_step}
use Rattle.walk.specs.Steps.{M, ◌>>=◌, ret, sexp_size, helper_size, form_size, step, child}
use Rattle.walk.specs.declared.Child.TheVariants.{Helperform, Compileform}
use Rattle.walk.specs.declared.Rest.{Rest}
use Rattle.walk.specs.declared.Rest.TheVariants.{OneBody, OneForm, Listed, Parts}
use Rattle.walk.specs.declared.Way.TheVariants.{Own, In, Further}
use Rattle.walk.proofs.Results.{level_above}
use Rattle.walk.proofs.RunLaws.{then_then, then_same, ret_then}

-- what each rule gives is what its step gives, one level down
module _ (F d : ℕ) (m : NameMap) (c : ℕ) (le : 1 ≤ d) where
  pub args_helper_step : (u : Helper) → outcome (tree_rule F Helperform true d m u c 0) ≡ outcome (step F helper_size (rename_args_helperform F (walk F (d - 1)) (form_walk F (d - 1)) u) c 0)
  unfolding form_walk form_rules
  args_helper_step u = ap (λ (n : ℕ). outcome (tree_rule F Helperform true n m u c 0)) (sym (level_above d le))

  pub in_helper_step : (u : Helper) → outcome (tree_rule F Helperform false d m u c 0) ≡ outcome (step F helper_size (rename_in_helperform F (walk F (d - 1)) (form_walk F (d - 1)) m u) c 0)
  unfolding form_walk form_rules
  in_helper_step u = ap (λ (n : ℕ). outcome (tree_rule F Helperform false n m u c 0)) (sym (level_above d le))

  pub args_form_step : (u : Form) → outcome (tree_rule F Compileform true d m u c 0) ≡ outcome (step F form_size (rename_args_compileform F (walk F (d - 1)) (form_walk F (d - 1)) u) c 0)
  unfolding form_walk form_rules
  args_form_step u = ap (λ (n : ℕ). outcome (tree_rule F Compileform true n m u c 0)) (sym (level_above d le))

  pub in_form_step : (u : Form) → outcome (tree_rule F Compileform false d m u c 0) ≡ outcome (step F form_size (rename_in_compileform F (walk F (d - 1)) (form_walk F (d - 1)) m u) c 0)
  unfolding form_walk form_rules
  in_form_step u = ap (λ (n : ℕ). outcome (tree_rule F Compileform false n m u c 0)) (sym (level_above d le))

-- two runs whose values come together, and what follows
pair_then : {A B C : Type 0} (m : M A) (n : M B) (k : A × B → M C) (c x : ℕ) → outcome (((m >>= λ a. n >>= λ b. ret (a, b)) >>= k) c x) ≡ outcome ((m >>= λ a. n >>= λ b. k (a, b)) c x)
pair_then m n k c x =
    then_then m (λ a. n >>= λ b. ret (a, b)) k c x
    ∙ then_same m (λ a. (n >>= λ b. ret (a, b)) >>= k) (λ a. n >>= λ b. k (a, b)) (λ a c x. then_then n (λ b. ret (a, b)) k c x ∙ then_same n (λ b. ret (a, b) >>= k) (λ b. k (a, b)) (λ b c x. ret_then k (a, b) c x) c x) c x

-- new names, args and a rest, and what follows
module _ {C : Type 0} (F : ℕ) (kind : Rest) (d : ℕ) (p : Sexp × RestOf kind) (k : Sexp × RestOf kind → M C) (h : NameMap → Sexp → M C) where
  abbrev names : M NameMap
  names = invent_new_names_sexp [] p.0

  -- the args by those
  abbrev args : NameMap → M Sexp
  args m = child F sexp_size (rename_in_cons_step F true m p.0)

  -- the run is that of `renewed_by`, where what follows the args gives the same
  renewed_as : ((m : NameMap) (a : Sexp) (c x : ℕ) → outcome ((both_by F kind d m p.1 >>= λ r. k (a, r)) c x) ≡ outcome (h m a c x)) → (c x : ℕ)
      → outcome ((names >>= λ m. args m >>= λ a. h m a) c x) ≡ outcome ((renewed_by F kind d p >>= k) c x)
  renewed_as e c x =
      sym (then_then names (λ m. args m >>= λ a. both_by F kind d m p.1 >>= λ r. ret (a, r)) k c x
      ∙ then_same names (λ m. (args m >>= λ a. both_by F kind d m p.1 >>= λ r. ret (a, r)) >>= k) (λ m. args m >>= λ a. h m a)
      (λ m c x. pair_then (args m) (both_by F kind d m p.1) k c x ∙ then_same (args m) (λ a. both_by F kind d m p.1 >>= λ r. k (a, r)) (λ a. h m a) (λ a c x. e m a c x) c x) c x)

-- the rules that give new names, so regrouped
module _ (F d c : ℕ) where
  pub macro_run : (l : Loc) (n r : Bytes) (a : Sexp) (f : Form)
      → outcome (rename_args_helperform F (walk F d) (form_walk F d) (HM l n r a f) c 0) ≡ outcome ((renewed_by F OneForm d (a, f) >>= λ p. ret (HM l n r p.0 p.1)) c 0)
  unfolding rename_args_helperform
  macro_run l n r a f =
      renewed_as F OneForm d (a, f) (λ p. ret (HM l n r p.0 p.1)) (λ m b. rest_by F OneForm Own d m f >>= λ g. rest_by F OneForm Further d m g >>= λ h. ret (HM l n r b h))
      (λ m b c x. then_then (rest_by F OneForm Own d m f) (λ g. rest_by F OneForm Further d m g) (λ h. ret (HM l n r b h)) c x) c 0

  pub function_run : (l : Loc) (i : ℕ) (n r : Bytes) (a : Sexp) (b : Body)
      → outcome (rename_args_helperform F (walk F d) (form_walk F d) (HD l i n r a b) c 0) ≡ outcome ((renewed_by F OneBody d (a, b) >>= λ p. ret (HD l i n r p.0 p.1)) c 0)
  unfolding rename_args_helperform args_then_in
  function_run l i n r a b =
      renewed_as F OneBody d (a, b) (λ p. ret (HD l i n r p.0 p.1)) (λ m e. both_by F OneBody d m b >>= λ g. ret (HD l i n r e g)) (λ m e c x. refl) c 0

  pub form_run : (l : Loc) (r : Bytes) (a : Sexp) (hs : Helpers) (b : Body)
      → outcome (rename_args_compileform F (walk F d) (form_walk F d) (CF l r a hs b) c 0) ≡ outcome ((renewed_by F Parts d (a, (hs, b)) >>= λ p. ret (CF l r p.0 p.1.0 p.1.1)) c 0)
  unfolding rename_args_compileform
  form_run l r a hs b = renewed_as F Parts d (a, (hs, b)) (λ p. ret (CF l r p.0 p.1.0 p.1.1)) again (λ m e c x. parted m e c x) c 0
    where
      again : NameMap → Sexp → M Form
      again m e = rest_by F Listed Own d m hs >>= λ gs. rest_by F OneBody Own d m b >>= λ g. rest_by F Listed Further d m gs >>= λ ks. rest_by F OneBody Further d m g >>= λ k. ret (CF l r e ks k)

      parted : (m : NameMap) (e : Sexp) (c x : ℕ) → outcome ((both_by F Parts d m (hs, b) >>= λ q. ret (CF l r e q.0 q.1)) c x) ≡ outcome (again m e c x)
      parted m e c x =
          then_then (rest_by F Parts Own d m (hs, b)) (λ q. rest_by F Parts Further d m q) (λ q. ret (CF l r e q.0 q.1)) c x
          ∙ then_same (rest_by F Parts Own d m (hs, b)) (λ q. rest_by F Parts Further d m q >>= λ q. ret (CF l r e q.0 q.1))
          (λ q. rest_by F Listed Further d m q.0 >>= λ ks. rest_by F OneBody Further d m q.1 >>= λ k. ret (CF l r e ks k))
          (λ q c x. pair_then (rest_by F Listed Further d m q.0) (rest_by F OneBody Further d m q.1) (λ q. ret (CF l r e q.0 q.1)) c x) c x
          ∙ pair_then (rest_by F Listed Own d m hs) (rest_by F OneBody Own d m b) (λ q. rest_by F Listed Further d m q.0 >>= λ ks. rest_by F OneBody Further d m q.1 >>= λ k. ret (CF l r e ks k)) c x

  -- and those that have the helpers and the body one after the other
  pub in_form_run : (m : NameMap) (l : Loc) (r : Bytes) (a : Sexp) (hs : Helpers) (b : Body)
      → outcome (rename_in_compileform F (walk F d) (form_walk F d) m (CF l r a hs b) c 0) ≡ outcome ((rest_by F Parts In d m (hs, b) >>= λ q. ret (CF l r a q.0 q.1)) c 0)
  unfolding rename_in_compileform
  in_form_run m l r a hs b = sym (pair_then (rest_by F Listed In d m hs) (rest_by F OneBody In d m b) (λ q. ret (CF l r a q.0 q.1)) c 0)

  pub children_run : (m : NameMap) (l : Loc) (r : Bytes) (a : Sexp) (hs : Helpers) (b : Body)
      → outcome (rename_children_compileform F (walk F d) (form_walk F d) (CF l r a hs b) c 0) ≡ outcome ((rest_by F Parts Own d m (hs, b) >>= λ q. ret (CF l r a q.0 q.1)) c 0)
  unfolding rename_children_compileform
  children_run m l r a hs b = sym (pair_then (rest_by F Listed Own d m hs) (rest_by F OneBody Own d m b) (λ q. ret (CF l r a q.0 q.1)) c 0)
