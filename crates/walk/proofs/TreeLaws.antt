-- What a rule gives of a child of any kind: one tree alone stands at a place, the rule leaves the sum as it was, and what it gives is fine again, at most F long,
-- with no more atoms; and the same of a child whose result comes into the sum. Assumes nothing.
use mathlib.Core.Path.{◌≡◌, refl, ap, ◌∙◌}
use mathlib.Core.Bool.{Bool, true, false}
use native.Mathlib.Omega.{arith}
use Prim.Native.Nat.{ℕ, zero, suc, ◌+◌, ◌≤◌}
use lib.ListN.{length}
use Rattle.names.specs.Maps.{NameMap, Limited}
use Rattle.names.specs.Names.{Bytes}
use Rattle.records.specs.StepAnswer.{gives}
use Rattle.records.specs.Limits.{level_limit, lambda_limit}
use Rattle.records.specs.Depth.{helper_depth, form_depth}
use Rattle.records.specs.Records.{Helper, helper_bytes, Form, form_bytes}
use Rattle.records.specs.Valid.{ValidHelper, ValidForm, HelperFields, FormFields, helper_lambda_depth, form_lambda_depth, HelperNoMod, FormNoMod}
use Rattle.records.specs.declared.Zone.{Zone}
use Rattle.records.specs.declared.Zone.TheVariants.{Plain}
use Rattle.records.proofs.Complete.{complete_readers}
use Rattle.walk.specs.Arena.{outcome}
use Rattle.walk.specs.Draws.{helper_atoms, form_atoms, dbl}
use Rattle.walk.specs.FormWalks.{TreeOf, tree_bytes, tree_size, tree_atoms, tree_rule, FineOf, FineHelper, FineForm, FineTree, child_by, new_sum}
use Rattle.walk.specs.Helperforms.{form_walk, form_rules}
use Rattle.walk.specs.Steps.{M, DoneWith, refuse, out_of_fuel, body_size, helper_size, form_size}
use Rattle.walk.specs.declared.Child.{Child}
use Rattle.walk.specs.declared.Child.TheVariants.{Bodyform, Helperform, Compileform}
use Rattle.walk.specs.declared.Way.{Way}
use Rattle.walk.specs.declared.Way.TheVariants.{Own, In, Further}
use Rattle.walk.proofs.Again.{keeps_form_walk}
use Rattle.walk.proofs.Keeping.{Gives as Keeping}
use Rattle.walk.proofs.DoneLaws.{child_gave, further_gave}
use Rattle.walk.proofs.Kept.{Kept, HelperKept, FormKept}
use Rattle.walk.proofs.LimitsOfForms.{runs_form_walk}
use Rattle.walk.proofs.RunBounds.{Runs, SmallHelper, SmallForm}
use Rattle.walk.proofs.Results.{limited_named, of_outcome, within_outcome, step_short, rule_draws, rule_fine, some_level}
use Rattle.walk.proofs.RunLaws.{Neutral, neutral_step, neutral_refuse, neutral_rule}
use Rattle.walk.proofs.Sizes.{helper_positive, form_positive}
use Rattle.walk.proofs.Unique.{Unique, unique_fine, unique_by}

-- one H record at most stands at the start
unique_helper : Unique helper_bytes ValidHelper
unique_helper xs a b p q x y =
    unique_by ((complete_readers level_limit).helper level_limit lambda_limit Plain a (omega arith) p.0 p.1 p.2)
    ((complete_readers level_limit).helper level_limit lambda_limit Plain b (omega arith) q.0 q.1 q.2) x y

-- and one CF
unique_form : Unique form_bytes ValidForm
unique_form xs a b p q x y =
    unique_by ((complete_readers level_limit).form level_limit lambda_limit Plain a (omega arith) p.0 p.1 p.2)
    ((complete_readers level_limit).form level_limit lambda_limit Plain b (omega arith) q.0 q.1 q.2) x y

-- one tree at most stands at the start
pub unique_tree : (k : Child) (F d : ℕ) → Unique (tree_bytes k) (FineTree k F d)
unique_tree Bodyform F d = unique_fine
unique_tree Helperform F d = λ xs a b p q x y. unique_helper xs a b p.valid q.valid x y
unique_tree Compileform F d = λ xs a b p q x y. unique_form xs a b p.valid q.valid x y

-- a rule leaves the sum as it was
pub neutral_tree : (F : ℕ) (k : Child) (owning : Bool) (d : ℕ) (m : NameMap) (u : TreeOf k) → Neutral (tree_rule F k owning d m u)
unfolding form_walk form_rules
neutral_tree F Bodyform owning d m u = neutral_rule F owning d m u
neutral_tree F Helperform true zero m u = neutral_refuse out_of_fuel
neutral_tree F Helperform true (suc d) m u = neutral_step F helper_size _
neutral_tree F Helperform false zero m u = neutral_refuse out_of_fuel
neutral_tree F Helperform false (suc d) m u = neutral_step F helper_size _
neutral_tree F Compileform true zero m u = neutral_refuse out_of_fuel
neutral_tree F Compileform true (suc d) m u = neutral_step F form_size _
neutral_tree F Compileform false zero m u = neutral_refuse out_of_fuel
neutral_tree F Compileform false (suc d) m u = neutral_step F form_size _

-- a child has a level at least
pub tree_level : (k : Child) (F d : ℕ) (u : TreeOf k) → FineTree k F d u → 1 ≤ d
tree_level Bodyform F d u f = some_level f
tree_level Helperform F d u f = omega (arith, helper_positive u, f.deep)
tree_level Compileform F d u f = omega (arith, form_positive u, f.deep)

-- and is at most F long
pub tree_within : (k : Child) (F d : ℕ) (u : TreeOf k) → FineTree k F d u → length (tree_bytes k u) ≤ F
tree_within Bodyform F d u f = f.short
tree_within Helperform F d u f = f.short
tree_within Compileform F d u f = f.short

-- its size is its length
pub tree_length : (k : Child) (u : TreeOf k) → tree_size k u ≡ length (tree_bytes k u)
unfolding body_size helper_size form_size
tree_length Bodyform u = refl
tree_length Helperform u = refl
tree_length Compileform u = refl

-- what a rule gives is at most F long
module _ (F : ℕ) (m : NameMap) (c : ℕ) where
  helper_short : (owning : Bool) (d : ℕ) (u : Helper) {v : Helper} {e : ℕ} → outcome (tree_rule F Helperform owning d m u c 0) ≡ gives v e → length (helper_bytes v) ≤ F
  unfolding form_walk form_rules outcome refuse helper_size
  helper_short true zero u q = let z : ◌≡◌ {A = ℕ} 0 1 = cc in absurd (omega arith)
  helper_short true (suc d) u q = step_short F helper_size _ c 0 q
  helper_short false zero u q = let z : ◌≡◌ {A = ℕ} 0 1 = cc in absurd (omega arith)
  helper_short false (suc d) u q = step_short F helper_size _ c 0 q

  form_short : (owning : Bool) (d : ℕ) (u : Form) {v : Form} {e : ℕ} → outcome (tree_rule F Compileform owning d m u c 0) ≡ gives v e → length (form_bytes v) ≤ F
  unfolding form_walk form_rules outcome refuse form_size
  form_short true zero u q = let z : ◌≡◌ {A = ℕ} 0 1 = cc in absurd (omega arith)
  form_short true (suc d) u q = step_short F form_size _ c 0 q
  form_short false zero u q = let z : ◌≡◌ {A = ℕ} 0 1 = cc in absurd (omega arith)
  form_short false (suc d) u q = step_short F form_size _ c 0 q

-- what a rule gives of a child
pub record TreeMade (k : Child) (F d : ℕ) (u : TreeOf k) (c : ℕ) (v : TreeOf k) (e : ℕ) : Type 0 where
  pub fine : FineTree k F d v
  pub counter : e ≤ c + dbl d (tree_atoms k u)
  pub few : tree_atoms k v ≤ tree_atoms k u

-- of an H record or a CF: it keeps within its bounds, and what was kept of the record is kept of what it gives
module _ {A : Type 0} (bytes : A → Bytes) (Fields : A → Type 0) (levels lambdas count : A → ℕ) (Clear : Zone → A → Type 0) (F d : ℕ) where
  abbrev Good : A → Type 0
  Good = FineOf (λ a. Fields a × (levels a ≤ level_limit) × (lambdas a ≤ lambda_limit)) Clear levels bytes F d

  record_made : {u : A} (f : Good u) (run : M A) (c : ℕ) {v : A} {e : ℕ} → Runs (dbl d (count u)) (λ a. (levels a ≤ levels u) × (count a ≤ count u)) run
      → (Kept Fields lambdas Clear f.zone lambda_limit u → Keeping f.zone (Kept Fields lambdas Clear f.zone lambda_limit) run) → length (bytes v) ≤ F → outcome (run c 0) ≡ gives v e
      → Good v × (e ≤ c + dbl d (count u)) × (count v ≤ count u)
  record_made f run c bounded keeps short q =
      let w = within_outcome _ _ c (run c 0) (bounded.fine c 0) q in
      let g = keeps (record { fields = f.valid.0; lambdas = f.valid.2; clear = f.clear }) in
      let kept = of_outcome f.zone (Kept Fields lambdas Clear f.zone lambda_limit) (run c 0) (g.fine c 0) q in (
        record { valid = (kept.fields, omega (arith, f.valid.1, w.0.0), kept.lambdas); zone = f.zone; clear = kept.clear; deep = omega (arith, f.deep, w.0.0); short = short },
        w.1,
        w.0.1,
      )

module _ (F d : ℕ) (m : NameMap) (l : Limited m) (c : ℕ) where
  helper_made : (owning : Bool) (u v : Helper) (e : ℕ) → FineHelper F d u → outcome (tree_rule F Helperform owning d m u c 0) ≡ gives v e → TreeMade Helperform F d u c v e
  helper_made owning u v e f q =
      let r = record_made helper_bytes HelperFields helper_depth helper_lambda_depth helper_atoms HelperNoMod F d f (tree_rule F Helperform owning d m u) c (bounded owning) (keeps owning) (helper_short F m c owning d u q) q in
      record { fine = r.0; counter = r.1; few = r.2 }
    where
      bounded : (owning : Bool) → Runs (dbl d (helper_atoms u)) (SmallHelper (helper_depth u) (helper_atoms u)) (tree_rule F Helperform owning d m u)
      bounded true = (runs_form_walk F d).args_helperform u f.deep
      bounded false = (runs_form_walk F d).in_helperform m u f.deep

      keeps : (owning : Bool) → HelperKept f.zone lambda_limit u → Keeping f.zone (HelperKept f.zone lambda_limit) (tree_rule F Helperform owning d m u)
      keeps true = (keeps_form_walk F d).args_helperform f.zone lambda_limit u
      keeps false = (keeps_form_walk F d).in_helperform m (limited_named m l) f.zone lambda_limit u

  form_made : (owning : Bool) (u v : Form) (e : ℕ) → FineForm F d u → outcome (tree_rule F Compileform owning d m u c 0) ≡ gives v e → TreeMade Compileform F d u c v e
  form_made owning u v e f q =
      let r = record_made form_bytes FormFields form_depth form_lambda_depth form_atoms FormNoMod F d f (tree_rule F Compileform owning d m u) c (bounded owning) (keeps owning) (form_short F m c owning d u q) q in
      record { fine = r.0; counter = r.1; few = r.2 }
    where
      bounded : (owning : Bool) → Runs (dbl d (form_atoms u)) (SmallForm (form_depth u) (form_atoms u)) (tree_rule F Compileform owning d m u)
      bounded true = (runs_form_walk F d).args_compileform u f.deep
      bounded false = (runs_form_walk F d).in_compileform m u f.deep

      keeps : (owning : Bool) → FormKept f.zone lambda_limit u → Keeping f.zone (FormKept f.zone lambda_limit) (tree_rule F Compileform owning d m u)
      keeps true = (keeps_form_walk F d).args_compileform f.zone lambda_limit u
      keeps false = (keeps_form_walk F d).in_compileform m (limited_named m l) f.zone lambda_limit u

-- of a child of any kind
pub tree_made : (k : Child) (F d : ℕ) (u : TreeOf k) (owning : Bool) (m : NameMap) (c : ℕ) (v : TreeOf k) (e : ℕ) → Limited m → FineTree k F d u
    → outcome (tree_rule F k owning d m u c 0) ≡ gives v e → TreeMade k F d u c v e
tree_made Bodyform F d u owning m c v e l f q =
    let w = rule_draws F d u owning m c f.deep q in
    record { fine = rule_fine owning m c l f q; counter = w.counter; few = w.few }
tree_made Helperform F d u owning m c v e l f q = helper_made F d m l c owning u v e f q
tree_made Compileform F d u owning m c v e l f q = form_made F d m l c owning u v e f q

-- what a child becomes whose result comes into the sum
pub record ChildMade (k : Child) (F d : ℕ) (way : Way) (u : TreeOf k) (c x : ℕ) (v : TreeOf k) (c' x' : ℕ) : Type 0 where
  pub made : TreeMade k F d u c v c'
  pub sum : x' ≡ new_sum way x (length (tree_bytes k u)) (length (tree_bytes k v))
  pub within : x' ≤ F

-- of each way
pub child_made : (k : Child) (F d : ℕ) (way : Way) (m : NameMap) (u : TreeOf k) (c x : ℕ) (v : TreeOf k) (c' x' : ℕ) → Limited m → FineTree k F d u
    → DoneWith (child_by F k way d m u c x) v c' x' → ChildMade k F d way u c x v c' x'
child_made k F d Own m u c x v c' x' l f p =
    let q = child_gave F (tree_size k) (neutral_tree F k true d m u) c x p in
    record { made = tree_made k F d u true m c v c' l f q.0; sum = q.1 ∙ ap (λ (n : ℕ). x + n) (tree_length k v); within = q.2 }
child_made k F d In m u c x v c' x' l f p =
    let q = child_gave F (tree_size k) (neutral_tree F k false d m u) c x p in
    record { made = tree_made k F d u false m c v c' l f q.0; sum = q.1 ∙ ap (λ (n : ℕ). x + n) (tree_length k v); within = q.2 }
child_made k F d Further m u c x v c' x' l f p =
    let q = further_gave F (tree_size k) (tree_rule F k false d m) u (neutral_tree F k false d m u) c x p in
    record { made = tree_made k F d u false m c v c' l f q.0; sum = q.1 ∙ cc (tree_length k u, tree_length k v); within = q.2 }
