-- Which H record stands at the start, by its mark; and the records that are kept as they are. Assumes nothing.
use mathlib.Core.Path.{◌≡◌, refl, sym, subst, ◌∙◌}
use mathlib.Core.Bool.{Bool, true, false}
use Prim.Native.Nat.{ℕ, zero, suc, ◌-◌, ◌≤◌}
use lib.ListN.{length, take, drop}
use Rattle.names.specs.Maps.{NameMap}
use Rattle.names.specs.Names.{Bytes}
use Rattle.names.specs.Segments.{At}
use Rattle.records.specs.StepAnswer.{Outcome, Gives}
use Rattle.records.specs.Records.{mark_width, Helper, HC, HM, HD, HN, HR, helper_bytes}
use Rattle.records.specs.Scan.{mark_index, helper_marks}
use Rattle.records.specs.Views.{SeesConstant, SeesMacro, SeesFunction, SeesNamespace}
use Rattle.records.specs.declared.ArgsView.{ArgsView}
use Rattle.records.specs.declared.NamedView.{NamedView}
use Rattle.records.specs.declared.NamespaceView.{NamespaceView}
use Rattle.records.specs.declared.Step.{Step}
use Rattle.records.proofs.MarkedLaws.{HelperOf, helper_by_mark}
use Rattle.walk.specs.Arena.{fitting}
use Rattle.walk.specs.FormWalks.{FineHelper, TreeReady, WalksTree, KeepsHelper}
use Rattle.walk.specs.Helperforms.{rename_args_helperform, rename_in_helperform}
use Rattle.walk.specs.Steps.{helper_size}
use Rattle.walk.specs.declared.Child.TheVariants.{Helperform}
use Rattle.walk.specs.declared.Rest.TheVariants.{OneBody, OneForm, Listed}
use Rattle.walk.specs.declared.Task.{Task}
use Rattle.walk.specs.declared.Way.TheVariants.{Own, In}
use Rattle.walk.proofs.FormParts.{ConstantOpens, constant_opens, MacroRenews, macro_renews, MacroOpens, macro_opens, NamespaceOpens, namespace_opens, FunctionRenews, function_renews, FunctionOpens, function_opens}
use Rattle.walk.proofs.FormRuns.{args_helper_step, in_helper_step}
use Rattle.walk.proofs.Opening.{way_of, by_tree, Keeping, Renewing}
use Rattle.walk.proofs.StepLaws.{step_fits}
use Rattle.walk.proofs.TreeLaws.{tree_level}
use Rattle.std.specs.declared.result.Result.{Result}
use Rattle.names.specs.declared.Refusal.{Refusal}

-- the place of a record's mark among the marks of H records
abbrev helper_index : Helper → ℕ
helper_index (HC l n r b) = 0
helper_index (HM l n r a f) = 1
helper_index (HD l i n r a b) = 2
helper_index (HN l n r hs) = 3
helper_index (HR l n r) = 4

module _ {mem : Bytes} {k : ℕ} (mark : k ≡ mark_index (take mark_width (drop 0 mem)) helper_marks) where
  -- the mark that was found is that of every record that stands there
  marked : (u : Helper) → At mem 0 (helper_bytes u) → k ≡ helper_index u
  unfolding HelperOf
  marked u at = helper_by_mark (λ u. k ≡ helper_index u) mark (each k) u at
    where
      each : (j : ℕ) → HelperOf j (λ u. j ≡ helper_index u)
      each zero = λ l n r b. refl
      each (suc zero) = λ l n r a f. refl
      each (suc (suc zero)) = λ l i n r a b. refl
      each (suc (suc (suc zero))) = λ l n r hs. refl
      each (suc (suc (suc (suc zero)))) = λ l n r. refl
      each (suc (suc (suc (suc (suc j))))) = tt

  -- which record stands at the start, by its mark
  module _ {t : Task} {owning : Bool} (p : TreeReady Helperform owning mem t) where
    by_kind : (j : ℕ) (P : Helper → Type 0) → k ≡ j → HelperOf j P → P p.tree
    by_kind j P e f = helper_by_mark P (sym e ∙ mark) f p.tree p.there

    -- how the rules open it, for each kind
    pub constant_kept : {v : NamedView} → k ≡ 0 → SeesConstant mem v → Keeping Helperform OneBody (way_of owning) (by_tree Helperform owning t) t v.next p.tree
    unfolding HelperOf
    constant_kept e see = by_kind 0 (ConstantOpens t owning see) e (constant_opens t owning see) p.good p.there

    pub macro_renewed : {v : ArgsView} → k ≡ 1 → SeesMacro mem v → Renewing Helperform OneForm t v.args p.tree
    unfolding HelperOf
    macro_renewed e see = by_kind 1 (MacroRenews t see) e (macro_renews t see) p.good p.there

    pub macro_kept : {v : ArgsView} → k ≡ 1 → SeesMacro mem v → Keeping Helperform OneForm In (by_tree Helperform false t) t v.next p.tree
    unfolding HelperOf
    macro_kept e see = by_kind 1 (MacroOpens t see) e (macro_opens t see) p.good p.there

    pub function_renewed : {v : ArgsView} → k ≡ 2 → SeesFunction mem v → Renewing Helperform OneBody t v.args p.tree
    unfolding HelperOf
    function_renewed e see = by_kind 2 (FunctionRenews t see) e (function_renews t see) p.good p.there

    pub function_kept : {v : ArgsView} → k ≡ 2 → SeesFunction mem v → Keeping Helperform OneBody In (by_tree Helperform false t) t v.next p.tree
    unfolding HelperOf
    function_kept e see = by_kind 2 (FunctionOpens t see) e (function_opens t see) p.good p.there

    pub namespace_kept : {v : NamespaceView} → k ≡ 3 → SeesNamespace mem v → Keeping Helperform Listed Own (by_tree Helperform true t) t (v.first - 1) p.tree
    unfolding HelperOf
    namespace_kept e see = by_kind 3 (NamespaceOpens t see) e (namespace_opens t see) p.good p.there

    -- the count byte stands before the helpers
    pub namespace_counted : {v : NamespaceView} → k ≡ 3 → SeesNamespace mem v → 1 ≤ v.first
    unfolding HelperOf
    namespace_counted {v} e see = by_kind 3 (λ u. FineHelper t.f t.depth u → At mem 0 (helper_bytes u) → 1 ≤ v.first) e (λ l n r hs f at. see.counted l n r hs f.valid at) p.good p.there

  -- the others are kept
  module _ {new : Bytes} {t : Task} {r : Result Step Refusal} (w : KeepsHelper mem new t r) where
    kept_as : (owning : Bool) → ((m : NameMap) (u : Helper) → At mem 0 (helper_bytes u) → 1 ≤ t.depth → by_tree Helperform owning t m u ≡ fitting helper_bytes t.f t.counter u) → WalksTree Helperform owning mem new t r
    kept_as owning e =
        record {
          frame = w.frame;
          says = λ m at u there below f.
              subst (λ (o : Outcome Helper). Gives helper_bytes new t.free (length (helper_bytes u)) o r) (sym (e m u there (tree_level Helperform t.f t.depth u f))) (w.says m at u there below f);
        }

    -- an HR by the args-rule
    pub own_kept : (k ≡ 0 → ⊥) → (k ≡ 1 → ⊥) → (k ≡ 2 → ⊥) → (k ≡ 3 → ⊥) → WalksTree Helperform true mem new t r
    unfolding rename_args_helperform helper_size
    own_kept n₀ n₁ n₂ n₃ = kept_as true λ m u at le. go m u le (marked u at)
      where
        go : (m : NameMap) (u : Helper) → 1 ≤ t.depth → k ≡ helper_index u → by_tree Helperform true t m u ≡ fitting helper_bytes t.f t.counter u
        go m (HC l n x b) le e = absurd (n₀ e)
        go m (HM l n x a f) le e = absurd (n₁ e)
        go m (HD l i n x a b) le e = absurd (n₂ e)
        go m (HN l n x hs) le e = absurd (n₃ e)
        go m (HR l n x) le e = args_helper_step t.f t.depth m t.counter le (HR l n x) ∙ step_fits helper_bytes t.f t.counter 0 (HR l n x)

    -- an HN or an HR by the in-rule
    pub in_kept : (k ≡ 0 → ⊥) → (k ≡ 1 → ⊥) → (k ≡ 2 → ⊥) → WalksTree Helperform false mem new t r
    unfolding rename_in_helperform helper_size
    in_kept n₀ n₁ n₂ = kept_as false λ m u at le. go m u le (marked u at)
      where
        go : (m : NameMap) (u : Helper) → 1 ≤ t.depth → k ≡ helper_index u → by_tree Helperform false t m u ≡ fitting helper_bytes t.f t.counter u
        go m (HC l n x b) le e = absurd (n₀ e)
        go m (HM l n x a f) le e = absurd (n₁ e)
        go m (HD l i n x a b) le e = absurd (n₂ e)
        go m (HN l n x hs) le e = in_helper_step t.f t.depth m t.counter le (HN l n x hs) ∙ step_fits helper_bytes t.f t.counter 0 (HN l n x hs)
        go m (HR l n x) le e = in_helper_step t.f t.depth m t.counter le (HR l n x) ∙ step_fits helper_bytes t.f t.counter 0 (HR l n x)
