-- What runs give one after the other; a step that has its value at once gives it where it fits, and so does `rename_in_cons` as a step, beside other results too.
-- Assumes nothing.
use mathlib.Core.Path.{◌≡◌, refl, ◌∙◌}
use mathlib.Core.Bool.{Bool, true, false}
use mathlib.Core.List.{[]}
use native.Mathlib.Omega.{arith}
use borrow.Author.Tests.{leb-true, leb-false}
use Prim.Native.Nat.{ℕ, ◌+◌, ◌≤◌, ◌<◌}
use lib.Dec.{leb}
use lib.ListN.{length}
use Rattle.names.specs.Maps.{NameMap}
use Rattle.names.specs.Names.{Bytes}
use Rattle.names.specs.declared.Refusal.{Refusal}
use Rattle.records.specs.StepAnswer.{Outcome, gives, refuses}
use Rattle.records.specs.Records.{Sexp, sexp_bytes}
use Rattle.walk.specs.Arena.{fitting, outcome}
use Rattle.walk.specs.Invent.{rename_in_cons_step}
use Rattle.walk.specs.RenameInCons.{rename_in_cons}
use Rattle.walk.specs.Steps.{Out, done, refused, over_long, M, after, ◌>>=◌, ret, fits, step, child, sexp_size}
use Rattle.walk.proofs.DoneLaws.{then_stops, then_goes, outcome_stops, child_gives, child_over, child_refuses}
use Rattle.walk.proofs.Fits.{fitting_fits, fitting_long}
use Rattle.walk.proofs.RunLaws.{ended, ended_stops, neutral_rename_in_cons_step}

pub step_fits : {A : Type 0} (bytes : A → Bytes) (F c x : ℕ) (a : A) → outcome (step F (λ y. length (bytes y)) (ret a) c x) ≡ fitting bytes F c a
unfolding outcome step ret fits fitting after
step_fits {A} bytes F c x a = go (leb (length (bytes a)) F)
  where
    go : (b : Bool)
        → outcome {A = A} (after [] (elim b as (λ _. Out A) [ true ↦ done [] a c x | false ↦ refused [] over_long ]))
        ≡ elim b as (λ _. Outcome A) [ true ↦ gives a c | false ↦ refuses over_long ]
    go true = refl
    go false = refl

-- Substitute as a step is Substitute and one test of its result
substitute_fits : (F : ℕ) (qq : Bool) (m : NameMap) (s : Sexp) (c x : ℕ) → outcome (rename_in_cons_step F qq m s c x) ≡ fitting sexp_bytes F c (rename_in_cons qq m s)
unfolding rename_in_cons_step sexp_size
substitute_fits F qq m s c x = step_fits sexp_bytes F c x (rename_in_cons qq m s)

-- one run, and then another from where it ended
module _ {A B : Type 0} (m : M A) (f : A → M B) (c x : ℕ) where
  pub outcome_then : {a : A} {c' : ℕ} {o : Outcome B} → outcome (m c x) ≡ gives a c' → ((y : ℕ) → outcome (f a c' y) ≡ o) → outcome ((m >>= f) c x) ≡ o
  outcome_then e k = let d = ended (m c x) e in then_goes m f d.1 ∙ k d.0

  pub outcome_stop : {r : Refusal} → outcome (m c x) ≡ refuses r → outcome ((m >>= f) c x) ≡ refuses r
  outcome_stop e = outcome_stops (then_stops m f (ended_stops (m c x) e))

-- Substitute beside results of x bytes, whatever follows
module _ (F : ℕ) {B : Type 0} (qq : Bool) (m : NameMap) (s : Sexp) (k : Sexp → M B) (c x : ℕ) where
  abbrev by_map : Sexp
  by_map = rename_in_cons qq m s

  abbrev run : M B
  run = child F sexp_size (rename_in_cons_step F qq m s) >>= k

  pub substitute_gives : x + length (sexp_bytes by_map) ≤ F → outcome (run c x) ≡ outcome (k by_map c (x + length (sexp_bytes by_map)))
  unfolding sexp_size
  substitute_gives le = child_gives F sexp_size k (neutral_rename_in_cons_step F qq m s) c x (substitute_fits F qq m s c 0 ∙ fitting_fits sexp_bytes F c by_map (omega arith)) le

  pub substitute_over : F < x + length (sexp_bytes by_map) → outcome (run c x) ≡ refuses over_long
  unfolding sexp_size
  substitute_over lt = go (leb (length (sexp_bytes by_map)) F) refl
    where
      go : (b : Bool) → leb (length (sexp_bytes by_map)) F ≡ b → outcome (run c x) ≡ refuses over_long
      go true e = child_over F sexp_size k (neutral_rename_in_cons_step F qq m s) c x (substitute_fits F qq m s c 0 ∙ fitting_fits sexp_bytes F c by_map (leb-true _ _ e)) lt
      go false e = child_refuses F sexp_size k (neutral_rename_in_cons_step F qq m s) c x (substitute_fits F qq m s c 0 ∙ fitting_long sexp_bytes F c by_map (leb-false _ _ e))
