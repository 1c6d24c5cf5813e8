-- What is made of the bindings of an assign: an answer of a run is one of another that goes on as it, and what an answer says. Assumes nothing.
use mathlib.Core.Path.{◌≡◌, sym, ◌∙◌}
use native.Mathlib.Omega.{arith}
use Prim.Native.Nat.{ℕ, ◌+◌, ◌≤◌}
use lib.ListN.{length}
use Rattle.names.specs.Maps.{NameMap}
use Rattle.names.specs.Names.{Bytes}
use Rattle.names.specs.Segments.{At}
use Rattle.names.specs.declared.Refusal.{Refusal}
use Rattle.records.specs.StepAnswer.{refuses}
use Rattle.records.specs.Records.{Body}
use Rattle.walk.specs.Arena.{MapAt, outcome}
use Rattle.walk.specs.AssignWalks.{MakesRun, made, stopped, Within}
use Rattle.walk.specs.Steps.{M, ◌>>=◌}
use Rattle.walk.specs.declared.Made.{Made}
use Rattle.std.specs.declared.result.Result.{Result}
use Rattle.std.specs.declared.result.Result.TheVariants.{Err}
use Rattle.walk.specs.RuleAnswers.{made_with}
use Rattle.walk.proofs.RuleAnswers.{made_same}

-- an answer of a run is one of another that goes on as it
pub makes_from : {A : Type 0} {f : NameMap × A → Bytes} {Has : NameMap × A → Type 0} {F most most₁ size size₁ : ℕ} {new : Bytes} {place : ℕ → ℕ} {run run₁ : M (NameMap × A)} {c c₁ x x₁ : ℕ} {r : Result Made Refusal}
    → ((k : NameMap × A → M Body) → outcome ((run >>= k) c x) ≡ outcome ((run₁ >>= k) c₁ x₁)) → most₁ ≤ most → size₁ + x ≤ size + x₁
    → MakesRun f Has F most₁ size₁ new place run₁ c₁ x₁ r → MakesRun f Has F most size new place run c x r
makes_from g le lo (made u len c' x' h k e o a w) =
    made u len c' x' h (λ q. g q ∙ k q) e o a (record { map = omega (arith, w.map); sum = w.sum; long = omega (arith, w.long) })
makes_from g le lo (stopped q k e) = stopped q (λ j. g j ∙ k j) e

-- what an answer `Done w s len d` says
pub record MadeOf {A : Type 0} (f : NameMap × A → Bytes) (Has : NameMap × A → Type 0) (F most size : ℕ) (new : Bytes) (place : ℕ → ℕ) (run : M (NameMap × A)) (c x w s len d : ℕ) : Type 0 where
  pub u : NameMap × A
  pub has : Has u
  pub goes_on : (k : NameMap × A → M Body) → outcome ((run >>= k) c x) ≡ outcome (k u d s)
  pub wrote : w ≡ length (f u)
  pub out : At new (place w) (f u)
  pub map : MapAt new len u.0
  pub within : Within F most size w len x s

module _ {A : Type 0} {f : NameMap × A → Bytes} {Has : NameMap × A → Type 0} {F most size : ℕ} {new : Bytes} {place : ℕ → ℕ} {run : M (NameMap × A)} {c x : ℕ} {r : Result Made Refusal} where
  pub made_of : (w s len d : ℕ) → r ≡ made_with w s len d → MakesRun f Has F most size new place run c x r → MadeOf f Has F most size new place run c x w s len d
  made_of w s len d e (made u l c' x' h k q o a i) =
      let same = made_same (sym q ∙ e) in
      let e₁ : c' ≡ d = same.3 in
      let e₂ : x' ≡ s = same.1 in
      let e₃ : l ≡ len = same.2 in
      let e₄ : length (f u) ≡ w = same.0 in
      record { u = u; has = h; goes_on = λ j. rw (e₁, e₂) at (k j); wrote = sym e₄; out = rw e₄ at o; map = rw e₃ at a; within = rw (e₂, e₃, e₄) at i }
  made_of w s len d e (stopped q k i) = let z : ◌≡◌ {A = ℕ} 0 1 = cc in absurd (omega arith)

  pub unmade_of : (z : Refusal) → r ≡ Err z → MakesRun f Has F most size new place run c x r → (k : NameMap × A → M Body) → outcome ((run >>= k) c x) ≡ refuses z
  unmade_of z e (made u l c' x' h k q o a i) j = let y : ◌≡◌ {A = ℕ} 0 1 = cc in absurd (omega arith)
  unmade_of z e (stopped q k i) j = let y : q ≡ z = cc in rw y at (k j)
