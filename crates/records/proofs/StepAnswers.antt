-- A step's answer on a part of the memory, said of the whole: once, for every kind of record. Assumes nothing.
use mathlib.Core.Path.{◌≡◌, sym, ap, ◌∙◌}
use native.Mathlib.Omega.{arith}
use Prim.Native.Nat.{ℕ, ◌+◌, ◌≤◌}
use lib.ListN.{length}
use Rattle.names.specs.Names.{Bytes}
use Rattle.names.specs.declared.Refusal.{Refusal}
use Rattle.names.specs.Segments.{At}
use Rattle.records.specs.StepAnswer.{Outcome, gives, refuses, Gives, gave, refused}
use Rattle.records.specs.declared.Step.{Step}
use Rattle.names.proofs.Parts.{back, at_back}
use Rattle.std.specs.declared.result.Result.{Result}
use Rattle.std.specs.declared.result.Result.TheVariants.{Ok, Err}
use Rattle.records.specs.StepAnswer.{step_of}

-- equal answers have equal numbers
abbrev field : (Step → ℕ) → Result Step Refusal → ℕ
field p (Ok s) = p s
field p (Err q) = 0

pub step_same : {n k c n' k' c' : ℕ} → step_of n k c ≡ step_of n' k' c' → (n ≡ n') × (k ≡ k') × (c ≡ c')
step_same e = (ap (field (λ s. s.read)) e, ap (field (λ s. s.written)) e, ap (field (λ s. s.counter)) e)

-- what an answer `step_of n k c` says, after `size` bytes
pub record Made {A : Type 0} (f : A → Bytes) (new : Bytes) (free size : ℕ) (o : Outcome A) (n k c : ℕ) : Type 0 where
  pub u : A
  pub is : o ≡ gives u c
  pub read : n ≡ size
  pub wrote : k ≡ length (f u)
  pub out : At new free (f u)

module _ {A : Type 0} {f : A → Bytes} where
  module _ {new : Bytes} {free size : ℕ} {o : Outcome A} {r : Result Step Refusal} where
    pub made : (n k c : ℕ) → r ≡ step_of n k c → Gives f new free size o r → Made f new free size o n k c
    made n k c d (gave u x e g h) =
        let same = step_same (sym d ∙ g) in record { u = u; is = e ∙ ap (gives u) (sym same.2); read = same.0; wrote = same.1; out = h }
    made n k c d (refused j e g) = let z : ◌≡◌ {A = ℕ} 0 1 = cc in absurd (omega arith)

    pub unmade : (k : Refusal) → r ≡ Err k → Gives f new free size o r → o ≡ refuses k
    unmade k d (gave u x e g h) = let z : ◌≡◌ {A = ℕ} 0 1 = cc in absurd (omega arith)
    unmade k d (refused j e g) = e ∙ (cc)

  module _ (xs : Bytes) (a k : ℕ) (le : a + k ≤ length xs) where
    pub gives_back : {ys : Bytes} {q size : ℕ} {o : Outcome A} {r : Result Step Refusal} → length ys ≡ k → Gives f ys q size o r → Gives f (back xs a k ys) (a + q) size o r
    gives_back {ys} len (gave u c e g h) = gave u c e g (at_back xs a k le ys len h)
    gives_back len (refused k e g) = refused k e g
