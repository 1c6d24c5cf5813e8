-- What a test decides. Assumes nothing.
use mathlib.Core.Bool.{Bool, true, false}
use mathlib.Core.Path.{◌≡◌, refl}
use native.Mathlib.Omega.{arith}
use Prim.Native.Nat.{ℕ}
use Rattle.names.proofs.Same.{same→eq, same_self}
use Rattle.names.specs.Names.{Bytes, same}
use Rattle.replays.specs.Judging.{Decides}

module _ {A : Type 0} where
  pub decides_yes : A → Decides true A
  decides_yes a = record { only = λ e. a; all = λ x. refl }

  pub decides_no : (A → ⊥) → Decides false A
  decides_no h = record { only = λ e. let z : ◌≡◌ {A = ℕ} 0 1 = cc in absurd (omega arith); all = λ a. absurd (h a) }

  -- the same, said otherwise
  pub decides_as : {B : Type 0} {r : Bool} → (A → B) → (B → A) → Decides r A → Decides r B
  decides_as to from d = record { only = λ e. to (d.only e); all = λ b. d.all (from b) }

pub decides_same : (x y : Bytes) → Decides (same x y) (x ≡ y)
decides_same x y = record { only = λ e. same→eq x y (rw e tt); all = λ e. rw e (same_self y) }

-- a test that fails
pub fails_not : {b : Bool} {B : Type 0} → b ≡ false → Decides b B → B → ⊥
fails_not fails d x = let e = d.all x in let z : ◌≡◌ {A = ℕ} 0 1 = cc in omega arith

-- a test that holds, and one that fails
pub decides_only : {A : Type 0} → Decides true A → A
decides_only d = d.only refl

pub decides_false : {A : Type 0} → Decides false A → A → ⊥
decides_false d x = fails_not refl d x
