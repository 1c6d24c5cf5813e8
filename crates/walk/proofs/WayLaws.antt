-- The ways of a rest: which of them replace a result, and how the sum goes on by each. Assumes nothing.
use mathlib.Core.Path.{◌≡◌, refl}
use native.Mathlib.Omega.{arith}
use Prim.Native.Nat.{ℕ, ◌+◌, ◌≤◌}
use Rattle.walk.specs.FormWalks.{new_sum}
use Rattle.walk.specs.declared.Way.{Way}
use Rattle.walk.specs.declared.Way.TheVariants.{Own, In, Further}

-- the args-rules replace nothing
pub own_fresh : Own ≡ Further → ⊥
own_fresh e = let z : ◌≡◌ {A = ℕ} 0 1 = cc in absurd (omega arith)

-- nor do the in-rules alone
pub in_fresh : In ≡ Further → ⊥
in_fresh e = let z : ◌≡◌ {A = ℕ} 0 1 = cc in absurd (omega arith)

-- nothing read and nothing made
pub sum_none : (way : Way) (x : ℕ) → x ≡ new_sum way x 0 0
sum_none Own x = omega arith
sum_none In x = omega arith
sum_none Further x = omega arith

-- one part and then another: a and b bytes become a' and b'
pub sum_on : (way : Way) (x a b a' b' x₁ x₂ : ℕ) → (way ≡ Further → a + b ≤ x) → x₁ ≡ new_sum way x a a' → ((way ≡ Further → b ≤ x₁) → x₂ ≡ new_sum way x₁ b b') → x₂ ≡ new_sum way x (a + b) (a' + b')
sum_on Own x a b a' b' x₁ x₂ h e g = let z = g (λ q. absurd (own_fresh q)) in omega arith
sum_on In x a b a' b' x₁ x₂ h e g = let z = g (λ q. absurd (in_fresh q)) in omega arith
sum_on Further x a b a' b' x₁ x₂ h e g = let y = h refl in let z = g (λ q. omega arith) in omega arith

-- the sum holds a new result
pub sum_new : (way : Way) (x r n : ℕ) → n ≤ new_sum way x r n
sum_new Own x r n = omega arith
sum_new In x r n = omega arith
sum_new Further x r n = omega arith

-- and the results before it
pub sum_holds : (way : Way) (x made r n : ℕ) → made ≤ x → (way ≡ Further → made + r ≤ x) → made + n ≤ new_sum way x r n
sum_holds Own x made r n l k = omega arith
sum_holds In x made r n l k = omega arith
sum_holds Further x made r n l k = omega (arith, k refl)

-- and, of a way that replaces, what is left to be replaced
pub sum_holds_left : (way : Way) (x made r n more : ℕ) → made + (r + more) ≤ x → way ≡ Further → made + n + more ≤ new_sum way x r n
sum_holds_left Own x made r n more l e = absurd (own_fresh e)
sum_holds_left In x made r n more l e = absurd (in_fresh e)
sum_holds_left Further x made r n more l e = omega arith
