-- Equal answers of rules have equal numbers. Assumes nothing.
use mathlib.Core.Path.{◌≡◌, ap}
use Prim.Native.Nat.{ℕ}
use Rattle.std.specs.declared.result.Result.{Result}
use Rattle.std.specs.declared.result.Result.TheVariants.{Ok, Err}
use Rattle.names.specs.declared.Refusal.{Refusal}
use Rattle.walk.specs.RuleAnswers.{piece_of, drawn_of, made_with}

-- a number of an answer
abbrev number : {A : Type 0} → (A → ℕ) → Result A Refusal → ℕ
number p (Ok a) = p a
number p (Err q) = 0

pub piece_same : {n k x c n' k' x' c' : ℕ} → piece_of n k x c ≡ piece_of n' k' x' c' → (n ≡ n') × (k ≡ k') × (x ≡ x') × (c ≡ c')
piece_same e = (ap (number (λ p. p.read)) e, ap (number (λ p. p.written)) e, ap (number (λ p. p.sum)) e, ap (number (λ p. p.counter)) e)

pub drawn_same : {n k m c n' k' m' c' : ℕ} → drawn_of n k m c ≡ drawn_of n' k' m' c' → (n ≡ n') × (k ≡ k') × (m ≡ m') × (c ≡ c')
drawn_same e = (ap (number (λ d. d.read)) e, ap (number (λ d. d.written)) e, ap (number (λ d. d.map)) e, ap (number (λ d. d.counter)) e)

pub made_same : {k x m c k' x' m' c' : ℕ} → made_with k x m c ≡ made_with k' x' m' c' → (k ≡ k') × (x ≡ x') × (m ≡ m') × (c ≡ c')
made_same e = (ap (number (λ d. d.written)) e, ap (number (λ d. d.sum)) e, ap (number (λ d. d.map)) e, ap (number (λ d. d.counter)) e)
