-- What a case tells by a number and a place: a refusal, or that nothing is refused. Assumes nothing.
use Rattle.std.specs.Prelude.{Bool, true, false, ◌&&◌, ℕ, eqb, Option, Some, option_map, option_and_then, Result, Ok, Err}
use Rattle.names.specs.Refusals.{place_at, refusing, reason_of}
use Rattle.names.specs.declared.Refusal.{Refusal}

-- 0 at 0 tells that nothing is refused; a number without a reason tells nothing
abbrev pub told_if : Bool → ℕ → ℕ → Option (Result (Unit {0}) Refusal)
told_if true number place = Some (Ok tt)
told_if false number place = option_map (λ r. Err (refusing r (place_at place))) (reason_of number)

abbrev pub told : ℕ → ℕ → Option (Result (Unit {0}) Refusal)
told number place = told_if (eqb number 0 && eqb place 0) number place

-- what follows from what is there; where nothing is, nothing
infixl 10 ◌>>=◌
abbrev pub ◌>>=◌ : {A B : Type 0} → Option A → (A → Option B) → Option B
o >>= f = option_and_then f o
