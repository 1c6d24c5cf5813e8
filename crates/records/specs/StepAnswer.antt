-- What a step answers, for every kind of record: A its trees, f their bytes.
-- Assumes nothing.
use Rattle.std.specs.Prelude.{◌≡◌, ℕ, length}
use Rattle.names.specs.Names.{Bytes}
use Rattle.names.specs.declared.Refusal.{Refusal}
use Rattle.names.specs.Segments.{At}
use Rattle.records.specs.declared.Step.{Step}
use Rattle.std.specs.declared.result.Result.{Result}
use Rattle.std.specs.declared.result.Result.TheVariants.{Ok, Err}

-- a tree and the counter after it; or a refusal
pub data Outcome (A : Type 0) : Type 0 where
  gives : A → ℕ → Outcome A
  refuses : Refusal → Outcome A

-- the answer that n bytes were read and k written, and the counter is then c
abbrev pub step_of : ℕ → ℕ → ℕ → Result Step Refusal
step_of n k c = Ok (record { read = n; written = k; counter = c })

-- r is the answer after n bytes were read, where the definition gives o: what was read and written, with the result at free; or the refusal
pub data Gives {A : Type 0} (f : A → Bytes) (new : Bytes) (free n : ℕ) (o : Outcome A) (r : Result Step Refusal) : Type 0 where
  gave : (u : A) (c : ℕ) → o ≡ gives u c → r ≡ step_of n (length (f u)) c → At new free (f u) → Gives f new free n o r
  refused : (k : Refusal) → o ≡ refuses k → r ≡ Err k → Gives f new free n o r
