-- What a linked function answers, as numbers.
-- Assumes nothing.
use Rattle.std.specs.Prelude.{Result as Res, Ok, Err, Option, None, Some}
use Rattle.std.specs.Prelude.{List, [], ◌∷◌, ◌≡◌, ℕ, zero, suc, ◌*◌, length, get_or}
use Rattle.names.specs.CallAnswer.{CallResult}
use Rattle.names.specs.Names.{Bytes}
use Rattle.names.specs.Refusals.{place_at, refusing, placeless, reason_of, refusal_number, refusal_place}
use Rattle.names.specs.declared.Reason.{Reason}
use Rattle.names.specs.declared.Reason.TheVariants.{OutOfRange}
use Rattle.names.specs.declared.Answer.{Answer}
use Rattle.names.specs.declared.Refusal.{Refusal}
use Rattle.records.specs.Limits.{most_longest, work_factor}
use Rattle.records.specs.Opened.{open_input}
use Rattle.records.specs.Scan.{wanted_reader, opening_of}
use Rattle.records.specs.declared.Wanted.{Wanted}
use Rattle.records.specs.declared.Wanted.TheVariants.{Form, Helper, Assign}

-- what is told of an answer: its refusal's number, or 0; and its place, the counter, the rounds and the bytes written
pub record Told (a : Answer) (n : ℕ) (told : List ℕ) : Type 0 where
  pub number : n ≡ refusal_number a.refusal
  pub others : told ≡ (refusal_place a.refusal).start ∷ a.counter ∷ a.rounds ∷ a.len ∷ []

-- a linked function answers r: it tells its answer, and leaves the result buffer as r does
pub record Answers (r : CallResult) (n : ℕ) (told : List ℕ) (after : Bytes) : Type 0 where
  pub tells : Told r.0 n told
  pub buffer : after ≡ r.1

-- it hands a call on, with what it is given
abbrev pub Hands : (ℕ → ℕ → ℕ → Bytes → Bytes → CallResult) → ℕ → Bytes → ℕ → Bytes → Bytes → ℕ → List ℕ → Bytes → Type 0
Hands call f work counter input before n told after = Answers (call f (length work) counter input before) n told after

-- the refusal and the answer that are told
abbrev pub refusal_by : Option Reason → ℕ → Option Refusal
refusal_by None p = None
refusal_by (Some r) p = Some (refusing r (place_at p))

abbrev pub refusal_in : ℕ → List ℕ → Option Refusal
refusal_in n told = refusal_by (reason_of n) (get_or told 0 0)

abbrev pub answer_in : ℕ → List ℕ → Answer
answer_in n told = record { refusal = refusal_in n told; counter = get_or told 1 0; rounds = get_or told 2 0; len = get_or told 3 0 }

-- whether an input of which this record is wanted is refused, with work memory and a counter that every F allows
unfoldable pub read_as : Wanted → ℕ → Bytes → Res (Unit {0}) Refusal
read_as w F input = opening_of (open_input (wanted_reader w).1 F (work_factor * most_longest) 0 input)

-- reading an input of a kind: 0 a CF, 1 an H record, 2 an assign; there is no other kind, and 1 refuses it
unfoldable pub read_call : ℕ → ℕ → Bytes → Res (Unit {0}) Refusal
read_call zero F input = read_as Form F input
read_call (suc zero) F input = read_as Helper F input
read_call (suc (suc zero)) F input = read_as Assign F input
read_call (suc (suc (suc k))) F input = Err (placeless OutOfRange)

-- the refusal of a reading, if any
abbrev pub refusal_of : Res (Unit {0}) Refusal → Option Refusal
refusal_of (Ok u) = None
refusal_of (Err r) = Some r

-- what is told of a reading: the refusal's number, or 0, and its place
pub record ToldReading (r : Res (Unit {0}) Refusal) (n place : ℕ) : Type 0 where
  pub number : n ≡ refusal_number (refusal_of r)
  pub at : place_at place ≡ refusal_place (refusal_of r)
