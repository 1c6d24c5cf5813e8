-- What a call answers and leaves in the result buffer; the call Name. docs/FORMAT.md, 'Calls'.
-- Assumes nothing.
use Rattle.std.specs.Prelude.{true, false, ◌++◌, ℕ, ◌+◌, leb, length, drop, None, Some}
use Rattle.names.specs.declared.Answer.{Answer}
use Rattle.names.specs.Names.{Bytes, name_limit, gensym}
use Rattle.names.specs.Refusals.{Refusal, OutOfRange, LongName, ShortBuffer, placeless}

-- the answer, and the result buffer as the call leaves it
abbrev pub CallResult : Type 0
CallResult = Answer × Bytes

-- written at the front; no byte past it changes
unfoldable pub written : Bytes → Bytes → Bytes
written bs buffer = bs ++ drop (length bs) buffer

-- the answer of a call that refuses nothing: the new counter, the rounds, the bytes written
abbrev pub accepted_answer : ℕ → ℕ → ℕ → Answer
accepted_answer c rounds len = record { refusal = None; counter = c; rounds = rounds; len = len }

-- a call's counter and result buffer as given
module _ (counter : ℕ) (buffer : Bytes) where
  -- a refusal; all else as found
  unfoldable pub refused_answer : Refusal → CallResult
  refused_answer r = (record { refusal = Some r; counter = counter; rounds = 0; len = 0 }, buffer)

  -- a result of a new counter c, if it fits, or 8
  unfoldable pub delivered : Bytes → ℕ → CallResult
  delivered bs c =
      elim (leb (length bs) (length buffer)) [
        | true ↦ (accepted_answer c 0 (length bs), written bs buffer)
        | false ↦ refused_answer (placeless ShortBuffer)
      ]

-- the largest counter that a call takes
abbrev pub max_counter : ℕ
max_counter = 4294967295

-- the call Name: 1 a counter above its limit, 6 a made name that is too long, 8 a buffer that is too short
unfoldable pub name_call : Bytes → ℕ → Bytes → CallResult
name_call n c buffer =
    elim (leb c max_counter) [
      | false ↦ refused_answer c buffer (placeless OutOfRange)
      | true ↦ elim (leb (length (gensym n c)) name_limit) [
        | false ↦ refused_answer c buffer (placeless LongName)
        | true ↦ delivered c buffer (gensym n c) (c + 1)
      ]
    ]

-- unfolds with every definition of this file
unfoldable pub computing_answers : Unit {0}
unfolding written refused_answer delivered name_call
computing_answers = tt
