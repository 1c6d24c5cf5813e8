-- When the call Page answers a case as it must. Assumes nothing.
use Rattle.std.specs.Prelude.{◌≡◌, ℕ, length, Option, Some}
use Rattle.std.specs.Result.{result_err}
use Rattle.names.specs.CallAnswer.{CallResult, written}
use Rattle.names.specs.Names.{Bytes}
use Rattle.names.specs.declared.Answer.{Answer}
use Rattle.outline.specs.Page.{page_call}
use Rattle.replays.specs.Judging.{filling, head_byte, head_field}
use Rattle.replays.specs.Told.{told, ◌>>=◌}
use Rattle.replay_pages.specs.declared.page.Case.{Case}

-- the answer that a case must get, with so many bytes written: no counter and no rounds
abbrev pub due_answer : Case → ℕ → Answer
due_answer c len = record { refusal = c.refusal; counter = 0; rounds = 0; len = len }

-- a result is that of a case: its answer, the bytes wanted, and behind them what the buffer was filled with
pub record PageAgrees (c : Case) (wanted : Bytes) (r : CallResult) : Type 0 where
  pub answer : r.0 ≡ due_answer c (length wanted)
  pub held : r.1 ≡ written wanted (filling (length r.1))

-- what the call answers to a case, in a filled buffer of so many bytes
abbrev pub case_result : Case → ℕ → Bytes → ℕ → CallResult
case_result c work input n = page_call c.f work input (filling n)

-- the head of a case: F, the lengths of work memory and of the result buffer, the number and the place, 2, 4, 4, 1 and 4 bytes
abbrev pub case_from : Bytes → Option Case
case_from head = do
  due ← told (head_byte head 10) (head_field head 11 4)
  Some (record { f = head_field head 0 2; refusal = result_err due })

abbrev pub work_of : Bytes → ℕ
work_of head = head_field head 2 4

abbrev pub buffer_of : Bytes → ℕ
buffer_of head = head_field head 6 4

-- the call answers a case as it must, in a buffer as long as `result`
abbrev pub AgreesIn : Case → Bytes → Bytes → Bytes → Bytes → Type 0
AgreesIn c work input wanted result = PageAgrees c wanted (case_result c (length work) input (length result))

-- it answers the case of a head so, with so much work memory
abbrev pub HeadAgrees : Bytes → Bytes → Bytes → Type 0
HeadAgrees head wanted input = (c : Case) × (case_from head ≡ Some c) × PageAgrees c wanted (case_result c (work_of head) input (buffer_of head))
