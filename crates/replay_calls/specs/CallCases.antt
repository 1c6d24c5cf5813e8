-- When the calls Whole form, Children only and Single helper answer a case as they must. Assumes nothing.
use Rattle.std.specs.Prelude.{◌≡◌, ℕ, zero, suc, ◌≤◌, Option, Some, None, length, take, drop}
use Rattle.std.specs.Result.{result_err}
use Rattle.names.specs.CallAnswer.{CallResult, written}
use Rattle.names.specs.Names.{Bytes}
use Rattle.names.specs.declared.Answer.{Answer}
use Rattle.replays.specs.Judging.{filling, head_byte, head_field}
use Rattle.replays.specs.Told.{told, ◌>>=◌}
use Rattle.replay_calls.specs.declared.calls.Call.{Call}
use Rattle.replay_calls.specs.declared.calls.Call.TheVariants.{WholeForm, ChildrenOnly, SingleHelper}
use Rattle.replay_calls.specs.declared.calls.Case.{Case}
use Rattle.walk.specs.Calls.{whole_call, children_call, helper_call}

-- the call of a number: 0 Whole form, 1 Children only, 2 Single helper
abbrev pub call_of : ℕ → Option Call
call_of zero = Some WholeForm
call_of (suc zero) = Some ChildrenOnly
call_of (suc (suc zero)) = Some SingleHelper
call_of (suc (suc (suc n))) = None

-- what a call answers
abbrev pub called : Call → ℕ → ℕ → ℕ → Bytes → Bytes → CallResult
called WholeForm = whole_call
called ChildrenOnly = children_call
called SingleHelper = helper_call

-- what the call of a case answers to an input, with this work memory and this buffer
abbrev pub answer_to : Case → Bytes → Bytes → Bytes → CallResult
answer_to c work input buffer = called c.call c.f (length work) c.counter input buffer

-- the answer that a case must get, with so many bytes written
abbrev pub due_answer : Case → ℕ → Answer
due_answer c len = record { refusal = c.refusal; counter = c.after; rounds = 0; len = len }

-- and the result: the wanted bytes at the front of a buffer of n bytes, and behind them what it was filled with
abbrev pub due_result : Case → Bytes → ℕ → CallResult
due_result c wanted n = (due_answer c (length wanted), written wanted (filling n))

-- the call's answer and the result buffer of n bytes are those of the case
pub record CallAgrees (c : Case) (work : ℕ) (input wanted : Bytes) (n : ℕ) : Type 0 where
  pub result : called c.call c.f work c.counter input (filling n) ≡ due_result c wanted n

-- an answer and the first n bytes of memory are those of a case, and no byte behind them changed
abbrev pub ResultIn : Case → Answer → Bytes → ℕ → Bytes → Type 0
ResultIn c a mem n wanted = ((a, take n mem) ≡ due_result c wanted n) × (drop n mem ≡ filling (length (drop n mem)))

-- memory has n bytes for the result buffer of a case, and with it the case is answered as it must be
abbrev pub AgreesIn : Case → Bytes → Bytes → Bytes → Bytes → ℕ → Type 0
AgreesIn c work input wanted mem n = (n ≤ length mem) × CallAgrees c (length work) input wanted n

-- The head of a case: the call, the number, F, the length of work memory, the counter, the counter after the call, the place and the length of the
-- result buffer, 1, 1, 4, 4, 8, 8, 8 and 2 bytes.
abbrev pub case_from : Bytes → Option Case
case_from head = do
  call ← call_of (head_byte head 0)
  due ← told (head_byte head 1) (head_field head 26 8)
  Some (record { call = call; f = head_field head 2 4; counter = head_field head 10 8; refusal = result_err due; after = head_field head 18 8 })

abbrev pub work_of : Bytes → ℕ
work_of head = head_field head 6 4

abbrev pub buffer_of : Bytes → ℕ
buffer_of head = head_field head 34 2

-- the case of a head, with so much work memory, is answered as it must be; in `parts` the wanted bytes stand behind the input
abbrev pub HeadAgrees : Bytes → ℕ → Bytes → ℕ → Type 0
HeadAgrees head work parts result =
    (c : Case) × (case_from head ≡ Some c)
    × CallAgrees c work (take result parts) (drop result parts) (buffer_of head)
