-- When the call Order answers a case as it must. Assumes nothing.
use Rattle.std.specs.Prelude.{◌≢◌, ◌≡◌, ℕ, ◌≤◌, ◌<◌, length, get_or, take, drop, Option, Some}
use Rattle.std.specs.Result.{result_err}
use Rattle.names.specs.CallAnswer.{CallResult}
use Rattle.names.specs.Names.{Bytes}
use Rattle.names.specs.Refusals.{refusal_number}
use Rattle.names.specs.declared.Answer.{Answer}
use Rattle.ordering.specs.OrderCall.{order_call}
use Rattle.replays.specs.Judging.{filling, head_byte, head_field}
use Rattle.replays.specs.Told.{told, ◌>>=◌}
use Rattle.replay_orders.specs.declared.order.Case.{Case}

-- a byte stands at some place of a list
abbrev pub Somewhere : ℕ → Bytes → Type 0
Somewhere b xs = (k : ℕ) × (k < length xs) × (get_or xs k 0 ≡ b)

-- each byte of one list stands in another
abbrev pub AllHeld : Bytes → Bytes → Type 0
AllHeld xs list = (k : ℕ) → k < length xs → Somewhere (get_or xs k 0) list

-- as many bytes, and each of the wanted ones among them
pub record AnySequence (got wanted : Bytes) : Type 0 where
  pub many : length got ≡ length wanted
  pub held : AllHeld wanted got

-- the bytes written are the wanted ones: of a deadlock in any sequence
pub record BytesAgree (number : ℕ) (got wanted : Bytes) : Type 0 where
  pub stuck : number ≡ 5 → AnySequence got wanted
  pub exact : number ≢ 5 → got ≡ wanted

-- the answer that a case must get, with so many bytes written
abbrev pub due_answer : Case → ℕ → Answer
due_answer c len = record { refusal = c.refusal; counter = c.counter; rounds = c.rounds; len = len }

-- a result is that of a case: its answer, the bytes wanted, and behind them what the buffer was filled with
pub record OrderAgrees (c : Case) (wanted : Bytes) (r : CallResult) : Type 0 where
  pub answer : r.0 ≡ due_answer c (length wanted)
  pub fits : r.0.len ≤ length r.1
  pub bytes : BytesAgree (refusal_number r.0.refusal) (take r.0.len r.1) wanted
  pub rest : drop r.0.len r.1 ≡ filling (length (drop r.0.len r.1))

-- what the call answers to a case, in a filled buffer of so many bytes
abbrev pub case_result : Case → ℕ → Bytes → ℕ → CallResult
case_result c work input n = order_call c.f work c.counter input (filling n)

-- the head of a case: F, the counter, the length of the result buffer, the number, the place and the rounds, 2, 8, 1, 1, 4 and 1 bytes
abbrev pub case_from : Bytes → Option Case
case_from head = do
  due ← told (head_byte head 11) (head_field head 12 4)
  Some (record { f = head_field head 0 2; counter = head_field head 2 8; refusal = result_err due; rounds = head_byte head 16 })

abbrev pub buffer_of : Bytes → ℕ
buffer_of head = head_byte head 10

-- the call answers a case as it must, in a buffer as long as `result`
abbrev pub AgreesIn : Case → Bytes → Bytes → Bytes → Bytes → Type 0
AgreesIn c work input wanted result = OrderAgrees c wanted (case_result c (length work) input (length result))

-- it answers the case of a head so, with so much work memory
abbrev pub HeadAgrees : Bytes → ℕ → Bytes → Bytes → Type 0
HeadAgrees head work wanted input = (c : Case) × (case_from head ≡ Some c) × OrderAgrees c wanted (case_result c work input (buffer_of head))
