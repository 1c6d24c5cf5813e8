-- What a call answers, case by case. Assumes nothing.
use mathlib.Core.Path.{◌≡◌}
use mathlib.Core.Logic.{⊎_elim}
use native.Mathlib.Omega.{arith}
use Prim.Native.Nat.{ℕ, ◌+◌, ◌≤◌, ◌<◌}
use borrow.Author.Tests.{le-leb, lt-leb}
use lib.ListN.{length, drop, length-append}
use Rattle.names.specs.CallAnswer.{accepted_answer, delivered, max_counter, name_call, refused_answer, written}
use Rattle.names.specs.Names.{Bytes, gensym, name_limit}
use Rattle.names.specs.Refusals.{OutOfRange, LongName, ShortBuffer, placeless}
use Rattle.names.specs.declared.Answer.{Answer}
use Rattle.names.proofs.Order.{lt_or_le}

-- a result that is delivered
module _ (counter : ℕ) (buffer bs : Bytes) (c : ℕ) where
  pub delivered_short : length buffer < length bs → delivered counter buffer bs c ≡ refused_answer counter buffer (placeless ShortBuffer)
  unfolding delivered
  delivered_short lt = rw (lt-leb (length bs) (length buffer) lt, delivered)

  pub delivered_fits : length bs ≤ length buffer
      → delivered counter buffer bs c ≡ (accepted_answer c 0 (length bs), written bs buffer)
  unfolding delivered
  delivered_fits le = rw (le-leb (length bs) (length buffer) le, delivered)

  delivered_len : (delivered counter buffer bs c).0.len ≤ length (delivered counter buffer bs c).1
  unfolding refused_answer written
  delivered_len =
      ⊎_elim
      (λ lt. rw (delivered_short lt) (omega arith))
      (λ le. rw (delivered_fits le) (omega (arith, length-append bs (drop (length bs) buffer))))
      (lt_or_le (length buffer) (length bs))

-- the call Name
module _ (n : Bytes) (c : ℕ) (buffer : Bytes) where
  pub name_call_counter : max_counter < c → name_call n c buffer ≡ refused_answer c buffer (placeless OutOfRange)
  unfolding name_call
  name_call_counter lt = rw (lt-leb c max_counter lt, name_call)

  pub name_call_long : c ≤ max_counter → name_limit < length (gensym n c) → name_call n c buffer ≡ refused_answer c buffer (placeless LongName)
  unfolding name_call
  name_call_long le lt = rw (le-leb c max_counter le, lt-leb (length (gensym n c)) name_limit lt, name_call)

  pub name_call_made : c ≤ max_counter → length (gensym n c) ≤ name_limit → name_call n c buffer ≡ delivered c buffer (gensym n c) (c + 1)
  unfolding name_call
  name_call_made le made = rw (le-leb c max_counter le, le-leb (length (gensym n c)) name_limit made, name_call)

  name_call_len : (name_call n c buffer).0.len ≤ length (name_call n c buffer).1
  unfolding refused_answer
  name_call_len =
      ⊎_elim
      (λ lt. rw (name_call_counter lt) (omega arith))
      (λ le. ⊎_elim
      (λ lt. rw (name_call_long le lt) (omega arith))
      (λ made. rw (name_call_made le made) (delivered_len c buffer (gensym n c) (c + 1)))
      (lt_or_le name_limit (length (gensym n c))))
      (lt_or_le max_counter c)

  -- an answer's length is no more than its buffer's
  pub answer_len : {r : Answer} {out : Bytes} → (r, out) ≡ name_call n c buffer → r.len ≤ length out
  answer_len e = rw (← e) at name_call_len
