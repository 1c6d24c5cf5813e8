-- What Order's answers mean: what is written with 0 is a lawful order, and with 5 the stuck bindings; an order has its rounds, a refusal none.
-- Assumes nothing.
use mathlib.Core.Path.{◌≡◌, refl, sym, ◌∙◌}
use mathlib.Core.Bool.{Bool, true, false}
use mathlib.Core.List.{List}
use Prim.Native.Nat.{ℕ, ◌≤◌}
use native.Mathlib.Omega.{arith}
use lib.Dec.{leb}
use lib.ListN.{length, take, drop, length-append}
use lib.Seq.{take-append_seam}
use Rattle.names.specs.CallAnswer.{CallResult, refused_answer, written}
use Rattle.names.specs.Names.{Bytes}
use Rattle.names.specs.Refusals.{place_at, placeless, reason_number}
use Rattle.names.specs.declared.Reason.TheVariants.{ShortBuffer}
use Rattle.names.specs.declared.Refusal.{Refusal}
use Rattle.records.specs.Opened.{Opened, opened, closed, open_input}
use Rattle.records.specs.Read.{assign_of}
use Rattle.records.specs.Records.{loc_number, Body}
use Rattle.records.specs.Valid.{AreBytes}
use Rattle.records.proofs.Accepted.{assign_format, opened_valid, one_tree}
use Rattle.records.proofs.Opened.{Start, start}
use Rattle.ordering.specs.Toposort.{Toposorted, ordered, deadlock}
use Rattle.ordering.specs.Rounds.{rounds}
use Rattle.ordering.specs.OrderCall.{bindings_of, let_loc, stuck_answer, order_answer, order_of, order_call}
use Rattle.ordering.specs.OrderMeans.{IsAssign, OrderMeans}
use Rattle.ordering.specs.Words.{items, toposort_assign_bindings}
use Rattle.ordering.proofs.Toposort.{sound, no_order}

-- what is written stands at the front of the buffer
module _ (is buffer : Bytes) where
  written_is : take (length is) (written is buffer) ≡ is
  unfolding written
  written_is = take-append_seam is (drop (length is) buffer)

  written_fits : length is ≤ length (written is buffer)
  unfolding written
  written_fits = omega (arith, length-append is (drop (length is) buffer))

module _ (c : ℕ) (buffer : Bytes) where
  -- what holds of each of the three answers for an assign that is read
  of_read : (P : CallResult → Type 0) (a : Body) → P (refused_answer c buffer (placeless ShortBuffer))
      → ((is : List ℕ) → toposort_assign_bindings (bindings_of a) ≡ ordered is → P (order_answer c buffer (rounds (items (bindings_of a))) is))
      → ((is : List ℕ) → toposort_assign_bindings (bindings_of a) ≡ deadlock is → P (stuck_answer c (place_at (loc_number (let_loc a))) buffer is))
      → P (order_of c buffer a)
  unfolding order_of
  of_read P a short found stuck = go (leb (length (bindings_of a)) (length buffer))
    where
      by_outcome : Toposorted → CallResult
      by_outcome o =
          elim o [
            | deadlock is ↦ stuck_answer c (place_at (loc_number (let_loc a))) buffer is
            | ordered is ↦ order_answer c buffer (rounds (items (bindings_of a))) is
          ]

      go₂ : (o : Toposorted) → toposort_assign_bindings (bindings_of a) ≡ o → P (by_outcome o)
      go₂ (deadlock is) e = stuck is e
      go₂ (ordered is) e = found is e

      go : (b : Bool)
          → P (elim b as (λ _. CallResult) [ false ↦ refused_answer c buffer (placeless ShortBuffer) | true ↦ by_outcome (toposort_assign_bindings (bindings_of a)) ])
      go true = go₂ (toposort_assign_bindings (bindings_of a)) refl
      go false = short

  -- and of every answer of the call
  of_call : (P : CallResult → Type 0) (F work : ℕ) (input : Bytes) → ((r : Refusal) → 1 ≤ reason_number r.reason → reason_number r.reason ≤ 4 → P (refused_answer c buffer r))
      → ((a : Body) → open_input assign_of F work c input ≡ opened a → P (order_of c buffer a)) → P (order_call F work c input buffer)
  unfolding order_call
  of_call P F work input refused read = go (open_input assign_of F work c input) refl (start assign_of F work c input)
    where
      go : (o : Opened Body) → open_input assign_of F work c input ≡ o → Start assign_of F work c input o
          → P (elim o as (λ _. CallResult) [ closed r ↦ refused_answer c buffer r | opened a ↦ order_of c buffer a ])
      go (closed r) e s = refused r s.0 s.1
      go (opened a) e s = read a e

  module _ {input : Bytes} where
    -- a refusal by another number than 5 means nothing
    refused_means : (r : Refusal) → (reason_number r.reason ≡ 0 → ⊥) → (reason_number r.reason ≡ 5 → ⊥) → OrderMeans input (refused_answer c buffer r)
    unfolding refused_answer
    refused_means r z f = record { within = omega arith; order = λ e. absurd (z e); stuck = λ e. absurd (f e); none = λ _. refl }

    read_means : (a : Body) → IsAssign input a → OrderMeans input (order_of c buffer a)
    unfolding stuck_answer order_answer toposort_assign_bindings
    read_means a w =
        of_read (OrderMeans input) a (refused_means (placeless ShortBuffer) (λ z. omega arith) (λ f. omega arith))
        (λ is e. record {
          within = written_fits is buffer;
          order = λ _. (a, w, rw (written_is is buffer) (sound (items (bindings_of a)) is e), refl);
          stuck = λ z. absurd (omega arith);
          none = λ z. absurd (z refl);
        })
        (λ is e. record {
          within = written_fits is buffer;
          order = λ z. absurd (omega arith);
          stuck = λ _. (a, w, rw (written_is is buffer) (no_order (items (bindings_of a)) is e), refl);
          none = λ _. refl;
        })

module _ (F work c : ℕ) (input buffer : Bytes) where
  -- the counter stays
  pub order_call_counter : (order_call F work c input buffer).0.counter ≡ c
  unfolding refused_answer stuck_answer order_answer
  order_call_counter =
      of_call c buffer (λ r. r.0.counter ≡ c) F work input (λ r l h. refl)
      (λ a e. of_read c buffer (λ r. r.0.counter ≡ c) a refl (λ is q. refl) (λ is q. refl))

  -- the answer to an input of bytes means what it says
  pub order_means : AreBytes input → OrderMeans input (order_call F work c input buffer)
  order_means ok =
      of_call c buffer (OrderMeans input) F work input (λ r l h. refused_means c buffer r (λ z. omega arith) (λ z. omega arith))
      (λ a e. let v = opened_valid assign_format F work c input a ok e in read_means c buffer a (record { valid = v.0; is = v.2 }))

  -- so an answer that is the call's means what it says
  pub answer_means : {r : CallResult} → AreBytes input → r ≡ order_call F work c input buffer → (r ≡ order_call F work c input buffer) × OrderMeans input r
  answer_means ok e = (e, rw e (order_means ok))

-- the assign that an answer speaks of is the only one that the input is
pub one_assign : {input : Bytes} (a b : Body) → IsAssign input a → IsAssign input b → a ≡ b
one_assign a b p q = one_tree assign_format a b p.valid q.valid (sym p.is ∙ q.is)
