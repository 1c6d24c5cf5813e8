-- A row after two of its places are swapped.
-- Assumes nothing.
use Prim.Native.Nat.{ℕ, suc, ◌≤◌, ◌<◌}
use native.Mathlib.Omega.{arith}
use native.Mathlib.Decide.{ℕ_discrete}
use mathlib.Core.Path.{◌≡◌, refl, sym, ◌∙◌}
use mathlib.Core.Logic.{◌≢◌}
use mathlib.Core.List.{List, [], ◌∷◌, ◌++◌}
use lib.ListN.{length, get_or, set, take, length-set}
use lib.Seq.{get_or-set_same, get_or-set_other, set-set, set_comm, lt-length-set, take-suc-set, take-set-le}
use Rattle.ordering.specs.Toposort.{swap}
use Rattle.ordering.specs.Lawful.{OfAll}
use Rattle.ordering.proofs.Lists.{in_at, at_in}

-- where the swap of i and j sends the place k
data Sent (i j k k' : ℕ) : Type 0 where
  to_j : k ≡ i → k' ≡ j → Sent i j k k'
  to_i : k ≡ j → k' ≡ i → Sent i j k k'
  stays : k ≢ i → k ≢ j → k' ≡ k → Sent i j k k'

sent : (i j k : ℕ) → (k' : ℕ) × Sent i j k k'
sent i j k =
    elim (ℕ_discrete k i) [
      | yes e ↦ (j, to_j e refl)
      | no n ↦ elim (ℕ_discrete k j) [ yes e ↦ (i, to_i e refl) | no m ↦ (k, stays n m refl) ]
    ]

sent_back : {i j k k' : ℕ} → Sent i j k k' → Sent i j k' k
sent_back (to_j p q) = to_i q p
sent_back (to_i p q) = to_j q p
sent_back (stays n m e) = stays (omega arith) (omega arith) (sym e)

sent_one : {i j a a' b b' : ℕ} → Sent i j a a' → Sent i j b b' → a' ≡ b' → a ≡ b
sent_one (to_j p q) (to_j r s) e = omega arith
sent_one (to_j p q) (to_i r s) e = omega arith
sent_one (to_j p q) (stays n m s) e = omega arith
sent_one (to_i p q) (to_j r s) e = omega arith
sent_one (to_i p q) (to_i r s) e = omega arith
sent_one (to_i p q) (stays n m s) e = omega arith
sent_one (stays n m q) (to_j r s) e = omega arith
sent_one (stays n m q) (to_i r s) e = omega arith
sent_one (stays n m q) (stays n' m' s) e = omega arith

module _ (l : List ℕ) (i j : ℕ) (hi : i < length l) (hj : j < length l) where
  pub length_swap : length (swap l i j) ≡ length l
  unfolding swap
  length_swap = simp length-set

  -- the same, the other way round
  pub swap_back : set (set l j (get_or l i 0)) i (get_or l j 0) ≡ swap l i j
  unfolding swap
  swap_back =
      elim (ℕ_discrete i j) [
        | yes e ↦ rw e
        | no n ↦ set_comm l j i (get_or l i 0) (get_or l j 0) (λ e. n (sym e))
      ]

  pub swap_at : (k : ℕ) → k ≢ i → k ≢ j → get_or (swap l i j) k 0 ≡ get_or l k 0
  unfolding swap
  swap_at k a b = rw (get_or-set_other, get_or-set_other)

  pub swap_right : get_or (swap l i j) j 0 ≡ get_or l i 0
  unfolding swap
  swap_right = get_or-set_same (set l i (get_or l j 0)) j (get_or l i 0) 0 (lt-length-set l i (get_or l j 0) hj)

  pub swap_left : get_or (swap l i j) i 0 ≡ get_or l j 0
  unfolding swap
  swap_left =
      elim (ℕ_discrete i j) [
        | yes e ↦ rw (← e, set-set) (get_or-set_same l i (get_or l i 0) 0 hi)
        | no n ↦ get_or-set_other (set l i (get_or l j 0)) j i (get_or l i 0) 0 n ∙ get_or-set_same l i (get_or l j 0) 0 hi
      ]

  pub take_swap : i ≤ j → take (suc i) (swap l i j) ≡ take i l ++ (get_or l j 0 ∷ [])
  unfolding swap
  take_swap le =
      elim (ℕ_discrete i j) [
        | yes e ↦ rw (← e, set-set) (take-suc-set l i (get_or l i 0) hi)
        | no n ↦ rw (take-set-le (suc i) (set l i (get_or l j 0)) j (get_or l i 0) (omega arith)) (take-suc-set l i (get_or l j 0) hi)
      ]

  sent_lt : {k k' : ℕ} → Sent i j k k' → k < length l → k' < length l
  sent_lt (to_j p q) h = omega arith
  sent_lt (to_i p q) h = omega arith
  sent_lt (stays n m q) h = omega arith

  sent_is : {k k' : ℕ} → Sent i j k k' → get_or (swap l i j) k 0 ≡ get_or l k' 0
  sent_is (to_j p q) = rw (p, q) swap_left
  sent_is (to_i p q) = rw (p, q) swap_right
  sent_is {k} (stays n m q) = rw q (swap_at k n m)

  pub all_swap : (n : ℕ) → OfAll n l → OfAll n (swap l i j)
  all_swap n a = record {
    some = record {
      below = λ x m.
          let r = in_at 0 m in
          let s = sent i j r.0 in
          a.some.below x (rw (sym r.2 ∙ sent_is s.1) (at_in l s.0 0 (sent_lt s.1 (rw length_swap at r.1))));
      once = λ x y p q e.
          let s = sent i j x in
          let t = sent i j y in
          sent_one s.1 t.1
          (a.some.once s.0 t.0 (sent_lt s.1 (rw length_swap at p)) (sent_lt t.1 (rw length_swap at q))
          (sym (sent_is s.1) ∙ e ∙ sent_is t.1));
    };
    every = λ x h.
        let r = in_at 0 (a.every x h) in
        let s = sent i j r.0 in
        rw (sym r.2 ∙ sym (sent_is (sent_back s.1)))
        (at_in (swap l i j) s.0 0 (rw length_swap (sent_lt s.1 r.1)));
  }
