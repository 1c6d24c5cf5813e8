-- The turns one by one, as the code takes them: the outcome, and the number of rounds.
-- Assumes nothing.
use Prim.Native.Nat.{ℕ, zero, suc, ◌+◌, ◌-◌, ◌≤◌, ◌<◌}
use native.Mathlib.Nat.{sub-zero}
use native.Mathlib.Numerals.{add-one}
use native.Mathlib.Omega.{arith}
use mathlib.Core.Bool.{false}
use mathlib.Core.List.{List, []}
use mathlib.Core.Path.{◌≡◌, refl, sym, ap, ◌∙◌}
use borrow.Author.Tests.{lt-ltb, le-ltb}
use lib.ListN.{length}
use Rattle.ordering.specs.Items.{Item, indices_from, is_empty}
use Rattle.ordering.specs.Needs.{outcome_of}
use Rattle.ordering.specs.Rounds.{rounds}
use Rattle.ordering.specs.Toposort.{Row, start, picked, turn, ordered, turns, toposort}
use Rattle.ordering.proofs.Lists.{length_nil, one_in, first_in}
use Rattle.ordering.proofs.Rounds.{after, Filled, Empty, filled_next, all_empty, idle_empty, picked_joins, rounds_are}
use Rattle.ordering.proofs.Rows.{placed_by}

module _ (bs : List Item) where
  -- k turns are done, and each placed something
  pub record Turned (k : ℕ) (row : List ℕ) (placed : ℕ) : Type 0 where
    pub outcome : toposort bs ≡ turns bs (length bs - k) (record { row = row; placed = placed })
    pub state : after bs k ≡ record { row = row; placed = placed }
    pub filled : Filled bs k

  -- what is answered: the outcome, and the number of rounds
  abbrev pub Answered : ℕ → List ℕ → ℕ → Type 0
  Answered k row placed = (toposort bs ≡ outcome_of row placed) × (k ≡ rounds bs)

  pub none_turned : Turned 0 (indices_from 0 (length bs)) 0
  unfolding toposort start
  none_turned = record { outcome = rw (sub-zero (length bs)); state = refl; filled = λ j p q. absurd (omega arith) }

  -- with all placed, no turn is left
  all_turned : (m : ℕ) (r : Row) → length r.row ≤ r.placed → turns bs m r ≡ ordered r.row
  all_turned zero r h = rw (le-ltb r.placed (length r.row) h)
  all_turned (suc m) r h = rw (le-ltb r.placed (length r.row) h)

  module _ {k : ℕ} {row : List ℕ} {placed : ℕ} (w : Turned k row placed) where
    abbrev now : Row
    now = record { row = row; placed = placed }

    pub all_placed : length row ≤ placed → k ≤ length bs → Answered k row placed
    unfolding outcome_of
    all_placed h few =
        let none : Empty bs (suc k) = all_empty bs k (rw w.state h) in
        (w.outcome ∙ all_turned (length bs - k) now h ∙ rw (le-ltb placed (length row) h), sym (rounds_are bs k none few w.filled))

    module _ (size : length row ≡ length bs) (lt : placed < length row) (few : k ≤ placed) {row' : List ℕ} {placed' : ℕ}
        (e : turn bs now ≡ record { row = row'; placed = placed' }) where
      one_left : length bs - k ≡ suc (length bs - (k + 1))
      one_left = omega arith

      count_is : placed' ≡ placed + length (picked bs now)
      count_is = sym (ap (λ (r : Row). r.placed) e) ∙ placed_by bs now (picked bs now)

      -- a turn that places nothing: a deadlock
      pub none_placed : placed' ≡ placed → Answered k row' placed
      unfolding outcome_of
      none_placed same =
          let none : picked bs now ≡ [] = length_nil (picked bs now) (omega (arith, count_is)) in
          let idle : turn bs now ≡ now = rw none in
          let kept : row' ≡ row = ap (λ (r : Row). r.row) (sym e ∙ idle) in
          let t = lt-ltb placed (length row) lt in
          let last : Empty bs (suc k) = idle_empty bs k (rw w.state none) in
          (w.outcome ∙ rw (one_left, none, t, kept, t), sym (rounds_are bs k last (omega arith) w.filled))

      pub some_placed : (placed' ≡ placed → ⊥) → Turned (k + 1) row' placed'
      some_placed other =
          let p = first_in (picked bs now) (λ z. other (omega (arith, count_is))) in
          let some : is_empty (picked bs now) ≡ false = one_in (picked bs now) p.1 in
          let i = picked_joins bs k p.0 (rw w.state p.1) in
          let t = lt-ltb placed (length row) lt in
          record {
            outcome = w.outcome ∙ rw (one_left, t, some, e);
            state = rw (add-one k, w.state) e;
            filled = rw (add-one k) (filled_next bs k w.filled i.0 i.1);
          }
