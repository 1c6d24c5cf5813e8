-- The row at each position of a turn, as the code comes to it.
-- Assumes nothing.
use Prim.Native.Nat.{ℕ, ◌+◌, ◌≤◌, ◌<◌}
use native.Mathlib.Decide.{ℕ_discrete}
use native.Mathlib.Nat.{le_refl}
use native.Mathlib.Omega.{arith}
use mathlib.Core.Path.{◌≡◌, refl, sym, ◌∙◌}
use mathlib.Core.Bool.{true, false}
use mathlib.Core.List.{List}
use lib.ListN.{length, get_or, set, take, length-set}
use lib.Seq.{get_or-set_same, get_or-set_other, take-set-le}
use Rattle.ordering.specs.Items.{Item, ready}
use Rattle.ordering.specs.Needs.{TurnStart}
use Rattle.ordering.specs.Toposort.{turn}
use Rattle.ordering.proofs.Loop.{from, pass_begins, pass_ends, pass_stays, pass_places}

below_set : (n : ℕ) (l : List ℕ) (i v : ℕ) → n ≤ length l → ((k : ℕ) → k < n → get_or l k 0 < n) → v < n
    → (k : ℕ) → k < n → get_or (set l i v) k 0 < n
below_set n l i v size h lt k s =
    elim (ℕ_discrete k i) [
      | yes e ↦ rw (e, get_or-set_same l i v 0 (omega arith)) lt
      | no m ↦ rw (get_or-set_other l i k v 0 m) (h k s)
    ]

module _ (needs starts row₀ : List ℕ) (placed done : ℕ) where
  -- what the turn is still to make of the row, from the position p on, is what it is to make of the row that it began with
  pub record Passed (row : List ℕ) (left p : ℕ) : Type 0 where
    pub size : length row ≡ length row₀
    pub low : placed ≤ left
    pub high : left ≤ p
    pub end : p ≤ length row
    pub below : (k : ℕ) → k < length row → get_or row k 0 < length row
    pub first : take placed row ≡ take placed row₀
    pub result : (bs : List Item) → TurnStart bs needs starts row₀ placed done → turn bs (record { row = row₀; placed = placed }) ≡ from bs placed row left p

  pub begins : placed ≤ length row₀ → ((k : ℕ) → k < length row₀ → get_or row₀ k 0 < length row₀) → Passed row₀ placed placed
  begins h below = record {
    size = refl;
    low = le_refl placed;
    high = le_refl placed;
    end = h;
    below = below;
    first = refl;
    result = λ bs g. pass_begins bs row₀ placed h;
  }

  module _ {row : List ℕ} {left p : ℕ} (w : Passed row left p) where
    given_now : (bs : List Item) → TurnStart bs needs starts row₀ placed done → TurnStart bs needs starts row placed done
    given_now bs g = record { size = g.size ∙ sym w.size; at = g.at; marked = rw (w.size, w.first) g.marked }

    pub ends : length row ≤ p → (bs : List Item) → TurnStart bs needs starts row₀ placed done
        → turn bs (record { row = row₀; placed = placed }) ≡ record { row = row; placed = left }
    ends h bs g = w.result bs g ∙ pass_ends bs placed row left p h

    module _ (lt : p < length row) where
      pub stays : ((bs : List Item) → TurnStart bs needs starts row placed done → ready bs (take placed row) (get_or row p 0) ≡ false) → Passed row left (p + 1)
      stays h = record {
        size = w.size;
        low = w.low;
        high = omega arith;
        end = omega arith;
        below = w.below;
        first = w.first;
        result = λ bs g. w.result bs g ∙ pass_stays bs placed row left p lt (h bs (given_now bs g));
      }

      pub places : ((bs : List Item) → TurnStart bs needs starts row placed done → ready bs (take placed row) (get_or row p 0) ≡ true)
          → Passed (set (set row p (get_or row left 0)) left (get_or row p 0)) (left + 1) (p + 1)
      places h = record {
        size = simp length-set w.size;
        low = omega arith;
        high = omega arith;
        end = simp length-set (omega arith);
        below =
            rw (length-set, length-set)
            (below_set (length row) (set row p (get_or row left 0)) left (get_or row p 0) (simp length-set (omega arith))
            (below_set (length row) row p (get_or row left 0) (omega arith) w.below (w.below left (omega arith)))
            (w.below p lt));
        first = take-set-le placed (set row p (get_or row left 0)) left (get_or row p 0) w.low ∙ take-set-le placed row p (get_or row left 0) (omega arith) ∙ w.first;
        result = λ bs g. w.result bs g ∙ pass_places bs placed row left p w.high lt (h bs (given_now bs g));
      }
