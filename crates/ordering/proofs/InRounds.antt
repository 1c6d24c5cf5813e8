-- The exact order has the rounds one after the other.
-- Assumes nothing.
use Prim.Native.Nat.{ℕ, zero, suc, ◌+◌, ◌-◌, ◌≤◌}
use native.Mathlib.Decide.{dec_lt}
use native.Mathlib.Omega.{arith}
use mathlib.Core.Bool.{not}
use mathlib.Core.List.{List}
use mathlib.Core.Logic.{◌↔◌}
use mathlib.Core.Path.{◌≡◌, refl, sym, ap, ◌∙◌}
use lib.Dec.{T, ltb, nltb→le}
use lib.ListN.{length, take, length-take}
use lib.Seq.{take-take, take-append-le}
use Rattle.ordering.specs.Items.{Item, is_empty}
use Rattle.ordering.specs.Lawful.{◌is_in◌}
use Rattle.ordering.specs.Rounds.{up_to}
use Rattle.ordering.specs.Toposort.{picked, Toposorted, ordered, deadlock, turns, toposort}
use Rattle.ordering.proofs.Lists.{by_cond}
use Rattle.ordering.proofs.Rounds.{after, good_after, turns_place}
use Rattle.ordering.proofs.Rows.{placed_by, turn_appends}

module _ (bs : List Item) where
  -- a turn keeps what is placed
  grows : (k : ℕ) → (after bs k).placed ≤ (after bs (suc k)).placed
  grows k = omega (arith, placed_by bs (after bs k) (picked bs (after bs k)))

  kept : (k : ℕ) → take (after bs k).placed (after bs (suc k)).row ≡ take (after bs k).placed (after bs k).row
  kept k =
      let n : ℕ = (after bs k).placed in
      let g = good_after bs k in
      let full : n ≤ length (take n (after bs k).row) = omega (arith, length-take n (after bs k).row, g.fits, g.size) in
      sym (take-take n (after bs (suc k)).placed (after bs (suc k)).row (grows k))
      ∙ ap (take n) (turn_appends bs (after bs k) g)
      ∙ take-append-le n (take n (after bs k).row) _ full
      ∙ take-take n n (after bs k).row (omega arith)

  -- and so do the turns after it
  module _ (k : ℕ) where
    stays : (m j : ℕ) → j ≡ m + k → ((after bs k).placed ≤ (after bs j).placed) × (take (after bs k).placed (after bs j).row ≡ take (after bs k).placed (after bs k).row)
    stays zero j e = let same : j ≡ k = omega arith in rw same (omega arith, refl)
    stays (suc m) zero e = absurd (omega arith)
    stays (suc m) (suc j) e =
        let s = stays m j (omega arith) in
        let n : ℕ = (after bs k).placed in (
          omega (arith, s.0, grows j),
          sym (take-take n (after bs j).placed (after bs (suc j)).row s.0) ∙ ap (take n) (kept j) ∙ take-take n (after bs j).placed (after bs j).row s.0 ∙ s.1,
        )

  -- the order is the row after turns that place all
  record Found (o : List ℕ) : Type 0 where
    last : ℕ
    row : (after bs last).row ≡ o
    all : length (after bs last).row ≤ (after bs last).placed

  module _ (o : List ℕ) where
    stuck_not : {l : List ℕ} → deadlock l ≡ ordered o → ⊥
    stuck_not z = let w : ◌≡◌ {A = ℕ} 0 1 = cc in omega arith

    done : (k : ℕ) → T (not (ltb (after bs k).placed (length (after bs k).row))) → ordered (after bs k).row ≡ ordered o → Found o
    done k t z = record { last = k; row = cc; all = nltb→le (after bs k).placed (length (after bs k).row) t }

    found : (n k : ℕ) → turns bs n (after bs k) ≡ ordered o → Found o
    found zero k =
        by_cond (λ (t : Toposorted). t ≡ ordered o → Found o) (ltb (after bs k).placed (length (after bs k).row))
        (λ t z. absurd (stuck_not z))
        (done k)
    found (suc n) k =
        by_cond (λ (t : Toposorted). t ≡ ordered o → Found o) (ltb (after bs k).placed (length (after bs k).row))
        (λ t.
        by_cond (λ (u : Toposorted). u ≡ ordered o → Found o) (is_empty (picked bs (after bs k)))
        (λ s z. absurd (stuck_not z))
        (λ s. found n (suc k)))
        (done k)

    module _ (f : Found o) where
      -- later turns pick nothing
      idle : (m j : ℕ) → j ≡ m + f.last → after bs j ≡ after bs f.last
      unfolding picked
      idle zero j e = let same : j ≡ f.last = omega arith in rw same
      idle (suc m) zero e = absurd (omega arith)
      idle (suc m) (suc j) e =
          let none : length (after bs f.last).row - (after bs f.last).placed ≡ 0 = omega (arith, f.all) in
          rw (idle m j (omega arith), none)

      first_rounds : (k : ℕ) → take (after bs k).placed o ≡ take (after bs k).placed (after bs k).row
      first_rounds k =
          elim (dec_lt f.last k) [
            | yes l ↦ rw (idle (k - f.last) k (omega arith)) (ap (take (after bs f.last).placed) (sym f.row))
            | no l ↦ ap (take (after bs k).placed) (sym f.row) ∙ (stays k (f.last - k) f.last (omega arith)).1
          ]

    -- its first so many are the bindings of the first k rounds, for each k
    pub order_in_rounds : toposort bs ≡ ordered o → (k : ℕ) → (n : ℕ) × ((i : ℕ) → (i is_in take n o) ↔ (i is_in up_to bs k))
    unfolding toposort
    order_in_rounds e k = ((after bs k).placed, rw (first_rounds (found (length bs) 0 e) k) (turns_place bs k))
