-- The turn in the form in which a loop meets it: one pass over the row.
-- Assumes nothing.
use Prim.Native.Nat.{ℕ, zero, suc, ◌+◌, ◌-◌, ◌≤◌, ◌<◌}
use native.Mathlib.Nat.{le_refl, le_trans}
use native.Mathlib.Numerals.{add-one}
use native.Mathlib.Omega.{arith}
use mathlib.Core.Path.{◌≡◌, refl, ◌∙◌, subst⁻¹}
use mathlib.Core.Bool.{Bool, true, false, cond}
use mathlib.Core.List.{List, ◌∷◌, foldl}
use lib.ListN.{length, get_or, set, take}
use lib.Seq.{take-set-le}
use Rattle.ordering.specs.Items.{Item, indices_from, ready, keep}
use Rattle.ordering.specs.Toposort.{Row, picked, swap, place, turn}
use Rattle.ordering.proofs.Swap.{length_swap, swap_back, swap_at}

module _ (bs : List Item) where
  -- one position of a turn at whose start k were placed
  unfoldable pub step : ℕ → Row → ℕ → Row
  step k r p = cond (ready bs (take k r.row) (get_or r.row p 0)) (place r p) r

  take_swap_low : (l : List ℕ) (k i j : ℕ) → k ≤ i → k ≤ j → take k (swap l i j) ≡ take k l
  unfolding swap
  take_swap_low l k i j hi hj = take-set-le k (set l i (get_or l j 0)) j (get_or l i 0) hj ∙ take-set-le k l i (get_or l j 0) hi

  module _ (k : ℕ) (old : List ℕ) where
    pass : (m a : ℕ) (r : Row) → k ≤ r.placed → r.placed ≤ a → a + m ≡ length r.row
        → ((p : ℕ) → a ≤ p → get_or r.row p 0 ≡ get_or old p 0)
        → take k r.row ≡ take k old
        → foldl place r (keep (λ p. ready bs (take k old) (get_or old p 0)) (indices_from a m)) ≡ foldl (step k) r (indices_from a m)
    unfolding step
    pass zero a r hk le e eq low = refl
    pass (suc m) a r hk le e eq low =
        let same_test : ready bs (take k r.row) (get_or r.row a 0) ≡ ready bs (take k old) (get_or old a 0) = rw (low, eq a (le_refl a)) in
        subst⁻¹ (λ (b : Bool). foldl place r (cond (ready bs (take k old) (get_or old a 0)) (a ∷ rest) rest) ≡ foldl (step k) (cond b (place r a) r) (indices_from (suc a) m)) same_test
        (go (ready bs (take k old) (get_or old a 0))
        (pass m (suc a) (place r a) (omega arith) (omega arith)
        (omega (arith, length_swap r.row r.placed a (omega arith) (omega arith)))
        (λ p h. swap_at r.row r.placed a (omega arith) (omega arith) p (omega arith) (omega arith) ∙ eq p (omega arith))
        (take_swap_low r.row k r.placed a hk (le_trans hk le) ∙ low))
        (pass m (suc a) r hk (omega arith) (omega arith) (λ p h. eq p (omega arith)) low))
      where
        rest : List ℕ
        rest = keep (λ p. ready bs (take k old) (get_or old p 0)) (indices_from (suc a) m)

        go : (b : Bool)
            → foldl place (place r a) rest ≡ foldl (step k) (place r a) (indices_from (suc a) m)
            → foldl place r rest ≡ foldl (step k) r (indices_from (suc a) m)
            → foldl place r (cond b (a ∷ rest) rest) ≡ foldl (step k) (cond b (place r a) r) (indices_from (suc a) m)
        go true p q = p
        go false p q = q

  -- a turn may place what it picks as it goes: what it tests and what it reads stay as they were
  pub one_pass : (r : Row) → r.placed ≤ length r.row
      → turn bs r ≡ foldl (step r.placed) r (indices_from r.placed (length r.row - r.placed))
  unfolding picked
  one_pass r h =
      pass r.placed r.row (length r.row - r.placed) r.placed r
      (le_refl r.placed) (le_refl r.placed) (omega arith) (λ p l. refl) refl

  -- what a turn at whose start k were placed makes of a row, from the position p on
  abbrev pub from : ℕ → List ℕ → ℕ → ℕ → Row
  from k row left p = foldl (step k) (record { row = row; placed = left }) (indices_from p (length row - p))

  pub pass_begins : (row : List ℕ) (k : ℕ) → k ≤ length row → turn bs (record { row = row; placed = k }) ≡ from k row k k
  pass_begins row k h = one_pass (record { row = row; placed = k }) h

  module _ (k : ℕ) (row : List ℕ) (left p : ℕ) where
    pub pass_ends : length row ≤ p → from k row left p ≡ record { row = row; placed = left }
    pass_ends h = let e : length row - p ≡ 0 = omega arith in rw e

    next : p < length row → from k row left p ≡ foldl (step k) (step k (record { row = row; placed = left }) p) (indices_from (suc p) (length row - suc p))
    next h = let e : length row - p ≡ suc (length row - suc p) = omega arith in rw e

    -- an index that is not ready stays
    pub pass_stays : p < length row → ready bs (take k row) (get_or row p 0) ≡ false → from k row left p ≡ from k row left (p + 1)
    unfolding step
    pass_stays h e = next h ∙ rw (e, add-one)

    -- one that is ready changes places with the leftmost one not yet placed
    pub pass_places : left ≤ p → p < length row → ready bs (take k row) (get_or row p 0) ≡ true
        → from k row left p ≡ from k (set (set row p (get_or row left 0)) left (get_or row p 0)) (left + 1) (p + 1)
    unfolding step
    pass_places le h e =
        next h ∙ rw (e, swap_back row left p (omega arith) h, length_swap row left p (omega arith) h, add-one left, add-one p)
