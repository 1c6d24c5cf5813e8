-- What holds of the row before and after each turn.
-- Assumes nothing.
use Prim.Native.Nat.{ℕ, zero, suc, ◌+◌, ◌-◌, ◌≤◌, ◌<◌, zero-le}
use native.Mathlib.Nat.{not-suc-le-zero, le_refl}
use native.Mathlib.Omega.{arith}
use native.Mathlib.Decide.{dec_lt}
use mathlib.Core.Path.{◌≡◌, refl, sym, ap, ◌∙◌}
use mathlib.Core.Bool.{Bool}
use mathlib.Core.List.Memᴰ
use mathlib.Core.List.{List, [], ◌∷◌, ◌++◌, append-nil, append_assoc, map, foldl}
use lib.Dec.{T}
use lib.ListN.{length, get_or, take, length-append, get_or-append}
use lib.Seq.{take-append-le, take-append_seam, get_or-append_seam}
use Rattle.names.specs.Names.{Bytes}
use Rattle.ordering.specs.Items.{Item, indices_from, ready, keep}
use Rattle.ordering.specs.Toposort.{Row, start, picked, place, turn}
use Rattle.ordering.specs.Lawful.{◌is_in◌, Provides, Needs, OfAll, Lawful}
use Rattle.ordering.proofs.Lists.{by_cond, in_at, at_in, at_in_take, in_keep}
use Rattle.ordering.proofs.Tests.{ready_true}
use Rattle.ordering.proofs.Swap.{length_swap, swap_at, take_swap, all_swap}

-- counting
pub length_count : (a n : ℕ) → length (indices_from a n) ≡ n
length_count a zero = refl
length_count a (suc n) = ap suc (length_count (suc a) n)

pub count_at : (a n k : ℕ) → k < n → get_or (indices_from a n) k 0 ≡ a + k
count_at a zero k h = absurd (not-suc-le-zero h)
count_at a (suc n) zero h = omega arith
count_at a (suc n) (suc k) h = omega (arith, count_at (suc a) n k (omega arith))

pub count_below : (n k : ℕ) → k < length (indices_from 0 n) → get_or (indices_from 0 n) k 0 < length (indices_from 0 n)
count_below n k h = omega (arith, length_count 0 n, count_at 0 n k (omega (arith, length_count 0 n)))

pub in_count : (a n k : ℕ) → a ≤ k → k < a + n → k is_in indices_from a n
in_count a n k h l =
    rw (← at_k) (at_in (indices_from a n) (k - a) 0 (rw length_count (omega arith)))
  where
    at_k : get_or (indices_from a n) (k - a) 0 ≡ k
    at_k = omega (arith, count_at a n (k - a) (omega arith))

pub count_in : (a n k : ℕ) → k is_in indices_from a n → (a ≤ k) × (k < a + n)
count_in a n k m =
    let r = in_at 0 m in
    let lt : r.0 < n = omega (arith, length_count a n, r.1) in
    let e = count_at a n r.0 lt in
    (omega (arith, r.2, e), omega (arith, r.2, e))

all_count : (n : ℕ) → OfAll n (indices_from 0 n)
all_count n = record {
  some = record {
    below = λ i m. omega (arith, (count_in 0 n i m).1);
    once = λ j k p q e. omega (arith, count_at 0 n j (lt p), count_at 0 n k (lt q), e);
  };
  every = λ i h. in_count 0 n i zero-le (omega arith);
}
  where
    lt : {k : ℕ} → k < length (indices_from 0 n) → k < n
    lt h = omega (arith, length_count 0 n)

module _ (bs : List Item) where
  lawful_nil : Lawful bs []
  unfolding Lawful
  lawful_nil k h = absurd (not-suc-le-zero h)

  -- one more, all of whose needs are provided
  lawful_more : (o : List ℕ) (i : ℕ) → Lawful bs o → ((x : Bytes) → Needs bs i x → (j : ℕ) × (j is_in o) × Provides bs j x) → Lawful bs (o ++ (i ∷ []))
  unfolding Lawful
  lawful_more o i l h k lt x need =
      elim (dec_lt k (length o)) [
        | yes p ↦ rw (take-append-le k o (i ∷ []) (omega arith)) (l k p x (rw (get_or-append o (i ∷ []) 0 k p) at need))
        | no p ↦
            let e : k ≡ length o = omega (arith, length-append o (i ∷ [])) in
            rw (e, take-append_seam) (h x (rw (e, get_or-append_seam) at need))
      ]

  -- the row has each index once, and those that are placed stand in a lawful order
  pub record Good (r : Row) : Type 0 where
    pub size : length r.row ≡ length bs
    pub full : OfAll (length bs) r.row
    pub fits : r.placed ≤ length bs
    pub lawful : Lawful bs (take r.placed r.row)

  pub good_start : Good (start (length bs))
  unfolding start
  good_start = record {
    size = length_count 0 (length bs);
    full = all_count (length bs);
    fits = zero-le;
    lawful = lawful_nil;
  }

  module _ (done : List ℕ) where
    good_place : (r : Row) (p : ℕ) → Good r → r.placed ≤ p → p < length r.row
        → T (ready bs done (get_or r.row p 0))
        → ((j : ℕ) → j is_in done → j is_in take r.placed r.row)
        → Good (place r p)
    good_place r p g le lt t sub =
        let here : r.placed < length r.row = omega arith in
        record {
          size = length_swap r.row r.placed p here lt ∙ g.size;
          full = all_swap r.row r.placed p here lt (length bs) g.full;
          fits = omega arith;
          lawful =
              rw (take_swap r.row r.placed p here lt le)
              (lawful_more (take r.placed r.row) (get_or r.row p 0) g.lawful
              (λ x need. let s = ready_true bs done (get_or r.row p 0) t x need in (s.0, sub s.0 s.1, s.2)));
        }

    -- a turn over the positions a, a + 1, .. , as many as m; the row was `old` when the turn began, and is still so from a on
    module _ (old : List ℕ) where
      sweep : (m a : ℕ) (r : Row) → Good r → r.placed ≤ a → a + m ≡ length r.row
          → ((p : ℕ) → a ≤ p → get_or r.row p 0 ≡ get_or old p 0)
          → ((j : ℕ) → j is_in done → j is_in take r.placed r.row)
          → Good (foldl place r (keep (λ p. ready bs done (get_or old p 0)) (indices_from a m)))
      sweep zero a r g le e eq sub = g
      sweep (suc m) a r g le e eq sub =
          let lt : a < length r.row = omega arith in
          let here : r.placed < length r.row = omega arith in
          by_cond (λ ps. Good (foldl place r ps)) (ready bs done (get_or old a 0))
          (λ t.
          sweep m (suc a) (place r a)
          (good_place r a g le lt (rw (eq a (le_refl a)) t) sub)
          (omega arith)
          (omega (arith, length_swap r.row r.placed a here lt))
          (λ p h. swap_at r.row r.placed a here lt p (omega arith) (omega arith) ∙ eq p (omega arith))
          (λ j d. rw (take_swap r.row r.placed a here lt le) (Memᴰ.append_left (get_or r.row a 0 ∷ []) (sub j d))))
          (λ t. sweep m (suc a) r g (omega arith) (omega arith) (λ p h. eq p (omega arith)) sub)

  pub good_turn : (r : Row) → Good r → Good (turn bs r)
  unfolding picked
  good_turn r g =
      sweep (take r.placed r.row) r.row (length r.row - r.placed) r.placed r g
      (le_refl r.placed) (omega arith) (λ p h. refl) (λ j d. d)

  -- what is placed after it: what was before, and then what it picks
  module _ (test : ℕ → Bool) (old : List ℕ) where
    appends : (m a : ℕ) (r : Row) → r.placed ≤ a → a + m ≡ length r.row
        → ((p : ℕ) → a ≤ p → get_or r.row p 0 ≡ get_or old p 0)
        → take (foldl place r (keep test (indices_from a m))).placed (foldl place r (keep test (indices_from a m))).row
        ≡ take r.placed r.row ++ map (λ p. get_or old p 0) (keep test (indices_from a m))
    appends zero a r le e eq = sym (append-nil (take r.placed r.row))
    appends (suc m) a r le e eq =
        let lt : a < length r.row = omega arith in
        let here : r.placed < length r.row = omega arith in
        by_cond (λ ps. take (foldl place r ps).placed (foldl place r ps).row ≡ take r.placed r.row ++ map (λ p. get_or old p 0) ps) (test a)
        (λ t.
        appends m (suc a) (place r a) (omega arith)
        (omega (arith, length_swap r.row r.placed a here lt))
        (λ p h. swap_at r.row r.placed a here lt p (omega arith) (omega arith) ∙ eq p (omega arith))
        ∙ rw (take_swap r.row r.placed a here lt le, eq a (le_refl a)) (append_assoc (take r.placed r.row) (get_or old a 0 ∷ []) _))
        (λ t. appends m (suc a) r (omega arith) (omega arith) (λ p h. eq p (omega arith)))

  pub turn_appends : (r : Row) → Good r
      → take (turn bs r).placed (turn bs r).row ≡ take r.placed r.row ++ map (λ p. get_or r.row p 0) (picked bs r)
  unfolding picked
  turn_appends r g =
      appends (λ p. ready bs (take r.placed r.row) (get_or r.row p 0)) r.row (length r.row - r.placed) r.placed r
      (le_refl r.placed) (omega arith) (λ p h. refl)

  pub placed_by : (r : Row) (ps : List ℕ) → (foldl place r ps).placed ≡ r.placed + length ps
  placed_by r [] = omega arith
  placed_by r (p ∷ ps) = omega (arith, placed_by (place r p) ps)

  -- a turn that picks nothing: each index that is ready is placed
  pub none_left : (r : Row) → Good r → ((p : ℕ) → ¬ (p is_in picked bs r)) → (i : ℕ) → i < length bs
      → T (ready bs (take r.placed r.row) i) → i is_in take r.placed r.row
  unfolding picked
  none_left r g empty i h t =
      let q = in_at 0 (g.full.every i h) in
      elim (dec_lt q.0 r.placed) [
        | yes l ↦ rw (← q.2) (at_in_take r.row r.placed q.0 0 q.1 l)
        | no l ↦
            absurd (empty q.0
            (in_keep (λ p. ready bs (take r.placed r.row) (get_or r.row p 0))
            (in_count r.placed (length r.row - r.placed) q.0 (omega arith) (omega arith))
            (rw q.2 t)))
      ]
