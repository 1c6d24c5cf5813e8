-- What the rounds mean, that the turns of `toposort` are these rounds, and that the number of rounds is exact.
-- Assumes nothing.
use Prim.Native.Nat.{ℕ, zero, suc, ◌+◌, ◌-◌, ◌≤◌, ◌<◌}
use native.Mathlib.Decide.{dec_lt, ℕ_discrete}
use native.Mathlib.Omega.{arith}
use mathlib.Core.Bool.{Bool, true, false, not, ◌&&◌}
use mathlib.Core.List.Memᴰ
use mathlib.Core.List.{List, [], map}
use mathlib.Core.Logic.{◌↔◌, ⊎_elim}
use mathlib.Core.Path.{◌≡◌, refl, ap}
use lib.Dec.{T, T_not, eqb, eqb→eq, eqb_refl}
use lib.ListN.{length, get_or, take}
use lib.Seq.{take_all}
use Rattle.names.specs.Names.{Bytes}
use Rattle.names.proofs.Same.{T-both, T-left, T-right}
use Rattle.ordering.specs.Items.{Item, indices_from, is_empty, any, keep, needed, ready}
use Rattle.ordering.specs.Lawful.{◌is_in◌, Provides, Needs}
use Rattle.ordering.specs.Rounds.{those, round_after, up_to, round, rounds}
use Rattle.ordering.specs.Toposort.{Row, start, picked, turn}
use Rattle.ordering.proofs.Lists.{in_at, at_in, at_in_take, in_take_at, length_nil, is_nil, none_in, one_in, first_in, any_intro, any_elim, in_keep, keep_in, in_map, map_in}
use Rattle.ordering.proofs.Rows.{Good, good_start, good_turn, turn_appends, placed_by, in_count, count_in}
use Rattle.ordering.proofs.Tests.{needed→Needs, Needs→needed, ready_true, true_ready}

-- a test that the first k of n indices pass, and no later one
counted : (f : ℕ → Bool) (a n k : ℕ) → k ≤ n → ((j : ℕ) → a ≤ j → j < a + k → f j ≡ true) → ((j : ℕ) → a + k ≤ j → f j ≡ false)
    → length (keep f (indices_from a n)) ≡ k
counted f a zero k h t s = omega arith
counted f a (suc n) zero h t s = rw (s a (omega arith)) (counted f (suc a) n zero (omega arith) (λ j p q. absurd (omega arith)) (λ j p. s j (omega arith)))
counted f a (suc n) (suc k) h t s = rw (t a (omega arith) (omega arith)) (ap suc (counted f (suc a) n k (omega arith) (λ j p q. t j (omega arith) (omega arith)) (λ j p. s j (omega arith))))

module _ (bs : List Item) where
  -- a binding that the round after some bindings holds: not one of them, and each name that it needs is provided by one of them
  pub record Joins (before : List ℕ) (i : ℕ) : Type 0 where
    pub index : i < length bs
    pub new : ¬ (i is_in before)
    pub met : (x : Bytes) → Needs bs i x → (j : ℕ) × (j is_in before) × Provides bs j x

  joins_same : {p q : List ℕ} → ((i : ℕ) → (i is_in p) ↔ (i is_in q)) → (i : ℕ) → Joins p i → Joins q i
  joins_same e i w = record { index = w.index; new = λ m. w.new ((e i).1 m); met = λ x n. let s = w.met x n in (s.0, (e s.0).0 s.1, s.2) }

  in_those : (f : ℕ → Bool) (i : ℕ) → (i is_in those bs f) ↔ ((i < length bs) × T (f i))
  in_those f i = (
    λ m. let r = keep_in f (indices_from 0 (length bs)) m in (omega (arith, (count_in 0 (length bs) i r.0).1), r.1),
    λ p. in_keep f (in_count 0 (length bs) i (omega arith) (omega (arith, p.0))) p.1,
  )

  -- round 1 holds the bindings that need nothing
  pub in_first : (i : ℕ) → (i is_in round bs 1) ↔ ((i < length bs) × ((x : Bytes) → ¬ Needs bs i x))
  unfolding round round_after
  in_first i = (
    λ m. let r = (in_those _ i).0 m in (r.0, λ x n. none_in (needed bs i) r.1 (Needs→needed bs i x n)),
    λ p. (in_those _ i).1 (p.0, let e : needed bs i ≡ [] = is_nil (needed bs i) (λ x m. p.1 x (needed→Needs bs i x m)) in rw e tt),
  )

  in_later : (k : ℕ) (before : List ℕ) (i : ℕ) → (i is_in round_after bs (suc k) before) ↔ Joins before i
  unfolding round_after
  in_later k before i = (
    λ m.
        let r = (in_those test i).0 m in
        record {
          index = r.0;
          new = λ d. T_not (any (eqb i) before) (T-left (not (any (eqb i) before)) (ready bs before i) r.1) (any_intro (eqb i) d (eqb_refl i));
          met = ready_true bs before i (T-right (not (any (eqb i) before)) (ready bs before i) r.1);
        },
    λ w. (in_those test i).1 (w.index, T-both (not (any (eqb i) before)) (ready bs before i) (absent (any (eqb i) before) refl w) (true_ready bs before i w.met)),
  )
    where
      test : ℕ → Bool
      test j = not (any (eqb j) before) && ready bs before j

      absent : (b : Bool) → any (eqb i) before ≡ b → Joins before i → T (not b)
      absent true e w = let s = any_elim (eqb i) before (rw e tt) in w.new (rw (eqb→eq i s.0 s.2) s.1)
      absent false e w = tt

  -- each round holds what joins those before it
  pub in_round : (k i : ℕ) → (i is_in round bs (suc k)) ↔ Joins (up_to bs k) i
  unfolding round up_to
  in_round zero i = (
    λ m. let r = (in_first i).0 m in record { index = r.0; new = Memᴰ.not-nil; met = λ x n. absurd (r.1 x n) },
    λ w. (in_first i).1 (w.index, λ x n. Memᴰ.not-nil (w.met x n).1),
  )
  in_round (suc k) i = in_later k (up_to bs (suc k)) i

  -- the indices that a turn picks
  abbrev pub taken : Row → List ℕ
  taken r = map (λ p. get_or r.row p 0) (picked bs r)

  -- what a turn places is what joins those placed before it
  module _ (r : Row) (g : Good bs r) where
    in_turn : (i : ℕ) → (i is_in taken r) ↔ Joins (take r.placed r.row) i
    unfolding picked
    in_turn i = (
      λ m.
          let p = map_in (λ q. get_or r.row q 0) (picked bs r) m in
          let s = keep_in (λ q. ready bs (take r.placed r.row) (get_or r.row q 0)) (indices_from r.placed (length r.row - r.placed)) p.1 in
          let b = count_in r.placed (length r.row - r.placed) p.0 s.0 in
          rw p.2
          (record {
            index = g.full.some.below (get_or r.row p.0 0) (at_in r.row p.0 0 (omega (arith, g.fits, g.size, b.1)));
            new = λ d. let q = in_take_at r.placed r.row 0 d in let e = g.full.some.once q.0 p.0 q.1 (omega (arith, g.fits, g.size, b.1)) q.3 in omega (arith, q.2, b.0);
            met = ready_true bs (take r.placed r.row) (get_or r.row p.0 0) s.1;
          }),
      λ w.
          let q = in_at 0 (g.full.every i w.index) in
          elim (dec_lt q.0 r.placed) [
            | yes l ↦ absurd (w.new (rw (← q.2) (at_in_take r.row r.placed q.0 0 q.1 l)))
            | no l ↦
                rw (← q.2)
                (in_map (λ p. get_or r.row p 0)
                (in_keep (λ p. ready bs (take r.placed r.row) (get_or r.row p 0))
                (in_count r.placed (length r.row - r.placed) q.0 (omega arith) (omega arith))
                (rw q.2 (true_ready bs (take r.placed r.row) i w.met))))
          ],
    )

  -- the row after k turns
  abbrev pub after : ℕ → Row
  after zero = start (length bs)
  after (suc k) = turn bs (after k)

  pub good_after : (k : ℕ) → Good bs (after k)
  good_after zero = good_start bs
  good_after (suc k) = good_turn bs (after k) (good_after k)

  -- what a turn places after k rounds is round k + 1
  module _ (k : ℕ) (same : (i : ℕ) → (i is_in take (after k).placed (after k).row) ↔ (i is_in up_to bs k)) where
    turn_is_round : (i : ℕ) → (i is_in taken (after k)) ↔ (i is_in round bs (suc k))
    turn_is_round i = (
      λ m. (in_round k i).1 (joins_same same i ((in_turn (after k) (good_after k) i).0 m)),
      λ m. (in_turn (after k) (good_after k) i).1 (joins_same (λ j. ((same j).1, (same j).0)) i ((in_round k i).0 m)),
    )

  -- so k turns place the bindings of the first k rounds
  pub turns_place : (k i : ℕ) → (i is_in take (after k).placed (after k).row) ↔ (i is_in up_to bs k)
  unfolding start up_to round
  turns_place zero i = (λ m. m, λ m. m)
  turns_place (suc k) i =
      let e = turn_appends bs (after k) (good_after k) in
      let before : List ℕ = take (after k).placed (after k).row in
      let now = turn_is_round k (turns_place k) i in (
        λ m.
            ⊎_elim
            (λ d. Memᴰ.append_left (round bs (suc k)) ((turns_place k i).0 d))
            (λ d. Memᴰ.append_right (up_to bs k) (now.0 d))
            (Memᴰ.append_cases before (rw e at m)),
        λ m.
            rw e
            (⊎_elim
            (λ d. Memᴰ.append_left (taken (after k)) ((turns_place k i).1 d))
            (λ d. Memᴰ.append_right before (now.1 d))
            (Memᴰ.append_cases (up_to bs k) m)),
      )

  -- and turn k + 1 places just those of round k + 1
  pub turns_are_rounds : (k i : ℕ) → (i is_in taken (after k)) ↔ (i is_in round bs (suc k))
  turns_are_rounds k = turn_is_round k (turns_place k)

  -- the first k rounds hold a binding each; round k holds none
  abbrev pub Filled : ℕ → Type 0
  Filled k = (j : ℕ) → 1 ≤ j → j ≤ k → (i : ℕ) × (i is_in round bs j)

  abbrev pub Empty : ℕ → Type 0
  Empty k = (i : ℕ) → ¬ (i is_in round bs k)

  pub filled_next : (k : ℕ) → Filled k → (i : ℕ) → i is_in round bs (suc k) → Filled (suc k)
  filled_next k w i m j p q =
      elim (dec_lt k j) [
        | yes l ↦ let here : j ≡ suc k = omega arith in rw here (i, m)
        | no l ↦ w j p (omega arith)
      ]

  -- with all placed, or none picked, the next round is empty
  pub all_empty : (k : ℕ) → length (after k).row ≤ (after k).placed → Empty (suc k)
  all_empty k h i m =
      let w = (in_round k i).0 m in
      w.new ((turns_place k i).0 (rw (take_all (after k).placed (after k).row h) ((good_after k).full.every i w.index)))

  pub idle_empty : (k : ℕ) → picked bs (after k) ≡ [] → Empty (suc k)
  idle_empty k e i m = Memᴰ.not-nil (rw e at ((turns_are_rounds k i).1 m))

  pub picked_joins : (k p : ℕ) → p is_in picked bs (after k) → (i : ℕ) × (i is_in round bs (suc k))
  picked_joins k p m =
      let i : ℕ = get_or (after k).row p 0 in
      (i, (turns_are_rounds k i).0 (in_map (λ q. get_or (after k).row q 0) m))

  -- after an empty round all are empty
  module _ (k : ℕ) (none : Empty (suc k)) where
    no_more : (m j : ℕ) → j ≡ m + k → (i : ℕ) → (i is_in up_to bs j) ↔ (i is_in up_to bs k)
    unfolding up_to round
    no_more zero j e i = let same : j ≡ k = omega arith in rw same (λ d. d, λ d. d)
    no_more (suc m) zero e i = absurd (omega arith)
    no_more (suc m) (suc j) e i =
        let below = no_more m j (omega arith) in (
          λ d.
              ⊎_elim (below i).0 (λ q. absurd (none i ((in_round k i).1 (joins_same below i ((in_round j i).0 q)))))
              (Memᴰ.append_cases (up_to bs j) d),
          λ d. Memᴰ.append_left (round bs (suc j)) ((below i).1 d),
        )

    empty_later : (j : ℕ) → k < j → Empty j
    empty_later zero h i m = omega arith
    empty_later (suc j) h i m = none i ((in_round k i).1 (joins_same (no_more (j - k) j (omega arith)) i ((in_round j i).0 m)))

    -- so those before it are all that hold a binding
    pub rounds_are : k ≤ length bs → Filled k → rounds bs ≡ k
    unfolding rounds
    rounds_are h w =
        counted (λ j. not (is_empty (round bs j))) 1 (length bs) k h
        (λ j p q. rw (one_in (round bs j) (w j p (omega arith)).1))
        (λ j p. rw (is_nil (round bs j) (empty_later j (omega arith))))

  -- an empty round is met, after no more than there are bindings
  last : (m k : ℕ) → k ≤ (after k).placed → length bs ≤ m + (after k).placed → Filled k → (n : ℕ) × (n ≤ length bs) × Filled n × Empty (suc n)
  last zero k few h w = (k, omega (arith, (good_after k).fits), w, all_empty k (omega (arith, (good_after k).size)))
  last (suc m) k few h w =
      elim (ℕ_discrete (length (picked bs (after k))) 0) [
        | yes e ↦ (k, omega (arith, (good_after k).fits), w, idle_empty k (length_nil (picked bs (after k)) e))
        | no n ↦
            let p = first_in (picked bs (after k)) n in
            let i = picked_joins k p.0 p.1 in
            let more = placed_by bs (after k) (picked bs (after k)) in
            last m (suc k) (omega (arith, more)) (omega (arith, more)) (filled_next k w i.0 i.1)
      ]

  -- the rounds from 1 to their number hold a binding each, and no later one does
  pub rounds_exact : Filled (rounds bs) × ((k : ℕ) → rounds bs < k → Empty k)
  rounds_exact =
      let n = last (length bs) 0 (omega arith) (omega arith) (λ j p q. absurd (omega arith)) in
      let e = rounds_are n.0 n.3 n.1 n.2 in
      (rw e n.2, rw e (empty_later n.0 n.3))
