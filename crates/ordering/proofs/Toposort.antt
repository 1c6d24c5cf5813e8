-- `toposort` finds an order exactly where a lawful one is, and what it leaves at a deadlock is what no lawful order has.
-- Assumes nothing.
use Prim.Native.Nat.{ℕ, zero, suc, ◌+◌, ◌≤◌, ◌<◌}
use native.Mathlib.Nat.{not-suc-le-zero}
use native.Mathlib.Omega.{arith}
use native.Mathlib.Decide.{dec_lt}
use mathlib.Core.Path.{◌≡◌, refl, sym, ◌∙◌}
use mathlib.Core.Logic.{◌↔◌}
use mathlib.Core.Bool.{Bool, true, false, not, cond}
use mathlib.Core.List.{List, [], ◌∷◌}
use lib.Dec.{T, ltb, ltb→lt, nltb→le}
use lib.ListN.{length, get_or, take, drop, length-take, length-drop}
use lib.Seq.{take_all, get_or-take, get_or-drop}
use borrow.Author.Tests.{le-ltb}
use Rattle.ordering.specs.Items.{Item, is_empty}
use Rattle.ordering.specs.Toposort.{Row, start, picked, turn, Toposorted, ordered, deadlock, turns, toposort}
use Rattle.ordering.specs.Lawful.{◌is_in◌, OfSome, Lawful, Full, Stuck, NoOrder}
use Rattle.ordering.specs.Needs.{Means}
use Rattle.ordering.proofs.Lists.{by_cond, in_at, at_in, at_in_take, in_take_at, at_in_drop, in_drop_at, none_in}
use Rattle.ordering.proofs.Tests.{true_ready}
use Rattle.ordering.proofs.Rows.{Good, good_start, good_turn, placed_by, none_left}

some_in : (l : List ℕ) → T (not (is_empty l)) → 0 < length l
some_in [] t = absurd t
some_in (x ∷ xs) t = omega arith

cond_left : {x x' : Toposorted} (y : Toposorted) (b : Bool) → (T b → x ≡ x') → cond b x y ≡ cond b x' y
cond_left y true h = h tt
cond_left y false h = refl

cond_right : (x : Toposorted) {y y' : Toposorted} (b : Bool) → (T (not b) → y ≡ y') → cond b x y ≡ cond b x y'
cond_right x true h = refl
cond_right x false h = h tt

module _ (bs : List Item) where
  -- l is what a turn that picks nothing leaves
  pub record Idle (l : List ℕ) : Type 0 where
    pub row : Row
    pub rest : drop row.placed row.row ≡ l
    pub none : (p : ℕ) → ¬ (p is_in picked bs row)

  -- what is left at a deadlock: something, and just what no lawful order has
  record Left (l : List ℕ) : Type 0 where
    idle : Idle l
    some : OfSome (length bs) l
    one : (i : ℕ) × (i is_in l)
    stuck : (i : ℕ) → i is_in l → Stuck bs i
    only : (i : ℕ) → Stuck bs i → i is_in l

  module _ (r : Row) (g : Good bs r) where
    -- those that are placed, as an order of some of the bindings
    placed_some : OfSome (length bs) (take r.placed r.row)
    placed_some =
        let lt : (k : ℕ) → k < length (take r.placed r.row) → (k < r.placed) × (k < length r.row) =
        λ k h. omega (arith, length-take r.placed r.row) in
        record {
          below = λ i m. let q = in_take_at r.placed r.row 0 m in g.full.some.below i (rw (← q.3) (at_in r.row q.0 0 q.1));
          once = λ j k p q e.
              g.full.some.once j k (lt j p).1 (lt k q).1
              (sym (get_or-take r.placed r.row j 0 (lt j p).0) ∙ e ∙ get_or-take r.placed r.row k 0 (lt k q).0);
        }

    left_some : OfSome (length bs) (drop r.placed r.row)
    left_some =
        let lt : (k : ℕ) → k < length (drop r.placed r.row) → r.placed + k < length r.row =
        λ k h. omega (arith, length-drop r.placed r.row) in
        record {
          below = λ i m. let q = in_drop_at r.placed r.row 0 m in g.full.some.below i (rw (← q.3) (at_in r.row q.0 0 q.1));
          once = λ j k p q e.
              let e' = g.full.some.once (r.placed + j) (r.placed + k) (lt j p) (lt k q) (simp get_or-drop at e) in
              omega arith;
        }

    module _ (empty : (p : ℕ) → ¬ (p is_in picked bs r)) where
      -- a lawful order has only indices that are placed: its first k, by induction on k
      lawful_placed : (o : List ℕ) → OfSome (length bs) o → Lawful bs o → (n k : ℕ) → k < n → k < length o → get_or o k 0 is_in take r.placed r.row
      unfolding Lawful
      lawful_placed o s l zero k h lt = absurd (not-suc-le-zero h)
      lawful_placed o s l (suc n) k h lt =
          none_left bs r g empty (get_or o k 0) (s.below (get_or o k 0) (at_in o k 0 lt))
          (true_ready bs (take r.placed r.row) (get_or o k 0)
          (λ x need.
          let j = l k lt x need in
          let q = in_take_at k o 0 j.1 in
          (j.0, rw q.3 at (lawful_placed o s l n q.0 (omega arith) q.1), j.2)))

      left : r.placed < length r.row → Left (drop r.placed r.row)
      left h = record {
        idle = record { row = r; rest = refl; none = empty };
        some = left_some;
        one = (get_or r.row r.placed 0, at_in_drop r.row r.placed r.placed 0 h (omega arith));
        stuck = λ i m.
            let q = in_drop_at r.placed r.row 0 m in
            record {
              index = g.full.some.below i (rw (← q.3) (at_in r.row q.0 0 q.1));
              in_none = λ o s l m'.
                  let k = in_at 0 m' in
                  let p = in_take_at r.placed r.row 0 (rw k.2 at (lawful_placed o s l (suc k.0) k.0 (omega arith) k.1)) in
                  let e = g.full.some.once p.0 q.0 p.1 q.1 (p.3 ∙ sym q.3) in
                  omega arith;
            };
        only = λ i s.
            let q = in_at 0 (g.full.every i s.index) in
            elim (dec_lt q.0 r.placed) [
              | yes l ↦
                  absurd (s.in_none (take r.placed r.row) placed_some g.lawful
                  (rw (← q.2) (at_in_take r.row r.placed q.0 0 q.1 l)))
              | no l ↦ rw (← q.2) (at_in_drop r.row r.placed q.0 0 q.1 (omega arith))
            ];
      }

  -- what is owed of an answer
  abbrev Owed : Toposorted → Type 0
  Owed (ordered o) = Full bs o × (length o ≡ length bs)
  Owed (deadlock l) = Left l

  all_placed : (r : Row) → Good bs r → length r.row ≤ r.placed → Owed (ordered r.row)
  all_placed r g h = (record { all = g.full; lawful = rw (take_all r.placed r.row h) at g.lawful }, g.size)

  -- a turn that picks something places something
  pub progress : (r : Row) → T (not (is_empty (picked bs r))) → r.placed < (turn bs r).placed
  progress r t = omega (arith, placed_by bs r (picked bs r), some_in (picked bs r) t)

  turns_owed : (n : ℕ) (r : Row) → Good bs r → length bs ≤ n + r.placed → Owed (turns bs n r)
  turns_owed zero r g h = let le : length r.row ≤ r.placed = omega arith in rw (le-ltb r.placed (length r.row) le) (all_placed r g le)
  turns_owed (suc n) r g h =
      by_cond Owed (ltb r.placed (length r.row))
      (λ t.
      by_cond Owed (is_empty (picked bs r))
      (λ t'. left r g (λ p. none_in (picked bs r) t') (ltb→lt r.placed (length r.row) t))
      (λ t'. turns_owed n (turn bs r) (good_turn bs r g) (omega (arith, progress r t'))))
      (λ t. all_placed r g (nltb→le r.placed (length r.row) t))

  owed : Owed (toposort bs)
  unfolding toposort
  owed = turns_owed (length bs) (start (length bs)) (good_start bs) (omega arith)

  -- as many turns as there are bindings are enough: more change nothing
  more_turns : (m n : ℕ) (r : Row) → Good bs r → length bs ≤ m + r.placed → length bs ≤ n + r.placed → turns bs m r ≡ turns bs n r
  more_turns zero zero r g h l = refl
  more_turns zero (suc n) r g h l = rw (le-ltb r.placed (length r.row) (omega arith))
  more_turns (suc m) zero r g h l = rw (le-ltb r.placed (length r.row) (omega arith))
  more_turns (suc m) (suc n) r g h l =
      cond_left _ (ltb r.placed (length r.row))
      (λ t. cond_right _ (is_empty (picked bs r))
      (λ t'. more_turns m n (turn bs r) (good_turn bs r g) (omega (arith, progress r t')) (omega (arith, progress r t'))))

  pub enough : (n : ℕ) → length bs ≤ n → turns bs n (start (length bs)) ≡ toposort bs
  unfolding toposort
  enough n h = more_turns n (length bs) (start (length bs)) (good_start bs) (omega arith) (omega arith)

  -- the turns never run out: a deadlock always comes from a turn that picks nothing
  pub never_out : (l : List ℕ) → toposort bs ≡ deadlock l → Idle l
  never_out l e = let left' : Left l = rw e at owed in left'.idle

  -- an order that is found has each index once, and is lawful
  pub sound : (o : List ℕ) → toposort bs ≡ ordered o → Full bs o
  sound o e = let s : Full bs o × (length o ≡ length bs) = rw e at owed in s.0

  -- and as many indices as there are bindings
  pub sound_length : (o : List ℕ) → toposort bs ≡ ordered o → length o ≡ length bs
  sound_length o e = let s : Full bs o × (length o ≡ length bs) = rw e at owed in s.1

  -- at a deadlock no order of all the bindings is lawful
  pub complete : (l : List ℕ) → toposort bs ≡ deadlock l → (o : List ℕ) → ¬ Full bs o
  complete l e o f =
      let left' : Left l = rw e at owed in
      let i = left'.one in
      let s = left'.stuck i.0 i.1 in
      s.in_none o f.all.some f.lawful (f.all.every i.0 s.index)

  -- at a deadlock just those are left that are stuck
  pub stuck : (l : List ℕ) → toposort bs ≡ deadlock l → (i : ℕ) → (i is_in l) ↔ Stuck bs i
  stuck l e i = let left' : Left l = rw e at owed in (left'.stuck i, left'.only i)

  -- and each of them once
  pub stuck_once : (l : List ℕ) → toposort bs ≡ deadlock l → OfSome (length bs) l
  stuck_once l e = let left' : Left l = rw e at owed in left'.some

  -- so a deadlock means what it says
  pub no_order : (l : List ℕ) → toposort bs ≡ deadlock l → NoOrder bs l
  no_order l e = record { none = complete l e; stuck = stuck l e; once = stuck_once l e }

  -- and so does an outcome
  pub means : Means bs (toposort bs)
  unfolding Means
  means = go (toposort bs) refl
    where
      go : (a : Toposorted) → toposort bs ≡ a → Means bs a
      go (ordered o) e = sound o e
      go (deadlock l) e = no_order l e

  -- an order is found exactly where a lawful one is
  pub found : ((o : List ℕ) × (toposort bs ≡ ordered o)) ↔ ((o : List ℕ) × Full bs o)
  found = (λ f. (f.0, sound f.0 f.1), λ f. go f (toposort bs) refl)
    where
      go : (o : List ℕ) × Full bs o → (a : Toposorted) → toposort bs ≡ a → (o : List ℕ) × (toposort bs ≡ ordered o)
      go f (ordered o) e = (o, e)
      go f (deadlock l) e = absurd (complete l e f.0 f.1)
