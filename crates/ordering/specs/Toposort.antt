-- The exact order of an assign's bindings, which is that of `toposort`.
-- Assumes nothing.
use Rattle.std.specs.Prelude.{ℕ, zero, suc, ◌-◌, cond, ltb, length, get_or, set, take, drop}
use mathlib.Core.List.{List, foldl}
use Rattle.ordering.specs.Items.{Item, indices_from, is_empty, keep, gives, needed, ready}

-- the row of all indices, and how many of them, from the left, are placed
pub record Row : Type 0 where
  pub row : List ℕ
  pub placed : ℕ

-- the row at first: all indices, rising, none of them placed
unfoldable pub start : ℕ → Row
start n = record { row = indices_from 0 n; placed = 0 }

-- the positions in the row, rising, of what a turn picks
unfoldable pub picked : List Item → Row → List ℕ
picked bs r =
    keep (λ p. ready bs (take r.placed r.row) (get_or r.row p 0))
    (indices_from r.placed (length r.row - r.placed))

-- what stands at i and at j changes places
unfoldable pub swap : List ℕ → ℕ → ℕ → List ℕ
swap l i j = set (set l i (get_or l j 0)) j (get_or l i 0)

-- the index at position p changes places with the leftmost one not yet placed, and is then placed
abbrev pub place : Row → ℕ → Row
place r p = record { row = swap r.row r.placed p; placed = suc r.placed }

-- a turn: what it picks is taken by position, from the left
abbrev pub turn : List Item → Row → Row
turn bs r = foldl place r (picked bs r)

-- the order; or, at a deadlock, the indices that are not placed
pub data Toposorted : Type 0 where
  ordered : List ℕ → Toposorted
  deadlock : List ℕ → Toposorted

-- at most so many turns: with all placed, the order; with no turn left, or one that picks nothing, a deadlock
abbrev pub turns : List Item → ℕ → Row → Toposorted
turns bs zero r = cond (ltb r.placed (length r.row)) (deadlock (drop r.placed r.row)) (ordered r.row)
turns bs (suc n) r =
    let more : Toposorted = turns bs n (turn bs r) in
    let go : Toposorted = cond (is_empty (picked bs r)) (deadlock (drop r.placed r.row)) more in
    cond (ltb r.placed (length r.row)) go (ordered r.row)

-- each turn but the last places one at least, so as many turns as there are bindings are enough (`enough` and `never_out` of proofs/Toposort.antt)
unfoldable pub toposort : List Item → Toposorted
toposort bs = turns bs (length bs) (start (length bs))

-- unfolds with every definition of this file, and of Items.antt
unfoldable pub computing_toposort : Unit {0}
unfolding gives needed ready start picked swap toposort
computing_toposort = tt
