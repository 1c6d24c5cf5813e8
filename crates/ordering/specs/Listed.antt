-- What is added to a list that grows in room that is lent to it.
-- Assumes nothing.
use Rattle.std.specs.Prelude.{List, ◌≡◌, ℕ, ◌+◌, ◌≤◌, ◌<◌, length, set}
use Rattle.names.specs.Segments.{Filled}
use Rattle.ordering.specs.declared.listed.Listed.{Listed}

-- the list is in the same room as before
pub record SameRoom {T : Type 0} (before after : Listed T) : Type 0 where
  pub same : after.items.ghost_name ≡ before.items.ghost_name
  pub size : length after.items.now ≡ length before.items.now

-- one item was listed behind the others, or there was no room and nothing was changed
pub record AddsOne {T : Type 0} (before after : Listed T) (item : T) : Type 0 where
  pub room : SameRoom before after
  pub one : before.count < length before.items.now → (after.count ≡ before.count + 1) × (after.items.now ≡ set before.items.now before.count item)
  pub full : length before.items.now ≤ before.count → (after.count ≡ before.count) × (after.items.now ≡ before.items.now)

-- numbers were listed behind the others, and nothing else was changed
pub record Added (before after : Listed ℕ) (es : List ℕ) : Type 0 where
  pub counted : after.count ≡ before.count + length es
  pub filled : Filled before.items.now after.items.now before.count es (length es)
