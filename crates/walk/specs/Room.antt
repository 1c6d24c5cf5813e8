-- How much memory the walk has: what a level of nesting may hold from `free` on, and all levels together. docs/DECISIONS.md, 'Room'.
-- Assumes nothing.
use Rattle.std.specs.Prelude.{ℕ, zero, suc, ◌+◌, ◌*◌}
use Rattle.walk.specs.DrawnMaps.{map_growth}

-- what is set aside in one level, in times F: a desugared let and a pattern; or the patterns and names of a let; or the bindings of an assign
abbrev pub aside_factor : ℕ
aside_factor = 2

-- a result before its last test: its own fields, the bytes by which its names grew, and the sum of its children
abbrev pub result_factor : ℕ
result_factor = 3

-- what one level holds at most: these two, and a map
abbrev pub level_room : ℕ → ℕ
level_room F = (aside_factor + result_factor + map_growth) * F

-- what a step on a record of so many levels may use from free on: a result, and what each level above the last holds
unfoldable pub room : ℕ → ℕ → ℕ
room F zero = 0
room F (suc d) = F + d * level_room F
