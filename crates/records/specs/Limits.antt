-- The limits of the format and of the calls. docs/FORMAT.md, 'Limits'.
-- Assumes nothing.
use Rattle.std.specs.Prelude.{ℕ}

-- how deep B, H and CF records nest
abbrev pub level_limit : ℕ
level_limit = 32

-- how deep SC nest in an S record
abbrev pub cons_limit : ℕ
cons_limit = 64

-- how deep BF nest
abbrev pub lambda_limit : ℕ
lambda_limit = 6

-- the largest count
abbrev pub count_limit : ℕ
count_limit = 64

-- the smallest F (the longest record) that a caller may choose
abbrev pub least_longest : ℕ
least_longest = 64

-- the largest F
abbrev pub most_longest : ℕ
most_longest = 16384

-- work memory is at least this many times F
abbrev pub work_factor : ℕ
work_factor = 256
