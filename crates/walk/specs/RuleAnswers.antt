-- What the code of a rule answers, of its numbers: in each the last is the counter.
-- Assumes nothing.
use Rattle.std.specs.Prelude.{ℕ}
use Rattle.std.specs.declared.result.Result.{Result}
use Rattle.std.specs.declared.result.Result.TheVariants.{Ok}
use Rattle.names.specs.declared.Refusal.{Refusal}
use Rattle.walk.specs.declared.Drawn.{Drawn}
use Rattle.walk.specs.declared.Made.{Made}
use Rattle.walk.specs.declared.Piece.{Piece}

-- bytes read and written, and the sum
abbrev pub piece_of : ℕ → ℕ → ℕ → ℕ → Result Piece Refusal
piece_of n k x c = Ok (record { read = n; written = k; sum = x; counter = c })

-- bytes read and written, and those of the map
abbrev pub drawn_of : ℕ → ℕ → ℕ → ℕ → Result Drawn Refusal
drawn_of n k m c = Ok (record { read = n; written = k; map = m; counter = c })

-- bytes written, the sum, and the bytes of the map
abbrev pub made_with : ℕ → ℕ → ℕ → ℕ → Result Made Refusal
made_with k x m c = Ok (record { written = k; sum = x; map = m; counter = c })
