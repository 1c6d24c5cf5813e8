-- What a test decides, what memory is filled with, and what is made of a judged case.
-- Assumes nothing.
use Rattle.std.specs.Prelude.{Bool, true, false, ◌≡◌, ℕ, get_or, take, drop, replicate}
use Rattle.names.specs.Names.{Bytes, number_of}
use Rattle.replays.specs.declared.Verdict.{Verdict}
use Rattle.replays.specs.declared.Verdict.TheVariants.{Agrees, Differs, CutOff, Broken, Ended}

-- r answers whether A holds: true exactly where it does
pub record Decides (r : Bool) (A : Type 0) : Type 0 where
  pub only : r ≡ true → A
  pub all : A → r ≡ true

-- n bytes as memory is filled with them
abbrev pub filling : ℕ → Bytes
filling n = replicate n 7

-- a case agrees where its test says so, and only there
abbrev pub judged_as : Bool → Verdict
judged_as true = Agrees
judged_as false = Differs

-- only a case that agrees lets a replay go on
abbrev pub goes_further : Verdict → Bool
goes_further Agrees = true
goes_further Differs = false
goes_further CutOff = false
goes_further Broken = false
goes_further Ended = false

-- the byte of a case's head at p
abbrev pub head_byte : Bytes → ℕ → ℕ
head_byte head p = get_or head p 0

-- the number that w bytes of a case's head stand for, from p on
abbrev pub head_field : Bytes → ℕ → ℕ → ℕ
head_field head p w = number_of (take w (drop p head))
