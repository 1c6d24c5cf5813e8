-- Names: lists of bytes, how they stand in a record, and `gensym` (gensym.rs). docs/FORMAT.md, 'Fields' and 'Names'.
-- Assumes nothing.
use Rattle.std.specs.Prelude.{Bool, true, false, ◌&&◌, List, [], ◌∷◌, ◌++◌, ℕ, zero, suc, ◌+◌, ◌*◌, ◌/◌, ◌%◌, ◌^◌, eqb, ltb, length}
use Prim.Native.Char.{code}
use Prim.Native.String.{String, [] as []ˢ, ◌∷◌ as ◌∷ˢ◌}

abbrev pub Bytes : Type 0
Bytes = List ℕ

-- the bytes of a word in ASCII
unfoldable pub ascii : String → Bytes
ascii []ˢ = []
ascii (c ∷ˢ s) = code c ∷ ascii s

-- whether two names are equal
unfoldable pub same : Bytes → Bytes → Bool
same [] [] = true
same [] (y ∷ ys) = false
same (x ∷ xs) [] = false
same (x ∷ xs) (y ∷ ys) = eqb x y && same xs ys

-- a number in w bytes, big-endian
unfoldable pub number_field : ℕ → ℕ → Bytes
number_field zero n = []
number_field (suc w) n = n / 256 ^ w ∷ number_field w (n % 256 ^ w)

-- the number that bytes stand for, big-endian, after those that stand for n
unfoldable pub number_after : ℕ → Bytes → ℕ
number_after n [] = n
number_after n (b ∷ bs) = number_after (256 * n + b) bs

unfoldable pub number_of : Bytes → ℕ
number_of bs = number_after 0 bs

-- the most bytes that a name may have
abbrev pub name_limit : ℕ
name_limit = 255

-- the bytes of the length that stands before a name
abbrev pub name_width : ℕ
name_width = 1

-- N: the length of a name, then its bytes
unfoldable pub name_field : Bytes → Bytes
name_field n = number_field name_width (length n) ++ n

-- the digits of n in decimal, before `after`; `fuel` is at least the number of digits
unfoldable pub digits : ℕ → ℕ → Bytes → Bytes
digits zero n after = after
digits (suc fuel) n after = elim (ltb n 10) [ true ↦ (48 + n) ∷ after | false ↦ digits fuel (n / 10) ((48 + n % 10) ∷ after) ]

unfoldable pub decimal : ℕ → Bytes
decimal n = digits (suc n) n []

-- `gensym`: the name made of n at counter c; the counter becomes c + 1
unfoldable pub gensym : Bytes → ℕ → Bytes
gensym n c = n ++ ascii "_$_" ++ decimal (c + 1)

-- unfolds with every definition of this file
unfoldable pub computing_names : Unit {0}
unfolding ascii same number_field number_after number_of name_field digits decimal gensym
computing_names = tt
