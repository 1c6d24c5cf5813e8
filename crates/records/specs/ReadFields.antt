-- Reading, field by field: what a reader is, how readers are joined, and each plain field. Assumes nothing.
use Rattle.std.specs.Prelude.{Bool, true, false, ◌&&◌, ◌||◌, not, List, [], ◌∷◌, ◌++◌, ℕ, zero, suc, ◌+◌, ◌-◌, eqb, leb, ltb, Option}
use Prim.Native.String.{String}
use Rattle.names.specs.Names.{Bytes, ascii, same, number_of, name_width}
use Rattle.names.specs.Refusals.{place_at}
use Rattle.names.specs.declared.Reason.{Reason}
use Rattle.names.specs.declared.Reason.TheVariants.{NotOneRecord, PastLimit}
use Rattle.names.specs.declared.Place.{Place}
pub use Rattle.records.specs.declared.Context.{Context}
pub use Rattle.records.specs.declared.Zone.{Zone}
use Rattle.records.specs.Limits.{count_limit}
use Rattle.records.specs.Records.{mark_width, Loc, loc_width, raw_width, integer_width}

-- offset of the next byte; the bytes left; offset of the first BM met in a binding body of an assign
pub record Input : Type 0 where
  pub offset : ℕ
  pub rest : Bytes
  pub first_mod : Option ℕ

-- why a reader refuses: not exactly one such record; a limit
pub data Fault : Type 0 where
  malformed over_limit : Fault

-- the reason for which a fault refuses
unfoldable pub fault_reason : Fault → Reason
fault_reason malformed = NotOneRecord
fault_reason over_limit = PastLimit

-- or a fault, and its place
pub data Read (A : Type 0) : Type 0 where
  done : A → Input → Read A
  refused : Fault → Place → Read A

abbrev pub Reader : Type 0 → Type 0
Reader A = Context → Input → Read A

module _ {A B : Type 0} where
  infixl 20 ◌>>=◌
  infixl 20 ◌>>◌
  -- one reader, and then another on what is left
  unfoldable pub ◌>>=◌ : Reader A → (A → Reader B) → Reader B
  ◌>>=◌ m f c i = elim (m c i) [ done a j ↦ f a c j | refused n p ↦ refused n p ]

  -- the same, whatever the first gave
  unfoldable pub ◌>>◌ : Reader A → Reader B → Reader B
  ◌>>◌ m k = m >>= λ a. k

module _ {A : Type 0} where
  -- nothing is read
  unfoldable pub ret : A → Reader A
  ret a c i = done a i

  -- a fault, at the innermost mark
  unfoldable pub refuse : Fault → Reader A
  refuse n c i = refused n (place_at c.mark)

  -- a test of what was just read
  unfoldable pub check : Fault → Bool → Reader A → Reader A
  check n ok m c i = elim ok [ true ↦ m c i | false ↦ refused n (place_at c.mark) ]

module _ {A : Type 0} where
  -- so many of the same
  unfoldable pub times : ℕ → Reader A → Reader (List A)
  times zero m = ret []
  times (suc n) m = do
    a ← m
    rest ← times n m
    ret (a ∷ rest)

  -- the levels that the record read by m takes
  unfoldable pub deeper : ℕ → Reader A → Reader A
  deeper n m c i = elim (leb n c.room) [ true ↦ m (record { mark = c.mark; room = c.room - n; lambdas = c.lambdas; zone = c.zone }) i | false ↦ refused over_limit (place_at c.mark) ]

  -- inside one BF more
  unfoldable pub in_lambda : Reader A → Reader A
  in_lambda m c i = elim (leb 1 c.lambdas) [ true ↦ m (record { mark = c.mark; room = c.room; lambdas = c.lambdas - 1; zone = c.zone }) i | false ↦ refused over_limit (place_at c.mark) ]

  -- inside another zone
  unfoldable pub in_zone : Zone → Reader A → Reader A
  in_zone z m c i = m (record { mark = c.mark; room = c.room; lambdas = c.lambdas; zone = z }) i

-- one byte
unfoldable pub next : Reader ℕ
next c i = elim i.rest [ [] ↦ refused malformed (place_at c.mark) | b ∷ bs ↦ done b (record { offset = i.offset + 1; rest = bs; first_mod = i.first_mod }) ]

-- so many bytes
unfoldable pub bytes : ℕ → Reader Bytes
bytes n = times n next

module _ {A : Type 0} where
  -- the reader that stands with a mark
  unfoldable pub choose : Bytes → List (String × Reader A) → Reader A
  choose m [] = refuse malformed
  choose m (e ∷ es) = elim (same m (ascii e.0)) [ true ↦ e.1 | false ↦ choose m es ]

  -- a record: a mark of the list, and then what stands with it
  unfoldable pub marked : List (String × Reader A) → Reader A
  marked es c i = (bytes mark_width >>= λ m. choose m es) (record { mark = i.offset; room = c.room; lambdas = c.lambdas; zone = c.zone }) i

-- L
abbrev pub loc : Reader Loc
loc = bytes loc_width

-- a length of w bytes, and that many bytes
unfoldable pub counted : ℕ → Reader Bytes
counted w = bytes w >>= λ b. bytes (number_of b)

-- N
abbrev pub name : Reader Bytes
name = counted name_width

-- R, kept as its bytes
unfoldable pub raw_field : Reader Bytes
raw_field = do
  b ← bytes raw_width
  bs ← bytes (number_of b)
  ret (b ++ bs)

-- a byte that is at most n, or else this fault
unfoldable pub at_most : Fault → ℕ → Reader ℕ
at_most f n = next >>= λ b. check f (leb b n) (ret b)

-- a byte that is at most n
abbrev pub up_to : ℕ → Reader ℕ
up_to n = at_most malformed n

-- a byte, and an L where it asks for one
unfoldable pub with_loc : Bool → ℕ → Reader Bytes
with_loc more b = elim more [ true ↦ (loc >>= λ l. ret (b ∷ l)) | false ↦ ret (b ∷ []) ]

-- a byte that is at most n, with an L behind it from `least` on
unfoldable pub optional_loc : ℕ → ℕ → Reader Bytes
optional_loc least n = up_to n >>= λ b. with_loc (leb least b) b

-- K
abbrev pub keyword : Reader Bytes
keyword = optional_loc 1 1

-- a let's hint
abbrev pub hint : Reader Bytes
hint = optional_loc 2 3

-- a count
abbrev pub count : Reader ℕ
count = at_most over_limit count_limit

-- the shortest signed bytes of a number: the first says more than the sign of the second
unfoldable pub shortest : Bytes → Bool
shortest [] = false
shortest (b ∷ []) = true
shortest (a ∷ b ∷ bs) = not (eqb a 0 && ltb b 128 || eqb a 255 && leb 128 b)

-- the bytes of a number, after their count
unfoldable pub integer : Reader Bytes
integer = counted integer_width >>= λ v. check malformed (shortest v) (ret v)
