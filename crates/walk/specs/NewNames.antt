-- What drawing new names for args, for a name and for a pattern asks of memory, and what it leaves there: what is written by the new names at free, and their
-- map at the end.
-- Assumes nothing.
use Rattle.std.specs.Prelude.{Bool, [], ◌≡◌, ℕ, zero, suc, ◌+◌, ◌*◌, ◌-◌, ◌≤◌, ◌<◌, length, get_or}
use Rattle.names.specs.Maps.{NameMap}
use Rattle.names.specs.Names.{Bytes, name_field, gensym}
use Rattle.names.specs.Segments.{At, SameOutside}
use Rattle.names.specs.declared.Refusal.{Refusal}
use Rattle.records.specs.StepAnswer.{gives, refuses}
use Rattle.records.specs.Limits.{cons_limit}
use Rattle.records.specs.Records.{Sexp, sexp_bytes, Pattern, Name, Complex, pattern_field, Body}
use Rattle.records.specs.Valid.{ValidName, ValidSexp, ValidPattern}
use Rattle.records.specs.declared.Step.{Step}
use Rattle.walk.specs.Arena.{MapAt, Substitutes, outcome}
use Rattle.walk.specs.Draws.{pattern_atoms}
use Rattle.walk.specs.Invent.{invent_new_names_sexp}
use Rattle.walk.specs.DrawnMaps.{atom_size, counter_limit, map_growth}
use Rattle.walk.specs.Patterns.{make_binding_unique}
use Rattle.walk.specs.RenameInCons.{rename_in_cons}
use Rattle.walk.specs.Steps.{M, ◌>>=◌, over_long}
use Rattle.walk.specs.declared.Drawn.{Drawn}
use Rattle.walk.specs.declared.Growth.{Growth}
use Rattle.walk.specs.declared.Task.{Task}
use Rattle.std.specs.declared.result.Result.{Result}
use Rattle.std.specs.declared.result.Result.TheVariants.{Ok, Err}
use Rattle.walk.specs.RuleAnswers.{drawn_of}

-- what a step has to do by names that were drawn so far
abbrev pub names_task : ℕ → ℕ → Growth → Task
names_task free f g = record { free = free; map = g.len; f = f; depth = cons_limit; counter = g.counter }

-- a step's answer, beside a map of so many bytes
abbrev pub beside : ℕ → Result Step Refusal → Result Drawn Refusal
beside len (Ok s) = drawn_of s.read s.written len s.counter
beside len (Err q) = Err q

-- an S record by the names that were drawn for it: what Substitute answers
abbrev pub PutsNames : Bytes → Bytes → ℕ → Bool → ℕ → Growth → Result Drawn Refusal → Type 0
PutsNames old new free qq f g r = (o : Result Step Refusal) × Substitutes (rename_in_cons qq) old new (names_task free f g) o × (r ≡ beside g.len o)

-- an S record stands at the start of memory, below free, and there is room for f bytes and for all that it can draw from the counter c on
pub record ArgsReady (mem : Bytes) (free f c : ℕ) : Type 0 where
  pub s : Sexp
  pub valid : ValidSexp s
  pub there : At mem 0 (sexp_bytes s)
  pub below : length (sexp_bytes s) ≤ free
  pub room : free + f + map_growth * length (sexp_bytes s) ≤ length mem
  pub counts : c + length (sexp_bytes s) < counter_limit

-- args that are drawn for: the map that Invent gives from none, and what Substitute by it writes, at most f bytes; or it is longer; or Invent refuses
pub data ArgsDrawn (qq : Bool) (s : Sexp) (new : Bytes) (free f c : ℕ) (r : Result Drawn Refusal) : Type 0 where
  args_drew : (m : NameMap) (len c' : ℕ) → outcome (invent_new_names_sexp [] s c 0) ≡ gives m c' → MapAt new len m → len ≤ map_growth * length (sexp_bytes s)
      → length (sexp_bytes (rename_in_cons qq m s)) ≤ f → At new free (sexp_bytes (rename_in_cons qq m s))
      → r ≡ drawn_of (length (sexp_bytes s)) (length (sexp_bytes (rename_in_cons qq m s))) len c' → ArgsDrawn qq s new free f c r
  args_long : (m : NameMap) (c' : ℕ) → outcome (invent_new_names_sexp [] s c 0) ≡ gives m c' → f < length (sexp_bytes (rename_in_cons qq m s)) → r ≡ Err over_long
      → ArgsDrawn qq s new free f c r
  args_refused : (q : Refusal) → outcome (invent_new_names_sexp [] s c 0) ≡ refuses q → r ≡ Err q → ArgsDrawn qq s new free f c r

-- what is answered of it
pub record DrawsArgs (old new : Bytes) (free : ℕ) (qq : Bool) (f c : ℕ) (r : Result Drawn Refusal) : Type 0 where
  pub frame : SameOutside old new free (length old)
  pub says : (s : Sexp) → ValidSexp s → At old 0 (sexp_bytes s) → ArgsDrawn qq s new free f c r

-- what a pattern of w bytes whose first byte is `kind` adds to the sum
abbrev pub added : ℕ → ℕ → ℕ
added zero w = 0
added (suc kind) w = w - 1

-- the bytes of a new pattern beside those that it adds to the sum: of a Name all of them
unfoldable pub pattern_own : ℕ → Pattern → ℕ
pattern_own c (Name n) = 1 + length (name_field (gensym n c))
pattern_own c (Complex s) = 1

-- what it adds to the sum
unfoldable pub pattern_sum : Pattern → ℕ
pattern_sum (Name n) = 0
pattern_sum (Complex s) = length (sexp_bytes s)

-- and at most, where f bytes are left
unfoldable pub pattern_adds : ℕ → Pattern → ℕ
pattern_adds f (Name n) = 0
pattern_adds f (Complex s) = f

-- the bytes by which its map grows
unfoldable pub pattern_drawn : Pattern → ℕ
pattern_drawn (Name n) = atom_size (length n)
pattern_drawn (Complex s) = length (sexp_bytes s)

-- the room for a new pattern and its map
abbrev pub pattern_needs : ℕ → ℕ → Pattern → ℕ
pattern_needs f c p = pattern_own c p + pattern_adds f p + map_growth * pattern_drawn p

-- a pattern stands at the start of memory, below free, and there is room for what is drawn for it from the counter c on
pub record PatternReady (mem : Bytes) (free f c : ℕ) : Type 0 where
  pub p : Pattern
  pub valid : ValidPattern p
  pub there : At mem 0 (pattern_field p)
  pub below : length (pattern_field p) ≤ free
  pub room : free + pattern_needs f c p ≤ length mem
  pub counts : c + length (pattern_field p) < counter_limit

-- it is a Name
pub record NameReady (mem : Bytes) (free c : ℕ) : Type 0 where
  pub n : Bytes
  pub valid : ValidName n
  pub there : At mem 0 (pattern_field (Name n))
  pub below : length (pattern_field (Name n)) ≤ free
  pub room : free + pattern_needs 0 c (Name n) ≤ length mem
  pub counts : c + 1 < counter_limit

-- how long a pattern and its map become, and how far the counter comes
pub record PatternGrows (f c : ℕ) (p u : Pattern) (len d : ℕ) : Type 0 where
  pub valid : ValidPattern u
  pub long : length (pattern_field u) ≤ pattern_own c p + pattern_sum u
  pub sum : pattern_sum u ≤ pattern_adds f p
  pub adds : added (get_or (pattern_field p) 0 0) (length (pattern_field u)) ≡ pattern_sum u
  pub map : len ≤ map_growth * pattern_drawn p
  pub drawn : d ≤ c + pattern_atoms p

-- a pattern that is drawn for, where f bytes are left of F: whatever follows goes on from the counter and the sum then; or a refusal, whatever follows
pub data PatternDrawn (p : Pattern) (new : Bytes) (free f c : ℕ) (r : Result Drawn Refusal) : Type 0 where
  drew : (m : NameMap) (u : Pattern) (len d : ℕ) → PatternGrows f c p u len d
      → ((F x : ℕ) → x + f ≡ F → (k : NameMap × Pattern → M Body) → outcome ((make_binding_unique F p >>= k) c x) ≡ outcome (k (m, u) d (x + pattern_sum u)))
      → MapAt new len m → At new free (pattern_field u) → r ≡ drawn_of (length (pattern_field p)) (length (pattern_field u)) len d → PatternDrawn p new free f c r
  stopped : (q : Refusal) → ((F x : ℕ) → x + f ≡ F → (k : NameMap × Pattern → M Body) → outcome ((make_binding_unique F p >>= k) c x) ≡ refuses q) → r ≡ Err q
      → PatternDrawn p new free f c r

-- what is answered of it
pub record DrawsPattern (old new : Bytes) (free f c : ℕ) (r : Result Drawn Refusal) : Type 0 where
  pub frame : SameOutside old new free (length old)
  pub says : (p : Pattern) → ValidPattern p → At old 0 (pattern_field p) → PatternDrawn p new free f c r

-- of a Name, whatever is left
abbrev pub DrawsName : Bytes → Bytes → ℕ → ℕ → Result Drawn Refusal → Type 0
DrawsName old new free c r = (f : ℕ) → DrawsPattern old new free f c r
