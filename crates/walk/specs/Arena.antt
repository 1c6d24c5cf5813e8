-- What the steps on records ask of memory, and what they answer. The record stands at the start of the memory, its result goes to
-- `free`, and the map stands at the end.
-- Assumes nothing.
use Rattle.std.specs.Prelude.{true, false, ◌≡◌, ◌++◌, ℕ, ◌+◌, ◌-◌, ◌≤◌, leb, length, take, drop}
use Rattle.names.specs.Maps.{NameMap, map_bytes, Limited}
use Rattle.names.specs.Names.{Bytes, name_field}
use Rattle.names.specs.Segments.{At, SameOutside, Filled}
use Rattle.records.specs.StepAnswer.{Outcome, gives, refuses, Gives}
use Rattle.records.specs.Records.{head_width, Sexp, sexp_bytes}
use Rattle.records.specs.Valid.{SexpFields, cons_depth}
use Rattle.records.specs.declared.Step.{Step}
use Rattle.walk.specs.Steps.{Out, done, refused, over_long}
use Rattle.walk.specs.declared.Task.{Task}
use Rattle.std.specs.declared.result.Result.{Result}
use Rattle.names.specs.declared.Refusal.{Refusal}

-- bytes are written at a place, and nothing else changes
abbrev pub Writes : Bytes → Bytes → ℕ → Bytes → Type 0
Writes old new at bs = Filled old new at bs (length bs)

-- a map of so many bytes stands at the end of memory, every name of it within its limit
pub record MapAt (mem : Bytes) (len : ℕ) (m : NameMap) : Type 0 where
  pub within : len ≤ length mem
  pub there : drop (length mem - len) mem ≡ map_bytes m
  pub limited : Limited m

-- what a step asks: a tree of the kind meant stands at the start of memory, below free; a map stands at the end; and there is room for a result between
pub record Asks {A : Type 0} (bytes : A → Bytes) (Good : A → Type 0) (mem : Bytes) (t : Task) : Type 0 where
  pub tree : A
  pub good : Good tree
  pub there : At mem 0 (bytes tree)
  pub below : length (bytes tree) ≤ t.free
  pub m : NameMap
  pub map : MapAt mem t.map m
  pub room : t.free + t.f + t.map ≤ length mem

-- what it answers: bytes change alone where the result has its room; and of every map and every tree that stand there, r is what the rule gives, as a tree of B
pub record Says {A B : Type 0} (bytes : A → Bytes) (Good : A → Type 0) (made : B → Bytes) (rule : NameMap → A → Outcome B) (old new : Bytes) (t : Task) (r : Result Step Refusal) : Type 0 where
  pub frame : SameOutside old new t.free (t.free + t.f)
  pub says : (m : NameMap) → MapAt old t.map m → (a : A) → At old 0 (bytes a) → length (bytes a) ≤ t.free → Good a
      → Gives made new t.free (length (bytes a)) (rule m a) r

-- a result of at most f bytes, or the refusal that it is too long
unfoldable pub fitting : {A : Type 0} → (A → Bytes) → ℕ → ℕ → A → Outcome A
fitting bytes f c u = elim (leb (length (bytes u)) f) [ true ↦ gives u c | false ↦ refuses over_long ]

-- what a run gives: its value and counter, or its refusal
unfoldable pub outcome : {A : Type 0} → Out A → Outcome A
outcome (done log a c x) = gives a c
outcome (refused log r) = refuses r

-- an S record of valid fields, with SC at most n deep
pub record Held (n : ℕ) (s : Sexp) : Type 0 where
  pub fields : SexpFields s
  pub conses : cons_depth s ≤ n

-- what a rule that makes one S record of another by a map answers
abbrev pub Substitutes : (NameMap → Sexp → Sexp) → Bytes → Bytes → Task → Result Step Refusal → Type 0
Substitutes rule old new t r = Says sexp_bytes SexpFields sexp_bytes (λ m s. fitting sexp_bytes t.f t.counter (rule m s)) old new t r

-- bytes as they are, for a result that is no tree
abbrev pub as_bytes : Bytes → Bytes
as_bytes bs = bs

-- the first n bytes stand at free too, or are too many
pub record KeepsBytes (old new : Bytes) (n : ℕ) (t : Task) (r : Result Step Refusal) : Type 0 where
  pub frame : SameOutside old new t.free (t.free + t.f)
  pub says : Gives as_bytes new t.free n (fitting as_bytes t.f t.counter (take n old)) r

-- the mark and the L that stand at the start, and a name
abbrev pub named : Bytes → Bytes → Bytes
named s n = take head_width s ++ name_field n
