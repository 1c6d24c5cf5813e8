-- What the steps on the bindings of a let ask of memory, and what they answer: the head of a binding with its pattern, its body, all bindings, and a parallel
-- let whose patterns are drawn. Assumes nothing.
use Rattle.std.specs.Prelude.{Bool, true, false, List, [], ◌∷◌, ◌++◌, ◌≡◌, ℕ, ◌+◌, ◌*◌, ◌-◌, ◌≤◌, length}
use Rattle.names.specs.Maps.{NameMap}
use Rattle.names.specs.Names.{Bytes, ascii}
use Rattle.names.specs.Segments.{At, SameOutside}
use Rattle.records.specs.StepAnswer.{Gives}
use Rattle.records.specs.Limits.{most_longest}
use Rattle.records.specs.Lists.{joined, Each}
use Rattle.records.specs.Records.{Loc, Pattern, pattern_field, Body, BL, body_bytes, Binding, BB, binding_bytes, Bindings, to_bindings, list_of}
use Rattle.records.specs.declared.Kind.TheVariants.{Parallel}
use Rattle.records.specs.Valid.{ValidPattern, BindingFields, IsLet}
use Rattle.records.specs.declared.Step.{Step}
use Rattle.walk.specs.Arena.{MapAt, outcome}
use Rattle.walk.specs.Bodyforms.{each_binding_body, args_then_in, walk}
use Rattle.walk.specs.Draws.{atoms, inside_of, dbl, counter_most}
use Rattle.walk.specs.Room.{room}
use Rattle.walk.specs.Scopes.{with_pattern, with_patterns}
use Rattle.walk.specs.Steps.{M, ◌>>=◌, ret, body_size, step}
use Rattle.walk.specs.Walking.{rule, AnyBody, Fine, Leads, let_aside}
use Rattle.walk.specs.declared.Piece.{Piece}
use Rattle.walk.specs.declared.Task.{Task}
use Rattle.std.specs.declared.result.Result.{Result}
use Rattle.names.specs.declared.Refusal.{Refusal}

-- the bytes of a binding up to its body
unfoldable pub head_bytes : Binding → Bytes
head_bytes (BB l nl p b) = ascii "BB" ++ (l ++ (nl ++ pattern_field p))

-- its pattern
unfoldable pub binding_pattern : Binding → Pattern
binding_pattern (BB l nl p b) = p

-- its body
unfoldable pub binding_body : Binding → Body
binding_body (BB l nl p b) = b

-- the patterns that bindings have
unfoldable pub own_patterns : List Binding → List Pattern
own_patterns [] = []
own_patterns (x ∷ xs) = binding_pattern x ∷ own_patterns xs

-- what the heads of bindings take with these patterns
abbrev pub heads : List Pattern → List Binding → ℕ
heads ps bs = length (joined head_bytes (with_patterns ps bs))

-- a binding of valid fields whose body a step takes
pub record FineBinding (F d : ℕ) (x : Binding) : Type 0 where
  pub fields : BindingFields x
  pub body : Fine AnyBody F d (binding_body x)

-- the head of a binding stands from `at` up to `body`; with the pattern that stands aside, or with its own, it can be written at `to`
pub record HeadReady (mem : Bytes) (at body to aside : ℕ) (owning : Bool) : Type 0 where
  pub x : Binding
  pub new : Pattern
  pub fields : BindingFields x
  pub valid : ValidPattern new
  pub there : At mem at (head_bytes x)
  pub ends : body ≡ at + length (head_bytes x)
  pub low : body ≤ to
  pub room : to + length (head_bytes (with_pattern new x)) ≤ length mem
  pub drawn : owning ≡ true → At mem aside (pattern_field new)
  pub before : owning ≡ true → to + length (head_bytes (with_pattern new x)) ≤ aside
  pub kept : owning ≡ false → new ≡ binding_pattern x

-- these bytes were written at a place
pub record Wrote (old new : Bytes) (to : ℕ) (bytes : Bytes) (r : ℕ) : Type 0 where
  pub size : r ≡ length bytes
  pub out : At new to bytes
  pub frame : SameOutside old new to (to + length bytes)

-- what is answered of it
abbrev pub PutsHead : Bytes → Bytes → ℕ → ℕ → ℕ → ℕ → Bool → ℕ → Type 0
PutsHead old new at body to aside owning r = (p : HeadReady old at body to aside owning) → Wrote old new to (head_bytes (with_pattern p.new p.x)) r

-- where the memory of the binding bodies ends: at `aside` under Own, where the map starts under In-body
pub record Ends (owning : Bool) (mem : Bytes) (aside len top : ℕ) : Type 0 where
  pub own : owning ≡ true → top ≡ aside
  pub inside : owning ≡ false → top ≡ length mem - len
  pub lone : owning ≡ true → len ≡ 0
  pub within : top + len ≤ length mem

-- the body of a binding at a place
pub record BindReady (mem : Bytes) (at aside : ℕ) (t : Task) (owning : Bool) : Type 0 where
  pub tree : Body
  pub good : Fine AnyBody t.f t.depth tree
  pub there : At mem at (body_bytes tree)
  pub below : length (body_bytes tree) ≤ t.free
  pub m : NameMap
  pub map : MapAt mem t.map m
  pub top : ℕ
  pub ends : Ends owning mem aside t.map top
  pub room : at + t.free + room t.f t.depth ≤ top
  pub counts : t.counter + dbl t.depth (atoms tree) ≤ counter_most
  pub longest : t.f ≤ most_longest

-- its result stands at free from that place on
pub record BodyBound (old new : Bytes) (at aside : ℕ) (t : Task) (owning : Bool) (p : BindReady old at aside t owning) (r : Result Step Refusal) : Type 0 where
  pub frame : SameOutside old new (at + t.free) p.top
  pub gives : Gives body_bytes new (at + t.free) (length (body_bytes p.tree)) (outcome (rule t.f owning t.depth p.m p.tree t.counter 0)) r

-- what is answered of it
abbrev pub Binds : Bytes → Bytes → ℕ → ℕ → Task → Bool → Result Step Refusal → Type 0
Binds old new at aside t owning r = (p : BindReady old at aside t owning) → BodyBound old new at aside t owning p r

-- the patterns that bindings get: those that stand aside, or their own
pub record Chosen (owning : Bool) (mem : Bytes) (aside : ℕ) (bs : List Binding) (ps : List Pattern) : Type 0 where
  pub many : length ps ≡ length bs
  pub valid : Each ValidPattern ps
  pub drawn : owning ≡ true → At mem aside (joined pattern_field ps)
  pub kept : owning ≡ false → ps ≡ own_patterns bs
  pub fits : aside + length (joined pattern_field ps) ≤ length mem

-- so many bindings from the start of memory on, beside results of `held` bytes
pub record AllReady (mem : Bytes) (count aside held : ℕ) (t : Task) (owning : Bool) : Type 0 where
  pub bs : List Binding
  pub ps : List Pattern
  pub many : length bs ≡ count
  pub good : Each (FineBinding t.f t.depth) bs
  pub chosen : Chosen owning mem aside bs ps
  pub there : At mem 0 (joined binding_bytes bs)
  pub below : length (joined binding_bytes bs) ≤ t.free
  pub m : NameMap
  pub map : MapAt mem t.map m
  pub top : ℕ
  pub ends : Ends owning mem aside t.map top
  pub held_within : held ≤ t.f
  pub room : t.free + heads ps bs + (t.f - held) + room t.f t.depth ≤ top
  pub counts : t.counter + dbl t.depth (inside_of bs) ≤ counter_most
  pub longest : t.f ≤ most_longest

-- so many bindings, no longer than their heads and what is left of a sum of F
pub record MadeBindings (count held head F : ℕ) (us : List Binding) : Type 0 where
  pub many : length us ≡ count
  pub long : length (joined binding_bytes us) + held ≤ head + F

-- their results from free on
pub record AllBound (old new : Bytes) (count aside held : ℕ) (t : Task) (owning : Bool) (p : AllReady old count aside held t owning) (r : Result Piece Refusal) : Type 0 where
  pub frame : SameOutside old new t.free p.top
  pub leads : Leads (joined binding_bytes) (MadeBindings count held (heads p.ps p.bs) t.f) t.f new t.free (length (joined binding_bytes p.bs))
      (each_binding_body t.f (rule t.f owning t.depth p.m) (with_patterns p.ps p.bs)) t.counter held r

-- what is answered of them
abbrev pub BindsAll : Bytes → Bytes → ℕ → ℕ → ℕ → Task → Bool → Result Piece Refusal → Type 0
BindsAll old new count aside held t owning r = (p : AllReady old count aside held t owning) → AllBound old new count aside held t owning p r

-- what is left of Own of a parallel let when its patterns are drawn
unfoldable pub patterned_run : ℕ → ℕ → Loc → Bytes → Bytes → List Binding → NameMap → Body → M Body
patterned_run F d l k h bs m b = do
  bs' ← each_binding_body F (walk F d).args_bodyform bs
  b' ← args_then_in F (walk F d) m b
  ret (BL Parallel l k h (to_bindings bs') b')

-- a parallel let whose bindings start at `first`; its new patterns stand aside, and their map at the end
pub record PatternedReady (mem : Bytes) (first count aside sum : ℕ) (t : Task) : Type 0 where
  pub l : Loc
  pub k : Bytes
  pub h : Bytes
  pub bs : Bindings
  pub b : Body
  pub good : Fine (IsLet Parallel) t.f t.depth (BL Parallel l k h bs b)
  pub there : At mem 0 (body_bytes (BL Parallel l k h bs b))
  pub below : length (body_bytes (BL Parallel l k h bs b)) ≤ t.free
  pub starts : first + (length (joined binding_bytes (list_of bs)) + length (body_bytes b)) ≡ length (body_bytes (BL Parallel l k h bs b))
  pub many : length (list_of bs) ≡ count
  pub ps : List Pattern
  pub chosen : Chosen true mem aside (list_of bs) ps
  pub m : NameMap
  pub map : MapAt mem t.map m
  pub held : sum ≤ t.f
  pub long : length (joined pattern_field ps) ≤ sum + length (joined binding_bytes (list_of bs))
  pub beside : length (joined pattern_field ps) + t.map ≤ let_aside t.f count
  pub room : t.free + 3 * t.f + room t.f (t.depth - 1) ≤ aside
  pub all : aside + let_aside t.f count ≤ length mem
  pub counts : t.counter + (dbl (t.depth - 1) (inside_of (list_of bs)) + (dbl (t.depth - 1) (atoms b) + dbl (t.depth - 1) (atoms b))) ≤ counter_most
  pub longest : t.f ≤ most_longest

-- its result at free, of every run that has come so far
pub record Patterned (old new : Bytes) (first count aside sum : ℕ) (t : Task) (p : PatternedReady old first count aside sum t) (r : Result Step Refusal) : Type 0 where
  pub frame : SameOutside old new t.free (length old)
  pub gives : (run : M Body) (c : ℕ) → outcome (run c 0) ≡ outcome (patterned_run t.f (t.depth - 1) p.l p.k p.h (with_patterns p.ps (list_of p.bs)) p.m p.b t.counter sum)
      → Gives body_bytes new t.free (length (body_bytes (BL Parallel p.l p.k p.h p.bs p.b))) (outcome (step t.f body_size run c 0)) r

-- what is answered of it
abbrev pub WalksPatterned : Bytes → Bytes → ℕ → ℕ → ℕ → ℕ → Task → Result Step Refusal → Type 0
WalksPatterned old new first count aside sum t r = (p : PatternedReady old first count aside sum t) → Patterned old new first count aside sum t p r
