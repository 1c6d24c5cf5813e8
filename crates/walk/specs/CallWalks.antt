-- What the walk of a call asks of memory and what it answers: of its elements and of its tail, and of an element that is put back.
-- Assumes nothing.
use Rattle.std.specs.Prelude.{Bool, true, false, ◌≡◌, ℕ, zero, suc, ◌+◌, ◌≤◌, length, drop}
use Rattle.names.specs.Maps.{NameMap}
use Rattle.names.specs.Names.{Bytes}
use Rattle.names.specs.Segments.{Filled, Movable}
use Rattle.records.specs.Records.{Bodies, []ᵇ, ◌∷ᵇ◌, bodies_bytes, bodies_count, Tail, no_tail, tail, tail_bytes}
use Rattle.walk.specs.Bodyforms.{each_body, call_tail, in_elements, walk}
use Rattle.walk.specs.Draws.{bodies_atoms, tail_atoms, dbl}
use Rattle.walk.specs.Room.{room}
use Rattle.walk.specs.Steps.{M}
use Rattle.walk.specs.Walking.{rule, AnyBody, Fine, Ready, Tells, Leads}
use Rattle.walk.specs.declared.Piece.{Piece}
use Rattle.walk.specs.declared.Task.{Task}
use Rattle.std.specs.declared.result.Result.{Result}
use Rattle.names.specs.declared.Refusal.{Refusal}

-- Own or In-body of the elements of a call from the i-th on: element 0 is put back under In-body
abbrev pub every : ℕ → Bool → ℕ → NameMap → ℕ → Bodies → M Bodies
every F true d m i = each_body F (walk F d).args_bodyform
every F false d m zero = in_elements F (walk F d) m
every F false d m (suc i) = each_body F ((walk F d).in_bodyform m)

-- fine bodies, and a fine tail
unfoldable pub EachFine : ℕ → ℕ → Bodies → Type 0
EachFine F d []ᵇ = Unit {0}
EachFine F d (b ∷ᵇ bs) = Fine AnyBody F d b × EachFine F d bs

-- a fine tail, or none
unfoldable pub FineTail : ℕ → ℕ → Tail → Type 0
FineTail F d no_tail = Unit {0}
FineTail F d (tail b) = Fine AnyBody F d b

-- so many elements, each fine
pub record FineBodies (F d count : ℕ) (bs : Bodies) : Type 0 where
  pub each : EachFine F d bs
  pub many : bodies_count bs ≡ count

-- what is needed from free on, up to the map: the results so far and the room of one more
unfoldable pub bodies_room : ℕ → ℕ → Bodies → ℕ
bodies_room F d []ᵇ = 0
bodies_room F d (b ∷ᵇ bs) = F + room F d

-- the same of a tail
unfoldable pub tail_room : ℕ → ℕ → Tail → ℕ
tail_room F d no_tail = 1
tail_room F d (tail b) = 1 + room F d

-- what is made of the elements: so many, together at most F long
pub record MadeBodies (F count : ℕ) (us : Bodies) : Type 0 where
  pub many : bodies_count us ≡ count
  pub short : length (bodies_bytes us) ≤ F

-- what the elements of a call ask
abbrev pub ElementsReady : Bool → Bytes → ℕ → Task → Type 0
ElementsReady owning mem count t = Ready owning bodies_bytes (FineBodies t.f t.depth count) (bodies_room t.f t.depth) (λ bs. dbl t.depth (bodies_atoms bs)) mem t

-- what is answered of them
abbrev pub WalksElements : Bool → Bytes → Bytes → ℕ → Task → Result Piece Refusal → Type 0
WalksElements owning old new count t r =
    Tells bodies_bytes (FineBodies t.f t.depth count)
    (λ m bs. Leads bodies_bytes (MadeBodies t.f count) t.f new t.free (length (bodies_bytes bs)) (every t.f owning t.depth m 0 bs) t.counter 0 r) old new t

-- the tail, beside results of `sum` bytes
pub record TailReady (owning : Bool) (mem : Bytes) (sum : ℕ) (t : Task) : Type 0 where
  pub ready : Ready owning tail_bytes (FineTail t.f t.depth) (tail_room t.f t.depth) (λ u. dbl t.depth (tail_atoms u)) mem t
  pub held : sum ≤ t.f

-- what is made of a tail: its byte, and a record of at most F bytes
abbrev pub MadeTail : ℕ → Tail → Type 0
MadeTail F u = length (tail_bytes u) ≤ 1 + F

-- what is answered of it
abbrev pub WalksTail : Bool → Bytes → Bytes → ℕ → Task → Result Piece Refusal → Type 0
WalksTail owning old new sum t r =
    Tells tail_bytes (FineTail t.f t.depth)
    (λ m u. Leads tail_bytes (MadeTail t.f) t.f new t.free (length (tail_bytes u)) (call_tail t.f (rule t.f owning t.depth m) u) t.counter sum r) old new t

-- element 0 under In-body is put back
unfoldable pub backs : Bool → ℕ → Bool
backs true i = false
backs false zero = true
backs false (suc i) = false

-- where so, r bytes at `at` go over what stands at `to`
pub record BackRoom (mem : Bytes) (at to r : ℕ) (back : Bool) : Type 0 where
  pub room : back ≡ true → Movable mem at to r

-- those bytes are copied, or nothing changes; x bytes then stand there
pub record PutsBack (old new : Bytes) (at to r w : ℕ) (back : Bool) (x : ℕ) : Type 0 where
  pub copied : back ≡ true → Filled old new to (drop at old) r × (x ≡ r)
  pub stayed : back ≡ false → (new ≡ old) × (x ≡ w)
