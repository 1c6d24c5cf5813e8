-- What Own of the nested lets that a sequential let became asks of memory, and what it answers. Assumes nothing.
use Rattle.std.specs.Prelude.{◌≡◌, true, ℕ, zero, suc, ◌+◌, ◌*◌, ◌-◌, length}
use Rattle.names.specs.Names.{Bytes}
use Rattle.records.specs.StepAnswer.{Gives}
use Rattle.records.specs.Records.{Body, body_bytes}
use Rattle.records.specs.declared.Step.{Step}
use Rattle.walk.specs.Arena.{outcome}
use Rattle.walk.specs.Bodyforms.{desugar_sequential_let_bindings, rename_args_desugared, walk}
use Rattle.walk.specs.Draws.{atoms, dbl}
use Rattle.walk.specs.Leaves.{Left}
use Rattle.walk.specs.Room.{room}
use Rattle.walk.specs.Walking.{AnyBody, Fine, Ready, Tells}
use Rattle.walk.specs.declared.Task.{Task}
use Rattle.std.specs.declared.result.Result.{Result}
use Rattle.names.specs.declared.Refusal.{Refusal}

-- the bindings and the body of a sequential let as nested lets
abbrev pub nested : Left → Body
nested x = desugar_sequential_let_bindings x.0 x.1

-- the bytes of what they become
abbrev pub nested_bytes : Left → Bytes
nested_bytes x = body_bytes (nested x)

-- the level that Own takes them at: a body alone stands one level below the let
abbrev pub nested_level : ℕ → ℕ → ℕ
nested_level zero d = d - 1
nested_level (suc n) d = d

-- so many bindings, which nest no deeper than the let did
pub record FineNested (count F d : ℕ) (x : Left) : Type 0 where
  pub many : length x.0 ≡ count
  pub fine : Fine AnyBody F (nested_level count d) (nested x)

-- the room of the let without what they themselves take
abbrev pub NestedReady : Bytes → ℕ → Task → Type 0
NestedReady mem count t =
    Ready true nested_bytes (FineNested count t.f t.depth) (λ x. 7 * t.f + room t.f (t.depth - 1)) (λ x. dbl t.depth (atoms (nested x))) mem t

-- what is answered of it
abbrev pub WalksNested : Bytes → Bytes → ℕ → Task → Result Step Refusal → Type 0
WalksNested old new count t r =
    Tells nested_bytes (FineNested count t.f t.depth)
    (λ m x. Gives body_bytes new t.free (length (nested_bytes x)) (outcome (rename_args_desugared t.f (walk t.f (t.depth - 1)) x.0 x.1 t.counter 0)) r) old new t
