-- What In-body of a BF asks of memory once its captures are made, and what it answers. Assumes nothing.
use Rattle.std.specs.Prelude.{◌≡◌, false, ℕ, ◌+◌, ◌-◌, ◌≤◌, length}
use Rattle.names.specs.Maps.{NameMap}
use Rattle.names.specs.Names.{Bytes}
use Rattle.names.specs.Segments.{At}
use Rattle.records.specs.StepAnswer.{Gives}
use Rattle.records.specs.Records.{Loc, Sexp, Body, BF, body_bytes}
use Rattle.records.specs.Views.{lambda_head, Parted}
use Rattle.records.specs.declared.Step.{Step}
use Rattle.walk.specs.Arena.{outcome}
use Rattle.walk.specs.Bodyforms.{Rules, args_then_in, walk}
use Rattle.walk.specs.Draws.{atoms, dbl}
use Rattle.walk.specs.Invent.{rename_in_cons_step}
use Rattle.walk.specs.Room.{room}
use Rattle.walk.specs.Steps.{M, ◌>>=◌, ret, sexp_size, body_size, step, child}
use Rattle.walk.specs.Walking.{from_sum, IsLambda, Fine, Ready, Tells}
use Rattle.walk.specs.declared.Task.{Task}
use Rattle.std.specs.declared.result.Result.{Result}
use Rattle.names.specs.declared.Refusal.{Refusal}

-- a BF, and its captures as they are made
pub record Captured : Type 0 where
  pub loc : Loc
  pub keyword : Bytes
  pub capture_args : Sexp
  pub captures : Body
  pub args : Sexp
  pub body : Body
  pub made : Body

-- the BF itself
abbrev pub lambda_of : Captured → Body
lambda_of k = BF k.loc k.keyword k.capture_args k.captures k.args k.body

-- its bytes
abbrev pub lambda_bytes : Captured → Bytes
lambda_bytes k = body_bytes (lambda_of k)

-- In-body of a BF from its captures on: its capture args by the map, its args as they are, and both rules for its body
unfoldable pub after_captures : ℕ → Rules → NameMap → Captured → M Body
after_captures F r m k = do
  ca' ← child F sexp_size (rename_in_cons_step F false m k.capture_args)
  b' ← args_then_in F r m k.body
  ret (BF k.loc k.keyword ca' k.made k.args b')

-- its head stands at free, and the x bytes of its captures behind the room for capture args
pub record FineCaptured (mem : Bytes) (at args body x : ℕ) (t : Task) (k : Captured) : Type 0 where
  pub fine : Fine IsLambda t.f t.depth (lambda_of k)
  pub parted : Parted at args body k.loc k.keyword k.capture_args k.captures k.args
  pub head : At mem t.free (lambda_head k.loc k.keyword)
  pub out : At mem (t.free + at + t.f) (body_bytes k.made)
  pub wrote : x ≡ length (body_bytes k.made)
  pub held : x ≤ t.f

-- what is asked then
abbrev pub CapturedReady : Bytes → ℕ → ℕ → ℕ → ℕ → Task → Type 0
CapturedReady mem at args body x t =
    Ready false lambda_bytes (FineCaptured mem at args body x t) (λ k. room t.f t.depth) (λ k. dbl (t.depth - 1) (atoms k.body) + dbl (t.depth - 1) (atoms k.body)) mem t

-- what is answered of it
abbrev pub WalksCaptured : Bytes → Bytes → ℕ → ℕ → ℕ → ℕ → Task → Result Step Refusal → Type 0
WalksCaptured old new at args body x t r =
    Tells lambda_bytes (FineCaptured old at args body x t)
    (λ m k.
    Gives body_bytes new t.free (length (lambda_bytes k))
    (outcome (step t.f body_size (from_sum x (after_captures t.f (walk t.f (t.depth - 1)) m k)) t.counter 0)) r) old new t
