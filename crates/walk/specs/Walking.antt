-- What Own and In-body ask of memory and what they answer: of a body, and of Own followed by In-body. The record stands at the start of the memory, its
-- result goes to `free`, and the map of In-body stands at the end; Own is lent memory without a map.
-- Assumes nothing.
use Rattle.std.specs.Prelude.{Bool, true, false, ◌≡◌, ℕ, zero, suc, ◌+◌, ◌*◌, ◌-◌, ◌≤◌, ◌<◌, length}
use Rattle.names.specs.Maps.{NameMap}
use Rattle.names.specs.Names.{Bytes}
use Rattle.names.specs.Segments.{At, SameOutside}
use Rattle.names.specs.declared.Refusal.{Refusal}
use Rattle.records.specs.StepAnswer.{refuses, Gives}
use Rattle.records.specs.Depth.{depth}
use Rattle.records.specs.Limits.{most_longest}
use Rattle.records.specs.Records.{Body, BL, BQ, BV, BC, BM, BF, body_bytes, bindings_count}
use Rattle.records.specs.declared.Kind.TheVariants.{Parallel}
use Rattle.records.specs.Valid.{ValidBody, NoMod, IsLet}
use Rattle.records.specs.declared.Step.{Step}
use Rattle.records.specs.declared.Zone.{Zone}
use Rattle.walk.specs.Arena.{MapAt, outcome}
use Rattle.walk.specs.Bodyforms.{args_then_in, walk}
use Rattle.walk.specs.Draws.{atoms, dbl, counter_most}
use Rattle.walk.specs.Room.{room}
use Rattle.walk.specs.Steps.{M, ◌>>=◌, over_long, body_size, further}
use Rattle.walk.specs.declared.Piece.{Piece}
use Rattle.walk.specs.declared.Task.{Task}
use Rattle.std.specs.declared.result.Result.{Result}
use Rattle.std.specs.declared.result.Result.TheVariants.{Err}
use Rattle.walk.specs.RuleAnswers.{piece_of}
use Rattle.records.specs.StepAnswer.{step_of}

-- Own or In-body, on records of at most d levels
abbrev pub rule : ℕ → Bool → ℕ → NameMap → Body → M Body
rule F true d m = (walk F d).args_bodyform
rule F false d m = (walk F d).in_bodyform m

-- a run that starts from the sum x
abbrev pub from_sum : {A : Type 0} → ℕ → M A → M A
from_sum x m = λ c y. m c x

-- a B record of any kind
abbrev pub AnyBody : Body → Type 0
AnyBody b = Unit {0}

-- a BL
unfoldable pub IsBinder : Body → Type 0
IsBinder (BL k l w h bs b) = Unit {0}
IsBinder (BQ s) = ⊥
IsBinder (BV s) = ⊥
IsBinder (BC l bs t) = ⊥
IsBinder (BM l f) = ⊥
IsBinder (BF l w ca c a b) = ⊥

-- a BC
unfoldable pub IsCall : Body → Type 0
IsCall (BL k l w h bs b) = ⊥
IsCall (BQ s) = ⊥
IsCall (BV s) = ⊥
IsCall (BC l bs t) = Unit {0}
IsCall (BM l f) = ⊥
IsCall (BF l w ca c a b) = ⊥

-- a BF
unfoldable pub IsLambda : Body → Type 0
IsLambda (BL k l w h bs b) = ⊥
IsLambda (BQ s) = ⊥
IsLambda (BV s) = ⊥
IsLambda (BC l bs t) = ⊥
IsLambda (BM l f) = ⊥
IsLambda (BF l w ca c a b) = Unit {0}

-- a body that a step takes: within the format, without a BM where its zone has none, of the kind meant, at most d levels deep and F bytes long
pub record Fine (Only : Body → Type 0) (F d : ℕ) (b : Body) : Type 0 where
  pub valid : ValidBody b
  pub zone : Zone
  pub clear : NoMod zone b
  pub only : Only b
  pub deep : depth b ≤ d
  pub short : length (body_bytes b) ≤ F

-- what a step asks: a tree at the start of memory, below free; a map at the end, none for Own; the room between; and a counter that the draws leave within its bound
pub record Ready {A : Type 0} (owning : Bool) (bytes : A → Bytes) (Good : A → Type 0) (needs draws : A → ℕ) (mem : Bytes) (t : Task) : Type 0 where
  pub tree : A
  pub good : Good tree
  pub there : At mem 0 (bytes tree)
  pub below : length (bytes tree) ≤ t.free
  pub m : NameMap
  pub map : MapAt mem t.map m
  pub lone : owning ≡ true → t.map ≡ 0
  pub room : t.free + needs tree + t.map ≤ length mem
  pub counts : t.counter + draws tree ≤ counter_most
  pub longest : t.f ≤ most_longest

-- what a step answers: nothing changes below free nor in the map; and of each tree and each map that stand there, the answer is this
pub record Tells {A : Type 0} (bytes : A → Bytes) (Good : A → Type 0) (Answers : NameMap → A → Type 0) (old new : Bytes) (t : Task) : Type 0 where
  pub frame : SameOutside old new t.free (length old - t.map)
  pub says : (m : NameMap) → MapAt old t.map m → (a : A) → At old 0 (bytes a) → length (bytes a) ≤ t.free → Good a → Answers m a

-- a body
abbrev pub BodyReady : (Body → Type 0) → Bool → Bytes → Task → Type 0
BodyReady Only owning mem t = Ready owning body_bytes (Fine Only t.f t.depth) (λ b. room t.f t.depth) (λ b. dbl t.depth (atoms b)) mem t

-- what is answered of it: the outcome of the rule, with the result at free
abbrev pub Walks : (Body → Type 0) → Bool → Bytes → Bytes → Task → Result Step Refusal → Type 0
Walks Only owning old new t r =
    Tells body_bytes (Fine Only t.f t.depth)
    (λ m b. Gives body_bytes new t.free (length (body_bytes b)) (outcome (rule t.f owning t.depth m b t.counter 0)) r) old new t

-- what a parallel let of so many bindings holds at the end of memory: its new patterns and its map; of a single binding both take 4 F at most
abbrev pub let_aside : ℕ → ℕ → ℕ
let_aside F zero = 5 * F
let_aside F (suc zero) = 4 * F
let_aside F (suc (suc n)) = 5 * F

-- how many bindings a BL has
unfoldable pub count_of : Body → ℕ
count_of (BL k l w h bs b) = bindings_count bs
count_of (BQ s) = 0
count_of (BV s) = 0
count_of (BC l bs t) = 0
count_of (BM l f) = 0
count_of (BF l w ca c a b) = 0

-- what Own of a parallel let needs: the result before its last test, what it holds at the end of memory, and the level below
unfoldable pub let_needs : ℕ → ℕ → Body → ℕ
let_needs F zero b = 0
let_needs F (suc d) b = 3 * F + let_aside F (count_of b) + room F d

-- a parallel let; one that a sequential let became has less room than `room` says
abbrev pub ParallelReady : Bytes → Task → Type 0
ParallelReady mem t = Ready true body_bytes (Fine (IsLet Parallel) t.f t.depth) (let_needs t.f t.depth) (λ b. dbl t.depth (atoms b)) mem t

-- What a piece of a rule answers that runs from the counter c and the sum x, after n bytes were read: its tree at free, and the counter and the sum from which
-- whatever follows it goes on; or a refusal, whatever follows.
pub data Leads {A : Type 0} (f : A → Bytes) (Has : A → Type 0) (F : ℕ) (new : Bytes) (free n : ℕ) (run : M A) (c x : ℕ) (r : Result Piece Refusal) : Type 0 where
  led : (u : A) (c' x' : ℕ) → Has u → x' ≤ F → ((k : A → M Body) → outcome ((run >>= k) c x) ≡ outcome (k u c' x')) → r ≡ piece_of n (length (f u)) x' c' → At new free (f u)
      → Leads f Has F new free n run c x r
  stopped : (q : Refusal) → ((k : A → M Body) → outcome ((run >>= k) c x) ≡ refuses q) → r ≡ Err q → Leads f Has F new free n run c x r

-- Own and then In-body of a body, beside results of `sum` bytes: a result's room more than one of them needs
pub record BothReady (mem : Bytes) (sum : ℕ) (t : Task) : Type 0 where
  pub ready : Ready false body_bytes (Fine AnyBody t.f t.depth) (λ b. t.f + room t.f t.depth) (λ b. dbl t.depth (atoms b) + dbl t.depth (atoms b)) mem t
  pub held : sum ≤ t.f

-- what is answered of it
abbrev pub WalksBoth : Bytes → Bytes → ℕ → Task → Result Piece Refusal → Type 0
WalksBoth old new sum t r =
    Tells body_bytes (Fine AnyBody t.f t.depth)
    (λ m b. Leads body_bytes AnyBody t.f new t.free (length (body_bytes b)) (args_then_in t.f (walk t.f t.depth) m b) t.counter sum r) old new t

-- In-body of what Own gave, w bytes at free
pub record OverReady (mem : Bytes) (w sum : ℕ) (t : Task) : Type 0 where
  pub tree : Body
  pub good : Fine AnyBody t.f t.depth tree
  pub there : At mem t.free (body_bytes tree)
  pub wrote : w ≡ length (body_bytes tree)
  pub m : NameMap
  pub map : MapAt mem t.map m
  pub room : t.free + w + room t.f t.depth + t.map ≤ length mem
  pub held : sum + w ≤ t.f
  pub counts : t.counter + dbl t.depth (atoms tree) ≤ counter_most
  pub longest : t.f ≤ most_longest

-- what is answered of it
pub record GoesOver (old new : Bytes) (read w sum : ℕ) (t : Task) (r : Result Piece Refusal) : Type 0 where
  pub frame : SameOutside old new t.free (length old - t.map)
  pub says : (m : NameMap) → MapAt old t.map m → (u : Body) → At old t.free (body_bytes u) → w ≡ length (body_bytes u) → Fine AnyBody t.f t.depth u
      → Leads body_bytes AnyBody t.f new t.free read (further t.f body_size u (rule t.f false t.depth m)) t.counter (sum + w) r

-- a finished record
pub record Finishes (read written f c : ℕ) (r : Result Step Refusal) : Type 0 where
  pub fits : written ≤ f → r ≡ step_of read written c
  pub long : f < written → r ≡ Err over_long
