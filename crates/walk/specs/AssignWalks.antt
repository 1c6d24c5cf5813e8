-- What the steps on an assign and on its bindings ask of memory, and what they answer. The bindings are made one after the other from a place on down, the last
-- made first, and the map of their patterns grows at the end of memory.
-- Assumes nothing.
use Rattle.std.specs.Prelude.{true, false, List, [], ◌∷◌, ◌++◌, ◌≡◌, ℕ, suc, ◌+◌, ◌*◌, ◌-◌, ◌≤◌, ◌<◌, length, take, get_or}
use Rattle.names.specs.Maps.{NameMap}
use Rattle.names.specs.Names.{Bytes, name_field}
use Rattle.names.specs.Segments.{At, SameOutside}
use Rattle.names.specs.declared.Refusal.{Refusal}
use Rattle.ordering.specs.Needs.{binding_limit}
use Rattle.ordering.specs.Toposort.{ordered}
use Rattle.ordering.specs.Words.{toposort_assign_bindings}
use Rattle.ordering.specs.declared.Order.{Order}
use Rattle.records.specs.StepAnswer.{refuses, Gives}
use Rattle.records.specs.Depth.{binding_depth}
use Rattle.records.specs.Limits.{most_longest}
use Rattle.records.specs.Lists.{joined, Each}
use Rattle.records.specs.Parts.{ValidBinding}
use Rattle.records.specs.Records.{Loc, Sexp, sexp_bytes, Name, Complex, Body, BL, BQ, BV, BC, BM, BF, body_bytes, Binding, BB, binding_bytes, bindings_bytes, list_of, to_bindings}
use Rattle.records.specs.declared.Kind.TheVariants.{Assign}
use Rattle.records.specs.Valid.{ValidSexp, BindingNoMod, IsLet}
use Rattle.records.specs.declared.Step.{Step}
use Rattle.records.specs.declared.Zone.{Zone}
use Rattle.walk.specs.Arena.{MapAt, outcome}
use Rattle.walk.specs.Bodyforms.{Rules, walk, no_binding, args_then_in, rename_assign_binding, rename_assign_bindings}
use Rattle.walk.specs.Draws.{sexp_atoms, atoms, binding_atoms, dbl, counter_most}
use Rattle.walk.specs.Invent.{rename_in_cons_step}
use Rattle.walk.specs.DrawnMaps.{map_growth}
use Rattle.walk.specs.Room.{room}
use Rattle.walk.specs.Steps.{M, ◌>>=◌, ret, sexp_size, body_size, child, further, step}
use Rattle.walk.specs.Walking.{count_of, from_sum, AnyBody, Fine, Ready, Tells, BodyReady}
use Rattle.walk.specs.declared.Made.{Made}
use Rattle.walk.specs.declared.Task.{Task}
use Rattle.std.specs.declared.result.Result.{Result}
use Rattle.std.specs.declared.result.Result.TheVariants.{Err}
use Rattle.walk.specs.RuleAnswers.{made_with}

-- a binding that a step takes
pub record AssignBinding (F d : ℕ) (b : Binding) : Type 0 where
  pub valid : ValidBinding b
  pub zone : Zone
  pub clear : BindingNoMod zone b
  pub deep : binding_depth b ≤ d
  pub short : length (binding_bytes b) ≤ F

-- a Complex pattern and the body behind it
abbrev pub Parts : Type 0
Parts = Sexp × Body

-- their bytes
abbrev pub parts_bytes : Parts → Bytes
parts_bytes u = sexp_bytes u.0 ++ body_bytes u.1

-- which of them a step takes
pub record FineParts (F d : ℕ) (u : Parts) : Type 0 where
  pub valid : ValidSexp u.0
  pub body : Fine AnyBody F d u.1
  pub short : length (parts_bytes u) ≤ F

-- a binding from its pattern on, without the byte that says the kind of that
unfoldable pub inner : Binding → Bytes
inner (BB l nl (Name n) b) = name_field n ++ body_bytes b
inner (BB l nl (Complex p) b) = sexp_bytes p ++ body_bytes b

-- what a step has made is within its bounds: the map of `len` bytes, the sum x' that it leaves, and the bytes written, which are no more than `size` and what the
-- sum grew by
pub record Within (F most size wrote len x x' : ℕ) : Type 0 where
  pub map : len ≤ most
  pub sum : x' ≤ F
  pub long : wrote + x ≤ size + x'

-- What a step on bindings answers that runs from the counter c and the sum x: its tree u, whose bytes stand at their place; the map that `u.0` says at the end of memory;
-- the counter and the sum from which whatever follows goes on; or a refusal, whatever follows.
pub data MakesRun {A : Type 0} (f : NameMap × A → Bytes) (Has : NameMap × A → Type 0) (F most size : ℕ) (new : Bytes) (place : ℕ → ℕ) (run : M (NameMap × A)) (c x : ℕ) (r : Result Made Refusal) : Type 0 where
  made : (u : NameMap × A) (len c' x' : ℕ) → Has u → ((k : NameMap × A → M Body) → outcome ((run >>= k) c x) ≡ outcome (k u c' x')) → r ≡ made_with (length (f u)) x' len c'
      → At new (place (length (f u))) (f u) → MapAt new len u.0 → Within F most size (length (f u)) len x x' → MakesRun f Has F most size new place run c x r
  stopped : (q : Refusal) → ((k : NameMap × A → M Body) → outcome ((run >>= k) c x) ≡ refuses q) → r ≡ Err q → MakesRun f Has F most size new place run c x r

-- whatever it is
abbrev pub AnyMade : {A : Type 0} → A → Type 0
AnyMade u = Unit {0}

-- a Complex binding with these L
abbrev pub Shaped : Loc → Loc → NameMap × Binding → Type 0
Shaped l nl u = (p : Sexp) × (b : Body) × (u.1 ≡ BB l nl (Complex p) b)

-- its pattern and body, made at free
abbrev pub MakesParts : Loc → Loc → ℕ → ℕ → ℕ → Bytes → ℕ → M (NameMap × Binding) → ℕ → ℕ → Result Made Refusal → Type 0
MakesParts l nl F most size new free run c x r = MakesRun (λ u. inner u.1) (Shaped l nl) F most size new (λ n. free) run c x r

-- a Complex pattern by the map, and In-body of what Own gave of the body; and before that, Own of the body
module _ (F : ℕ) (q : Rules) (l nl : Loc) where
  abbrev pub remaking : NameMap → Sexp → Body → M (NameMap × Binding)
  remaking m p o = do
    p' ← child F sexp_size (rename_in_cons_step F false m p)
    b' ← further F body_size o (q.in_bodyform m)
    ret (m, BB l nl (Complex p') b')

  abbrev pub naming : NameMap → Sexp → Body → M (NameMap × Binding)
  naming m p b = child F body_size (q.args_bodyform b) >>= λ o. remaking m p o

-- a pattern at the start of memory, and at free w bytes that Own gave of its body
pub record RemakeReady (mem : Bytes) (w sum : ℕ) (t : Task) : Type 0 where
  pub p : Sexp
  pub valid : ValidSexp p
  pub pattern : At mem 0 (sexp_bytes p)
  pub below : length (sexp_bytes p) ≤ t.free
  pub o : Body
  pub good : Fine AnyBody t.f t.depth o
  pub there : At mem t.free (body_bytes o)
  pub wrote : w ≡ length (body_bytes o)
  pub m : NameMap
  pub map : MapAt mem t.map m
  pub room : t.free + (t.f + room t.f t.depth) + t.map ≤ length mem
  pub has : w ≤ sum
  pub held : sum ≤ t.f
  pub counts : t.counter + dbl t.depth (atoms o) ≤ counter_most
  pub longest : t.f ≤ most_longest

-- what is answered of them
pub record Remakes (old new : Bytes) (w sum : ℕ) (t : Task) (r : Result Made Refusal) : Type 0 where
  pub frame : SameOutside old new t.free (length old - t.map)
  pub says : (m : NameMap) → MapAt old t.map m → (p : Sexp) → ValidSexp p → At old 0 (sexp_bytes p) → (o : Body) → Fine AnyBody t.f t.depth o → At old t.free (body_bytes o)
      → (l nl : Loc) → MakesParts l nl t.f t.map w new t.free (remaking t.f (walk t.f t.depth) l nl m p o) t.counter sum r

-- a pattern whose names are drawn, and its body at a place
pub record NamedReady (mem : Bytes) (body sum : ℕ) (t : Task) : Type 0 where
  pub ready : Ready false parts_bytes (FineParts t.f t.depth) (λ u. t.f + room t.f t.depth) (λ u. dbl t.depth (atoms u.1) + dbl t.depth (atoms u.1)) mem t
  pub behind : body ≡ length (sexp_bytes ready.tree.0)
  pub held : sum ≤ t.f

-- what is answered of it
abbrev pub MakesNamed : Bytes → Bytes → ℕ → Task → Result Made Refusal → Type 0
MakesNamed old new sum t r =
    Tells parts_bytes (FineParts t.f t.depth)
    (λ m u. (l nl : Loc) → MakesParts l nl t.f t.map 0 new t.free (naming t.f (walk t.f t.depth) l nl m u.0 u.1) t.counter sum r) old new t

-- a pattern and its body
pub record ComplexReady (mem : Bytes) (sum : ℕ) (t : Task) : Type 0 where
  pub ready : Ready false parts_bytes (FineParts t.f t.depth) (λ u. t.f + room t.f t.depth + map_growth * length (sexp_bytes u.0))
      (λ u. dbl (suc t.depth) (sexp_atoms u.0 + atoms u.1)) mem t
  pub held : sum ≤ t.f

-- what is answered of it
abbrev pub MakesComplex : Bytes → Bytes → ℕ → Task → Result Made Refusal → Type 0
MakesComplex old new sum t r =
    Tells parts_bytes (FineParts t.f t.depth)
    (λ m u. (l nl : Loc) → MakesParts l nl t.f (t.map + map_growth * length (sexp_bytes u.0)) 0 new t.free
    (rename_assign_binding t.f (walk t.f t.depth) m (BB l nl (Complex u.0) u.1)) t.counter sum r) old new t

-- a binding
pub record BindingReady (mem : Bytes) (n sum : ℕ) (t : Task) : Type 0 where
  pub ready : Ready false binding_bytes (AssignBinding t.f t.depth) (λ b. 2 * t.f + room t.f t.depth + map_growth * length (binding_bytes b))
      (λ b. dbl (suc t.depth) (binding_atoms b)) mem t
  pub size : n ≡ length (binding_bytes ready.tree)
  pub held : sum ≤ t.f

-- what is answered of it
abbrev pub MakesBinding : Bytes → Bytes → ℕ → Task → Result Made Refusal → Type 0
MakesBinding old new sum t r =
    Tells binding_bytes (AssignBinding t.f t.depth)
    (λ m b. MakesRun (λ u. binding_bytes u.1) AnyMade t.f (t.map + map_growth * length (binding_bytes b)) (length (binding_bytes b)) new (λ n. t.free)
    (rename_assign_binding t.f (walk t.f t.depth) m b) t.counter sum r) old new t

-- bindings stand one after the other, and `starts` says where each starts and where the last ends
pub record BindingStarts (mem : Bytes) (starts : List ℕ) (bs : List Binding) : Type 0 where
  pub many : length starts ≡ suc (length bs)
  pub there : At mem (get_or starts 0 0) (joined binding_bytes bs)
  pub starts_at : (i : ℕ) → i ≤ length bs → get_or starts i 0 ≡ get_or starts 0 0 + length (joined binding_bytes (take i bs))

-- `after` says it of the bindings that stand in s from `first` on, as many as there is room for in `before`
abbrev pub FindsStarts : Bytes → ℕ → List ℕ → List ℕ → Type 0
FindsStarts s first before after =
    (bs : List Binding) → Each ValidBinding bs → At s first (joined binding_bytes bs) → length before ≡ suc (length bs)
    → (get_or after 0 0 ≡ first) × BindingStarts s after bs

-- of the bindings of these indices, as many of what f counts
unfoldable pub at_all : (Binding → ℕ) → List Binding → List ℕ → ℕ
at_all f bs [] = 0
at_all f bs (i ∷ is) = f (get_or bs i no_binding) + at_all f bs is

-- the bytes of a binding
unfoldable pub binding_size : Binding → ℕ
binding_size b = length (binding_bytes b)

-- bindings, and indices of them in a row
pub record BindingsReady (mem : Bytes) (row starts : List ℕ) (t : Task) : Type 0 where
  pub bs : List Binding
  pub fine : Each (AssignBinding t.f t.depth) bs
  pub stand : BindingStarts mem starts bs
  pub below : get_or starts 0 0 + length (joined binding_bytes bs) + 2 * t.f ≤ t.free
  pub rows : (j : ℕ) → j < length row → get_or row j 0 < length bs
  pub short : at_all binding_size bs row ≤ t.f
  pub lone : t.map ≡ 0
  pub room : t.free + (5 * t.f + room t.f t.depth) ≤ length mem
  pub counts : t.counter + dbl (suc t.depth) (at_all binding_atoms bs row) ≤ counter_most
  pub longest : t.f ≤ most_longest

-- what is answered of them
pub record MakesBindings (old new : Bytes) (row starts : List ℕ) (t : Task) (r : Result Made Refusal) : Type 0 where
  pub frame : SameOutside old new (t.free - 2 * t.f) (length old)
  pub says : (bs : List Binding) → Each (AssignBinding t.f t.depth) bs → BindingStarts old starts bs
      → MakesRun (λ u. joined binding_bytes u.1) (λ u. length u.1 ≡ length row) t.f (map_growth * t.f) (at_all binding_size bs row) new (λ n. t.free - n)
      (rename_assign_bindings t.f (walk t.f t.depth) bs row [] []) t.counter 0 r

-- where the bindings of a let start, and its body
unfoldable pub Placed : Body → ℕ → ℕ → Type 0
Placed (BL k l w h bs b) first body = (first + length (bindings_bytes bs) ≡ body) × (body + length (body_bytes b) ≡ length (body_bytes (BL k l w h bs b)))
Placed (BQ s) first body = ⊥
Placed (BV s) first body = ⊥
Placed (BC l bs t) first body = ⊥
Placed (BM l f) first body = ⊥
Placed (BF l w ca c a b) first body = ⊥

-- how many numbers both rules draw for the body of a let at most
unfoldable pub body_draws : ℕ → Body → ℕ
body_draws d (BL k l w h bs b) = dbl d (atoms b) + dbl d (atoms b)
body_draws d (BQ s) = 0
body_draws d (BV s) = 0
body_draws d (BC l bs t) = 0
body_draws d (BM l f) = 0
body_draws d (BF l w ca c a b) = 0

-- its bindings
unfoldable pub let_bindings : Body → List Binding
let_bindings (BL k l w h bs b) = list_of bs
let_bindings (BQ s) = []
let_bindings (BV s) = []
let_bindings (BC l bs t) = []
let_bindings (BM l f) = []
let_bindings (BF l w ca c a b) = []

-- an assign whose bindings are made: its body by both rules
unfoldable pub turning : ℕ → Rules → NameMap → List Binding → Body → M Body
turning F q m us (BL k l w h bs b) = args_then_in F q m b >>= λ b'. ret (BL Assign l w h (to_bindings us) b')
turning F q m us (BQ s) = ret (BQ s)
turning F q m us (BV s) = ret (BV s)
turning F q m us (BC l bs t) = ret (BC l bs t)
turning F q m us (BM l f) = ret (BM l f)
turning F q m us (BF l w ca c a b) = ret (BF l w ca c a b)

-- an assign, and w bytes of made bindings that end 3 F behind free
pub record TurnedReady (mem : Bytes) (first body w sum : ℕ) (t : Task) : Type 0 where
  pub ready : Ready false body_bytes (Fine (IsLet Assign) t.f t.depth) (λ b. 3 * t.f + room t.f (t.depth - 1)) (body_draws (t.depth - 1)) mem t
  pub placed : Placed ready.tree first body
  pub wrote : first + w ≤ 2 * t.f
  pub held : sum ≤ t.f

-- what is answered of it
abbrev pub Turns : Bytes → Bytes → ℕ → ℕ → Task → Result Step Refusal → Type 0
Turns old new w sum t r =
    Tells body_bytes (Fine (IsLet Assign) t.f t.depth)
    (λ m b. (us : List Binding) → At old (t.free + 3 * t.f - w) (joined binding_bytes us) → w ≡ length (joined binding_bytes us) → length us ≡ count_of b
    → Gives body_bytes new t.free (length (body_bytes b)) (outcome (step t.f body_size (from_sum sum (turning t.f (walk t.f (t.depth - 1)) m us b)) t.counter 0)) r) old new t

-- an assign and its order
pub record OrderedReady (mem : Bytes) (o : Order) (t : Task) : Type 0 where
  pub ready : BodyReady (IsLet Assign) true mem t
  pub count : o.count ≡ length (let_bindings ready.tree)
  pub few : o.count ≤ binding_limit
  pub row : length o.row ≡ binding_limit
  pub order : toposort_assign_bindings (let_bindings ready.tree) ≡ ordered (take o.count o.row)
