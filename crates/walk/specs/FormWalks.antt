-- What the rules on H records and CF ask of memory and what they answer. Each of these records is a head, perhaps args, and a rest: a B record, a CF, a count and
-- so many H records, or these and a B record.
-- Assumes nothing.
use Rattle.std.specs.Prelude.{Bool, true, false, [], ◌∷◌, ◌++◌, ◌≡◌, ℕ, ◌+◌, ◌-◌, ◌≤◌, ◌<◌, length, take}
use Rattle.names.specs.Maps.{NameMap}
use Rattle.names.specs.Names.{Bytes}
use Rattle.names.specs.Segments.{At}
use Rattle.names.specs.declared.Refusal.{Refusal}
use Rattle.records.specs.StepAnswer.{Gives}
use Rattle.records.specs.Depth.{helper_depth, form_depth}
use Rattle.records.specs.Records.{Sexp, sexp_bytes, Body, body_bytes, Helper, helper_bytes, Helpers, []ʰ, ◌∷ʰ◌, helpers_bytes, helpers_count, Form, form_bytes}
use Rattle.records.specs.Valid.{ValidCount, ValidSexp, ValidHelper, ValidForm, HelperNoMod, FormNoMod}
use Rattle.records.specs.declared.Step.{Step}
use Rattle.records.specs.declared.Zone.{Zone}
use Rattle.walk.specs.Arena.{outcome, fitting}
use Rattle.walk.specs.Bodyforms.{walk}
use Rattle.walk.specs.Draws.{sexp_atoms, atoms, helper_atoms, helpers_atoms, form_atoms, dbl}
use Rattle.walk.specs.Helperforms.{each_helper, further_helpers, form_walk, rename_children_compileform}
use Rattle.walk.specs.Invent.{invent_new_names_sexp, rename_in_cons_step}
use Rattle.walk.specs.Room.{room}
use Rattle.walk.specs.Steps.{M, DoneWith, RefusedWith, ◌>>=◌, ret, over_long, sexp_size, body_size, helper_size, form_size, step, child, further}
use Rattle.walk.specs.Walking.{rule, AnyBody, Fine, Ready, Tells}
use Rattle.walk.specs.declared.Child.{Child}
use Rattle.walk.specs.declared.Child.TheVariants.{Bodyform, Helperform, Compileform}
use Rattle.walk.specs.declared.Piece.{Piece}
use Rattle.walk.specs.declared.Rest.{Rest}
use Rattle.walk.specs.declared.Rest.TheVariants.{OneBody, OneForm, Listed, Parts}
use Rattle.walk.specs.declared.Task.{Task}
use Rattle.walk.specs.declared.Way.{Way}
use Rattle.walk.specs.declared.Way.TheVariants.{Own, In, Further}
use Rattle.std.specs.declared.result.Result.{Result}
use Rattle.std.specs.declared.result.Result.TheVariants.{Err}
use Rattle.walk.specs.RuleAnswers.{piece_of}

-- the trees of a kind of child
abbrev pub TreeOf : Child → Type 0
TreeOf Bodyform = Body
TreeOf Helperform = Helper
TreeOf Compileform = Form

-- their bytes
abbrev pub tree_bytes : (k : Child) → TreeOf k → Bytes
tree_bytes Bodyform = body_bytes
tree_bytes Helperform = helper_bytes
tree_bytes Compileform = form_bytes

-- how long these are
abbrev pub tree_size : (k : Child) → TreeOf k → ℕ
tree_size Bodyform = body_size
tree_size Helperform = helper_size
tree_size Compileform = form_size

-- their atoms
abbrev pub tree_atoms : (k : Child) → TreeOf k → ℕ
tree_atoms Bodyform = atoms
tree_atoms Helperform = helper_atoms
tree_atoms Compileform = form_atoms

-- an H record or a CF that a step takes: within the format, without a BM where its zone has none, at most d levels deep and F bytes long
pub record FineOf {A : Type 0} (Valid : A → Type 0) (Clear : Zone → A → Type 0) (levels : A → ℕ) (bytes : A → Bytes) (F d : ℕ) (a : A) : Type 0 where
  pub valid : Valid a
  pub zone : Zone
  pub clear : Clear zone a
  pub deep : levels a ≤ d
  pub short : length (bytes a) ≤ F

abbrev pub FineHelper : ℕ → ℕ → Helper → Type 0
FineHelper = FineOf ValidHelper HelperNoMod helper_depth helper_bytes

abbrev pub FineForm : ℕ → ℕ → Form → Type 0
FineForm = FineOf ValidForm FormNoMod form_depth form_bytes

-- a child that a step takes
abbrev pub FineTree : (k : Child) → ℕ → ℕ → TreeOf k → Type 0
FineTree Bodyform = Fine AnyBody
FineTree Helperform = FineHelper
FineTree Compileform = FineForm

-- the args-rule or the in-rule of a child, on records of at most d levels
abbrev pub tree_rule : ℕ → (k : Child) → Bool → ℕ → NameMap → TreeOf k → M (TreeOf k)
tree_rule F Bodyform owning d m = rule F owning d m
tree_rule F Helperform true d m = (form_walk F d).args_helperform
tree_rule F Helperform false d m = (form_walk F d).in_helperform m
tree_rule F Compileform true d m = (form_walk F d).args_compileform
tree_rule F Compileform false d m = (form_walk F d).in_compileform m

-- what one use of a rule asks of memory and of the counter
abbrev pub TreeReady : Child → Bool → Bytes → Task → Type 0
TreeReady k owning mem t = Ready owning (tree_bytes k) (FineTree k t.f t.depth) (λ u. room t.f t.depth) (λ u. dbl t.depth (tree_atoms k u)) mem t

-- what is answered of it: the outcome of the rule, with the result at free
abbrev pub WalksTree : Child → Bool → Bytes → Bytes → Task → Result Step Refusal → Type 0
WalksTree k owning old new t r =
    Tells (tree_bytes k) (FineTree k t.f t.depth)
    (λ m u. Gives (tree_bytes k) new t.free (length (tree_bytes k u)) (outcome (tree_rule t.f k owning t.depth m u t.counter 0)) r) old new t

-- what is answered of an H record that is kept
abbrev pub KeepsHelper : Bytes → Bytes → Task → Result Step Refusal → Type 0
KeepsHelper old new t r =
    Tells helper_bytes (FineHelper t.f t.depth)
    (λ m u. Gives helper_bytes new t.free (length (helper_bytes u)) (fitting helper_bytes t.f t.counter u) r) old new t

-- what is answered of a CF whose helpers and body go by the args-rules and whose args stay as they are
abbrev pub WalksChildren : Bytes → Bytes → Task → Result Step Refusal → Type 0
WalksChildren old new t r =
    Tells form_bytes (FineForm t.f t.depth)
    (λ m u. Gives form_bytes new t.free (length (form_bytes u)) (outcome (step t.f form_size (rename_children_compileform t.f (walk t.f (t.depth - 1)) (form_walk t.f (t.depth - 1)) u) t.counter 0)) r) old new t

-- whether a way goes by the args-rules
abbrev pub by_args : Way → Bool
by_args Own = true
by_args In = false
by_args Further = false

-- a child by the rules of a way
abbrev pub child_by : ℕ → (k : Child) → Way → ℕ → NameMap → TreeOf k → M (TreeOf k)
child_by F k Own d m u = child F (tree_size k) (tree_rule F k true d m u)
child_by F k In d m u = child F (tree_size k) (tree_rule F k false d m u)
child_by F k Further d m u = further F (tree_size k) u (tree_rule F k false d m)

-- helpers by the rules of a way
abbrev pub helpers_by : ℕ → Way → ℕ → NameMap → Helpers → M Helpers
helpers_by F Own d m = each_helper F (form_walk F d).args_helperform
helpers_by F In d m = each_helper F ((form_walk F d).in_helperform m)
helpers_by F Further d m = further_helpers F ((form_walk F d).in_helperform m)

-- What a piece of a rule answers whose run starts from the counter c and the sum x and reads n bytes: `came`, what the run gives, at free, with the counter and
-- the sum then; `stayed`, its refusal.
pub data ComesOut {A : Type 0} (bytes : A → Bytes) (F : ℕ) (new : Bytes) (free n : ℕ) (run : M A) (c x : ℕ) (r : Result Piece Refusal) : Type 0 where
  came : (u : A) (c' x' : ℕ) → DoneWith (run c x) u c' x' → x' ≤ F → r ≡ piece_of n (length (bytes u)) x' c' → At new free (bytes u) → ComesOut bytes F new free n run c x r
  stayed : (q : Refusal) → RefusedWith (run c x) q → r ≡ Err q → ComesOut bytes F new free n run c x r

-- the sum with a new result of so many bytes; one that is replaced leaves it first
abbrev pub new_sum : Way → ℕ → ℕ → ℕ → ℕ
new_sum Own sum read written = sum + written
new_sum In sum read written = sum + written
new_sum Further sum read written = sum - read + written

-- what is replaced is in the sum, and the numbers are small
pub record Sumable (way : Way) (sum read written : ℕ) : Type 0 where
  pub taken : way ≡ Further → read ≤ sum
  pub small : sum + written < 4294967296

-- a result that is added: the new sum, or 7
pub record AddsResult (way : Way) (sum read written f c : ℕ) (r : Result Piece Refusal) : Type 0 where
  pub fits : new_sum way sum read written ≤ f → r ≡ piece_of read written (new_sum way sum read written) c
  pub long : f < new_sum way sum read written → r ≡ Err over_long

-- what a child asks beside results of `sum` bytes, among them the one that is replaced
pub record ChildReady (k : Child) (way : Way) (mem : Bytes) (sum : ℕ) (t : Task) : Type 0 where
  pub ready : TreeReady k (by_args way) mem t
  pub held : sum ≤ t.f
  pub taken : way ≡ Further → length (tree_bytes k ready.tree) ≤ sum

-- what is answered of it
abbrev pub WalksChild : Child → Way → Bytes → Bytes → ℕ → Task → Result Piece Refusal → Type 0
WalksChild k way old new sum t r =
    Tells (tree_bytes k) (FineTree k t.f t.depth)
    (λ m u. ComesOut (tree_bytes k) t.f new t.free (length (tree_bytes k u)) (child_by t.f k way t.depth m u) t.counter sum r) old new t

-- fine helpers
unfoldable pub EachFineHelper : ℕ → ℕ → Helpers → Type 0
EachFineHelper F d []ʰ = Unit {0}
EachFineHelper F d (h ∷ʰ hs) = FineHelper F d h × EachFineHelper F d hs

-- so many fine helpers
pub record FineHelpers (F d count : ℕ) (hs : Helpers) : Type 0 where
  pub each : EachFineHelper F d hs
  pub many : helpers_count hs ≡ count

-- what is needed from free on, up to the map: the results so far and the room of one more
unfoldable pub helpers_room : ℕ → ℕ → Helpers → ℕ
helpers_room F d []ʰ = 0
helpers_room F d (h ∷ʰ hs) = F + room F d

-- what helpers ask beside results of `sum` bytes
pub record HelpersReady (way : Way) (mem : Bytes) (count sum : ℕ) (t : Task) : Type 0 where
  pub ready : Ready (by_args way) helpers_bytes (FineHelpers t.f t.depth count) (helpers_room t.f t.depth) (λ hs. dbl t.depth (helpers_atoms hs)) mem t
  pub held : sum ≤ t.f
  pub taken : way ≡ Further → length (helpers_bytes ready.tree) ≤ sum

-- what is answered of them
abbrev pub WalksHelpers : Way → Bytes → Bytes → ℕ → ℕ → Task → Result Piece Refusal → Type 0
WalksHelpers way old new count sum t r =
    Tells helpers_bytes (FineHelpers t.f t.depth count)
    (λ m hs. ComesOut helpers_bytes t.f new t.free (length (helpers_bytes hs)) (helpers_by t.f way t.depth m hs) t.counter sum r) old new t

-- the trees of a rest
abbrev pub RestOf : Rest → Type 0
RestOf OneBody = Body
RestOf OneForm = Form
RestOf Listed = Helpers
RestOf Parts = Helpers × Body

-- a count and so many helpers
abbrev pub listed_bytes : Helpers → Bytes
listed_bytes hs = helpers_count hs ∷ helpers_bytes hs

-- the bytes of a rest
abbrev pub rest_bytes : (k : Rest) → RestOf k → Bytes
rest_bytes OneBody b = body_bytes b
rest_bytes OneForm f = form_bytes f
rest_bytes Listed hs = listed_bytes hs
rest_bytes Parts p = listed_bytes p.0 ++ body_bytes p.1

-- how many bytes its records have, without a count
abbrev pub rest_records : (k : Rest) → RestOf k → ℕ
rest_records OneBody b = length (body_bytes b)
rest_records OneForm f = length (form_bytes f)
rest_records Listed hs = length (helpers_bytes hs)
rest_records Parts p = length (helpers_bytes p.0) + length (body_bytes p.1)

-- its atoms
abbrev pub rest_atoms : (k : Rest) → RestOf k → ℕ
rest_atoms OneBody b = atoms b
rest_atoms OneForm f = form_atoms f
rest_atoms Listed hs = helpers_atoms hs
rest_atoms Parts p = helpers_atoms p.0 + atoms p.1

-- as many helpers as the format allows, each fine
pub record FineListed (F d : ℕ) (hs : Helpers) : Type 0 where
  pub each : EachFineHelper F d hs
  pub many : ValidCount (helpers_count hs)

-- a rest whose records are fine
abbrev pub FineRest : (k : Rest) → ℕ → ℕ → RestOf k → Type 0
FineRest OneBody F d b = Fine AnyBody F d b
FineRest OneForm F d f = FineForm F d f
FineRest Listed F d hs = FineListed F d hs
FineRest Parts F d p = FineListed F d p.0 × Fine AnyBody F d p.1

-- a rest by the rules of a way
abbrev pub rest_by : ℕ → (k : Rest) → Way → ℕ → NameMap → RestOf k → M (RestOf k)
rest_by F OneBody way d m b = child_by F Bodyform way d m b
rest_by F OneForm way d m f = child_by F Compileform way d m f
rest_by F Listed way d m hs = helpers_by F way d m hs
rest_by F Parts way d m p = helpers_by F way d m p.0 >>= λ hs. child_by F Bodyform way d m p.1 >>= λ b. ret (hs, b)

-- what a rest needs from free on, up to the map
abbrev pub rest_room : (k : Rest) → ℕ → ℕ → RestOf k → ℕ
rest_room OneBody F d b = room F d
rest_room OneForm F d f = room F d
rest_room Listed F d hs = 1 + helpers_room F d hs
rest_room Parts F d p = 1 + F + room F d

-- what a rest asks beside results of `sum` bytes
pub record RestReady (k : Rest) (way : Way) (mem : Bytes) (sum : ℕ) (t : Task) : Type 0 where
  pub ready : Ready (by_args way) (rest_bytes k) (FineRest k t.f t.depth) (rest_room k t.f t.depth) (λ r. dbl t.depth (rest_atoms k r)) mem t
  pub held : sum ≤ t.f
  pub taken : way ≡ Further → rest_records k ready.tree ≤ sum

-- what is answered of it
abbrev pub WalksRest : Rest → Way → Bytes → Bytes → ℕ → Task → Result Piece Refusal → Type 0
WalksRest k way old new sum t r =
    Tells (rest_bytes k) (FineRest k t.f t.depth)
    (λ m u. ComesOut (rest_bytes k) t.f new t.free (length (rest_bytes k u)) (rest_by t.f k way t.depth m u) t.counter sum r) old new t

-- a rest by the args-rules, and then that by the in-rules
abbrev pub both_by : ℕ → (k : Rest) → ℕ → NameMap → RestOf k → M (RestOf k)
both_by F k d m r = rest_by F k Own d m r >>= λ r'. rest_by F k Further d m r'

-- what both ask beside results of `sum` bytes: room for a result more than one of them needs at most
pub record BothRestReady (k : Rest) (mem : Bytes) (sum : ℕ) (t : Task) : Type 0 where
  pub ready : Ready false (rest_bytes k) (FineRest k t.f t.depth) (λ r. 1 + t.f + (1 + t.f + room t.f t.depth))
      (λ r. dbl t.depth (rest_atoms k r) + dbl t.depth (rest_atoms k r)) mem t
  pub held : sum ≤ t.f

-- what is answered of it
abbrev pub WalksBothRest : Rest → Bytes → Bytes → ℕ → Task → Result Piece Refusal → Type 0
WalksBothRest k old new sum t r =
    Tells (rest_bytes k) (FineRest k t.f t.depth)
    (λ m u. ComesOut (rest_bytes k) t.f new t.free (length (rest_bytes k u)) (both_by t.f k t.depth m u) t.counter sum r) old new t

-- a head, and a rest
abbrev pub headed : (k : Rest) → Bytes → RestOf k → Bytes
headed k head r = head ++ rest_bytes k r

-- a rest one level down, with a head before it
pub record FineAfter (k : Rest) (head : Bytes) (F d : ℕ) (r : RestOf k) : Type 0 where
  pub fine : FineRest k F (d - 1) r
  pub level : 1 ≤ d
  pub short : length (headed k head r) ≤ F

-- what a record asks that is kept up to a place, with a rest by a way that replaces nothing
pub record AfterReady (k : Rest) (way : Way) (mem : Bytes) (at : ℕ) (t : Task) : Type 0 where
  pub fresh : way ≡ Further → ⊥
  pub within : at ≤ length mem
  pub ready : Ready (by_args way) (headed k (take at mem)) (FineAfter k (take at mem) t.f t.depth) (λ r. room t.f t.depth) (λ r. dbl (t.depth - 1) (rest_atoms k r)) mem t

-- what is answered of it
abbrev pub WalksAfter : Rest → Way → Bytes → Bytes → ℕ → Task → Result Step Refusal → Type 0
WalksAfter k way old new at t r =
    Tells (headed k (take at old)) (FineAfter k (take at old) t.f t.depth)
    (λ m u.
    Gives (headed k (take at old)) new t.free (length (headed k (take at old) u))
    (outcome (step t.f (λ v. length (headed k (take at old) v)) (rest_by t.f k way (t.depth - 1) m u) t.counter 0)) r) old new t

-- a head, args, and a rest
abbrev pub with_args : (k : Rest) → Bytes → Sexp × RestOf k → Bytes
with_args k head p = head ++ (sexp_bytes p.0 ++ rest_bytes k p.1)

-- args and a rest one level down, with a head before them
pub record FineRenewed (k : Rest) (head : Bytes) (F d : ℕ) (p : Sexp × RestOf k) : Type 0 where
  pub args : ValidSexp p.0
  pub fine : FineRest k F (d - 1) p.1
  pub levels : 2 ≤ d
  pub short : length (with_args k head p) ≤ F

-- new names for args, and by them both rules for the rest
abbrev pub renewed_by : ℕ → (k : Rest) → ℕ → Sexp × RestOf k → M (Sexp × RestOf k)
renewed_by F k d p =
    invent_new_names_sexp [] p.0 >>= λ m. child F sexp_size (rename_in_cons_step F true m p.0) >>= λ a. both_by F k d m p.1 >>= λ r. ret (a, r)

-- what a record asks whose args stand at a place
pub record RenewedReady (k : Rest) (mem : Bytes) (args : ℕ) (t : Task) : Type 0 where
  pub within : args ≤ length mem
  pub ready : Ready true (with_args k (take args mem)) (FineRenewed k (take args mem) t.f t.depth) (λ p. room t.f t.depth)
      (λ p. sexp_atoms p.0 + (dbl (t.depth - 1) (rest_atoms k p.1) + dbl (t.depth - 1) (rest_atoms k p.1))) mem t

-- what is answered of it
abbrev pub WalksRenewed : Rest → Bytes → Bytes → ℕ → Task → Result Step Refusal → Type 0
WalksRenewed k old new args t r =
    Tells (with_args k (take args old)) (FineRenewed k (take args old) t.f t.depth)
    (λ m p.
    Gives (with_args k (take args old)) new t.free (length (with_args k (take args old) p))
    (outcome (step t.f (λ v. length (with_args k (take args old) v)) (renewed_by t.f k (t.depth - 1) p) t.counter 0)) r) old new t
