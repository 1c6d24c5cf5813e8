-- What the code of the calls Whole form, Children only and Single helper shares: which record each call reads, by which walk, and what its pieces ask and answer.
-- Assumes nothing.
use Rattle.std.specs.Prelude.{true, ℕ, length}
use Rattle.names.specs.CallAnswer.{CallResult}
use Rattle.names.specs.Names.{Bytes}
use Rattle.records.specs.StepAnswer.{Gives}
use Rattle.records.specs.Limits.{level_limit}
use Rattle.records.specs.declared.Step.{Step}
use Rattle.records.specs.declared.Wanted.{Wanted}
use Rattle.records.specs.declared.Wanted.TheVariants.{Form as a_form, Helper as a_helper}
use Rattle.walk.specs.Arena.{outcome}
use Rattle.walk.specs.Calls.{whole_call, children_call, helper_call}
use Rattle.walk.specs.FormWalks.{TreeOf, tree_bytes, FineTree, TreeReady}
use Rattle.walk.specs.Helperforms.{whole_walk, children_walk, helper_walk}
use Rattle.walk.specs.Steps.{M}
use Rattle.walk.specs.Walking.{Tells}
use Rattle.walk.specs.declared.Request.{Request}
use Rattle.walk.specs.declared.Request.TheVariants.{WholeForm, ChildrenOnly, SingleHelper}
use Rattle.walk.specs.declared.Child.{Child}
use Rattle.walk.specs.declared.Child.TheVariants.{Helperform, Compileform}
use Rattle.walk.specs.declared.Task.{Task}
use Rattle.std.specs.declared.result.Result.{Result}
use Rattle.names.specs.declared.Refusal.{Refusal}

-- what a call answers
abbrev pub call_by : Request → ℕ → ℕ → ℕ → Bytes → Bytes → CallResult
call_by WholeForm = whole_call
call_by ChildrenOnly = children_call
call_by SingleHelper = helper_call

-- the record that a call reads
abbrev pub wanted_by : Request → Wanted
wanted_by WholeForm = a_form
wanted_by ChildrenOnly = a_form
wanted_by SingleHelper = a_helper

-- the kind of its tree
abbrev pub read_by : Request → Child
read_by WholeForm = Compileform
read_by ChildrenOnly = Compileform
read_by SingleHelper = Helperform

-- the walk of a call
abbrev pub walk_by : (k : Request) → ℕ → TreeOf (read_by k) → M (TreeOf (read_by k))
walk_by WholeForm = whole_walk
walk_by ChildrenOnly = children_walk
walk_by SingleHelper = helper_walk

-- its task: the record may nest as deep as the format allows, there is no map, and the result goes to free
abbrev pub call_task : ℕ → ℕ → ℕ → Task
call_task free F c = record { free = free; map = 0; f = F; depth = level_limit; counter = c }

-- what the walk asks of work memory
abbrev pub CallReady : Request → Bytes → Task → Type 0
CallReady k mem t = TreeReady (read_by k) true mem t

-- what is answered of it: the outcome of the walk, with the result at free
abbrev pub WalksCall : Request → Bytes → Bytes → Task → Result Step Refusal → Type 0
WalksCall k old new t r =
    Tells (tree_bytes (read_by k)) (FineTree (read_by k) t.f t.depth)
    (λ m u. Gives (tree_bytes (read_by k)) new t.free (length (tree_bytes (read_by k) u)) (outcome (walk_by k t.f u t.counter 0)) r) old new t
