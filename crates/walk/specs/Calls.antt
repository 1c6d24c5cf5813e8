-- The calls Whole form, Children only and Single helper. docs/FORMAT.md, 'Calls'.
-- Assumes nothing.
use Rattle.std.specs.Prelude.{List, [], ℕ}
use Rattle.names.specs.CallAnswer.{computing_answers, CallResult, refused_answer, delivered}
use Rattle.names.specs.Names.{computing_names, Bytes}
use Rattle.names.specs.Maps.{computing_maps}
use Rattle.records.specs.Limits.{level_limit}
use Rattle.records.specs.Opened.{computing_opened, opened, closed, open_input}
use Rattle.records.specs.Read.{computing_read, readers}
use Rattle.records.specs.ReadFields.{Reader}
use Rattle.records.specs.Sexps.{computing_sexps}
use Rattle.records.specs.Records.{computing_records, Helper, Form, form_bytes, helper_bytes}
use Rattle.ordering.specs.Rounds.{computing_rounds}
use Rattle.ordering.specs.Toposort.{computing_toposort}
use Rattle.ordering.specs.OrderCall.{computing_order_call}
use Rattle.ordering.specs.Words.{computing_words}
use Rattle.walk.specs.RenameInCons.{computing_rename_in_cons}
use Rattle.walk.specs.Bodyforms.{computing_bodyforms}
use Rattle.walk.specs.Invent.{computing_invent}
use Rattle.walk.specs.Patterns.{computing_patterns}
use Rattle.walk.specs.Helperforms.{computing_helperforms, whole_walk, children_walk, helper_walk}
use Rattle.walk.specs.Steps.{computing_steps, M, Out, done, refused, Visit, visits, events}

-- Whole form, Children only and Single helper are one call, at three readers and walks. Its run: a refusal before the walk, with nothing on its way,
-- or the walk's run from the counter given.
unfoldable pub call_run : {A : Type 0} → Reader A → (ℕ → A → M A) → ℕ → ℕ → ℕ → Bytes → Out A
call_run reader walk_of F work c input = elim (open_input reader F work c input) [ closed r ↦ refused [] r | opened a ↦ walk_of F a c 0 ]

-- the run of Whole form (`rename_args_compileform`)
unfoldable pub whole_run : ℕ → ℕ → ℕ → Bytes → Out Form
whole_run = call_run (readers level_limit).form whole_walk

-- of Children only (`rename_children_compileform`)
unfoldable pub children_run : ℕ → ℕ → ℕ → Bytes → Out Form
children_run = call_run (readers level_limit).form children_walk

-- of Single helper (`rename_args_helperform`)
unfoldable pub helper_run : ℕ → ℕ → ℕ → Bytes → Out Helper
helper_run = call_run (readers level_limit).helper helper_walk

-- the answer to a run from the counter c: its result as bytes, or 8 where these do not fit the buffer, or its refusal
unfoldable pub answered : {A : Type 0} → (A → Bytes) → ℕ → Bytes → Out A → CallResult
answered bytes c buffer (done log r c' x) = delivered c buffer (bytes r) c'
answered bytes c buffer (refused log r) = refused_answer c buffer r

-- what each call answers
unfoldable pub whole_call : ℕ → ℕ → ℕ → Bytes → Bytes → CallResult
whole_call F work c input buffer = answered form_bytes c buffer (whole_run F work c input)

unfoldable pub children_call : ℕ → ℕ → ℕ → Bytes → Bytes → CallResult
children_call F work c input buffer = answered form_bytes c buffer (children_run F work c input)

unfoldable pub helper_call : ℕ → ℕ → ℕ → Bytes → Bytes → CallResult
helper_call F work c input buffer = answered helper_bytes c buffer (helper_run F work c input)

-- the assigns that each reaches, in their sequence
unfoldable pub whole_visits : ℕ → ℕ → ℕ → Bytes → List Visit
whole_visits F work c input = visits (events (whole_run F work c input))

unfoldable pub children_visits : ℕ → ℕ → ℕ → Bytes → List Visit
children_visits F work c input = visits (events (children_run F work c input))

unfoldable pub helper_visits : ℕ → ℕ → ℕ → Bytes → List Visit
helper_visits F work c input = visits (events (helper_run F work c input))

-- unfolds with every definition of the calls and of what they cite
unfoldable pub computing_all : Unit {0}
unfolding computing_names computing_maps computing_answers computing_records computing_sexps computing_read computing_opened computing_rounds computing_toposort computing_words computing_order_call computing_rename_in_cons computing_steps computing_invent computing_patterns computing_bodyforms computing_helperforms call_run whole_run children_run helper_run answered whole_call children_call helper_call whole_visits children_visits helper_visits
computing_all = tt
