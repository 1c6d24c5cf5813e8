-- The call Order.
-- Assumes nothing.
use Rattle.std.specs.Prelude.{true, false, List, [], ℕ, leb, length, Some}
use Rattle.names.specs.CallAnswer.{CallResult, written, refused_answer, accepted_answer}
use Rattle.names.specs.Names.{Bytes}
use Rattle.names.specs.Refusals.{place_at, refusing, placeless}
use Rattle.names.specs.declared.Reason.TheVariants.{Deadlock, ShortBuffer}
use Rattle.names.specs.declared.Place.{Place}
use Rattle.records.specs.Records.{Loc, loc_number, Body, BL, BQ, BV, BC, BM, BF, Binding, list_of}
use Rattle.records.specs.Read.{assign_of}
use Rattle.records.specs.Opened.{opened, closed, open_input}
use Rattle.ordering.specs.Toposort.{ordered, deadlock}
use Rattle.ordering.specs.Rounds.{rounds}
use Rattle.ordering.specs.Words.{items, toposort_assign_bindings}

-- a let's bindings
unfoldable pub bindings_of : Body → List Binding
bindings_of (BL k l w h bs b) = list_of bs
bindings_of (BQ s) = []
bindings_of (BV s) = []
bindings_of (BC l bs t) = []
bindings_of (BM l f) = []
bindings_of (BF l w ca c a b) = []

-- a let's L
unfoldable pub let_loc : Body → Loc
let_loc (BL k l w h bs b) = l
let_loc (BQ s) = []
let_loc (BV s) = []
let_loc (BC l bs t) = []
let_loc (BM l f) = []
let_loc (BF l w ca c a b) = []

-- the indices of the stuck bindings, in the sequence in which `toposort` leaves them; a deadlock carries no rounds
unfoldable pub stuck_answer : ℕ → Place → Bytes → Bytes → CallResult
stuck_answer c p buffer is = (record { refusal = Some (refusing Deadlock p); counter = c; rounds = 0; len = length is }, written is buffer)

-- the indices in order, and the number of rounds
unfoldable pub order_answer : ℕ → Bytes → ℕ → Bytes → CallResult
order_answer c buffer count is = (accepted_answer c count (length is), written is buffer)

-- an assign that is read: 8 where the buffer is shorter than the binding count; then its order, or 5
unfoldable pub order_of : ℕ → Bytes → Body → CallResult
order_of c buffer a =
    elim (leb (length (bindings_of a)) (length buffer)) [
      | false ↦ refused_answer c buffer (placeless ShortBuffer)
      | true ↦ elim (toposort_assign_bindings (bindings_of a)) [
        | deadlock is ↦ stuck_answer c (place_at (loc_number (let_loc a))) buffer is
        | ordered is ↦ order_answer c buffer (rounds (items (bindings_of a))) is
      ]
    ]

-- the call Order: the refusals before any work, then the order
unfoldable pub order_call : ℕ → ℕ → ℕ → Bytes → Bytes → CallResult
order_call F work c input buffer =
    elim (open_input assign_of F work c input) [ closed r ↦ refused_answer c buffer r | opened a ↦ order_of c buffer a ]

-- unfolds with every definition of this file
unfoldable pub computing_order_call : Unit {0}
unfolding bindings_of let_loc stuck_answer order_answer order_of order_call
computing_order_call = tt
