-- `ordering::needs::capture_needs` meets its contract. Assumes nothing.
use mathlib.Core.Path.{sym, ◌∙◌}
use Rattle.names.specs.Names.{ascii}
use Rattle.names.proofs.Parts.{into}
use Rattle.ordering.proofs.Bodies.{captured_none, captured_some}
use Rattle.ordering.proofs.EntryLaws.{room_same, room_then}
use Rattle.ordering.proofs.NeedLaws.{names_none, names_then}
use Rattle.ordering.proofs.needs.capture_needs.Goals as goal

pub returns-then-truthy : goal.returns-then-truthy
unfolding ascii
returns-then-truthy c =
    record {
      room = room_then c.word.ensures.room c.child_sexp.ensures.room;
      lists_captured = λ t w k. rw (captured_some t (sym (c.truthy.ensures t w (into k)) ∙ c.if-truthy.true)) (names_then c.word.ensures (c.child_sexp.ensures.lists t w k));
    }

pub returns-else-truthy : goal.returns-else-truthy
returns-else-truthy c =
    record { room = room_same; lists_captured = λ t w k. rw (captured_none t (sym (c.truthy.ensures t w (into k)) ∙ c.if-truthy.false)) names_none }
