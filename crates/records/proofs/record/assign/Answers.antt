-- `records::record::assign` meets its contract. Assumes nothing.
use mathlib.Core.Path.{refl, ap, sym, ◌∙◌}
use Rattle.std.specs.Prelude.{Err}
use Rattle.names.specs.Names.{ascii}
use Rattle.records.proofs.Scans.{same_err, started}
use Rattle.records.proofs.Chains.{past, stop}
use Rattle.records.proofs.AssignLaws.{assign_unread, assign_unknown, assign_other, assign_there}
use Rattle.records.proofs.record.assign.Goals as goal

pub returns-in_err-past_mark : goal.returns-in_err-past_mark
returns-in_err-past_mark c = assign_unread (started refl c.in_err-past_mark.ensures.reads) c.from_residual.ensures.1

pub returns-then-not-is_word : goal.returns-then-not-is_word
unfolding ascii
returns-then-not-is_word c = assign_unknown (started refl c.in_ok-past_mark.ensures.reads) (sym c.is_word.ensures ∙ c.if-not-is_word.true) c.refused.ensures

pub returns-in_err-byte : goal.returns-in_err-byte
unfolding ascii
returns-in_err-byte c =
    assign_there (started refl c.in_ok-past_mark.ensures.reads) (sym c.is_word.ensures ∙ c.if-not-is_word.false) c.requires.room_value
    (stop c.in_err-byte.ensures.reads c.from_residual-in_err-byte.ensures.1)

pub returns-then-branch-ne2 : goal.returns-then-branch-ne2
unfolding ascii
returns-then-branch-ne2 c =
    assign_other (started refl c.in_ok-past_mark.ensures.reads) (sym c.is_word.ensures ∙ c.if-not-is_word.false) c.requires.room_value
    (past c.in_ok-byte.ensures.reads (rw c.in_ok-byte.ensures.byte at c.if-branch-ne2.true, ap Err c.refused-then-branch-ne2.ensures))

pub returns-in_err-let_after : goal.returns-in_err-let_after
unfolding ascii
returns-in_err-let_after c =
    rw (same_err c.from_residual-in_err-let_after.ensures.1)
    (assign_there (started refl c.in_ok-past_mark.ensures.reads) (sym c.is_word.ensures ∙ c.if-not-is_word.false) c.requires.room_value
    (past c.in_ok-byte.ensures.reads (rw c.in_ok-byte.ensures.byte at c.if-branch-ne2.false, rw c.down.ensures at c.in_err-let_after.ensures)))

pub returns : goal.returns
unfolding ascii
returns c =
    assign_there (started refl c.in_ok-past_mark.ensures.reads) (sym c.is_word.ensures ∙ c.if-not-is_word.false) c.requires.room_value
    (past c.in_ok-byte.ensures.reads (rw c.in_ok-byte.ensures.byte at c.if-branch-ne2.false, rw c.down.ensures at c.in_ok-let_after.ensures))
