-- `replay_sexps::sexps::renames` meets its contract: the S record, its room and the map stand in what is lent of memory. Assumes nothing.
use mathlib.Core.Path.{sym, ◌∙◌}
use Rattle.std.proofs.Common.{rules}
use Rattle.std.proofs.lemmas.Bool.{both_ways}
use Rattle.replay_sexps.proofs.CaseLaws.{tells_renamed}
use Rattle.replay_sexps.proofs.sexps.renames.Goals as goal
use Rattle.replay_sexps.proofs.sexps.renames.Goals.{then-eq, else-eq}

pub returns-then-is_word : goal.returns-then-is_word
returns-then-is_word c e t m r =
    elim c.if-eq.branch [
      | then-eq w ↦ tells_renamed c.args.c _ r c.substitute-step.ensures (search rules) (sym c.if-is_word.true ∙ w.value-is ∙ w.is_word.ensures)
      | else-eq w ↦ absurd (both_ways _ w.if-eq.false (sym w.value-is ∙ c.if-is_word.true))
    ]
