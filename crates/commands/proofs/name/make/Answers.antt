-- `commands::name::make` is safe and ends: what is printed of the result was written. Assumes nothing.
use mathlib.Core.Path.{sym}
use lib.Seq.{length-take-le}
use Rattle.names.proofs.CallAnswers.{answer_len}
use Rattle.commands.proofs.name.make.Goals as goal

pub slice_bounds-made-end : goal.slice_bounds-made-end
slice_bounds-made-end g c = answer_len _ _ _ c.name_call-answer.ensures

pub slice_bounds-name-end : goal.slice_bounds-name-end
slice_bounds-name-end g c = sym (length-take-le _ _ (answer_len _ _ _ c.name_call-answer.ensures))
