-- `records::Scan::note` meets its contract. Assumes nothing.
use mathlib.Core.Path.{refl, ◌∙◌}
use Rattle.records.proofs.ContextLaws.{comes_note, noted_or, noted_not}
use Rattle.records.proofs.Scan.note.Goals as goal

pub returns-in_default : goal.returns-in_default
returns-in_default c = comes_note refl refl (noted_not _ _ _ c.in_default.not-InBinding)

pub returns-in-InBinding : goal.returns-in-InBinding
returns-in-InBinding c = comes_note refl refl (rw c.in-InBinding.is (c.or-self.ensures ∙ noted_or _ _))
