-- `replay_sexps::sexps::holds` meets its contract: a test that fails, and all tests but the last that hold. Assumes nothing.
use mathlib.Core.Path.{sym, ◌∙◌}
use native.Mathlib.Omega.{arith}
use Rattle.std.proofs.lemmas.Bool.{both_ways, leb-true}
use Rattle.replays.proofs.Deciding.{decides_no, fails_not}
use Rattle.replay_sexps.proofs.Comparing.{decides_at, decides_held}
use Rattle.replay_sexps.proofs.sexps.holds.Goals as goal
use Rattle.replay_sexps.proofs.sexps.holds.Goals.{then-from-top, else-from-top, then-is_word, else-is_word}

pub returns-else-is_word-2 : goal.returns-else-is_word-2
returns-else-is_word-2 c =
    let s = c.args in
    let top = c.in-Some.ensures in
    rw c.if-is_word-2.false (
    elim c.if-is_word.branch [
      | then-is_word w ↦ decides_no (λ h. fails_not (sym w.value-is ∙ c.if-is_word-2.false) (decides_at s.mem.now c.in-Some.top s.map.now (omega arith) w.is_word-then-is_word.ensures) (rw top.1 h.end))
      | else-is_word w ↦ elim c.if-from-top.branch [
        | then-from-top v ↦ decides_no (λ h. fails_not (sym v.value-is ∙ w.if-is_word.false) (decides_at s.mem.now 0 s.input.now (omega arith) v.is_word.ensures) h.front)
        | else-from-top v ↦ decides_no (λ h. omega (arith, top, h.fits))
      ]
    ]
    )

pub returns-then-is_word-2 : goal.returns-then-is_word-2
returns-then-is_word-2 c =
    let s = c.args in
    let top = c.in-Some.ensures in
    elim c.if-is_word.branch [
      | then-is_word w ↦ elim c.if-from-top.branch [
        | then-from-top v ↦
            decides_held s.mem.now s.input.now s.map.now s.from c.in-Some.top top.0 top.1 (omega arith)
            ((decides_at s.mem.now 0 s.input.now (omega arith) v.is_word.ensures).only (sym v.value-is ∙ w.if-is_word.true))
            ((decides_at s.mem.now c.in-Some.top s.map.now (omega arith) w.is_word-then-is_word.ensures).only (sym w.value-is ∙ c.if-is_word-2.true))
            c.untouched.ensures
        | else-from-top v ↦ absurd (omega (arith, leb-true _ _ (sym v.value-is ∙ w.if-is_word.true)))
      ]
      | else-is_word w ↦ absurd (both_ways _ w.if-is_word.false (sym w.value-is ∙ c.if-is_word-2.true))
    ]
