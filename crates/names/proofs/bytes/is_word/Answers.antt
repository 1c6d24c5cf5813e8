-- `names::bytes::is_word` meets its contract. Assumes nothing.
use mathlib.Core.Path.{sym, ◌∙◌}
use native.Mathlib.Omega.{arith}
use borrow.Author.Tests.{ne_eqb}
use lib.ListN.{length, drop, length-drop}
use Rattle.names.proofs.Same.{same_few}
use Rattle.names.proofs.bytes.is_word.Goals as goal

pub returns-then-s-n : goal.returns-then-s-n
returns-then-s-n c =
    let a = c.args in
    let few = same_few (drop a.at a.s.now) a.word.now (λ lt. omega (arith, length-drop a.at a.s.now)) in
    sym (few ∙ ne_eqb (length a.word.now) 0 (λ e. omega arith))

pub returns-then-s-n-2 : goal.returns-then-s-n-2
returns-then-s-n-2 c =
    let a = c.args in
    sym (same_few (drop a.at a.s.now) a.word.now (λ lt. omega (arith, length-drop a.at a.s.now)))
