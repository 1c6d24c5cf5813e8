-- `replays::holds` meets its contract. Assumes nothing.
use Rattle.std.proofs.Common.{Some, None}
use Rattle.std.proofs.lemmas.Bool.Decides.{Decides-eqb}
use Rattle.std.proofs.lemmas.Slice.Eq.{strip_prefix_is}
use Rattle.replays.proofs.Holding.{holds_not, holds_rest}
use Rattle.replays.proofs.holds.Goals as goal

pub returns-in-Some : goal.returns-in-Some
returns-in-Some c =
    let s = c.args in
    holds_rest s.buffer.now s.wanted.now _ (strip_prefix_is Decides-eqb s.buffer.now s.wanted.now (Some c.in-Some.rest) c.in-Some.ensures.cases) c.untouched.ensures

pub returns-in-None : goal.returns-in-None
returns-in-None c =
    let s = c.args in
    holds_not s.buffer.now s.wanted.now (strip_prefix_is Decides-eqb s.buffer.now s.wanted.now None c.in-None.ensures.cases)
