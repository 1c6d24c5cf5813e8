-- `walk::scopes::put_head` meets its contract. Assumes nothing.
use Rattle.walk.proofs.LetHeads.{head_moves, pattern_moves, head_drawn, whole_moves, head_kept}
use Rattle.walk.proofs.scopes.put_head.Goals as goal

pub copy-requires : goal.copy-requires
copy-requires c = head_moves c.requires

pub copy-requires-then-owning : goal.copy-requires-then-owning
copy-requires-then-owning c = pattern_moves c.requires c.if-owning.true c.copy.ensures c.past_pattern.ensures

pub returns-then-owning : goal.returns-then-owning
returns-then-owning c = λ p. head_drawn p c.if-owning.true c.copy.ensures c.past_pattern.ensures c.copy-then-owning.ensures

pub copy-requires-2 : goal.copy-requires-2
copy-requires-2 c = whole_moves c.requires c.if-owning.false

pub returns : goal.returns
returns c = λ p. head_kept p c.if-owning.false c.copy-2.ensures
