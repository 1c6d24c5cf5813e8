-- `crate::leaves::keep_body` meets its contract. Assumes nothing.
use mathlib.Core.Path.{refl}
use Rattle.records.specs.Records.{body_bytes}
use Rattle.walk.proofs.Substitutes.{trees_kept}
use Rattle.walk.proofs.leaves.keep_body.Goals as goal

pub returns : goal.returns
returns c = trees_kept body_bytes (λ m b. b) c.keep.ensures (λ m b there v. (c.skip-n.ensures.skips b v there, refl))
