-- `crate::leaves::rename_quoted` meets its contract. Assumes nothing.
use Rattle.walk.proofs.LeafLaws.{asks_quoted, renames_quoted}
use Rattle.walk.proofs.leaves.rename_quoted.Goals as goal

pub rename_behind_mark-requires : goal.rename_behind_mark-requires
rename_behind_mark-requires c = asks_quoted c.requires

pub returns : goal.returns
returns c = renames_quoted c.rename_behind_mark.ensures
