-- `crate::leaves::rename_value` meets its contract. Assumes nothing.
use Rattle.walk.proofs.LeafLaws.{asks_value, renames_value}
use Rattle.walk.proofs.leaves.rename_value.Goals as goal

pub rename_behind_mark-requires : goal.rename_behind_mark-requires
rename_behind_mark-requires c = asks_value c.requires

pub returns : goal.returns
returns c = renames_value c.rename_behind_mark.ensures
