-- How many records the input of a call has. Assumes nothing.
use Rattle.std.specs.Prelude.{◌≡◌, ℕ}
use Rattle.names.specs.Names.{Bytes}
use Rattle.records.specs.declared.Family.{Family}
use Rattle.records.specs.Parts.{family_part}
use Rattle.outline.specs.Outline.{outline_records, family_outline}

-- r is the number of records of every valid tree, of whatever family, whose bytes s is
pub record RecordsIn (s : Bytes) (r : ℕ) : Type 0 where
  pub counts : (f : Family) (t : (family_part f).0) → (family_part f).2 t → s ≡ (family_part f).1 t → r ≡ outline_records (family_outline f t)
