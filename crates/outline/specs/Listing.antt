-- What the functions that list the fields of a record say.
-- Assumes nothing.
use Rattle.std.specs.Prelude.{◌≡◌, ℕ, get_or}
use Rattle.records.specs.Parts.{Past, fixed_part}
use Rattle.outline.specs.declared.Counted.{Counted}
use Rattle.outline.specs.declared.index.Listing.{Listing}
use Rattle.outline.specs.Outline.{Pieces}
use Rattle.outline.specs.Shape.{counted_to, IndexesOn}

-- what is listed
abbrev pub so_far : Listing → Counted
so_far l = counted_to l.count l.end

-- the same record is listed, in the same work memory
pub record SameRecord (l l' : Listing) : Type 0 where
  pub bytes : l'.bytes ≡ l.bytes
  pub mem : l'.mem.ghost_name ≡ l.mem.ghost_name
  pub around : l'.around ≡ l.around

-- what stands in the record where l ends, if it is P, is listed too in l'
pub record Lists (P : Pieces → Type 0) (l l' : Listing) : Type 0 where
  pub same : SameRecord l l'
  pub indexes : IndexesOn P l.bytes.now l.mem.now l'.mem.now l.around (so_far l) (so_far l')

-- the byte where l ends is r, and l' ends behind it; nothing more is listed
pub record NextByte (l l' : Listing) (r : ℕ) : Type 0 where
  pub same : SameRecord l l'
  pub mem : l'.mem.now ≡ l.mem.now
  pub count : l'.count ≡ l.count
  pub byte : r ≡ get_or l.bytes.now l.end 0
  pub past : Past (fixed_part 1) l.bytes.now l.end l'.end
