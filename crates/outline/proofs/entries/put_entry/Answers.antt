-- `outline::entries::put_entry` meets its contract. Assumes nothing.
use mathlib.Core.Bool.{Bool, true, false}
use mathlib.Core.Path.{◌≡◌, refl}
use mir.Val.{bool_byte}
use Rattle.outline.specs.Index.{flag}
use Rattle.outline.proofs.EntryLaws.{entry_filled}
use Rattle.outline.proofs.entries.put_entry.Goals as goal

-- yes or no is written as a flag
byte_flag : (b : Bool) → bool_byte b ≡ flag b
unfolding flag
byte_flag false = refl
byte_flag true = refl

pub returns : goal.returns
returns c =
    rw (c.from.ensures, byte_flag c.args.e.around.inside)
    (entry_filled c.args.e c.requires.0 c.put_number.ensures c.put_number-2.ensures c.put_number-3.ensures)
