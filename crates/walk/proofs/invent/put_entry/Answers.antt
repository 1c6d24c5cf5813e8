-- `crate::invent::put_entry` meets its contract. Assumes nothing.
use native.Mathlib.Omega.{arith}
use Prim.Native.Nat.{ℕ, ◌+◌, ◌-◌, ◌≤◌}
use lib.ListN.{length}
use Rattle.names.specs.Names.{Bytes, name_width}
use Rattle.names.proofs.Fields.{name_field_length}
use Rattle.names.proofs.Frames.{movable_up}
use Rattle.names.proofs.Parts.{part_length}
use Rattle.walk.specs.DrawnMaps.{between, EntryRoom}
use Rattle.walk.proofs.MapLaws.{entry_length, entry_written}
use Rattle.walk.proofs.invent.put_entry.Goals as goal

-- the entry's parts fit
fit : {mem : Bytes} {at start end : ℕ} {new : Bytes} → EntryRoom mem at start end new → at + name_width + (end - start) + (name_width + length new) ≤ length mem
fit {mem} {at} {start} {end} {new} r =
    let n = between mem start end in
    let l = part_length mem start (end - start) (omega (arith, r.forward, r.behind, r.fits)) in
    omega (arith, entry_length n new, r.fits)

pub put_number-requires : goal.put_number-requires
put_number-requires c = (omega (arith, fit c.requires), omega (arith, c.requires.short))

pub copy-requires : goal.copy-requires
copy-requires c = movable_up (omega (arith, c.requires.forward, c.requires.behind)) (omega (arith, fit c.requires))

pub put_name-requires : goal.put_name-requires
put_name-requires c = (c.requires.new_short, omega (arith, fit c.requires, name_field_length c.args.new.now))

pub returns : goal.returns
returns c = entry_written c.args.old.start c.args.old.end c.args.new.now c.requires c.put_number.ensures c.copy.ensures c.put_name.ensures
