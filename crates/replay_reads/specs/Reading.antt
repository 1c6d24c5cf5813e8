-- When the reader answers a case as it must. Assumes nothing.
use Rattle.std.specs.Prelude.{◌≡◌, ℕ, zero, suc, ◌*◌, Some, Result}
use Rattle.names.specs.Names.{Bytes}
use Rattle.names.specs.declared.Refusal.{Refusal}
use Rattle.records.specs.declared.Wanted.{Wanted}
use Rattle.records.specs.declared.Wanted.TheVariants.{Form, Helper, Assign}
use Rattle.records.specs.Limits.{most_longest, work_factor}
use Rattle.records.specs.Opened.{open_input}
use Rattle.records.specs.Scan.{wanted_reader, opening_of}
use Rattle.replays.specs.Judging.{head_byte, head_field}
use Rattle.replays.specs.Told.{told}

-- the record that a case's kind asks for
abbrev pub wanted_of : ℕ → Wanted
wanted_of zero = Form
wanted_of (suc zero) = Helper
wanted_of (suc (suc n)) = Assign

-- what the reader answers to a case: the record, F and input, with work memory for every F and the counter 0
abbrev pub reading : Wanted → ℕ → Bytes → Result (Unit {0}) Refusal
reading wanted f input = opening_of (open_input (wanted_reader wanted).1 f (work_factor * most_longest) 0 input)

-- A case agrees: its head is kind, number, F and place, 1, 1, 2 and 2 bytes.
pub record ReadAgrees (head input : Bytes) : Type 0 where
  pub answer : Some (reading (wanted_of (head_byte head 0)) (head_field head 2 2) input) ≡ told (head_byte head 1) (head_field head 4 2)
