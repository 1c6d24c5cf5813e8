-- Refusals: a reason and a place, from the reader to the calls, and the number of each. docs/FORMAT.md, 'Calls'.
-- Assumes nothing.
use Rattle.std.specs.Prelude.{ℕ, zero, suc, Option, None, Some}
pub use Rattle.names.specs.declared.Place.{Place}
pub use Rattle.names.specs.declared.Reason.{Reason}
pub use Rattle.names.specs.declared.Reason.TheVariants.{OutOfRange, NotOneRecord, PastLimit, ModInBinding, Deadlock, LongName, LongRecord, ShortBuffer, ShortPage}
pub use Rattle.names.specs.declared.Refusal.{Refusal}

-- the offset of a byte, or the number of a location
abbrev pub place_at : ℕ → Place
place_at p = record { start = p }

-- the place of a refusal that names none
abbrev pub no_place : Place
no_place = place_at 0

-- a refusal's reason and place
abbrev pub refusing : Reason → Place → Refusal
refusing r p = record { reason = r; place = p }

-- a refusal that names no place
abbrev pub placeless : Reason → Refusal
placeless r = refusing r no_place

-- the number of a reason
abbrev pub reason_number : Reason → ℕ
reason_number OutOfRange = 1
reason_number NotOneRecord = 2
reason_number PastLimit = 3
reason_number ModInBinding = 4
reason_number Deadlock = 5
reason_number LongName = 6
reason_number LongRecord = 7
reason_number ShortBuffer = 8
reason_number ShortPage = 9

-- the reason of a number, if one has it
abbrev pub reason_of : ℕ → Option Reason
reason_of zero = None
reason_of (suc zero) = Some OutOfRange
reason_of (suc (suc zero)) = Some NotOneRecord
reason_of (suc (suc (suc zero))) = Some PastLimit
reason_of (suc (suc (suc (suc zero)))) = Some ModInBinding
reason_of (suc (suc (suc (suc (suc zero))))) = Some Deadlock
reason_of (suc (suc (suc (suc (suc (suc zero)))))) = Some LongName
reason_of (suc (suc (suc (suc (suc (suc (suc zero))))))) = Some LongRecord
reason_of (suc (suc (suc (suc (suc (suc (suc (suc zero)))))))) = Some ShortBuffer
reason_of (suc (suc (suc (suc (suc (suc (suc (suc (suc zero))))))))) = Some ShortPage
reason_of (suc (suc (suc (suc (suc (suc (suc (suc (suc (suc n)))))))))) = None

-- the number and the place that are told of a refusal; 0 and 0 where nothing is refused
abbrev pub refusal_number : Option Refusal → ℕ
refusal_number None = 0
refusal_number (Some r) = reason_number r.reason

abbrev pub refusal_place : Option Refusal → Place
refusal_place None = no_place
refusal_place (Some r) = r.place
