-- The words of each refusal, and the place that is shown with them. Assumes nothing.
use Rattle.std.specs.Prelude.{Bool, true, false, Option, Some, None}
use Rattle.names.specs.Names.{Bytes, ascii}
use Rattle.names.specs.declared.Reason.{Reason}
use Rattle.names.specs.declared.Reason.TheVariants.{OutOfRange, NotOneRecord, PastLimit, ModInBinding, Deadlock, LongName, LongRecord, ShortBuffer, ShortPage}
use Rattle.commands.specs.declared.refusal.Shown.{Shown}
use Rattle.commands.specs.declared.refusal.Shown.TheVariants.{Offset, Location}

-- what is out of its range: the counter where that is above its limit, else F
abbrev pub range_text : Bool → Bytes
range_text true = ascii "the counter is above 4294967295"
range_text false = ascii "F is not from 64 to 16384"

-- which limit is passed: F where the input is longer
abbrev pub limit_text : Bool → Bytes
limit_text true = ascii "the input is longer than F"
limit_text false = ascii "a limit of the format is passed"

-- the words of a reason as they are shown
abbrev pub refusal_text : Reason → Bool → Bool → Bytes
refusal_text OutOfRange above long = range_text above
refusal_text NotOneRecord above long = ascii "the input is not exactly one record of the kind asked for"
refusal_text PastLimit above long = limit_text long
refusal_text ModInBinding above long = ascii "a binding body of an assign has a BM in it"
refusal_text Deadlock above long = ascii "the bindings of the assign have no order"
refusal_text LongName above long = ascii "a made name would be longer than 255 bytes"
refusal_text LongRecord above long = ascii "a record would be longer than F"
refusal_text ShortBuffer above long = ascii "the result buffer is too short"
refusal_text ShortPage above long = ascii "the result buffer is too short"

-- the place of a passed limit: none where the input is longer than F
abbrev pub limit_shown : Bool → Option Shown
limit_shown true = None
limit_shown false = Some Offset

-- the place of 2, 3 in reading and 4 is an offset, that of 5 a location; the others have none
abbrev pub refusal_shown : Reason → Bool → Option Shown
refusal_shown OutOfRange long = None
refusal_shown NotOneRecord long = Some Offset
refusal_shown PastLimit long = limit_shown long
refusal_shown ModInBinding long = Some Offset
refusal_shown Deadlock long = Some Location
refusal_shown LongName long = None
refusal_shown LongRecord long = None
refusal_shown ShortBuffer long = None
refusal_shown ShortPage long = None
