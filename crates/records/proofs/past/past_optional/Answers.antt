-- `crate::past::past_optional` meets its contract. Assumes nothing.
use native.Mathlib.Omega.{arith}
use Rattle.records.proofs.FieldEnds.{optional_short, optional_long}
use Rattle.records.proofs.past.past_optional.Goals as goal

pub returns-then-byte_at-least : goal.returns-then-byte_at-least
returns-then-byte_at-least c = optional_short c.byte_at.ensures c.past_bytes-next.ensures.past c.if-byte_at-least.true

pub returns : goal.returns
returns c = optional_long c.byte_at.ensures c.past_bytes-next.ensures.past (omega arith) c.past_bytes.ensures.past
