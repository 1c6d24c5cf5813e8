-- What an answer of the call Order means, said without the algorithm, the reader and the call's definition.
-- Assumes nothing.
use Rattle.std.specs.Prelude.{◌≢◌, ◌≡◌, ◌≤◌, length, take}
use Rattle.names.specs.CallAnswer.{CallResult}
use Rattle.names.specs.Names.{Bytes}
use Rattle.names.specs.Refusals.{place_at, refusal_number, refusal_place}
use Rattle.records.specs.Records.{loc_number, Body, body_bytes}
use Rattle.records.specs.Valid.{ValidAssign}
use Rattle.ordering.specs.Lawful.{Full, NoOrder}
use Rattle.ordering.specs.OrderCall.{bindings_of, let_loc}
use Rattle.ordering.specs.Rounds.{rounds}
use Rattle.ordering.specs.Words.{items}

-- the input is the bytes of the valid assign a
pub record IsAssign (input : Bytes) (a : Body) : Type 0 where
  pub valid : ValidAssign a
  pub is : input ≡ body_bytes a

-- the bytes that a call wrote
abbrev pub bytes_written : CallResult → Bytes
bytes_written r = take r.0.len r.1

-- what an answer to an input means, as far as the numbers 0 and 5 go; the sequence of the stuck ones is free
pub record OrderMeans (input : Bytes) (r : CallResult) : Type 0 where
  -- the length is that of bytes of the result buffer
  pub within : r.0.len ≤ length r.1
  -- with 0 the input is an assign, the bytes written are a full lawful order of its bindings, and the rounds are the nonempty ones
  pub order : refusal_number r.0.refusal ≡ 0 → (a : Body) × IsAssign input a × Full (items (bindings_of a)) (bytes_written r)
      × (r.0.rounds ≡ rounds (items (bindings_of a)))
  -- with 5 it is one that has none: a byte is written for each stuck binding, once, and for no other, and the place is its L
  pub stuck : refusal_number r.0.refusal ≡ 5 → (a : Body) × IsAssign input a × NoOrder (items (bindings_of a)) (bytes_written r)
      × (refusal_place r.0.refusal ≡ place_at (loc_number (let_loc a)))
  -- a refusal carries no rounds
  pub none : refusal_number r.0.refusal ≢ 0 → r.0.rounds ≡ 0
