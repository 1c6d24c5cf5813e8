-- How a rule of the walk runs: it carries the counter and the sum of the lengths that its step holds, refuses with number and place, and lists
-- what happens on its way: the assigns that it comes to and the names that it makes. docs/FORMAT.md, 'The walk' and 'Sums'.
-- Assumes nothing.
use Rattle.std.specs.Prelude.{true, false, List, [], ◌∷◌, ◌++◌, ◌≡◌, ℕ, ◌+◌, ◌-◌, leb, length}
use Rattle.std.proofs.Math.Option.{Option}
use Rattle.names.specs.Names.{Bytes}
use Rattle.names.specs.Refusals.{placeless}
use Rattle.names.specs.declared.Reason.TheVariants.{LongRecord, ShortPage}
use Rattle.names.specs.declared.Refusal.{Refusal}
use Rattle.records.specs.Records.{Loc, Sexp, Body, Binding, Helper, Form, sexp_bytes, body_bytes, helper_bytes, form_bytes}

-- A reached assign: the fields of the BL given to `rename_args_bodyform`, the counter then, and the record given back if the use is finished.
pub record Visit : Type 0 where
  pub loc : Loc
  pub keyword : Bytes
  pub hint : Bytes
  pub bindings : List Binding
  pub body : Body
  pub counter : ℕ
  pub back : Option Body

-- an assign is reached; or a name is made: the old one, and the made one
pub data Event : Type 0 where
  reached : Visit → Event
  made : Bytes → Bytes → Event

-- What happened, in its sequence; then a value, the counter and the sum, or a refusal.
pub data Out (A : Type 0) : Type 0 where
  done : List Event → A → ℕ → ℕ → Out A
  refused : List Event → Refusal → Out A

-- the assigns reached
abbrev pub visits : List Event → List Visit
visits [] = []
visits (reached e ∷ log) = e ∷ visits log
visits (made n n' ∷ log) = visits log

-- the names made, each after its old one
abbrev pub names_made : List Event → List (Bytes × Bytes)
names_made [] = []
names_made (reached e ∷ log) = names_made log
names_made (made n n' ∷ log) = (n, n') ∷ names_made log

module _ {A : Type 0} where
  -- what happened in a run
  abbrev pub events : Out A → List Event
  events (done log a c x) = log
  events (refused log r) = log

  -- a run gives this value, counter and sum, whatever happened
  abbrev pub DoneWith : Out A → A → ℕ → ℕ → Type 0
  DoneWith o a c x = (log : List Event) × (o ≡ done log a c x)

  -- a run refuses so, whatever happened
  abbrev pub RefusedWith : Out A → Refusal → Type 0
  RefusedWith o r = (log : List Event) × (o ≡ refused log r)

-- a run from a counter and a sum
abbrev pub M : Type 0 → Type 0
M A = ℕ → ℕ → Out A

-- an outcome, after what happened before
unfoldable pub after : {A : Type 0} → List Event → Out A → Out A
after log (done log' a c x) = done (log ++ log') a c x
after log (refused log' r) = refused (log ++ log') r

-- one run, and then another from where it ended
module _ {A B : Type 0} where
  infixl 20 ◌>>=◌
  infixl 20 ◌>>◌
  unfoldable pub ◌>>=◌ : M A → (A → M B) → M B
  ◌>>=◌ m f c x = elim (m c x) [ done log a c' x' ↦ after log (f a c' x') | refused log r ↦ refused log r ]

  unfoldable pub ◌>>◌ : M A → M B → M B
  ◌>>◌ m k = m >>= λ a. k

module _ {A : Type 0} where
  -- a value
  unfoldable pub ret : A → M A
  ret a c x = done [] a c x

  -- a refusal
  unfoldable pub refuse : Refusal → M A
  refuse r c x = refused [] r

-- the refusal of a rule that no call meets: a record deeper than the fuel (proofs/Limits.antt). Its reason is one for which no walk refuses
unfoldable pub out_of_fuel : Refusal
out_of_fuel = placeless ShortPage

-- 7: a sum or a record that is longer than it may be
abbrev pub over_long : Refusal
over_long = placeless LongRecord

-- lengths in bytes
unfoldable pub sexp_size : Sexp → ℕ
sexp_size s = length (sexp_bytes s)

unfoldable pub body_size : Body → ℕ
body_size b = length (body_bytes b)

unfoldable pub helper_size : Helper → ℕ
helper_size h = length (helper_bytes h)

unfoldable pub form_size : Form → ℕ
form_size f = length (form_bytes f)

-- F: the longest record
module _ (F : ℕ) where
  -- a result of this length is added to the sum; 7 where the sum passes F
  unfoldable pub add_to_sum : ℕ → M (Unit {0})
  add_to_sum n c x = elim (leb (x + n) F) [ true ↦ done [] tt c (x + n) | false ↦ refused [] over_long ]

  -- a result of this length leaves the sum
  unfoldable pub take_from_sum : ℕ → M (Unit {0})
  take_from_sum n c x = done [] tt c (x - n)

  module _ {A : Type 0} (size : A → ℕ) where
    -- a finished record; 7 where it is longer than F
    unfoldable pub fits : A → ℕ → ℕ → Out A
    fits a c x = elim (leb (size a) F) [ true ↦ done [] a c x | false ↦ refused [] over_long ]

    -- A step, one use of a rule: its sum starts at 0, and its finished record is at most F long.
    unfoldable pub step : M A → M A
    step m c x = elim (m c 0) [ done log a c' x' ↦ after log (fits a c' x) | refused log r ↦ refused log r ]

    -- a child's result comes back
    unfoldable pub child : M A → M A
    child m = do
      a ← m
      add_to_sum (size a)
      ret a

    -- another rule takes the result `old` further: it leaves the sum before its replacement is added
    unfoldable pub further : A → (A → M A) → M A
    further old f = do
      a ← f old
      take_from_sum (size old)
      add_to_sum (size a)
      ret a

-- unfolds with every definition of this file
unfoldable pub computing_steps : Unit {0}
unfolding after ◌>>=◌ ◌>>◌ ret refuse out_of_fuel sexp_size body_size helper_size form_size add_to_sum take_from_sum fits step child further
computing_steps = tt
