-- `records::input::within` meets its contract. Assumes nothing.
use Rattle.records.proofs.InputLaws.{limits_least, limits_most, limits_work, limits_counter}
use Rattle.records.proofs.input.within.Goals as goal

pub returns-then-f-lt-LEAST_LONGEST : goal.returns-then-f-lt-LEAST_LONGEST
returns-then-f-lt-LEAST_LONGEST c = limits_least _ _ _ c.if-f-lt-LEAST_LONGEST.true

pub returns-then-f-gt-MOST_LONGEST : goal.returns-then-f-gt-MOST_LONGEST
returns-then-f-gt-MOST_LONGEST c = limits_most _ _ _ c.if-f-gt-MOST_LONGEST.true

pub returns-then-work-f : goal.returns-then-work-f
returns-then-work-f c = limits_work _ _ _ c.if-work-f.true

pub returns : goal.returns
returns c = limits_counter _ _ _ c.if-f-lt-LEAST_LONGEST.false c.if-f-gt-MOST_LONGEST.false c.if-work-f.false
