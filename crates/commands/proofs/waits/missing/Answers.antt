-- `commands::waits::missing` meets its contract: entries say places in s. Assumes nothing.
use native.Mathlib.Omega.{arith}
use Rattle.commands.proofs.Given.{given_take}
use Rattle.commands.proofs.Waiting.{missing_not, missing_first}
use Rattle.commands.proofs.waits.missing.Goals as goal

pub slice_bounds-name-count : goal.slice_bounds-name-count
slice_bounds-name-count c = (c.args.given.now.given.within c.args.k c.requires).0

pub slice_bounds-name-start : goal.slice_bounds-name-start
slice_bounds-name-start c = (c.args.given.now.given.within c.args.k c.requires).0

pub slice_bounds-name-end : goal.slice_bounds-name-end
slice_bounds-name-end c = (c.args.given.now.given.within c.args.k c.requires).1

pub invariant_of-before : goal.invariant_of-before
invariant_of-before c = record { given = given_take c.args.k (omega arith) c.args.given.now.given }

pub returns-then-bits-stuck : goal.returns-then-bits-stuck
returns-then-bits-stuck c = missing_first c.providers-bits.ensures c.if-bits-stuck.true c.providers.ensures

pub returns-else-bits-stuck : goal.returns-else-bits-stuck
returns-else-bits-stuck c = missing_not c.providers-bits.ensures c.if-bits-stuck.false
