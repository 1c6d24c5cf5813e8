-- `ordering::assign::binding_names` meets its contract. Assumes nothing.
use native.Mathlib.Omega.{arith}
use Rattle.ordering.proofs.Bound.{binding_listed}
use Rattle.ordering.proofs.assign.binding_names.Goals as goal

pub pattern_names-requires : goal.pattern_names-requires
pattern_names-requires c = (c.past_bytes-pattern.ensures.past.within, omega (arith, c.requires.1))

pub returns : goal.returns
returns c = binding_listed c.requires.0 c.past_head.ensures c.past_bytes-pattern.ensures.past c.push.ensures c.pattern_names.ensures
