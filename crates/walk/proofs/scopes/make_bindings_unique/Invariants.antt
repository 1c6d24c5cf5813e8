-- `crate::scopes::make_bindings_unique` meets its contract. The invariant: as many bindings as turns, which `l.counter` counts, have their new patterns and their map. Assumes nothing.
use Rattle.walk.proofs.ManyPatterns.{Drawing}
use Rattle.walk.proofs.scopes.make_bindings_unique.Given as goal

abbrev pub invariant-loop : goal.invariant-loop
invariant-loop l = Drawing l.initial.mem l.mem l.first l.count l.aside l.t l.at l.to l.sum l.map l.counter-2 l.counter
