-- `ordering::needs::body_needs`, and what it is made of, meet their contracts: the names of bodies and bindings. What falls is the length
-- of the bytes from a mark on, and in them the rank of the function. Assumes nothing.
use Prim.Native.Nat.{◌+◌, ◌*◌}
use lib.ListN.{length}
use Rattle.ordering.specs.Listing.{member_part, member_words}
use Rattle.ordering.proofs.Several.{ListsSoFar}
use Rattle.ordering.proofs.needs.+body_words.Given as goal

abbrev pub decreases-binding_needs : goal.decreases-binding_needs
decreases-binding_needs l = 5 * length l.s.now + 3

abbrev pub decreases-body_needs : goal.decreases-body_needs
decreases-body_needs l = 5 * length l.s.now + 4

abbrev pub decreases-call_needs : goal.decreases-call_needs
decreases-call_needs l = 5 * length l.s.now + 3

abbrev pub decreases-child : goal.decreases-child
decreases-child l = 5 * length l.s.now + 1

abbrev pub decreases-lambda_needs : goal.decreases-lambda_needs
decreases-lambda_needs l = 5 * length l.s.now + 3

abbrev pub decreases-let_needs : goal.decreases-let_needs
decreases-let_needs l = 5 * length l.s.now + 3

abbrev pub decreases-member_needs : goal.decreases-member_needs
decreases-member_needs l = 5 * length l.s.now + 5

abbrev pub decreases-times : goal.decreases-times
decreases-times l = 5 * length l.s.now + 2

abbrev pub invariant-times-loop : goal.invariant-times-loop
invariant-times-loop l = ListsSoFar (member_part l.binding) (member_words l.binding) l.given l.s l.initial.at l.count l.initial.needs l.counter l.needs l.at
