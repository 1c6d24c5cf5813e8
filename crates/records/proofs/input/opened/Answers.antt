-- `records::input::opened` meets its contract: each of the refusals, in their order, by one law of whole inputs. Assumes nothing.
use mathlib.Core.Path.{ap, sym, ◌∙◌}
use native.Mathlib.Omega.{arith}
use Rattle.names.specs.Refusals.{refusing}
use Rattle.names.specs.declared.Reason.TheVariants.{NotOneRecord}
use Rattle.records.proofs.Opened.{within_limits}
use Rattle.records.proofs.InputLaws.{exact_wanted, open_limits, open_long, open_refused, open_left, open_read}
use Rattle.records.proofs.input.opened.Goals as goal

pub returns-then-not-within : goal.returns-then-not-within
returns-then-not-within c = open_limits _ _ _ _ _ c.if-not-within.ensures c.placeless.ensures

pub returns-then-input-f : goal.returns-then-input-f
returns-then-input-f c = open_long _ _ _ _ _ c.if-not-within.ensures c.if-input-f.true c.placeless-then-input-f.ensures

pub read_from_first-requires : goal.read_from_first-requires
read_from_first-requires c = omega (arith, (within_limits _ _ _ (sym c.if-not-within.ensures)).0)

pub returns-in_err-r : goal.returns-in_err-r
returns-in_err-r c = open_refused _ _ _ _ _ c.if-not-within.ensures c.if-input-f.false c.in_err-r.ensures c.from_residual.ensures.1

pub returns-then-r-input : goal.returns-then-r-input
returns-then-r-input c = open_left _ _ _ _ _ c.if-not-within.ensures c.if-input-f.false (exact_wanted c.args.wanted) c.in_ok-r.ensures c.if-r-input.true (c.refusing.ensures ∙ ap (refusing NotOneRecord) c.place_at.ensures)

pub returns : goal.returns
returns c = open_read _ _ _ _ _ c.if-not-within.ensures c.if-input-f.false (exact_wanted c.args.wanted) c.in_ok-r.ensures c.if-r-input.false
