-- `commands::counter::parse` meets its contract.
-- Assumes nothing.
use mathlib.Core.Path.{sym, ◌∙◌}
use native.Mathlib.Omega.{arith}
use Prim.Native.Nat.{◌+◌, ◌-◌, ◌*◌}
use lib.ListN.{get_or}
use Rattle.commands.proofs.Counters.{counter_empty, counter_end, counter_high, counter_large, counter_long, counter_low, counter_more, counter_start}
use Rattle.commands.proofs.counter.parse.Goals as goal

pub returns-then-text-eq0 : goal.returns-then-text-eq0
returns-then-text-eq0 c = sym (counter_empty _ c.if-text-eq0.true)

pub returns-then-text-gt20 : goal.returns-then-text-gt20
returns-then-text-gt20 c = sym (counter_long _ c.if-text-gt20.true)

pub loop-byte-init : goal.loop-byte-init
loop-byte-init c = (omega arith, counter_start c.args.text.now (omega arith) (omega arith))

pub returns-then-d-lt48 : goal.returns-then-d-lt48
returns-then-d-lt48 c =
    let l = c.loop-byte in
    sym (l.invariant.1 ∙ counter_low _ l.n l.byte-index (omega arith) c.if-d-lt48.true)

pub returns-then-d-gt57 : goal.returns-then-d-gt57
returns-then-d-gt57 c =
    let l = c.loop-byte in
    sym (l.invariant.1 ∙ counter_high _ l.n l.byte-index (omega arith) c.if-d-lt48.false c.if-d-gt57.true)

pub returns-then-n-digit : goal.returns-then-n-digit
returns-then-n-digit c =
    let l = c.loop-byte in
    sym (
    l.invariant.1
    ∙ counter_more _ l.n l.byte-index (omega arith) c.if-d-lt48.false c.if-d-gt57.false
    ∙ counter_large c.args.text.now (10 * l.n + (get_or c.args.text.now l.byte-index 0 - 48)) (l.byte-index + 1) (omega arith)
    )

pub loop-byte-preserved : goal.loop-byte-preserved
loop-byte-preserved c =
    let l = c.loop-byte in
    (omega arith, rw c.from-digit.ensures (l.invariant.1 ∙ counter_more _ l.n l.byte-index (omega arith) c.if-d-lt48.false c.if-d-gt57.false))

pub returns : goal.returns
returns c =
    let l = c.loop-byte in
    sym (l.invariant.1 ∙ counter_end _ l.n l.byte-index l.invariant.0 (omega arith))
