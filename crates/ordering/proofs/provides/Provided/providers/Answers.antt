-- `ordering::provides::Provided::providers` meets its contract. The invariant: `bits` and `found` are what the entries from k on come to. Assumes nothing.
use borrow.Author.Rules.{rules}
use mathlib.Core.Bool.{true, false}
use mathlib.Core.Path.{sym, ◌∙◌}
use native.Mathlib.Omega.{arith}
use Prim.Native.Nat.{◌-◌}
use Rattle.ordering.proofs.Provided.{from_end, from_zero, zero_fits, from_name, from_start}
use Rattle.ordering.proofs.provides.Provided.providers.Goals as goal

pub loop-k-init : goal.loop-k-init
loop-k-init c = from_end _ _ _

pub overflow_mul-bits : goal.overflow_mul-bits
overflow_mul-bits c =
    omega (arith, zero_fits c.loop-k.invariant (search rules) c.if-e-eq0.true c.args.self.now.given.few)

pub overflow_add-bits : goal.overflow_add-bits
overflow_add-bits c =
    omega (arith, zero_fits c.loop-k.invariant (search rules) c.if-e-eq0.true c.args.self.now.given.few)

pub loop-k-preserved-then-e-eq0 : goal.loop-k-preserved-then-e-eq0
loop-k-preserved-then-e-eq0 c = from_zero c.loop-k.invariant (search rules) c.if-e-eq0.true

pub slice_bounds-same-count : goal.slice_bounds-same-count
slice_bounds-same-count c =
    omega (arith, (c.args.self.now.given.within (c.loop-k.k - 1) (search rules)).0)

pub slice_bounds-same-start : goal.slice_bounds-same-start
slice_bounds-same-start c =
    omega (arith, (c.args.self.now.given.within (c.loop-k.k - 1) (search rules)).0)

pub slice_bounds-same-end : goal.slice_bounds-same-end
slice_bounds-same-end c =
    omega (arith, (c.args.self.now.given.within (c.loop-k.k - 1) (search rules)).1)

pub loop-k-preserved-then-same : goal.loop-k-preserved-then-same
loop-k-preserved-then-same c =
    from_name c.loop-k.invariant (search rules) c.if-e-eq0.false true (sym c.if-same.true ∙ c.same.ensures)

pub loop-k-preserved : goal.loop-k-preserved
loop-k-preserved c =
    from_name c.loop-k.invariant (search rules) c.if-e-eq0.false false (sym c.if-same.false ∙ c.same.ensures)

pub returns : goal.returns
returns c = from_start c.loop-k.invariant (omega arith)
