-- `crate::substitute::requote` meets its contract. Assumes nothing.
use native.Mathlib.Omega.{arith}
use Prim.Native.Nat.{ℕ}
use Rattle.names.specs.Names.{Bytes, ascii}
use Rattle.names.proofs.Frames.{movable_up}
use Rattle.records.specs.Records.{sexp_bytes}
use Rattle.records.specs.Valid.{SexpFields}
use Rattle.walk.specs.Arena.{Asks}
use Rattle.walk.specs.Plans.{Plans, substitution}
use Rattle.walk.specs.declared.Plan.TheVariants.{Requoted}
use Rattle.walk.specs.declared.Quasi.{Quasi}
use Rattle.walk.specs.declared.Task.{Task}
use Rattle.walk.proofs.QuoteLaws.{Seen, seen, measured, requote_long, requote_done}
use Rattle.walk.proofs.substitute.requote.Goals as goal

-- v, where the plan says
here : (q : Quasi) {mem : Bytes} {t : Task} {at end : ℕ} (x : Plans (substitution q) mem (Requoted at end)) (p : Asks sexp_bytes SexpFields mem t) → Seen (substitution q) x p.tree
here q x p = seen (substitution q) x p.tree p.good p.there

pub overflow_add-loc : goal.overflow_add-loc
overflow_add-loc c = let k = here c.args.quasi c.requires.plans c.requires.asks in omega (arith, k.within, c.requires.asks.below, c.well_formed)

pub slice_bounds-skip_sexp-count : goal.slice_bounds-skip_sexp-count
slice_bounds-skip_sexp-count c = let k = here c.args.quasi c.requires.plans c.requires.asks in omega (arith, k.there.fits)

pub slice_bounds-skip_sexp-start : goal.slice_bounds-skip_sexp-start
slice_bounds-skip_sexp-start c = let k = here c.args.quasi c.requires.plans c.requires.asks in omega (arith, k.there.fits)

pub overflow_add-last-2 : goal.overflow_add-last-2
overflow_add-last-2 c =
    let k = here c.args.quasi c.requires.plans c.requires.asks in
    omega (arith, measured (substitution c.args.quasi) c.requires.plans c.skip_sexp.ensures k, k.there.fits, c.well_formed)

pub returns-then-task-last : goal.returns-then-task-last
returns-then-task-last c = requote_long (substitution c.args.quasi) c.requires.plans c.skip_sexp.ensures (cc) c.if-task-last.true

pub copy-requires : goal.copy-requires
copy-requires c =
    let k = here c.args.quasi c.requires.plans c.requires.asks in
    let n = measured (substitution c.args.quasi) c.requires.plans c.skip_sexp.ensures k in
    movable_up (omega (arith, n, k.within, c.requires.asks.below)) (omega (arith, c.if-task-last.false, c.requires.asks.room))

pub copy-requires-2 : goal.copy-requires-2
copy-requires-2 c =
    let k = here c.args.quasi c.requires.plans c.requires.asks in
    movable_up (omega (arith, k.behind, k.within, c.requires.asks.below)) (omega (arith, k.behind, c.if-task-last.false, c.requires.asks.room, c.copy.ensures.frame.size))

pub copy-requires-3 : goal.copy-requires-3
copy-requires-3 c =
    let k = here c.args.quasi c.requires.plans c.requires.asks in
    let l = c.copy.ensures.frame.size in
    let m = c.copy-2.ensures.frame.size in
    movable_up (omega (arith, k.behind, k.within, c.requires.asks.below)) (omega (arith, c.if-task-last.false, c.requires.asks.room, l, m, c.put.ensures.frame.size))

pub returns : goal.returns
unfolding ascii
returns c =
    requote_done (substitution c.args.quasi) c.requires.plans c.skip_sexp.ensures c.requires.asks c.if-task-last.false c.copy.ensures c.copy-2.ensures c.put.ensures
    c.copy-3.ensures
