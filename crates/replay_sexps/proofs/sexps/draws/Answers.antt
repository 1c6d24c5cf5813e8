-- `replay_sexps::sexps::draws` meets its contract: the input stands at the front of memory, and Invent leaves a map at its end. Assumes nothing.
use mathlib.Core.Path.{sym, ◌∙◌}
use Rattle.std.proofs.Common.{rules}
use Rattle.std.proofs.lemmas.Bool.{both_ways}
use native.Mathlib.Omega.{arith}
use Rattle.replay_sexps.proofs.CaseLaws.{drawable, ready, tells_drawn, tells_refused}
use Rattle.replay_sexps.proofs.sexps.draws.Goals as goal
use Rattle.replay_sexps.proofs.sexps.draws.Goals.{then-eq-2, else-eq-2, then-same_draw, else-same_draw}

pub invent_new_names_sexp-requires : goal.invent_new_names_sexp-requires
invent_new_names_sexp-requires c =
    let r = c.requires in
    drawable c.args.c r.taken r.sexps_in.2 (omega arith) c.load.ensures

pub renames-requires : goal.renames-requires
renames-requires c =
    let r = c.requires in
    let w = ready c.args.c r.taken r.sexps_in.2 (omega arith) c.load.ensures c.in-Ok.ensures in
    (r.sexps_in.1, w.0, w.1)

pub returns-then-eq : goal.returns-then-eq
returns-then-eq c e p t h =
    tells_refused c.args.c c.requires.taken h (omega arith) c.load.ensures _ _ c.in-Err.ensures (search rules)

pub returns-then-holds : goal.returns-then-holds
returns-then-holds c e p t h =
    elim c.if-same_draw.branch [
      | then-same_draw w ↦ elim c.if-eq-2.branch [
        | then-eq-2 v ↦
            tells_drawn c.args.c c.requires.taken h (omega arith) c.load.ensures _ _ c.in-Ok.ensures (search rules)
            (v.same_draw.ensures.only (sym v.value-is ∙ w.if-same_draw.true))
            (w.holds.ensures.only (sym w.value-is ∙ c.if-holds.true))
            (c.renames.ensures e)
        | else-eq-2 v ↦ absurd (both_ways _ v.if-eq-2.false (sym v.value-is ∙ w.if-same_draw.true))
      ]
      | else-same_draw w ↦ absurd (both_ways _ w.if-same_draw.false (sym w.value-is ∙ c.if-holds.true))
    ]
