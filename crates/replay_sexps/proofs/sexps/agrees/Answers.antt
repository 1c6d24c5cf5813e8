-- `replay_sexps::sexps::agrees` meets its contract: an input that is accepted is a form. Assumes nothing.
use mathlib.Core.Path.{◌≡◌}
use native.Mathlib.Omega.{arith}
use Prim.Native.Nat.{ℕ}
use Rattle.replay_sexps.proofs.CaseLaws.{taken, form_in}
use Rattle.replay_sexps.proofs.sexps.agrees.Goals as goal

pub finds-requires : goal.finds-requires
finds-requires c = let w = taken c.args.c.f _ _ _ (λ i. omega (arith, c.type_inv.input i)) c.in-Ok.ensures in record { taken = w.0; form_in = (w.1.0, form_in w.1.1 w.1.2) }

pub returns-in-Err : goal.returns-in-Err
returns-in-Err c e = let z : ◌≡◌ {A = ℕ} 0 1 = cc in absurd (omega arith)

pub returns-in-Ok : goal.returns-in-Ok
returns-in-Ok c e =
    let w = (taken c.args.c.f _ _ _ (λ i. omega (arith, c.type_inv.input i)) c.in-Ok.ensures).1 in
    record { form = w.0; valid = w.1; is = w.2; told = c.finds.ensures e w.0 (form_in w.1 w.2) }
