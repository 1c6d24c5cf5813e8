-- A result buffer that holds wanted bytes. Assumes nothing.
use mathlib.Core.Bool.{Bool, false}
use mathlib.Core.List.{◌++◌}
use mathlib.Core.Path.{◌≡◌, refl, sym, ap, ◌∙◌}
use native.Mathlib.Omega.{arith}
use Prim.Native.Nat.{◌-◌}
use lib.ListN.{length, drop, length-append}
use lib.Seq.{drop_at}
use Rattle.std.proofs.lemmas.List.{drop-replicate}
use Rattle.names.specs.CallAnswer.{written}
use Rattle.names.specs.Names.{Bytes}
use Rattle.replays.proofs.Deciding.{decides_as, decides_no}
use Rattle.replays.specs.Judging.{Decides, filling}

-- memory that does not begin with the wanted bytes
pub holds_not : (mem wanted : Bytes) → ((rest : Bytes) → mem ≡ wanted ++ rest → ⊥) → Decides false (mem ≡ written wanted (filling (length mem)))
unfolding written
holds_not mem wanted h = decides_no (h _)

-- and memory that does: what a test of the rest decides
pub holds_rest : (mem wanted rest : Bytes) {t : Bool} → mem ≡ wanted ++ rest → Decides t (rest ≡ filling (length rest)) → Decides t (mem ≡ written wanted (filling (length mem)))
unfolding written
holds_rest mem wanted rest e d =
    let n : length mem - length wanted ≡ length rest = omega (arith, simp length-append at (ap length e)) in
    let behind : drop (length wanted) (filling (length mem)) ≡ filling (length rest) = drop-replicate (length wanted) (length mem) 7 ∙ ap filling n in
    decides_as
    (λ h. e ∙ ap (λ (l : Bytes). wanted ++ l) (h ∙ sym behind))
    (λ h. sym (drop_at wanted rest _ refl) ∙ ap (drop (length wanted)) (sym e ∙ h) ∙ drop_at wanted _ _ refl ∙ behind)
    d
