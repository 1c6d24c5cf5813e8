-- An H record that is kept: its room, and what is answered of it. Assumes nothing.
use mathlib.Core.Bool.{Bool}
use mathlib.Core.Path.{refl}
use native.Mathlib.Omega.{arith}
use Prim.Native.Nat.{ℕ, ◌+◌, ◌-◌, ◌≤◌}
use lib.ListN.{length}
use Rattle.names.specs.Names.{Bytes}
use Rattle.names.proofs.Frames.{same_wider}
use Rattle.records.specs.Parts.{Skips, family_part}
use Rattle.records.specs.Records.{helper_bytes}
use Rattle.records.specs.Valid.{ValidHelper}
use Rattle.records.specs.declared.Family.TheVariants.{Helper}
use Rattle.records.specs.declared.Step.{Step}
use Rattle.walk.specs.Arena.{Says, fitting, KeepsBytes}
use Rattle.walk.specs.FormWalks.{TreeReady, KeepsHelper}
use Rattle.walk.specs.declared.Child.TheVariants.{Helperform}
use Rattle.walk.specs.declared.Task.{Task}
use Rattle.walk.proofs.Results.{least_room}
use Rattle.walk.proofs.Substitutes.{trees_kept}
use Rattle.walk.proofs.TreeLaws.{tree_level}
use Rattle.std.specs.declared.result.Result.{Result}
use Rattle.names.specs.declared.Refusal.{Refusal}

module _ {owning : Bool} {mem : Bytes} {t : Task} (p : TreeReady Helperform owning mem t) where
  -- a result has its room
  pub helper_room : t.free + t.f + t.map ≤ length mem
  helper_room = omega (arith, p.room, least_room t.f t.depth (tree_level Helperform t.f t.depth p.tree p.good))

  -- what is kept is what fits
  pub keeps_helper : {new : Bytes} {n : ℕ} {r : Result Step Refusal} → Skips (family_part Helper) mem n → KeepsBytes mem new n t r → KeepsHelper mem new t r
  keeps_helper {new} {n} {r} s k =
      let q : Says helper_bytes ValidHelper helper_bytes (λ m a. fitting helper_bytes t.f t.counter a) mem new t r = trees_kept helper_bytes (λ m a. a) k (λ m a there v. (s.skips a v there, refl)) in
      record {
        frame = same_wider t.free (length mem - t.map) (omega arith) (omega (arith, helper_room)) q.frame;
        says = λ m map a there below good. q.says m map a there below good.valid;
      }
