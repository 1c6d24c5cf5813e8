-- A rest, where its kind is known. Assumes nothing.
use mathlib.Core.Path.{◌≡◌, sym, subst}
use Prim.Native.Nat.{ℕ}
use Rattle.names.specs.Names.{Bytes}
use Rattle.walk.specs.FormWalks.{ChildReady, RestReady, WalksRest}
use Rattle.walk.specs.declared.Child.TheVariants.{Bodyform, Compileform}
use Rattle.walk.specs.declared.Piece.{Piece}
use Rattle.walk.specs.declared.Rest.{Rest}
use Rattle.walk.specs.declared.Rest.TheVariants.{OneBody, OneForm}
use Rattle.walk.specs.declared.Task.{Task}
use Rattle.walk.specs.declared.Way.{Way}
use Rattle.std.specs.declared.result.Result.{Result}
use Rattle.names.specs.declared.Refusal.{Refusal}

module _ {k : Rest} {way : Way} {old : Bytes} {sum : ℕ} {t : Task} where
  -- what is asked of it
  pub rest_as : (j : Rest) → k ≡ j → RestReady k way old sum t → RestReady j way old sum t
  rest_as j e p = subst (λ (i : Rest). RestReady i way old sum t) e p

  -- what is answered; the first argument names the way and the sum
  pub rest_walks : RestReady k way old sum t → {new : Bytes} {r : Result Piece Refusal} (j : Rest) → k ≡ j → WalksRest j way old new sum t r → WalksRest k way old new sum t r
  rest_walks p {new} {r} j e s = subst (λ (i : Rest). WalksRest i way old new sum t r) (sym e) s

  -- a body as a child, and a CF
  pub body_asks : k ≡ OneBody → RestReady k way old sum t → ChildReady Bodyform way old sum t
  body_asks e p = let q = rest_as OneBody e p in record { ready = q.ready; held = q.held; taken = q.taken }

  pub form_asks : k ≡ OneForm → RestReady k way old sum t → ChildReady Compileform way old sum t
  form_asks e p = let q = rest_as OneForm e p in record { ready = q.ready; held = q.held; taken = q.taken }
