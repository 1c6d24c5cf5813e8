-- No assign that a call reaches has a BM in a binding body: refusal 4 lets in no form with one, and no rule brings one there. So the words of `to_sexp`
-- are never asked of a BM. Assumes nothing.
use mathlib.Core.Path.{◌≡◌, refl}
use mathlib.Core.List.{[]}
use Prim.Native.Nat.{ℕ, ◌≤◌}
use Rattle.names.specs.Names.{Bytes}
use Rattle.records.specs.Limits.{level_limit, lambda_limit}
use Rattle.records.specs.Opened.{Opened, opened, closed, open_input}
use Rattle.records.specs.Read.{binding_zone}
use Rattle.records.specs.ReadFields.{Reader}
use Rattle.records.specs.Records.{to_bindings}
use Rattle.records.specs.Valid.{AreBytes, BindingsNoMod}
use Rattle.records.specs.declared.Zone.{Zone}
use Rattle.records.specs.declared.Zone.TheVariants.{Plain, InBinding}
use Rattle.records.proofs.Accepted.{Format, form_format, helper_format, opened_valid}
use Rattle.ordering.specs.Lawful.{◌is_in◌}
use Rattle.walk.specs.Calls.{call_run, whole_run, children_run, helper_run, whole_visits, children_visits, helper_visits}
use Rattle.walk.specs.Steps.{M, Out, done, refused, Visit, visits, events}
use Rattle.walk.proofs.Again.{whole_keeps, children_keeps, helper_keeps}
use Rattle.walk.proofs.Keeping.{ClearIn, Fine, Gives, Fits}
use Rattle.walk.proofs.All.{All, all_none, all_in}
use Rattle.walk.proofs.Kept.{Kept}

-- what a run that is known so reaches
reached_clear : {A : Type 0} {P : A → Type 0} {m : M A} → Gives Plain P m → (c x : ℕ) → All (ClearIn Plain) (visits (events (m c x)))
reached_clear {A} {P} {m} s c x = go (m c x) (s.fine c x)
  where
    go : (o : Out A) → Fine Plain P o → All (ClearIn Plain) (visits (events o))
    go (done log a c' x') f = f.0
    go (refused log r) f = f

module _ {A : Type 0} {reader : Reader A} {walk_of : ℕ → A → M A} {bytes : A → Bytes} {Fields : A → Type 0} {Clear : Zone → A → Type 0} {deep lambdas : A → ℕ}
    (format : Format reader bytes (λ a. Fields a × (deep a ≤ level_limit) × (lambdas a ≤ lambda_limit)) (Clear Plain))
    (keeps : (F : ℕ) (a : A) → Kept Fields lambdas Clear Plain lambda_limit a → Gives Plain (Fits F bytes (Kept Fields lambdas Clear Plain lambda_limit)) (walk_of F a)) where
  call_clear : (F work c : ℕ) (input : Bytes) → AreBytes input → All (ClearIn Plain) (visits (events (call_run reader walk_of F work c input)))
  unfolding call_run
  call_clear F work c input b = go (open_input reader F work c input) refl
    where
      go : (o : Opened A) → open_input reader F work c input ≡ o
          → All (ClearIn Plain) (visits (events {A = A} (elim o [ closed r ↦ refused [] r | opened a ↦ walk_of F a c 0 ])))
      go (closed r) e = all_none
      go (opened a) e =
          let v = opened_valid format F work c input a b e in
          reached_clear (keeps F a (record { fields = v.0.0; lambdas = v.0.2; clear = v.1 })) c 0

-- no BM in a binding body of e
abbrev pub Clear : Visit → Type 0
Clear e = BindingsNoMod InBinding (to_bindings e.bindings)

module _ (F work c : ℕ) (input : Bytes) (b : AreBytes input) where
  pub whole_clear : (e : Visit) → e is_in whole_visits F work c input → Clear e
  unfolding whole_visits whole_run binding_zone
  whole_clear e m = all_in (call_clear form_format whole_keeps F work c input b) m

  pub children_clear : (e : Visit) → e is_in children_visits F work c input → Clear e
  unfolding children_visits children_run binding_zone
  children_clear e m = all_in (call_clear form_format children_keeps F work c input b) m

  pub helper_clear : (e : Visit) → e is_in helper_visits F work c input → Clear e
  unfolding helper_visits helper_run binding_zone
  helper_clear e m = all_in (call_clear helper_format helper_keeps F work c input b) m
