-- What runs for a sequential let is Own of what it became. Assumes nothing.
use mathlib.Core.Path.{◌≡◌, refl, sym, ap}
use mathlib.Core.List.{[]}
use mathlib.Core.Logic.{inl, inr}
use Prim.Native.Nat.{ℕ, suc, ◌≤◌, ◌<◌}
use native.Mathlib.Omega.{arith}
use Rattle.names.specs.Names.{Bytes}
use Rattle.names.specs.declared.Refusal.{Refusal}
use Rattle.names.specs.Refusals.{reason_number}
use Rattle.records.specs.Depth.{levels, depth}
use Rattle.records.specs.Records.{Loc, Body, BL, BB, Bindings, []ᵍ, ◌∷ᵍ◌, list_of, bindings_count}
use Rattle.records.specs.declared.Kind.TheVariants.{Sequential}
use Rattle.walk.specs.Bodyforms.{desugar_sequential_let_bindings, log_assign, rename_args_desugared, rename_args_sequential, rename_args_bodyform, body_rules, walk}
use Rattle.walk.specs.Steps.{M, Out, done, refused, out_of_fuel, after, ◌>>=◌, ◌>>◌, ret, add_to_sum, child, further, body_size}
use Rattle.walk.proofs.Fuel.{OutOfFuel, same_run, less_walk}
use Rattle.walk.proofs.Limits.{runs_walk}
use Rattle.walk.proofs.RunBounds.{Fine, Runs}

-- a run within its bounds does not run out of fuel
has_fuel : {A : Type 0} {n : ℕ} {P : A → Type 0} {m : M A} → Runs n P m → (c x : ℕ) → ¬ OutOfFuel (m c x)
unfolding out_of_fuel
has_fuel {A} {n} {P} {m} s c x = go (m c x) (s.fine c x)
  where
    other : {r : Refusal} (k : ℕ) → reason_number r.reason ≡ k → k < 9 → ¬ (r ≡ out_of_fuel)
    other {r} k e h q = omega (arith, ap (λ (y : Refusal). reason_number y.reason) q)

    go : (o : Out A) → Fine n P c o → ¬ OutOfFuel o
    go (done log a c' x') f = λ e. e
    go (refused log r) (g, inl e) = other 5 e (omega arith)
    go (refused log r) (g, inr (inl e)) = other 6 e (omega arith)
    go (refused log r) (g, inr (inr e)) = other 7 e (omega arith)

-- what follows a value, and what takes it further, go by what they do with that value alone
module _ (F : ℕ) {A : Type 0} (size : A → ℕ) (a : A) where
  after_child : {B : Type 0} (f g : A → M B) → ((c x : ℕ) → f a c x ≡ g a c x) → (c x : ℕ) → (child F size (ret a) >>= f) c x ≡ (child F size (ret a) >>= g) c x
  unfolding child ret ◌>>◌ ◌>>=◌ after
  after_child {B} f g h c x = go (add_to_sum F (size a) c x)
    where
      run : (A → M B) → Out (Unit {0}) → Out B
      run k o =
          elim (after {A = A} [] (elim o as (λ _. Out A) [ done log _ c x ↦ after log (done [] a c x) | refused log r ↦ refused log r ])) as (λ _. Out B) [
            | done log b c x ↦ after log (k b c x)
            | refused log r ↦ refused log r
          ]

      go : (o : Out (Unit {0})) → run f o ≡ run g o
      go (done log u c x) = ap (after _) (h c x)
      go (refused log r) = refl

  same_further : (f g : A → M A) → ((c x : ℕ) → f a c x ≡ g a c x) → (c x : ℕ) → further F size a f c x ≡ further F size a g c x
  unfolding further ◌>>=◌
  same_further f g h c x = rw (h c x, ◌>>=◌)

module _ (F n : ℕ) where
  -- one more level of fuel gives the same, of a record that is not too deep
  enough : (b : Body) → depth b ≤ n → (c x : ℕ) → (walk F n).args_bodyform b c x ≡ (walk F (suc n)).args_bodyform b c x
  enough b h c x = sym (same_run c x ((less_walk F n (suc n) (omega arith)).args_bodyform b) (has_fuel ((runs_walk F n).args_bodyform b h) c x))

  -- what runs for a sequential let is Own of the desugared let
  pub desugared_own : (l : Loc) (k h : Bytes) (bs : Bindings) (b : Body) → depth (BL Sequential l k h bs b) ≤ suc n → (c x : ℕ)
      → rename_args_desugared F (walk F n) (list_of bs) b c x ≡ (walk F (suc n)).args_bodyform (desugar_sequential_let_bindings (list_of bs) b) c x
  unfolding rename_args_desugared desugar_sequential_let_bindings list_of walk body_rules log_assign rename_args_bodyform depth levels bindings_count
  desugared_own l k h []ᵍ b le c x = enough b (omega arith) c x
  desugared_own l k h (BB i j p e ∷ᵍ bs) b le c x = refl

  -- and the whole of it: the desugared let comes back, and Own takes it further
  pub sequential_own : (l : Loc) (k h : Bytes) (bs : Bindings) (b : Body) → depth (BL Sequential l k h bs b) ≤ suc n → (c x : ℕ)
      → rename_args_sequential F (walk F n) (list_of bs) b c x
      ≡ (child F body_size (ret (desugar_sequential_let_bindings (list_of bs) b)) >>= λ d. further F body_size d (walk F (suc n)).args_bodyform) c x
  unfolding rename_args_sequential
  sequential_own l k h bs b le = after_child F body_size _ _ _ (same_further F body_size _ _ _ (desugared_own l k h bs b le))
