-- A finished run taken apart, and the theorems on orders of an assign's bindings. Assumes nothing.
use mathlib.Core.Path.{◌≡◌, refl, ◌∙◌}
use mathlib.Core.Logic.{◌↔◌}
use mathlib.Core.List.{List}
use mathlib.Core.Option.{Option, none, some}
use Prim.Native.Nat.{ℕ}
use native.Mathlib.Omega.{arith}
use lib.ListN.{length, length-map}
use Rattle.names.specs.declared.Refusal.{Refusal}
use Rattle.records.specs.Records.{Binding}
use Rattle.ordering.specs.Toposort.{ordered, deadlock}
use Rattle.ordering.specs.Lawful.{Full}
use Rattle.ordering.specs.Words.{item, items, toposort_assign_bindings}
use Rattle.ordering.proofs.Toposort.{sound, sound_length, complete, found}
use Rattle.walk.specs.Steps.{M, Out, Event, done, refused, ◌>>=◌, after}

-- what a finished `m >>= k` went through
pub record Split {A B : Type 0} (m : M A) (k : A → M B) (c x : ℕ) (b : B) (c' x' : ℕ) : Type 0 where
  pub value : A
  pub counter : ℕ
  pub sum : ℕ
  pub log₁ : List Event
  pub log₂ : List Event
  pub first : m c x ≡ done log₁ value counter sum
  pub second : k value counter sum ≡ done log₂ b c' x'

pub not_done : {A : Type 0} {log log' : List Event} {r : Refusal} {a : A} {c x : ℕ} → ◌≡◌ {A = Out A} (refused log r) (done log' a c x) → ⊥
not_done e = let z : ◌≡◌ {A = ℕ} 0 1 = cc in omega arith

pub split : {A B : Type 0} (m : M A) (k : A → M B) (c x : ℕ) {log : List Event} {b : B} {c' x' : ℕ} → (m >>= k) c x ≡ done log b c' x' → Split m k c x b c' x'
unfolding ◌>>=◌ after
split {A} {B} m k c x {log} {b} {c'} {x'} h = go (m c x) refl h
  where
    go₂ : (log₁ : List Event) (a : A) (c₁ x₁ : ℕ) → m c x ≡ done log₁ a c₁ x₁ → (o : Out B) → k a c₁ x₁ ≡ o → after log₁ o ≡ done log b c' x' → Split m k c x b c' x'
    go₂ log₁ a c₁ x₁ e (done log₂ b₂ c₂ x₂) f q = record { value = a; counter = c₁; sum = x₁; log₁ = log₁; log₂ = log₂; first = e; second = cc (f, q) }
    go₂ log₁ a c₁ x₁ e (refused log₂ r) f q = absurd (not_done q)

    go : (o : Out A) → m c x ≡ o → ◌≡◌ {A = Out B} (elim o [ done log₁ a c₁ x₁ ↦ after log₁ (k a c₁ x₁) | refused log₁ r ↦ refused log₁ r ]) (done log b c' x') → Split m k c x b c' x'
    go (done log₁ a c₁ x₁) e q = go₂ log₁ a c₁ x₁ e (k a c₁ x₁) refl q
    go (refused log₁ r) e q = absurd (not_done q)

pub same_value : {A : Type 0} {log log' : List Event} {a b : A} {c c' x x' : ℕ} → ◌≡◌ {A = Out A} (done log a c x) (done log' b c' x') → a ≡ b
same_value e = cc

pub not_some : {A : Type 0} {a : A} → ◌≡◌ {A = Option A} none (some a) → ⊥
not_some e = let z : ◌≡◌ {A = ℕ} 0 1 = cc in omega arith

pub same_some : {A : Type 0} {a b : A} → ◌≡◌ {A = Option A} (some a) (some b) → a ≡ b
same_some e = cc

-- the theorems on orders, of an assign's bindings
module _ (bs : List Binding) where
  pub full_order : (is : List ℕ) → toposort_assign_bindings bs ≡ ordered is → Full (items bs) is
  unfolding toposort_assign_bindings
  full_order is q = sound (items bs) is q

  pub order_length : (is : List ℕ) → toposort_assign_bindings bs ≡ ordered is → length is ≡ length bs
  unfolding toposort_assign_bindings items
  order_length is q = sound_length (items bs) is q ∙ length-map bs item

  pub no_order : (l : List ℕ) → toposort_assign_bindings bs ≡ deadlock l → ¬ ((is : List ℕ) × Full (items bs) is)
  unfolding toposort_assign_bindings
  no_order l q f = complete (items bs) l q f.0 f.1

  pub ordered_exactly : ((is : List ℕ) × (toposort_assign_bindings bs ≡ ordered is) × Full (items bs) is) ↔ ((is : List ℕ) × Full (items bs) is)
  unfolding toposort_assign_bindings
  ordered_exactly = (λ o. (o.0, o.2), λ f. let o = (found (items bs)).1 f in (o.0, o.1, sound (items bs) o.0 o.1))
