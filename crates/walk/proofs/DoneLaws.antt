-- Runs that end with a value, a counter and a sum, or with a refusal, whatever happened on the way: one after the other, a child's result, one that is taken
-- further; what such an end says of the parts, and what is given from there. Assumes nothing.
use mathlib.Core.Path.{◌≡◌, refl, sym, ap, ◌∙◌}
use mathlib.Core.Bool.{Bool, true, false}
use mathlib.Core.List.{List, [], ◌++◌}
use native.Mathlib.Omega.{arith}
use borrow.Author.Tests.{le-leb, lt-leb, leb-true}
use Prim.Native.Nat.{ℕ, ◌+◌, ◌-◌, ◌≤◌, ◌<◌}
use lib.Dec.{leb}
use Rattle.names.specs.declared.Refusal.{Refusal}
use Rattle.records.specs.StepAnswer.{gives, refuses}
use Rattle.walk.specs.Arena.{outcome}
use Rattle.walk.specs.Steps.{M, Out, Event, done, refused, DoneWith, RefusedWith, ◌>>=◌, ◌>>◌, after, ret, over_long, add_to_sum, take_from_sum, child, further}
use Rattle.walk.proofs.RunLaws.{Neutral, with_sum, outcome_after, ended, ended_stops, onward, bind_onward}

-- one run and then another
module _ {A B : Type 0} (m : M A) (k : A → M B) {c x : ℕ} where
  pub then_done : {a : A} {c₁ x₁ : ℕ} {b : B} {c₂ x₂ : ℕ} → DoneWith (m c x) a c₁ x₁ → DoneWith (k a c₁ x₁) b c₂ x₂ → DoneWith ((m >>= k) c x) b c₂ x₂
  unfolding onward after
  then_done p q = (p.0 ++ q.0, bind_onward k m c x ∙ ap (onward k) p.1 ∙ ap (after p.0) q.1)

  pub then_stops : {r : Refusal} → RefusedWith (m c x) r → RefusedWith ((m >>= k) c x) r
  unfolding onward
  then_stops p = (p.0, bind_onward k m c x ∙ ap (onward k) p.1)

  pub then_stops_later : {a : A} {c₁ x₁ : ℕ} {r : Refusal} → DoneWith (m c x) a c₁ x₁ → RefusedWith (k a c₁ x₁) r → RefusedWith ((m >>= k) c x) r
  unfolding onward after
  then_stops_later p q = (p.0 ++ q.0, bind_onward k m c x ∙ ap (onward k) p.1 ∙ ap (after p.0) q.1)

  -- what is given from there
  pub then_goes : {a : A} {c₁ x₁ : ℕ} → DoneWith (m c x) a c₁ x₁ → outcome ((m >>= k) c x) ≡ outcome (k a c₁ x₁)
  unfolding onward
  then_goes {a} {c₁} {x₁} p = ap outcome (bind_onward k m c x ∙ ap (onward k) p.1) ∙ outcome_after p.0 (k a c₁ x₁)

-- where each part of a run in two parts ended
pub record Both {A B : Type 0} (m : M A) (k : A → M B) (c x : ℕ) (b : B) (c₂ x₂ : ℕ) : Type 0 where
  pub a : A
  pub c₁ : ℕ
  pub x₁ : ℕ
  pub first : DoneWith (m c x) a c₁ x₁
  pub second : DoneWith (k a c₁ x₁) b c₂ x₂

-- a run in two parts that is done: each part is
pub both_done : {A B : Type 0} (m : M A) (k : A → M B) {c x : ℕ} {b : B} {c₂ x₂ : ℕ} → DoneWith ((m >>= k) c x) b c₂ x₂ → Both m k c x b c₂ x₂
unfolding onward after
both_done {A} {B} m k {c} {x} {b} {c₂} {x₂} p = go (m c x) refl (sym (bind_onward k m c x) ∙ p.1)
  where
    late : (a : A) (c₁ x₁ : ℕ) (l : List Event) → m c x ≡ done l a c₁ x₁ → (o : Out B) → k a c₁ x₁ ≡ o → after l o ≡ done p.0 b c₂ x₂ → Both m k c x b c₂ x₂
    late a c₁ x₁ l e (done l' b' c' x') f q =
        let u : b' ≡ b = cc in
        let v : c' ≡ c₂ = cc in
        let w : x' ≡ x₂ = cc in
        record { a = a; c₁ = c₁; x₁ = x₁; first = (l, e); second = (l', f ∙ cc) }
    late a c₁ x₁ l e (refused l' r) f q = let z : ◌≡◌ {A = ℕ} 0 1 = cc in absurd (omega arith)

    go : (o : Out A) → m c x ≡ o → onward k o ≡ done p.0 b c₂ x₂ → Both m k c x b c₂ x₂
    go (done l a c₁ x₁) e q = late a c₁ x₁ l e (k a c₁ x₁) refl q
    go (refused l r) e q = let z : ◌≡◌ {A = ℕ} 0 1 = cc in absurd (omega arith)

-- what a run gives that ended so
pub outcome_done : {A : Type 0} {o : Out A} {a : A} {c x : ℕ} → DoneWith o a c x → outcome o ≡ gives a c
unfolding outcome
outcome_done p = ap outcome p.1

pub outcome_stops : {A : Type 0} {o : Out A} {r : Refusal} → RefusedWith o r → outcome o ≡ refuses r
unfolding outcome
outcome_stops p = ap outcome p.1

-- a run that leaves the sum as it was
module _ {A : Type 0} {m : M A} (n : Neutral m) (c x : ℕ) where
  neutral_done : {a : A} {c' : ℕ} → outcome (m c 0) ≡ gives a c' → DoneWith (m c x) a c' x
  unfolding with_sum
  neutral_done e = let d = (ended (m c 0) e).1 in (d.0, n.same_run c x ∙ ap (with_sum x) d.1)

  neutral_stops : {r : Refusal} → outcome (m c 0) ≡ refuses r → RefusedWith (m c x) r
  unfolding with_sum
  neutral_stops e = let d = ended_stops (m c 0) e in (d.0, n.same_run c x ∙ ap (with_sum x) d.1)

  -- and what its end says of what it gives
  neutral_gave : {a : A} {c' x' : ℕ} → DoneWith (m c x) a c' x' → (outcome (m c 0) ≡ gives a c') × (x' ≡ x)
  unfolding outcome with_sum
  neutral_gave {a} {c'} {x'} p = go (m c 0) refl (sym (n.same_run c x) ∙ p.1)
    where
      go : (o : Out A) → m c 0 ≡ o → with_sum x o ≡ done p.0 a c' x' → (outcome (m c 0) ≡ gives a c') × (x' ≡ x)
      go (done l b d y) e q =
          let u : b ≡ a = cc in
          let v : d ≡ c' = cc in
          let w : x ≡ x' = cc in
          (ap outcome e ∙ cc, sym w)
      go (refused l r) e q = let z : ◌≡◌ {A = ℕ} 0 1 = cc in absurd (omega arith)

-- what is given after such a run
module _ {A B : Type 0} (k : A → M B) {m : M A} (n : Neutral m) (c x : ℕ) where
  pub then_gives : {a : A} {c' : ℕ} → outcome (m c 0) ≡ gives a c' → outcome ((m >>= k) c x) ≡ outcome (k a c' x)
  then_gives e = then_goes m k (neutral_done n c x e)

  pub then_refuses : {r : Refusal} → outcome (m c 0) ≡ refuses r → outcome ((m >>= k) c x) ≡ refuses r
  then_refuses e = outcome_stops (then_stops m k (neutral_stops n c x e))

-- what a value at once ends with
pub ret_gave : {A : Type 0} {a b : A} {c x c' x' : ℕ} → DoneWith (ret a c x) b c' x' → (a ≡ b) × (c ≡ c') × (x ≡ x')
unfolding ret
ret_gave p = let e = p.1 in (cc, cc, cc)

module _ (F : ℕ) where
  -- a length comes into the sum
  added_done : {A : Type 0} (a : A) (n c x : ℕ) → x + n ≤ F → DoneWith ((add_to_sum F n >> ret a) c x) a c (x + n)
  unfolding ◌>>◌ ret add_to_sum
  added_done a n c x le =
      let e : add_to_sum F n c x ≡ done [] tt c (x + n) = rw (le-leb _ _ le, add_to_sum) in
      then_done (add_to_sum F n) (λ u. ret a) ([], e) ([], refl)

  -- or is refused
  added_stops : {A : Type 0} (a : A) (n c x : ℕ) → F < x + n → RefusedWith ((add_to_sum F n >> ret a) c x) over_long
  unfolding ◌>>◌ ret add_to_sum
  added_stops a n c x lt =
      let e : add_to_sum F n c x ≡ refused [] over_long = rw (lt-leb _ _ lt, add_to_sum) in
      then_stops (add_to_sum F n) (λ u. ret a) ([], e)

  -- what its end says
  added_gave : {A : Type 0} (a : A) (n c x : ℕ) {b : A} {c' x' : ℕ} → DoneWith ((add_to_sum F n >> ret a) c x) b c' x' → (b ≡ a) × (c' ≡ c) × (x' ≡ x + n) × (x' ≤ F)
  unfolding ◌>>◌ ret add_to_sum
  added_gave {A} a n c x {b} {c'} {x'} p =
      let q = both_done (add_to_sum F n) (λ u. ret a) p in
      go q (leb (x + n) F) refl q.first.1
    where
      go : (q : Both (add_to_sum F n) (λ u. ret a) c x b c' x') (t : Bool) → leb (x + n) F ≡ t
          → elim t as (λ _. Out (Unit {0})) [ true ↦ done [] tt c (x + n) | false ↦ refused [] over_long ] ≡ done q.first.0 q.a q.c₁ q.x₁ → (b ≡ a) × (c' ≡ c) × (x' ≡ x + n) × (x' ≤ F)
      go q true t e =
          let u : c ≡ q.c₁ = cc in
          let v : x + n ≡ q.x₁ = cc in
          let s = q.second.1 in
          let h : q.c₁ ≡ c' = cc in
          let i : q.x₁ ≡ x' = cc in
          let j : a ≡ b = cc in
          (sym j, sym h ∙ sym u, sym i ∙ sym v, omega (arith, leb-true (x + n) F t, i, v))
      go q false t e = let z : ◌≡◌ {A = ℕ} 0 1 = cc in absurd (omega arith)

  module _ {A : Type 0} (size : A → ℕ) where
    -- a child's result
    module _ {m : M A} (n : Neutral m) (c x : ℕ) where
      pub child_done : {a : A} {c' : ℕ} → outcome (m c 0) ≡ gives a c' → x + size a ≤ F → DoneWith (child F size m c x) a c' (x + size a)
      unfolding child
      child_done {a} {c'} e le = then_done m (λ b. add_to_sum F (size b) >> ret b) (neutral_done n c x e) (added_done a (size a) c' x le)

      pub child_long : {a : A} {c' : ℕ} → outcome (m c 0) ≡ gives a c' → F < x + size a → RefusedWith (child F size m c x) over_long
      unfolding child
      child_long {a} {c'} e lt = then_stops_later m (λ b. add_to_sum F (size b) >> ret b) (neutral_done n c x e) (added_stops a (size a) c' x lt)

      pub child_stops : {r : Refusal} → outcome (m c 0) ≡ refuses r → RefusedWith (child F size m c x) r
      unfolding child
      child_stops e = then_stops m (λ b. add_to_sum F (size b) >> ret b) (neutral_stops n c x e)

      -- what its end says
      pub child_gave : {a : A} {c' x' : ℕ} → DoneWith (child F size m c x) a c' x' → (outcome (m c 0) ≡ gives a c') × (x' ≡ x + size a) × (x' ≤ F)
      unfolding child
      child_gave {a} {c'} {x'} p =
          let q = both_done m (λ b. add_to_sum F (size b) >> ret b) p in
          let f = neutral_gave n c x q.first in
          let s = added_gave q.a (size q.a) q.c₁ q.x₁ q.second in
          (f.0 ∙ cc (s.0, s.1), s.2 ∙ cc (f.1, s.0), s.3)

    -- one that is taken further
    module _ (f : A → M A) (old : A) (n : Neutral (f old)) (c x : ℕ) where
      abbrev replaced : A → M A
      replaced a = take_from_sum F (size old) >> (add_to_sum F (size a) >> ret a)

      -- the old length leaves the sum, and the new one comes in
      taken_done : (a : A) (c' : ℕ) → x - size old + size a ≤ F → DoneWith (replaced a c' x) a c' (x - size old + size a)
      unfolding take_from_sum ◌>>◌
      taken_done a c' le = then_done (take_from_sum F (size old)) (λ u. add_to_sum F (size a) >> ret a) ([], refl) (added_done a (size a) c' (x - size old) le)

      taken_stops : (a : A) (c' : ℕ) → F < x - size old + size a → RefusedWith (replaced a c' x) over_long
      unfolding take_from_sum ◌>>◌
      taken_stops a c' lt = then_stops_later (take_from_sum F (size old)) (λ u. add_to_sum F (size a) >> ret a) ([], refl) (added_stops a (size a) c' (x - size old) lt)

      pub further_done : {a : A} {c' : ℕ} → outcome (f old c 0) ≡ gives a c' → x - size old + size a ≤ F → DoneWith (further F size old f c x) a c' (x - size old + size a)
      unfolding further
      further_done {a} {c'} e le = then_done (f old) replaced (neutral_done n c x e) (taken_done a c' le)

      pub further_long : {a : A} {c' : ℕ} → outcome (f old c 0) ≡ gives a c' → F < x - size old + size a → RefusedWith (further F size old f c x) over_long
      unfolding further
      further_long {a} {c'} e lt = then_stops_later (f old) replaced (neutral_done n c x e) (taken_stops a c' lt)

      pub further_stops : {r : Refusal} → outcome (f old c 0) ≡ refuses r → RefusedWith (further F size old f c x) r
      unfolding further
      further_stops e = then_stops (f old) replaced (neutral_stops n c x e)

      -- what its end says
      pub further_gave : {a : A} {c' x' : ℕ} → DoneWith (further F size old f c x) a c' x' → (outcome (f old c 0) ≡ gives a c') × (x' ≡ x - size old + size a) × (x' ≤ F)
      unfolding further take_from_sum ◌>>◌
      further_gave {a} {c'} {x'} p =
          let q = both_done (f old) replaced p in
          let g = neutral_gave n c x q.first in
          let h = both_done (take_from_sum F (size old)) (λ u. add_to_sum F (size q.a) >> ret q.a) q.second in
          let i : q.x₁ - size old ≡ h.x₁ = cc h.first.1 in
          let j : q.c₁ ≡ h.c₁ = cc h.first.1 in
          let s = added_gave q.a (size q.a) h.c₁ h.x₁ h.second in
          (g.0 ∙ cc (s.0, s.1, j), s.2 ∙ cc (g.1, s.0, i), s.3)

  -- what is given after a child's result
  module _ {A B : Type 0} (size : A → ℕ) (k : A → M B) {m : M A} (n : Neutral m) (c x : ℕ) where
    pub child_gives : {a : A} {c' : ℕ} → outcome (m c 0) ≡ gives a c' → x + size a ≤ F → outcome ((child F size m >>= k) c x) ≡ outcome (k a c' (x + size a))
    child_gives e le = then_goes (child F size m) k (child_done size n c x e le)

    pub child_over : {a : A} {c' : ℕ} → outcome (m c 0) ≡ gives a c' → F < x + size a → outcome ((child F size m >>= k) c x) ≡ refuses over_long
    child_over e lt = outcome_stops (then_stops (child F size m) k (child_long size n c x e lt))

    pub child_refuses : {r : Refusal} → outcome (m c 0) ≡ refuses r → outcome ((child F size m >>= k) c x) ≡ refuses r
    child_refuses e = outcome_stops (then_stops (child F size m) k (child_stops size n c x e))

  -- and after one that is taken further
  module _ {A B : Type 0} (size : A → ℕ) (k : A → M B) (f : A → M A) (old : A) (n : Neutral (f old)) (c x : ℕ) where
    pub further_gives : {a : A} {c' : ℕ} → outcome (f old c 0) ≡ gives a c' → x - size old + size a ≤ F
        → outcome ((further F size old f >>= k) c x) ≡ outcome (k a c' (x - size old + size a))
    further_gives e le = then_goes (further F size old f) k (further_done size f old n c x e le)

    pub further_over : {a : A} {c' : ℕ} → outcome (f old c 0) ≡ gives a c' → F < x - size old + size a → outcome ((further F size old f >>= k) c x) ≡ refuses over_long
    further_over e lt = outcome_stops (then_stops (further F size old f) k (further_long size f old n c x e lt))

    pub further_refuses : {r : Refusal} → outcome (f old c 0) ≡ refuses r → outcome ((further F size old f >>= k) c x) ≡ refuses r
    further_refuses e = outcome_stops (then_stops (further F size old f) k (further_stops size f old n c x e))
