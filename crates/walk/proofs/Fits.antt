-- A result of at most f bytes, or 7: what an outcome says of it, and what it is with a head before it. Assumes nothing.
use mathlib.Core.Path.{◌≡◌, refl, sym, ap, subst, ◌∙◌}
use mathlib.Core.Bool.{Bool, true, false}
use mathlib.Core.List.{◌++◌}
use native.Mathlib.Omega.{arith}
use borrow.Author.Tests.{le-leb, lt-leb, leb-true, leb-false}
use Prim.Native.Nat.{ℕ, ◌+◌, ◌-◌, ◌≤◌, ◌<◌}
use lib.Dec.{leb}
use lib.ListN.{length, length-append}
use Rattle.names.specs.Names.{Bytes}
use Rattle.names.specs.Segments.{At}
use Rattle.names.specs.declared.Refusal.{Refusal}
use Rattle.names.proofs.Places.{at_place, at_left, at_right, at_join}
use Rattle.records.specs.StepAnswer.{Outcome, gives, refuses, Gives, gave, refused}
use Rattle.records.specs.declared.Step.{Step}
use Rattle.records.proofs.StepAnswers.{made, unmade}
use Rattle.walk.specs.Arena.{fitting}
use Rattle.walk.specs.Steps.{over_long}
use Rattle.std.specs.declared.result.Result.{Result}
use Rattle.std.specs.declared.result.Result.TheVariants.{Err}
use Rattle.records.specs.StepAnswer.{step_of}

module _ {A : Type 0} (bytes : A → Bytes) (f c : ℕ) (u : A) where
  pub fitting_fits : length (bytes u) ≤ f → fitting bytes f c u ≡ gives u c
  unfolding fitting
  fitting_fits le = rw (le-leb _ _ le, fitting)

  pub fitting_long : f < length (bytes u) → fitting bytes f c u ≡ refuses over_long
  unfolding fitting
  fitting_long lt = rw (lt-leb _ _ lt, fitting)

  -- by whether it fits
  fitting_cases : (P : Outcome A → Type 0) → (length (bytes u) ≤ f → P (gives u c)) → (f < length (bytes u) → P (refuses over_long)) → P (fitting bytes f c u)
  fitting_cases P y n = go (leb (length (bytes u)) f) refl
    where
      go : (b : Bool) → leb (length (bytes u)) f ≡ b → P (fitting bytes f c u)
      go true e = let le : length (bytes u) ≤ f = leb-true _ _ e in subst P (sym (fitting_fits le)) (y le)
      go false e = let lt : f < length (bytes u) = leb-false _ _ e in subst P (sym (fitting_long lt)) (n lt)

  -- it is given
  record Fitted (w : A) (d : ℕ) : Type 0 where
    same_tree : w ≡ u
    same_counter : d ≡ c
    short : length (bytes u) ≤ f

  fitted : (w : A) (d : ℕ) → fitting bytes f c u ≡ gives w d → Fitted w d
  fitted w d = fitting_cases (λ o. o ≡ gives w d → Fitted w d) (λ le e. record { same_tree = cc; same_counter = cc; short = le })
      (λ lt e. let z : ◌≡◌ {A = ℕ} 0 1 = cc in absurd (omega arith))

  -- it is refused
  pub record Long (k : Refusal) : Type 0 where
    pub is : k ≡ over_long
    pub long : f < length (bytes u)

  pub refused_long : (k : Refusal) → fitting bytes f c u ≡ refuses k → Long k
  refused_long k = fitting_cases (λ o. o ≡ refuses k → Long k) (λ le e. let z : ◌≡◌ {A = ℕ} 0 1 = cc in absurd (omega arith)) (λ lt e. record { is = cc; long = lt })

-- it was given, and stands at p
pub record Given {A : Type 0} (bytes : A → Bytes) (new : Bytes) (p size f c : ℕ) (u : A) (i j d : ℕ) : Type 0 where
  pub read : i ≡ size
  pub wrote : j ≡ length (bytes u)
  pub counter : d ≡ c
  pub short : length (bytes u) ≤ f
  pub out : At new p (bytes u)

pub given : {A : Type 0} {bytes : A → Bytes} {new : Bytes} {p size : ℕ} {r : Result Step Refusal} (f c : ℕ) (u : A) (i j d : ℕ) → r ≡ step_of i j d
    → Gives bytes new p size (fitting bytes f c u) r → Given bytes new p size f c u i j d
given {A} {bytes} {new} {p} f c u i j d e x =
    let m = made i j d e x in
    let y = fitted bytes f c u m.u d m.is in
    record {
      read = m.read;
      wrote = m.wrote ∙ ap (λ (z : A). length (bytes z)) y.same_tree;
      counter = y.same_counter;
      short = y.short;
      out = subst (λ (z : A). At new p (bytes z)) y.same_tree m.out;
    }

pub done_is : {a b c x y z : ℕ} → a ≡ x → b ≡ y → c ≡ z → ◌≡◌ {A = Result Step Refusal} (step_of a b c) (step_of x y z)
done_is p q r = cc

-- a tree in place of another one of the same bytes
pub same_bytes : {A B : Type 0} (f : A → Bytes) (g : B → Bytes) {new : Bytes} {p size : ℕ} {r : Result Step Refusal} (F c : ℕ) (a : A) (b : B) → f a ≡ g b
    → Gives f new p size (fitting f F c a) r → Gives g new p size (fitting g F c b) r
same_bytes f g {new} {p} F c a b e (gave u d i x h) =
    let y = fitted f F c a u d i in
    let z : f u ≡ g b = ap f y.same_tree ∙ e in
    let l = ap length e in
    gave b c (fitting_fits g F c b (omega (arith, y.short))) (x ∙ done_is refl (ap length z) y.same_counter) (subst (At new p) z h)
same_bytes f g F c a b e (refused k i x) =
    let y = refused_long f F c a k i in
    let l = ap length e in
    refused k (fitting_long g F c b (omega (arith, y.long)) ∙ cc y.is) x

-- v has the bytes of u behind a head of h bytes
pub record Headed {A B : Type 0} (f : A → Bytes) (g : B → Bytes) (head : Bytes) (h : ℕ) (u : A) (v : B) : Type 0 where
  pub width : length head ≡ h
  pub bytes : g v ≡ head ++ f u

module _ {A B : Type 0} {f : A → Bytes} {g : B → Bytes} {head : Bytes} {h : ℕ} {u : A} {v : B} (k : Headed f g head h u v) where
  pub whole : length (g v) ≡ h + length (f u)
  whole = ap length k.bytes ∙ omega (arith, length-append head (f u), k.width)

  pub head_at : {s : Bytes} {p : ℕ} → At s p (g v) → At s p head
  head_at {s} {p} a = at_left head (f u) (subst (At s p) k.bytes a)

  pub rest_at : {s : Bytes} {p : ℕ} → At s p (g v) → At s (p + h) (f u)
  rest_at {s} {p} a = at_place (p + h) (omega (arith, k.width)) (at_right head (f u) (subst (At s p) k.bytes a))

  -- what is answered of v where the answer of u is r
  module _ (free F c : ℕ) {new : Bytes} {size : ℕ} {r : Result Step Refusal} (le : h ≤ F) (x : Gives f new (free + h) size (fitting f (F - h) c u) r) where
    pub headed_refused : {n : ℕ} (i : Refusal) → r ≡ Err i → Gives g new free n (fitting g F c v) (Err i)
    headed_refused i e =
        let y = refused_long f (F - h) c u i (unmade i e x) in
        refused i (fitting_long g F c v (omega (arith, whole, y.long)) ∙ cc y.is) refl

    -- what was read and written of u
    pub read_wrote : (i j d : ℕ) → r ≡ step_of i j d → (i ≡ size) × (h + j ≤ F)
    read_wrote i j d e = let g = given (F - h) c u i j d e x in (g.read, omega (arith, g.wrote, g.short))

    pub headed_done : {n : ℕ} (i j d : ℕ) → r ≡ step_of i j d → At new free head → {q : ℕ} → q ≡ n → Gives g new free n (fitting g F c v) (step_of q (h + j) d)
    headed_done i j d e at q =
        let y = given (F - h) c u i j d e x in
        let o = at_place (free + length head) (omega (arith, k.width)) y.out in
        gave v c (fitting_fits g F c v (omega (arith, whole, y.short))) (done_is q (omega (arith, whole, y.wrote)) y.counter)
        (subst (At new free) (sym k.bytes) (at_join head (f u) at o))
