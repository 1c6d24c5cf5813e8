-- Membership in a list, by place and by test. Nothing here is about bindings.
-- Assumes nothing.
use Prim.Native.Nat.{ℕ, zero, suc, ◌≤◌, ◌<◌, zero-le, suc-le-suc}
use native.Mathlib.Nat.{not-suc-le-zero, le_of_suc-le-suc}
use native.Mathlib.Omega.{arith}
use mathlib.Core.Path.{◌≡◌, refl, sym, ap, subst}
use mathlib.Core.Logic.{◌⊎◌, inl, inr, ⊎_elim}
use mathlib.Core.Bool.{Bool, true, false, not, cond, ◌||◌}
use mathlib.Core.List.Memᴰ
use mathlib.Core.List.{List, [], ◌∷◌, map}
use lib.Dec.{T, T_not}
use lib.ListN.{length, get_or, take, drop}
use Rattle.names.proofs.Same.{T-both, T-left, T-right}
use Rattle.ordering.specs.Items.{is_empty, any, all, keep}
use Rattle.ordering.specs.Lawful.{◌is_in◌}

-- tests joined
T-inl : (a b : Bool) → T a → T (a || b)
T-inl true b t = tt
T-inl false b t = absurd t

T-inr : (a b : Bool) → T b → T (a || b)
T-inr true b t = tt
T-inr false b t = t

T-either : (a b : Bool) → T (a || b) → T a ⊎ T b
T-either true b t = inl t
T-either false b t = inr t

-- a property of `cond b x y` is shown of each arm, with what the test says there
pub by_cond : {A : Type 0} (P : A → Type 0) (b : Bool) {x y : A} → (T b → P x) → (T (not b) → P y) → P (cond b x y)
by_cond P true p q = p tt
by_cond P false p q = q tt

module _ {A : Type 0} where
  -- membership and places
  pub in_at : {x : A} {xs : List A} (d : A) → x is_in xs → (k : ℕ) × (k < length xs) × (get_or xs k d ≡ x)
  in_at d (Memᴰ.head e) = (zero, suc-le-suc zero-le, sym e)
  in_at d (Memᴰ.tail m) = let r = in_at d m in (suc r.0, suc-le-suc r.1, r.2)

  pub at_in : (xs : List A) (k : ℕ) (d : A) → k < length xs → get_or xs k d is_in xs
  at_in [] k d h = absurd (not-suc-le-zero h)
  at_in (x ∷ xs) zero d h = Memᴰ.head refl
  at_in (x ∷ xs) (suc k) d h = Memᴰ.tail (at_in xs k d (le_of_suc-le-suc h))

  pub at_in_take : (xs : List A) (n k : ℕ) (d : A) → k < length xs → k < n → get_or xs k d is_in take n xs
  at_in_take xs zero k d h l = absurd (not-suc-le-zero l)
  at_in_take [] (suc n) k d h l = absurd (not-suc-le-zero h)
  at_in_take (x ∷ xs) (suc n) zero d h l = Memᴰ.head refl
  at_in_take (x ∷ xs) (suc n) (suc k) d h l = Memᴰ.tail (at_in_take xs n k d (le_of_suc-le-suc h) (le_of_suc-le-suc l))

  pub in_take_at : {x : A} (n : ℕ) (xs : List A) (d : A) → x is_in take n xs → (k : ℕ) × (k < length xs) × (k < n) × (get_or xs k d ≡ x)
  in_take_at zero xs d m = absurd (Memᴰ.not-nil m)
  in_take_at (suc n) [] d m = absurd (Memᴰ.not-nil m)
  in_take_at (suc n) (y ∷ ys) d m =
      elim (Memᴰ.cases_cons m) [
        | inl e ↦ (zero, suc-le-suc zero-le, suc-le-suc zero-le, sym e)
        | inr m' ↦ let r = in_take_at n ys d m' in (suc r.0, suc-le-suc r.1, suc-le-suc r.2, r.3)
      ]

  pub at_in_drop : (xs : List A) (n k : ℕ) (d : A) → k < length xs → n ≤ k → get_or xs k d is_in drop n xs
  at_in_drop xs zero k d h l = at_in xs k d h
  at_in_drop [] (suc n) k d h l = absurd (not-suc-le-zero h)
  at_in_drop (x ∷ xs) (suc n) zero d h l = absurd (not-suc-le-zero l)
  at_in_drop (x ∷ xs) (suc n) (suc k) d h l = at_in_drop xs n k d (le_of_suc-le-suc h) (le_of_suc-le-suc l)

  pub in_drop_at : {x : A} (n : ℕ) (xs : List A) (d : A) → x is_in drop n xs → (k : ℕ) × (k < length xs) × (n ≤ k) × (get_or xs k d ≡ x)
  in_drop_at zero xs d m = let r = in_at d m in (r.0, r.1, zero-le, r.2)
  in_drop_at (suc n) [] d m = absurd (Memᴰ.not-nil m)
  in_drop_at (suc n) (y ∷ ys) d m = let r = in_drop_at n ys d m in (suc r.0, suc-le-suc r.1, suc-le-suc r.2, r.3)

  -- lists with no element, and with one
  pub length_nil : (l : List A) → length l ≡ 0 → l ≡ []
  length_nil [] e = refl
  length_nil (x ∷ xs) e = absurd (omega arith)

  pub is_nil : (l : List A) → ((x : A) → ¬ (x is_in l)) → l ≡ []
  is_nil [] h = refl
  is_nil (x ∷ xs) h = absurd (h x (Memᴰ.head refl))

  pub none_in : {x : A} (l : List A) → T (is_empty l) → ¬ (x is_in l)
  none_in [] t m = Memᴰ.not-nil m
  none_in (y ∷ ys) t m = t

  pub one_in : {x : A} (l : List A) → x is_in l → is_empty l ≡ false
  one_in [] m = absurd (Memᴰ.not-nil m)
  one_in (y ∷ ys) m = refl

  pub first_in : (l : List A) → (length l ≡ 0 → ⊥) → (x : A) × (x is_in l)
  first_in [] h = absurd (h refl)
  first_in (x ∷ xs) h = (x, Memᴰ.head refl)

  -- tests of members
  pub any_intro : (f : A → Bool) {x : A} {xs : List A} → x is_in xs → T (f x) → T (any f xs)
  any_intro f (Memᴰ.head {x = y} {xs = ys} e) t = T-inl (f y) (any f ys) (subst (λ (z : A). T (f z)) e t)
  any_intro f (Memᴰ.tail {x = y} {xs = ys} m) t = T-inr (f y) (any f ys) (any_intro f m t)

  pub any_elim : (f : A → Bool) (xs : List A) → T (any f xs) → (x : A) × (x is_in xs) × T (f x)
  any_elim f [] t = absurd t
  any_elim f (x ∷ xs) t =
      ⊎_elim
      (λ s. (x, Memᴰ.head refl, s))
      (λ s. let r = any_elim f xs s in (r.0, Memᴰ.tail r.1, r.2))
      (T-either (f x) (any f xs) t)

  pub all_elim : (f : A → Bool) {x : A} {xs : List A} → T (all f xs) → x is_in xs → T (f x)
  all_elim f t (Memᴰ.head {x = y} {xs = ys} e) = rw e (T-left (f y) (all f ys) t)
  all_elim f t (Memᴰ.tail {x = y} {xs = ys} m) = all_elim f (T-right (f y) (all f ys) t) m

  pub all_intro : (f : A → Bool) (xs : List A) → ((x : A) → x is_in xs → T (f x)) → T (all f xs)
  all_intro f [] h = tt
  all_intro f (x ∷ xs) h = T-both (f x) (all f xs) (h x (Memᴰ.head refl)) (all_intro f xs (λ y m. h y (Memᴰ.tail m)))

  pub in_keep : (f : A → Bool) {x : A} {xs : List A} → x is_in xs → T (f x) → x is_in keep f xs
  in_keep f {x} (Memᴰ.head {x = y} {xs = ys} e) t =
      by_cond (λ (l : List A). x is_in l) (f y) (λ s. Memᴰ.head e) (λ s. absurd (T_not (f y) s (subst (λ (z : A). T (f z)) e t)))
  in_keep f {x} (Memᴰ.tail {x = y} {xs = ys} m) t =
      let r : x is_in keep f ys = in_keep f m t in
      by_cond (λ (l : List A). x is_in l) (f y) (λ s. Memᴰ.tail r) (λ s. r)

  pub keep_in : (f : A → Bool) {x : A} (xs : List A) → x is_in keep f xs → (x is_in xs) × T (f x)
  keep_in f [] m = absurd (Memᴰ.not-nil m)
  keep_in f {x} (y ∷ ys) m =
      by_cond (λ (l : List A). x is_in l → (x is_in y ∷ ys) × T (f x)) (f y)
      (λ s m'. ⊎_elim (λ e. (Memᴰ.head e, rw e s)) (λ m''. later (keep_in f ys m'')) (Memᴰ.cases_cons m'))
      (λ s m'. later (keep_in f ys m'))
      m
    where
      later : (x is_in ys) × T (f x) → (x is_in y ∷ ys) × T (f x)
      later r = (Memᴰ.tail r.0, r.1)

-- members of a list that is mapped
module _ {A B : Type 0} (f : A → B) where
  pub in_map : {x : A} {xs : List A} → x is_in xs → f x is_in map f xs
  in_map (Memᴰ.head e) = Memᴰ.head (ap f e)
  in_map (Memᴰ.tail m) = Memᴰ.tail (in_map m)

  pub map_in : {y : B} (xs : List A) → y is_in map f xs → (x : A) × (x is_in xs) × (y ≡ f x)
  map_in [] m = absurd (Memᴰ.not-nil m)
  map_in (x ∷ xs) m =
      ⊎_elim
      (λ e. (x, Memᴰ.head refl, e))
      (λ d. let r = map_in xs d in (r.0, Memᴰ.tail r.1, r.2))
      (Memᴰ.cases_cons m)
