-- A let* keeps its scope when it is desugared. Assumes nothing.
use mathlib.Core.List.{List, [], ◌∷◌}
use mathlib.Core.Logic.{inl, inr}
use mathlib.Core.Path.{◌≡◌, refl}
use native.Mathlib.Omega.{arith}
use native.Mathlib.Nat.{not-suc-le-zero, le_of_suc-le-suc}
use Prim.Native.Nat.{ℕ, zero, suc, ◌<◌}
use lib.ListN.{length, take}
use Rattle.records.specs.Records.{Loc, Body, BL, Binding, BB, []ᵍ, ◌∷ᵍ◌, list_of, byte}
use Rattle.records.specs.declared.Kind.TheVariants.{Parallel, Sequential}
use Rattle.ordering.specs.Assign.{body_of, body_at}
use Rattle.ordering.specs.Scope.{Spot, in_binding, in_let_body, InScope}
use Rattle.walk.specs.Bodyforms.{desugar_sequential_let_bindings}
use Rattle.walk.specs.Seen.{SpotOf, at_spot, Just, Sees, here, down, nested_spots}

-- of bindings none, all, and the first i
just_none : (P : ℕ → Type 0) → ((j : ℕ) → ¬ P j) → (bs : List Binding) → Just P bs []
unfolding Just
just_none P never [] = refl
just_none P never (x ∷ bs) = inr (never 0, just_none (λ j. P (suc j)) (λ j. never (suc j)) bs)

just_all : (P : ℕ → Type 0) (bs : List Binding) → ((j : ℕ) → j < length bs → P j) → Just P bs bs
unfolding Just
just_all P [] has = refl
just_all P (x ∷ bs) has = inl (bs, has 0 (omega arith), refl, just_all (λ j. P (suc j)) bs (λ j h. has (suc j) (omega arith)))

just_first : (i : ℕ) (P : ℕ → Type 0) (bs : List Binding) → ((j : ℕ) → j < i → P j) → ((j : ℕ) → P j → j < i) → Just P bs (take i bs)
unfolding Just
just_first zero P bs has only = just_none P (λ j p. omega (arith, only j p)) bs
just_first (suc i) P [] has only = refl
just_first (suc i) P (x ∷ bs) has only =
    inl (take i bs, has 0 (omega arith), refl, just_first i (λ j. P (suc j)) bs (λ j h. has (suc j) (omega arith)) (λ j p. omega (arith, only (suc j) p)))

-- one list alone is just those bindings
pub just_once : (P : ℕ → Type 0) (bs us vs : List Binding) → Just P bs us → Just P bs vs → us ≡ vs
unfolding Just
just_once P [] us vs p q = cc
just_once P (x ∷ bs) us vs (inl (rest, p, e, u)) (inl (rest', p', e', u')) = let z = just_once (λ j. P (suc j)) bs rest rest' u u' in cc
just_once P (x ∷ bs) us vs (inl (rest, p, e, u)) (inr (n, u')) = absurd (n p)
just_once P (x ∷ bs) us vs (inr (n, u)) (inl (rest', p', e', u')) = absurd (n p')
just_once P (x ∷ bs) us vs (inr (n, u)) (inr (n', u')) = just_once (λ j. P (suc j)) bs us vs u u'

-- by the same places one comes to one record alone, and one list is in scope there
pub sees_once : {d e e' : Body} {spots : List Spot} {us vs : List Binding} → Sees d spots us e → Sees d spots vs e' → (us ≡ vs) × (e ≡ e')
sees_once here here = (refl, refl)
sees_once (down s own h j t) (down s' own' h' j' t') = let r = sees_once t t' in let q = just_once _ _ own own' j j' in (cc, r.1)

-- a let of one binding: what is in scope in its binding body, and in its body
module _ (l : Loc) (x : Binding) (d : Body) where
  abbrev one : Body
  one = BL Parallel l (byte 0) (byte 0) (x ∷ᵍ []ᵍ) d

  sees_binding : Sees one (in_binding 0 ∷ []) [] (body_of x)
  unfolding InScope SpotOf at_spot list_of
  sees_binding = let h : 0 < 1 = omega arith in down (in_binding 0) [] h (just_none _ (λ j q. q) (x ∷ [])) here

  sees_body : {spots : List Spot} {seen : List Binding} {e : Body} → Sees d spots seen e → Sees one (in_let_body ∷ spots) (x ∷ seen) e
  unfolding InScope SpotOf at_spot list_of
  sees_body t = down in_let_body (x ∷ []) tt (just_all _ (x ∷ []) (λ j q. q)) t

-- all bindings around the body, and those before it around a binding body
nested_body : (bs : List Binding) (b : Body) → Sees (desugar_sequential_let_bindings bs b) (nested_spots (length bs) in_let_body) bs b
unfolding desugar_sequential_let_bindings nested_spots
nested_body [] b = here
nested_body (BB l nl p e ∷ bs) b = sees_body l (BB l nl p e) _ (nested_body bs b)

nested_binding : (bs : List Binding) (b : Body) (i : ℕ) → i < length bs
    → Sees (desugar_sequential_let_bindings bs b) (nested_spots (length bs) (in_binding i)) (take i bs) (body_at bs i)
unfolding desugar_sequential_let_bindings nested_spots
nested_binding [] b i h = absurd (not-suc-le-zero h)
nested_binding (BB l nl p e ∷ bs) b zero h = sees_binding l (BB l nl p e) _
nested_binding (BB l nl p e ∷ bs) b (suc i) h = sees_body l (BB l nl p e) _ (nested_binding bs b i (le_of_suc-le-suc h))

-- What stands at a place of a let* stands, once it is desugared, inside nested lets; and just the bindings that the let* has in scope at the place are in scope
-- there, the first outermost.
pub desugared_scope : (bs : List Binding) (b : Body) (s : Spot) → SpotOf (length bs) s
    → (those : List Binding) × Just (λ j. InScope Sequential (length bs) [] j s) bs those
    × Sees (desugar_sequential_let_bindings bs b) (nested_spots (length bs) s) those (at_spot bs b s)
unfolding InScope SpotOf at_spot
desugared_scope bs b (in_binding i) h = (take i bs, just_first i _ bs (λ j q. (q, h)) (λ j q. q.0), nested_binding bs b i h)
desugared_scope bs b in_let_body h = (bs, just_all _ bs (λ j q. q), nested_body bs b)
