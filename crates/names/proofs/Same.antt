-- `same` says whether two names are equal. Assumes nothing.
use mathlib.Core.Path.{◌≡◌, refl, sym, ap, ◌∙◌}
use mathlib.Core.Bool.{Bool, true, false, ◌&&◌}
use mathlib.Core.List.{[], ◌∷◌}
use native.Mathlib.Omega.{arith}
use Prim.Native.Nat.{suc, ◌<◌}
use borrow.Author.Tests.{eq-eqb}
use lib.Dec.{T, eqb, eqb→eq, eqb-suc-zero}
use lib.ListN.{length, take, length-take}
use Rattle.names.specs.Names.{Bytes, same}

-- two tests joined
pub T-both : (a b : Bool) → T a → T b → T (a && b)
T-both true b s t = t
T-both false b s t = s

pub T-left : (a b : Bool) → T (a && b) → T a
T-left true b t = tt
T-left false b t = t

pub T-right : (a b : Bool) → T (a && b) → T b
T-right true b t = t
T-right false b t = absurd t

pub same→eq : (x y : Bytes) → T (same x y) → x ≡ y
unfolding same
same→eq [] [] t = refl
same→eq [] (y ∷ ys) t = absurd t
same→eq (x ∷ xs) [] t = absurd t
same→eq (x ∷ xs) (y ∷ ys) t =
    let p : x ≡ y = eqb→eq x y (T-left (eqb x y) (same xs ys) t) in
    let q : xs ≡ ys = same→eq xs ys (T-right (eqb x y) (same xs ys) t) in
    cc

pub same_self : (x : Bytes) → same x x ≡ true
unfolding same
same_self [] = refl
same_self (x ∷ xs) = rw (eq-eqb x x refl) (same_self xs)

pub same_refl : (x : Bytes) → T (same x x)
same_refl x = rw (same_self x) tt

-- names of two lengths
pub same_lengths : (a b : Bytes) → (length a ≡ length b → ⊥) → same a b ≡ false
unfolding same
same_lengths [] [] h = absurd (h refl)
same_lengths [] (y ∷ ys) h = refl
same_lengths (x ∷ xs) [] h = refl
same_lengths (x ∷ xs) (y ∷ ys) h = ap (λ (t : Bool). eqb x y && t) (same_lengths xs ys (λ e. h (ap suc e))) ∙ and_false (eqb x y)
  where
    and_false : (t : Bool) → (t && false) ≡ false
    and_false true = refl
    and_false false = refl

-- too few bytes for a name: only the empty one is there
pub same_few : (a b : Bytes) → (0 < length b → length a < length b) → same (take (length b) a) b ≡ eqb (length b) 0
unfolding same
same_few a [] h = refl
same_few a (y ∷ ys) h =
    let l = length-take (length (y ∷ ys)) a in
    same_lengths (take (length (y ∷ ys)) a) (y ∷ ys) (λ e. omega (arith, h (omega arith))) ∙ sym (eqb-suc-zero (length ys))
