-- Things one behind the other: how long their bytes are, the bytes of two lists, and what each of them has. Assumes nothing.
use mathlib.Core.Path.{◌≡◌, refl, sym, ap, ◌∙◌}
use mathlib.Core.List.{List, [], ◌∷◌, ◌++◌, append_assoc}
use native.Mathlib.Nat.{mul-suc}
use native.Mathlib.Omega.{arith}
use Prim.Native.Nat.{ℕ, ◌*◌}
use lib.ListN.{length, length-append}
use Rattle.names.specs.Names.{Bytes}
use Rattle.records.specs.Lists.{joined, Each}

-- bytes of things that are n bytes long each
pub joined_long : {A : Type 0} (n : ℕ) (f : A → Bytes) → ((x : A) → length (f x) ≡ n) → (xs : List A) → length (joined f xs) ≡ n * length xs
unfolding joined
joined_long n f h [] = omega arith
joined_long n f h (x ∷ xs) = omega (arith, length-append (f x) (joined f xs), h x, joined_long n f h xs, mul-suc n (length xs))

-- bytes of two lists
pub joined_append : {A : Type 0} (f : A → Bytes) (xs ys : List A) → joined f (xs ++ ys) ≡ joined f xs ++ joined f ys
unfolding joined
joined_append f [] ys = refl
joined_append f (x ∷ xs) ys = ap (λ (y : Bytes). f x ++ y) (joined_append f xs ys) ∙ sym (append_assoc (f x) (joined f xs) (joined f ys))

-- each of two lists
pub each_append : {A : Type 0} (P : A → Type 0) (xs ys : List A) → Each P xs → Each P ys → Each P (xs ++ ys)
unfolding Each
each_append P [] ys h k = k
each_append P (x ∷ xs) ys h k = (h.0, each_append P xs ys h.1 k)

-- what each has, that one has
pub each_here : {A : Type 0} (P : A → Type 0) (before : List A) (x : A) (rest : List A) → Each P (before ++ x ∷ rest) → P x
unfolding Each
each_here P [] x rest h = h.0
each_here P (y ∷ before) x rest h = each_here P before x rest h.1
