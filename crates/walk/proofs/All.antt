-- Each element of a list has P. Assumes nothing.
use mathlib.Core.List.Memᴰ
use mathlib.Core.List.{List, [], ◌∷◌, ◌++◌}
use Rattle.ordering.specs.Lawful.{◌is_in◌}

pub data All {A : Type 0} (P : A → Type 0) : List A → Type 0 where
  all_none : All P []
  all_cons : {a : A} {l : List A} → P a → All P l → All P (a ∷ l)

module _ {A : Type 0} {P : A → Type 0} where
  pub all_append : {l k : List A} → All P l → All P k → All P (l ++ k)
  all_append all_none q = q
  all_append (all_cons p ps) q = all_cons p (all_append ps q)

  pub all_map : {Q : A → Type 0} {l : List A} → ((a : A) → P a → Q a) → All P l → All Q l
  all_map h all_none = all_none
  all_map h (all_cons {a} p ps) = all_cons (h a p) (all_map h ps)

  pub all_in : {a : A} {l : List A} → All P l → a is_in l → P a
  all_in all_none m = absurd (Memᴰ.not-nil m)
  all_in (all_cons p ps) (Memᴰ.head e) = rw e p
  all_in (all_cons p ps) (Memᴰ.tail m) = all_in ps m
