-- The bindings of an assign, by what each needs and provides.
-- Assumes nothing.
use Rattle.std.specs.Prelude.{ℕ, zero, suc, Bool, true, false, cond, ◌&&◌, ◌||◌, List, [], ◌∷◌, get_or}
use Rattle.names.specs.Names.{Bytes, same}

-- `needs` has every name that the binding's body mentions, whether or not a binding provides it
pub record Item : Type 0 where
  pub needs : List Bytes
  pub has : List Bytes

-- what `get_or` gives for an index past the last binding
abbrev pub absent : Item
absent = record { needs = []; has = [] }

-- the binding with index i
abbrev pub item_at : List Item → ℕ → Item
item_at bs i = get_or bs i absent

-- a, a + 1, .. : as many as n
abbrev pub indices_from : ℕ → ℕ → List ℕ
indices_from a zero = []
indices_from a (suc n) = a ∷ indices_from (suc a) n

-- tests on lists
module _ {A : Type 0} where
  -- there is no element
  abbrev pub is_empty : List A → Bool
  is_empty [] = true
  is_empty (x ∷ xs) = false

  -- some element passes the test
  abbrev pub any : (A → Bool) → List A → Bool
  any f [] = false
  any f (x ∷ xs) = f x || any f xs

  -- every element passes the test
  abbrev pub all : (A → Bool) → List A → Bool
  all f [] = true
  all f (x ∷ xs) = f x && all f xs

  -- the elements that pass the test
  abbrev pub keep : (A → Bool) → List A → List A
  keep f [] = []
  keep f (x ∷ xs) = cond (f x) (x ∷ keep f xs) (keep f xs)

-- the binding provides the name x
unfoldable pub gives : Bytes → Item → Bool
gives x b = any (same x) b.has

-- the names that the binding with index i needs: those of its body that some binding of the assign provides
unfoldable pub needed : List Item → ℕ → List Bytes
needed bs i = keep (λ x. any (gives x) bs) (item_at bs i).needs

-- all that the binding with index i needs is provided by bindings of `done`
unfoldable pub ready : List Item → List ℕ → ℕ → Bool
ready bs done i = all (λ x. any (λ j. gives x (item_at bs j)) done) (needed bs i)
