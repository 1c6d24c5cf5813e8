-- The bindings of an order: each index once, so no more bytes and no more atoms than all of them have. Assumes nothing.
use mathlib.Core.Path.{◌≡◌, refl, ap}
use mathlib.Core.List.Memᴰ
use mathlib.Core.List.{List, [], ◌∷◌, map}
use native.Mathlib.Nat.{not-suc-le-zero, le_of_suc-le-suc}
use native.Mathlib.Omega.{arith}
use Prim.Native.Nat.{ℕ, zero, suc, ◌+◌, ◌≤◌, ◌<◌}
use lib.ListN.{length, get_or, length-append}
use Rattle.ordering.specs.Lawful.{◌is_in◌}
use Rattle.ordering.specs.Toposort.{ordered}
use Rattle.ordering.specs.Words.{items, toposort_assign_bindings}
use Rattle.ordering.proofs.Toposort.{sound}
use Rattle.records.specs.Lists.{joined}
use Rattle.records.specs.Records.{Binding, binding_bytes}
use Rattle.walk.specs.AssignWalks.{at_all, binding_size}
use Rattle.walk.specs.Bodyforms.{no_binding}
use Rattle.walk.specs.Draws.{binding_atoms}
use Rattle.walk.proofs.Sizes.{total, gathered, gathered_once, sum_at, order_below}

one_at : (f : Binding → ℕ) (bs : List Binding) (i : ℕ) → i < length bs → f (get_or bs i no_binding) ≡ get_or (map f bs) i 0
one_at f [] i h = absurd (not-suc-le-zero h)
one_at f (b ∷ bs) zero h = refl
one_at f (b ∷ bs) (suc i) h = one_at f bs i (le_of_suc-le-suc h)

all_gathered : (f : Binding → ℕ) (bs : List Binding) (is : List ℕ) → ((i : ℕ) → i is_in is → i < length bs) → at_all f bs is ≡ gathered (map f bs) is
unfolding at_all
all_gathered f bs [] h = refl
all_gathered f bs (i ∷ is) h = omega (arith, one_at f bs i (h i (Memᴰ.head refl)), all_gathered f bs is (λ j m. h j (Memᴰ.tail m)))

all_sizes : (bs : List Binding) → total (map binding_size bs) ≡ length (joined binding_bytes bs)
unfolding joined binding_size
all_sizes [] = refl
all_sizes (b ∷ bs) = omega (arith, all_sizes bs, length-append (binding_bytes b) (joined binding_bytes bs))

-- no more bytes than all
pub order_size : (bs : List Binding) (is : List ℕ) → toposort_assign_bindings bs ≡ ordered is → at_all binding_size bs is ≤ length (joined binding_bytes bs)
unfolding toposort_assign_bindings
order_size bs is q =
    omega (arith, all_gathered binding_size bs is (order_below bs is q), gathered_once (map binding_size bs) is (sound (items bs) is q).all.some.once, all_sizes bs)

-- their atoms
pub atoms_at : (bs : List Binding) (is : List ℕ) → at_all binding_atoms bs is ≡ sum_at bs is
unfolding at_all sum_at
atoms_at bs [] = refl
atoms_at bs (i ∷ is) = ap (λ (n : ℕ). binding_atoms (get_or bs i no_binding) + n) (atoms_at bs is)

-- an element stands in its list
pub at_in : (xs : List ℕ) (k : ℕ) → k < length xs → get_or xs k 0 is_in xs
at_in [] k h = absurd (not-suc-le-zero h)
at_in (x ∷ xs) zero h = Memᴰ.head refl
at_in (x ∷ xs) (suc k) h = Memᴰ.tail (at_in xs k (le_of_suc-le-suc h))
