-- Sizes of records: the depth and the atoms of lists of bindings, of a let that is desugared, and of the bindings of an order, each of which stands
-- in it once; and doubling. Assumes nothing.
use mathlib.Core.Path.{◌≡◌, refl, ap, ◌∙◌}
use mathlib.Core.Logic.{◌≢◌}
use mathlib.Core.List.Memᴰ
use mathlib.Core.List.{List, [], ◌∷◌, map}
use Prim.Native.Nat.{ℕ, zero, suc, ◌+◌, ◌≤◌, ◌<◌, max}
use native.Mathlib.Nat.{not-suc-le-zero, le_of_suc-le-suc}
use native.Mathlib.Omega.{arith}
use lib.ListN.{length, get_or, set, length-map}
use lib.Seq.{get_or-set_other}
use Rattle.records.specs.Depth.{levels, depth, binding_depth, bindings_depth, helper_depth, form_depth, list_depth}
use Rattle.records.specs.Records.{Body, BL, BQ, BV, BC, BM, BF, Binding, BB, Bindings, []ᵍ, ◌∷ᵍ◌, Helper, HC, HM, HD, HN, HR, Form, CF, to_bindings, list_of, bindings_count}
use Rattle.records.specs.declared.Kind.{Kind}
use Rattle.records.specs.declared.Kind.TheVariants.{Parallel, Sequential, Assign}
use Rattle.ordering.specs.Lawful.{◌is_in◌}
use Rattle.ordering.specs.Toposort.{ordered}
use Rattle.ordering.specs.Words.{item, items, toposort_assign_bindings}
use Rattle.ordering.proofs.Toposort.{sound}
use Rattle.walk.specs.Bodyforms.{desugar_sequential_let_bindings, no_binding}
use Rattle.walk.specs.Draws.{atoms, binding_atoms, patterns_of, inside_of, list_atoms, dbl}

pub dbl_add : (d x y : ℕ) → dbl d (x + y) ≡ dbl d x + dbl d y
unfolding dbl
dbl_add zero x y = refl
dbl_add (suc d) x y = let e : x + y + (x + y) ≡ x + x + (y + y) = omega arith in ap (dbl d) e ∙ dbl_add d (x + x) (y + y)

pub dbl_mono : (d x y : ℕ) → x ≤ y → dbl d x ≤ dbl d y
unfolding dbl
dbl_mono zero x y h = h
dbl_mono (suc d) x y h = dbl_mono d (x + x) (y + y) (omega arith)

pub dbl_least : (d n : ℕ) → n ≤ dbl d n
unfolding dbl
dbl_least zero n = omega arith
dbl_least (suc d) n = omega (arith, dbl_least d (n + n))

pub dbl_twice : (d n : ℕ) → dbl (suc d) n ≡ dbl d n + dbl d n
unfolding dbl
dbl_twice d n = dbl_add d n n

-- the bindings of an order: each index once, so no more atoms than all of them
abbrev pub total : List ℕ → ℕ
total [] = 0
total (n ∷ ns) = n + total ns

abbrev pub gathered : List ℕ → List ℕ → ℕ
gathered v [] = 0
gathered v (i ∷ is) = get_or v i 0 + gathered v is

total_set : (v : List ℕ) (i : ℕ) → total (set v i 0) + get_or v i 0 ≡ total v
total_set [] i = refl
total_set (n ∷ ns) zero = omega arith
total_set (n ∷ ns) (suc i) = omega (arith, total_set ns i)

gathered_other : (v : List ℕ) (i : ℕ) (is : List ℕ) → ((k : ℕ) → k < length is → get_or is k 0 ≢ i) → gathered (set v i 0) is ≡ gathered v is
gathered_other v i [] h = refl
gathered_other v i (j ∷ is) h = omega (arith, get_or-set_other v i j 0 0 (h 0 (omega arith)), gathered_other v i is (λ k l. h (suc k) (omega arith)))

pub gathered_once : (v is : List ℕ) → ((j k : ℕ) → j < length is → k < length is → get_or is j 0 ≡ get_or is k 0 → j ≡ k) → gathered v is ≤ total v
gathered_once v [] once = omega arith
gathered_once v (i ∷ is) once =
    omega (
      arith,
      gathered_once (set v i 0) is (λ j k p q e. let r = once (suc j) (suc k) (omega arith) (omega arith) e in omega arith),
      gathered_other v i is (λ k l e. let r = once (suc k) 0 (omega arith) (omega arith) e in omega arith),
      total_set v i,
    )

unfoldable pub sum_at : List Binding → List ℕ → ℕ
sum_at bs [] = 0
sum_at bs (i ∷ is) = binding_atoms (get_or bs i no_binding) + sum_at bs is

weight : (bs : List Binding) (i : ℕ) → i < length bs → binding_atoms (get_or bs i no_binding) ≡ get_or (map binding_atoms bs) i 0
weight [] i h = absurd (not-suc-le-zero h)
weight (b ∷ bs) zero h = refl
weight (b ∷ bs) (suc i) h = weight bs i (le_of_suc-le-suc h)

weights : (bs : List Binding) (is : List ℕ) → ((i : ℕ) → i is_in is → i < length bs) → sum_at bs is ≡ gathered (map binding_atoms bs) is
unfolding sum_at
weights bs [] h = refl
weights bs (i ∷ is) h = omega (arith, weight bs i (h i (Memᴰ.head refl)), weights bs is (λ j m. h j (Memᴰ.tail m)))

all_weights : (bs : List Binding) → total (map binding_atoms bs) ≡ list_atoms bs
unfolding list_atoms
all_weights [] = refl
all_weights (b ∷ bs) = ap (λ (n : ℕ). binding_atoms b + n) (all_weights bs)

pub order_below : (bs : List Binding) (is : List ℕ) → toposort_assign_bindings bs ≡ ordered is → (i : ℕ) → i is_in is → i < length bs
unfolding toposort_assign_bindings items
order_below bs is q i m = omega (arith, (sound (items bs) is q).all.some.below i m, length-map bs item)

pub order_sum : (bs : List Binding) (is : List ℕ) → toposort_assign_bindings bs ≡ ordered is → sum_at bs is ≤ list_atoms bs
unfolding toposort_assign_bindings items
order_sum bs is q =
    omega (arith, weights bs is (order_below bs is q), gathered_once (map binding_atoms bs) is (sound (items bs) is q).all.some.once, all_weights bs)

-- depths
pub depth_to_bindings : (l : List Binding) → bindings_depth (to_bindings l) ≡ list_depth l
unfolding bindings_depth to_bindings list_depth
depth_to_bindings [] = refl
depth_to_bindings (b ∷ bs) = ap (λ (n : ℕ). max (binding_depth b) n) (depth_to_bindings bs)

pub depth_list_of : (bs : Bindings) → bindings_depth bs ≡ list_depth (list_of bs)
unfolding bindings_depth list_of list_depth
depth_list_of []ᵍ = refl
depth_list_of (b ∷ᵍ bs) = ap (λ (n : ℕ). max (binding_depth b) n) (depth_list_of bs)

pub depth_desugar : (bs : List Binding) (b : Body) → depth (desugar_sequential_let_bindings bs b) ≤ length bs + max (list_depth bs) (depth b)
unfolding desugar_sequential_let_bindings list_depth depth levels bindings_count
depth_desugar [] b = omega arith
depth_desugar (BB l nl p e ∷ bs) b = omega (arith, depth_desugar bs b)

pub positive : (b : Body) → 1 ≤ depth b
unfolding depth levels
positive (BL Parallel l w h bs b) = omega arith
positive (BL Sequential l w h bs b) = omega arith
positive (BL Assign l w h bs b) = omega arith
positive (BQ s) = omega arith
positive (BV s) = omega arith
positive (BC l bs t) = omega arith
positive (BM l f) = omega arith
positive (BF l w ca c a b) = omega arith

pub pick_depth : (bs : List Binding) (i : ℕ) → i < length bs → binding_depth (get_or bs i no_binding) ≤ list_depth bs
unfolding list_depth
pick_depth [] i h = absurd (not-suc-le-zero h)
pick_depth (b ∷ bs) zero h = omega arith
pick_depth (b ∷ bs) (suc i) h = omega (arith, pick_depth bs i (le_of_suc-le-suc h))

pub atoms_desugar : (bs : List Binding) (b : Body) → atoms (desugar_sequential_let_bindings bs b) ≡ patterns_of bs + inside_of bs + atoms b
unfolding desugar_sequential_let_bindings atoms patterns_of inside_of
atoms_desugar [] b = omega arith
atoms_desugar (BB l nl p e ∷ bs) b = omega (arith, atoms_desugar bs b)

pub some_level : (k : Kind) (n : ℕ) → 1 ≤ levels k n
unfolding levels
some_level Parallel n = omega arith
some_level Sequential n = omega arith
some_level Assign n = omega arith

pub helper_positive : (x : Helper) → 1 ≤ helper_depth x
unfolding helper_depth
helper_positive (HC l n x b) = omega arith
helper_positive (HM l n x a f) = omega arith
helper_positive (HD l i n x a b) = omega arith
helper_positive (HN l n x hs) = omega arith
helper_positive (HR l n x) = omega arith

pub form_positive : (f : Form) → 1 ≤ form_depth f
unfolding form_depth
form_positive (CF l x a hs b) = omega arith
