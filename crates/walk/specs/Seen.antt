-- What is in scope inside parallel lets. One goes down from a record, from let to let, each time to a place of the let. There those of its bindings are in scope
-- that ordering/specs/Scope.antt says, beside what was in scope before.
-- Assumes nothing.
use Rattle.std.specs.Prelude.{List, [], ◌∷◌, ◌++◌, ◌⊎◌, ◌≡◌, ℕ, suc, ◌<◌, length, replicate}
use Rattle.names.specs.Names.{Bytes}
use Rattle.records.specs.Records.{Loc, Body, BL, Binding, Bindings, list_of}
use Rattle.records.specs.declared.Kind.TheVariants.{Parallel}
use Rattle.ordering.specs.Assign.{body_at}
use Rattle.ordering.specs.Scope.{Spot, in_binding, in_let_body, InScope}

-- a let of n bindings has this place
unfoldable pub SpotOf : ℕ → Spot → Type 0
SpotOf n (in_binding i) = i < n
SpotOf n in_let_body = Unit {0}

-- what stands there
unfoldable pub at_spot : List Binding → Body → Spot → Body
at_spot bs b (in_binding i) = body_at bs i
at_spot bs b in_let_body = b

-- of bindings, `those` are just the ones whose index has P, in their sequence
unfoldable pub Just : (P : ℕ → Type 0) → List Binding → (those : List Binding) → Type 0
Just P [] those = those ≡ []
Just P (x ∷ xs) those = ((rest : List Binding) × P 0 × (those ≡ x ∷ rest) × Just (λ j. P (suc j)) xs rest) ⊎ ((¬ P 0) × Just (λ j. P (suc j)) xs those)

-- by these places one comes from the first record to the second, and these bindings are in scope there, the outermost let's first
pub data Sees : Body → List Spot → List Binding → Body → Type 0 where
  here : {b : Body} → Sees b [] [] b
  down : {l : Loc} {w h : Bytes} {bs : Bindings} {b e : Body} {spots : List Spot} {more : List Binding} (s : Spot) (own : List Binding)
      → SpotOf (length (list_of bs)) s
      → Just (λ j. InScope Parallel (length (list_of bs)) [] j s) (list_of bs) own
      → Sees (at_spot (list_of bs) b s) spots more e
      → Sees (BL Parallel l w h bs b) (s ∷ spots) (own ++ more) e

-- where a place of a let* of n bindings is found in nested lets of one binding each: below as many bodies as there are bindings before it
unfoldable pub nested_spots : ℕ → Spot → List Spot
nested_spots n (in_binding i) = replicate i in_let_body ++ (in_binding 0 ∷ [])
nested_spots n in_let_body = replicate n in_let_body
