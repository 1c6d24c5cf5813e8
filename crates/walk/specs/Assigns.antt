-- Demand 3: what holds of all the assigns that a call's walk reaches, and of the refusal that the call answers.
-- Assumes nothing.
use Rattle.std.specs.Prelude.{Option, ◌≡◌, ◌↔◌, ◌⊎◌, List, [], ◌∷◌, ◌++◌, map, reverse, ℕ, ◌≤◌, length, get_or}
use Rattle.std.proofs.Math.Option.{some}
use Rattle.names.specs.Maps.{NameMap}
use Rattle.names.specs.Refusals.{place_at, refusal_number, refusal_place}
use Rattle.names.specs.declared.Refusal.{Refusal}
use Rattle.records.specs.Limits.{level_limit}
use Rattle.records.specs.Records.{loc_number, Body, BL, Binding, to_bindings}
use Rattle.records.specs.declared.Kind.TheVariants.{Assign}
use Rattle.ordering.specs.Toposort.{ordered}
use Rattle.ordering.specs.Lawful.{◌is_in◌, Full}
use Rattle.ordering.specs.Words.{items, toposort_assign_bindings}
use Rattle.walk.specs.Steps.{Event, done, Visit}
use Rattle.walk.specs.Bodyforms.{rename_assign_binding, walk, no_binding}

-- some order of all the bindings has, for each of them, every bound name that its body needs provided by a binding placed before it
abbrev pub HasOrder : Visit → Type 0
HasOrder e = (is : List ℕ) × Full (items e.bindings) is

-- the pass orders the bindings: the exact order, which is such an order
abbrev pub Ordered : Visit → Type 0
Ordered e = (is : List ℕ) × (toposort_assign_bindings e.bindings ≡ ordered is) × Full (items e.bindings) is

-- the record given to the use of Own that e tells of
abbrev pub record_of : Visit → Body
record_of e = BL Assign e.loc e.keyword e.hint (to_bindings e.bindings) e.body

-- F: the longest record
module _ (F : ℕ) where
  -- What Own makes of bindings, one after the other, from a map, a counter and a length held: each starts with what the one before left.
  -- (The fuel is enough: more changes nothing, proofs/Fuel.antt.)
  pub data Makes : NameMap → ℕ → ℕ → List Binding → List Binding → Type 0 where
    makes_none : {m : NameMap} {c x : ℕ} → Makes m c x [] []
    makes_next : {m m' : NameMap} {c c' x x' : ℕ} {log : List Event} {b b' : Binding} {bs bs' : List Binding}
        → rename_assign_binding F (walk F level_limit) m b c x ≡ done log (m', b') c' x'
        → Makes m' c' x' bs bs'
        → Makes m c x (b ∷ bs) (b' ∷ bs')

  -- the use of Own on e gives this record back
  pub record Finished (e : Visit) (back : Body) : Type 0 where
    pub order : List ℕ
    pub exact : toposort_assign_bindings e.bindings ≡ ordered order
    pub full : Full (items e.bindings) order
    -- the bindings written, from last to first: what Own makes of those of e, taken in the exact order, from an empty map and the counter of e
    pub bindings : List Binding
    pub count : length bindings ≡ length e.bindings
    pub renamed : Makes [] e.counter 0 (map (λ i. get_or e.bindings i no_binding) order) bindings
    pub body : Body
    pub written : back ≡ BL Assign e.loc e.keyword e.hint (to_bindings (reverse bindings)) body
    -- and the whole of it: what Own gives of the assign as it then reads, from the counter of e and any sum
    pub log : List Event
    pub counter : ℕ
    pub given_back : (x : ℕ) → (walk F level_limit).args_bodyform (record_of e) e.counter x ≡ done log back counter x

  -- of the list of a call, and the refusal that it answers, if any (its number is 0 where nothing is refused)
  pub record AssignsOrdered (list : List Visit) (r : Option Refusal) : Type 0 where
    -- the pass orders the bindings exactly when there is such an order
    pub orders : (e : Visit) → e is_in list → Ordered e ↔ HasOrder e
    -- the call refuses as deadlocked exactly when it reaches an assign with no such order
    pub refuses : (refusal_number r ≡ 5) ↔ ((e : Visit) × (e is_in list) × ¬ HasOrder e)
    -- with that assign's place, and it reaches none after it
    pub last : (before after : List Visit) (e : Visit) → list ≡ before ++ (e ∷ after) → ¬ HasOrder e → (refusal_place r ≡ place_at (loc_number e.loc)) × (after ≡ [])
    -- each whose use is finished comes back so
    pub finished : (e : Visit) → e is_in list → (back : Body) → e.back ≡ some back → Finished e back
    -- in a call that is accepted, or refused for its buffer alone, each use is finished
    pub all_finished : (refusal_number r ≡ 0) ⊎ (refusal_number r ≡ 8) → (e : Visit) → e is_in list → (back : Body) × (e.back ≡ some back)
    -- a call refused before its walk reaches none
    pub none_reached : 1 ≤ refusal_number r → refusal_number r ≤ 4 → list ≡ []
