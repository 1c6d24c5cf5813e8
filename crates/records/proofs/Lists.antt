-- The bodies, bindings and helpers of a record as lists of trees, and the bindings of a let as a list. Assumes nothing.
use mathlib.Core.Path.{◌≡◌, refl, ap}
use mathlib.Core.List.{List, [], ◌∷◌, ◌++◌}
use Prim.Native.Nat.{ℕ, suc, ◌≤◌}
use native.Mathlib.Omega.{arith}
use lib.ListN.{length}
use Rattle.names.specs.Names.{Bytes}
use Rattle.records.specs.Depth.{bodies_depth, bindings_depth, helpers_depth}
use Rattle.records.specs.Limits.{level_limit, lambda_limit}
use Rattle.records.specs.Records.{list_of, binding_bytes, Bodies, []ᵇ, ◌∷ᵇ◌, bodies_bytes, bodies_count, Bindings, []ᵍ, ◌∷ᵍ◌, bindings_bytes, bindings_count, Helpers, []ʰ, ◌∷ʰ◌, helpers_bytes, helpers_count}
use Rattle.records.specs.Valid.{BodiesFields, BindingsFields, HelpersFields, bodies_lambda_depth, bindings_lambda_depth, helpers_lambda_depth}
use Rattle.records.specs.declared.Family.TheVariants.{Body as a_Body, Binding as a_binding, Helper as a_helper}
use Rattle.records.specs.Lists.{joined, Each}
use Rattle.records.specs.Parts.{ValidBinding, Part, family_part}

-- trees as a list: as many, each meant, with the same bytes
pub record Listed (p : Part) (n : ℕ) (bs : Bytes) : Type 0 where
  pub trees : List p.0
  pub count : length trees ≡ n
  pub each : Each p.2 trees
  pub same : joined p.1 trees ≡ bs

listed_none : {p : Part} → Listed p 0 []
unfolding Each joined
listed_none = record { trees = []; count = refl; each = tt; same = refl }

listed_more : {p : Part} {n : ℕ} {bs : Bytes} (t : p.0) → p.2 t → Listed p n bs → Listed p (suc n) (p.1 t ++ bs)
unfolding Each joined
listed_more {p} t v l = record { trees = t ∷ l.trees; count = ap suc l.count; each = (v, l.each); same = ap (λ (x : Bytes). p.1 t ++ x) l.same }

pub listed_bodies : (bs : Bodies) → BodiesFields bs → bodies_depth bs ≤ level_limit → bodies_lambda_depth bs ≤ lambda_limit → Listed (family_part a_Body) (bodies_count bs) (bodies_bytes bs)
unfolding BodiesFields bodies_depth bodies_lambda_depth bodies_count bodies_bytes
listed_bodies []ᵇ v d k = listed_none
listed_bodies (b ∷ᵇ bs) v d k = listed_more b (v.0, omega arith, omega arith) (listed_bodies bs v.1 (omega arith) (omega arith))

pub listed_bindings : (bs : Bindings) → BindingsFields bs → bindings_depth bs ≤ level_limit → bindings_lambda_depth bs ≤ lambda_limit → Listed (family_part a_binding) (bindings_count bs) (bindings_bytes bs)
unfolding BindingsFields bindings_depth bindings_lambda_depth bindings_count bindings_bytes
listed_bindings []ᵍ v d k = listed_none
listed_bindings (b ∷ᵍ bs) v d k = listed_more b (v.0, omega arith, omega arith) (listed_bindings bs v.1 (omega arith) (omega arith))

pub listed_helpers : (hs : Helpers) → HelpersFields hs → helpers_depth hs ≤ level_limit → helpers_lambda_depth hs ≤ lambda_limit → Listed (family_part a_helper) (helpers_count hs) (helpers_bytes hs)
unfolding HelpersFields helpers_depth helpers_lambda_depth helpers_count helpers_bytes
listed_helpers []ʰ v d k = listed_none
listed_helpers (h ∷ʰ hs) v d k = listed_more h (v.0, omega arith, omega arith) (listed_helpers hs v.1 (omega arith) (omega arith))

-- the bindings of a let as a list
pub list_count : (bs : Bindings) → length (list_of bs) ≡ bindings_count bs
unfolding list_of bindings_count
list_count []ᵍ = refl
list_count (b ∷ᵍ bs) = ap suc (list_count bs)

pub list_bytes : (bs : Bindings) → joined binding_bytes (list_of bs) ≡ bindings_bytes bs
unfolding list_of joined bindings_bytes
list_bytes []ᵍ = refl
list_bytes (b ∷ᵍ bs) = ap (λ (x : Bytes). binding_bytes b ++ x) (list_bytes bs)

pub list_valid : (bs : Bindings) → BindingsFields bs → bindings_depth bs ≤ level_limit → bindings_lambda_depth bs ≤ lambda_limit → Each ValidBinding (list_of bs)
unfolding list_of Each BindingsFields bindings_depth bindings_lambda_depth
list_valid []ᵍ v d k = tt
list_valid (b ∷ᵍ bs) v d k = ((v.0, omega arith, omega arith), list_valid bs v.1 (omega arith) (omega arith))
