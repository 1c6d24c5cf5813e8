-- Name maps: what each renamed name becomes. In memory a map is its entries one after the other, the newest first. docs/FORMAT.md, 'Names'.
-- Assumes nothing.
use Rattle.std.specs.Prelude.{true, false, ◌≡◌, List, [], ◌∷◌, ◌++◌, ℕ, ◌+◌, ◌≤◌, length}
use Rattle.std.proofs.Math.Option.{Option, none, some}
use Rattle.std.specs.Borrow.{Bor}
use Rattle.names.specs.Names.{Bytes, same, name_limit, name_width, name_field}
use Rattle.names.specs.Segments.{PartOf}

-- old and new name of each entry; the newest stands first
abbrev pub NameMap : Type 0
NameMap = List (Bytes × Bytes)

-- the newest entry of a name
unfoldable pub lookup : NameMap → Bytes → Option Bytes
lookup [] n = none
lookup (e ∷ es) n = elim (same n e.0) [ true ↦ some e.1 | false ↦ lookup es n ]

-- what a name becomes: itself where it has no entry
unfoldable pub renamed : NameMap → Bytes → Bytes
renamed m n = elim (lookup m n) [ none ↦ n | some v ↦ v ]

-- where the new name of that entry stands in the map's memory; the end of the map where there is none
unfoldable pub found_at : NameMap → Bytes → ℕ
found_at [] n = 0
found_at (e ∷ es) n =
    elim (same n e.0) [
      | true ↦ length (name_field e.0) + name_width
      | false ↦ length (name_field e.0) + length (name_field e.1) + found_at es n
    ]

-- where an answer of `lookup` is from: the name as it was given where it has no entry, and a part of the map where it has one
pub record Origin (m : NameMap) (name map r : Bor Bytes) : Type 0 where
  pub kept : lookup m name.now ≡ none → r ≡ name
  pub found : (v : Bytes) → lookup m name.now ≡ some v → PartOf map (found_at m name.now) r

-- a map in memory
unfoldable pub map_bytes : NameMap → Bytes
map_bytes [] = []
map_bytes (e ∷ es) = name_field e.0 ++ (name_field e.1 ++ map_bytes es)

-- every name of a map is within its limit
unfoldable pub Limited : NameMap → Type 0
Limited [] = Unit {0}
Limited (e ∷ es) = (length e.0 ≤ name_limit) × (length e.1 ≤ name_limit) × Limited es

-- s is a map in memory, its names within their limit
pub record MapOf (s : Bytes) (m : NameMap) : Type 0 where
  pub is : s ≡ map_bytes m
  pub limited : Limited m

-- unfolds with every definition of this file
unfoldable pub computing_maps : Unit {0}
unfolding lookup renamed found_at map_bytes
computing_maps = tt
