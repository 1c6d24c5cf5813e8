-- What the code promises that lists the names that patterns provide.
-- Assumes nothing.
use Rattle.std.specs.Prelude.{List, [], ◌∷◌, ◌++◌, ◌≡◌, ℕ, zero, suc, ◌+◌, ◌/◌, ◌%◌, ◌≤◌, ◌<◌, length, get_or}
use Rattle.names.specs.Names.{Bytes}
use Rattle.names.specs.Segments.{At, SameOutside}
use Rattle.records.specs.Records.{Binding, BB}
use Rattle.records.specs.Parts.{Part}
use Rattle.ordering.specs.declared.listed.Listed.{Listed}
use Rattle.ordering.specs.Listed.{SameRoom, Added}
use Rattle.ordering.specs.Needs.{binding_limit}
use Rattle.ordering.specs.Words.{pattern_provides}

-- more than every place in a record
abbrev pub places : ℕ
places = 65536

-- an entry says where the name x stands in a
pub record Entry (a : Bytes) (e : ℕ) (x : Bytes) : Type 0 where
  pub some : e ≡ 0 → ⊥
  pub there : At a (e / places) x
  pub ends : e % places ≡ e / places + length x

-- entries say where names stand
unfoldable pub Entries : Bytes → List ℕ → List Bytes → Type 0
Entries a [] [] = Unit {0}
Entries a [] (x ∷ xs) = ⊥
Entries a (e ∷ es) [] = ⊥
Entries a (e ∷ es) (x ∷ xs) = Entry a e x × Entries a es xs

-- the names that the patterns of bindings provide are listed: for each binding 0, and an entry for each name
unfoldable pub Provisions : Bytes → List ℕ → List Binding → Type 0
Provisions a given [] = given ≡ []
Provisions a given (BB l nl p b ∷ bs) = (es : List ℕ) × (rest : List ℕ) × (given ≡ 0 ∷ (es ++ rest)) × Entries a es (pattern_provides p) × Provisions a rest bs

-- how many bindings are listed
unfoldable pub listed_bindings : List ℕ → ℕ
listed_bindings [] = 0
listed_bindings (zero ∷ es) = suc (listed_bindings es)
listed_bindings (suc e ∷ es) = listed_bindings es

-- every entry says a place in a, and not too many bindings are listed
pub record Given (a : Bytes) (given : List ℕ) : Type 0 where
  pub few : listed_bindings given ≤ binding_limit
  pub within : (k : ℕ) → k < length given → (get_or given k 0 / places ≤ get_or given k 0 % places) × (get_or given k 0 % places ≤ length a)

-- an entry of a name, whatever it is, within the first `size` bytes
pub record EntryIn (size e : ℕ) : Type 0 where
  pub some : e ≡ 0 → ⊥
  pub forward : e / places ≤ e % places
  pub within : e % places ≤ size

-- only what stands behind what was listed was changed, and entries of names stand there
pub record Adds (size : ℕ) (before after : Listed ℕ) : Type 0 where
  pub room : SameRoom before after
  pub more : before.count ≤ after.count
  pub frame : SameOutside before.items.now after.items.now before.count after.count
  pub entries : (k : ℕ) → before.count ≤ k → k < after.count → EntryIn size (get_or after.items.now k 0)

-- the tree that stands in a at a place ends at `end`, and its names were listed if there was room; whatever the bytes, only entries were added
pub record ListsNames (p : Part) (names : p.0 → List Bytes) (a : Bytes) (at : ℕ) (before after : Listed ℕ) (end : ℕ) : Type 0 where
  pub forward : at ≤ end
  pub within : end ≤ length a
  pub adds : Adds (length a) before after
  pub ends : (t : p.0) → p.2 t → At a at (p.1 t) → end ≡ at + length (p.1 t)
  pub lists : (t : p.0) → p.2 t → At a at (p.1 t) → before.count + length (names t) ≤ length before.items.now → (es : List ℕ) × Entries a es (names t) × Added before after es
