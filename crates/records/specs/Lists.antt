-- Trees one after the other: their bytes, and what each of them has.
-- Assumes nothing.
use Rattle.std.specs.Prelude.{List, [], ◌∷◌, ◌++◌}
use Rattle.names.specs.Names.{Bytes}

-- the bytes of trees one after the other
unfoldable pub joined : {A : Type 0} → (A → Bytes) → List A → Bytes
joined f [] = []
joined f (t ∷ ts) = f t ++ joined f ts

-- each has P
unfoldable pub Each : {A : Type 0} → (A → Type 0) → List A → Type 0
Each P [] = Unit {0}
Each P (t ∷ ts) = P t × Each P ts
