-- What the steps on B records that go no level down ask of memory, and what they answer: a record kept, a BQ and a BV by the map, and a
-- sequential let desugared.
-- Assumes nothing.
use Rattle.std.specs.Prelude.{◌≡◌, List, ◌++◌, ℕ, ◌+◌, length, take, drop}
use Rattle.names.specs.Names.{Bytes, ascii}
use Rattle.records.specs.Records.{mark_width, Sexp, Body, BL, BQ, BV, BC, BM, BF, Binding, byte, kind_field, list_of, loc_width, sexp_bytes, body_bytes, binding_bytes}
use Rattle.records.specs.declared.Kind.TheVariants.{Parallel, Sequential}
use Rattle.records.specs.Valid.{SexpFields, ValidBody, IsLet}
use Rattle.records.specs.declared.Step.{Step}
use Rattle.records.specs.Lists.{joined, Each}
use Rattle.records.specs.Parts.{ValidBinding}
use Rattle.walk.specs.Arena.{Says, fitting, outcome}
use Rattle.walk.specs.Bodyforms.{Rules, body_rules, desugar_sequential_let_bindings}
use Rattle.walk.specs.RenameInCons.{rename_atom}
use Rattle.walk.specs.declared.Task.{Task}
use Rattle.std.specs.declared.result.Result.{Result}
use Rattle.names.specs.declared.Refusal.{Refusal}

-- a BQ
unfoldable pub IsQuoted : Body → Type 0
IsQuoted (BL k l w h bs b) = ⊥
IsQuoted (BQ s) = Unit {0}
IsQuoted (BV s) = ⊥
IsQuoted (BC l bs t) = ⊥
IsQuoted (BM l f) = ⊥
IsQuoted (BF l w ca c a b) = ⊥

-- a BV
unfoldable pub IsValue : Body → Type 0
IsValue (BL k l w h bs b) = ⊥
IsValue (BQ s) = ⊥
IsValue (BV s) = Unit {0}
IsValue (BC l bs t) = ⊥
IsValue (BM l f) = ⊥
IsValue (BF l w ca c a b) = ⊥

-- a record that Own keeps
unfoldable pub IsKept : Body → Type 0
IsKept (BL k l w h bs b) = ⊥
IsKept (BQ s) = Unit {0}
IsKept (BV s) = Unit {0}
IsKept (BC l bs t) = ⊥
IsKept (BM l f) = Unit {0}
IsKept (BF l w ca c a b) = ⊥

-- a B record of this kind
pub record ValidKind (Only : Body → Type 0) (b : Body) : Type 0 where
  pub valid : ValidBody b
  pub only : Only b

-- what is answered of a B record that is kept
abbrev pub KeepsBody : Bytes → Bytes → Task → Result Step Refusal → Type 0
KeepsBody old new t r = Says body_bytes ValidBody body_bytes (λ m b. fitting body_bytes t.f t.counter b) old new t r

-- what In-body answers of a B record of this kind, whatever the rules on the levels below are
abbrev pub InBody : (Body → Type 0) → Bytes → Bytes → Task → Result Step Refusal → Type 0
InBody Only old new t r = (q : Rules) → Says body_bytes (ValidKind Only) body_bytes (λ m b. outcome ((body_rules t.f q).in_bodyform m b t.counter 0)) old new t r

-- a mark, and an S record behind it
abbrev pub WithMark : Type 0
WithMark = Bytes × Sexp

abbrev pub with_mark_bytes : WithMark → Bytes
with_mark_bytes x = x.0 ++ sexp_bytes x.1

pub record ValidWithMark (x : WithMark) : Type 0 where
  pub mark : length x.0 ≡ mark_width
  pub fields : SexpFields x.1

-- what is answered of a mark and an S record that goes by the map where it is an atom
abbrev pub RenamesWithMark : Bytes → Bytes → Task → Result Step Refusal → Type 0
RenamesWithMark old new t r = Says with_mark_bytes ValidWithMark with_mark_bytes (λ m x. fitting with_mark_bytes t.f t.counter (x.0, rename_atom m x.1)) old new t r

-- a let desugared as a sequential one is; every other B record as it is
unfoldable pub desugared : Body → Body
desugared (BL k l w h bs b) = desugar_sequential_let_bindings (list_of bs) b
desugared (BQ s) = BQ s
desugared (BV s) = BV s
desugared (BC l bs t) = BC l bs t
desugared (BM l f) = BM l f
desugared (BF l w ca c a b) = BF l w ca c a b

-- what is answered of a sequential let
abbrev pub Desugars : Bytes → Bytes → Task → Result Step Refusal → Type 0
Desugars old new t r = Says body_bytes (ValidKind (IsLet Sequential)) body_bytes (λ m b. fitting body_bytes t.f t.counter (desugared b)) old new t r

-- the bindings of a let that are left, and its body
abbrev pub Left : Type 0
Left = List Binding × Body

-- one after the other
abbrev pub left_bytes : Left → Bytes
left_bytes x = joined binding_bytes x.0 ++ body_bytes x.1

-- so many bindings are left
pub record ValidLeft (count : ℕ) (x : Left) : Type 0 where
  pub many : length x.0 ≡ count
  pub bindings : Each ValidBinding x.0
  pub body : ValidBody x.1

-- what is answered of them
abbrev pub Nests : ℕ → Bytes → Bytes → Task → Result Step Refusal → Type 0
Nests count old new t r =
    Says left_bytes (ValidLeft count) body_bytes (λ m x. fitting body_bytes t.f t.counter (desugar_sequential_let_bindings x.0 x.1)) old new t r

-- the bytes of a let of one binding, before the binding
abbrev pub let_head : ℕ
let_head = mark_width + 1 + loc_width + 3

-- a parallel let of the binding of n bytes that stands at the start, up to its body: with that binding's L, no keyword and no hint
abbrev pub let_of : Bytes → ℕ → Bytes
let_of s n = (ascii "BL" ++ kind_field Parallel) ++ (take loc_width (drop mark_width s) ++ ((byte 0 ++ (byte 0 ++ byte 1)) ++ take n s))
