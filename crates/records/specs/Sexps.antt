-- What sexp.rs asks of an S record: `nilp`, `truthy`, `loc`, and a proper list of one element.
-- Assumes nothing.
use Rattle.std.specs.Prelude.{Bool, true, false, ◌&&◌, not, [], ◌∷◌, eqb}
use Rattle.std.proofs.Math.Option.{Option, none, some}
use Prim.Native.String.{String}
use Rattle.names.specs.Names.{Bytes, ascii, same}
use Rattle.records.specs.Records.{Loc, Sexp, SN, SC, SI, SQ, SA}

-- bytes that are all 00, or none
unfoldable pub all_zero : Bytes → Bool
all_zero [] = true
all_zero (b ∷ bs) = eqb b 0 && all_zero bs

-- `truthy`: not nil and not a number zero
unfoldable pub truthy : Sexp → Bool
truthy (SN l) = false
truthy (SC l h t) = true
truthy (SI l v) = not (all_zero v)
truthy (SQ l q n) = not (all_zero n)
truthy (SA l n) = not (all_zero n)

-- no byte
unfoldable pub is_empty : Bytes → Bool
is_empty [] = true
is_empty (b ∷ bs) = false

-- `nilp`: what ends a proper list
unfoldable pub nilp : Sexp → Bool
nilp (SN l) = true
nilp (SC l h t) = false
nilp (SI l v) = all_zero v
nilp (SQ l q n) = is_empty n
nilp (SA l n) = is_empty n

-- `loc`
unfoldable pub loc_of : Sexp → Loc
loc_of (SN l) = l
loc_of (SC l h t) = l
loc_of (SI l v) = l
loc_of (SQ l q n) = l
loc_of (SA l n) = l

-- s is the atom of this word
unfoldable pub is_atom : String → Sexp → Bool
is_atom w (SN l) = false
is_atom w (SC l h t) = false
is_atom w (SI l v) = false
is_atom w (SQ l q n) = false
is_atom w (SA l n) = same n (ascii w)

-- s is a proper list of one element: that element
unfoldable pub only : Sexp → Option Sexp
only (SN l) = none
only (SC l x t) = elim (nilp t) [ true ↦ some x | false ↦ none ]
only (SI l v) = none
only (SQ l q n) = none
only (SA l n) = none

-- unfolds with every definition of this file
unfoldable pub computing_sexps : Unit {0}
unfolding all_zero truthy is_empty nilp loc_of is_atom only
computing_sexps = tt
