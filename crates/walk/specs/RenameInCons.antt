-- Substitute (`rename_in_cons`, `rename_in_qq` of rename.rs): the names of an S record by a map. docs/FORMAT.md, 'The walk'.
-- Assumes nothing.
use Rattle.std.specs.Prelude.{Bool, true, false, ◌&&◌}
use Rattle.std.proofs.Math.Option.{Option, none, some}
use Rattle.names.specs.Maps.{NameMap, renamed}
use Rattle.records.specs.Records.{Loc, Sexp, SN, SC, SI, SQ, SA}
use Rattle.records.specs.Sexps.{nilp, loc_of, is_atom, only}

-- `(quote v)` rebuilt, its inner SC and closing SN at v's L
unfoldable pub requote : Loc → Sexp → Sexp → Sexp
requote l h t = elim (only t) [ none ↦ SC l h t | some v ↦ SC l h (SC (loc_of v) v (SN (loc_of v))) ]

-- qq: the head `qq` is looked into
module _ (qq : Bool) (m : NameMap) where
  unfoldable mutual
    -- Substitute
    pub rename_in_cons : Sexp → Sexp
    rename_in_cons (SN l) = SN l
    rename_in_cons (SC l h t) =
        elim (is_atom "q" h) [
          | true ↦ SC l h t
          | false ↦ elim (is_atom "quote" h) [
            | true ↦ requote l h t
            | false ↦ elim (is_atom "qq" h && qq) [
              | true ↦ elim (only_in_qq t) [ none ↦ SC l h t | some r ↦ r ]
              | false ↦ SC l (rename_in_cons h) (rename_in_cons t)
            ]
          ]
        ]
    rename_in_cons (SI l v) = SI l v
    rename_in_cons (SQ l q n) = SQ l q n
    rename_in_cons (SA l n) = SA l (renamed m n)

    -- inside `qq`: only what an `unquote` of one element holds
    pub rename_in_qq : Sexp → Sexp
    rename_in_qq (SN l) = SN l
    rename_in_qq (SC l h t) =
        elim (is_atom "unquote" h) [
          | true ↦ elim (only_in_cons t) [ none ↦ SC l (rename_in_qq h) (rename_in_qq t) | some r ↦ r ]
          | false ↦ SC l (rename_in_qq h) (rename_in_qq t)
        ]
    rename_in_qq (SI l v) = SI l v
    rename_in_qq (SQ l q n) = SQ l q n
    rename_in_qq (SA l n) = SA l n

    -- the only element of a proper list, through each of the two
    pub only_in_cons : Sexp → Option Sexp
    only_in_cons (SN l) = none
    only_in_cons (SC l x t) = elim (nilp t) [ true ↦ some (rename_in_cons x) | false ↦ none ]
    only_in_cons (SI l v) = none
    only_in_cons (SQ l q n) = none
    only_in_cons (SA l n) = none

    pub only_in_qq : Sexp → Option Sexp
    only_in_qq (SN l) = none
    only_in_qq (SC l x t) = elim (nilp t) [ true ↦ some (rename_in_qq x) | false ↦ none ]
    only_in_qq (SI l v) = none
    only_in_qq (SQ l q n) = none
    only_in_qq (SA l n) = none

-- BQ and BV: an atom alone goes by the map
unfoldable pub rename_atom : NameMap → Sexp → Sexp
rename_atom m (SN l) = SN l
rename_atom m (SC l h t) = SC l h t
rename_atom m (SI l v) = SI l v
rename_atom m (SQ l q n) = SQ l q n
rename_atom m (SA l n) = SA l (renamed m n)

-- unfolds with every definition of this file
unfoldable pub computing_rename_in_cons : Unit {0}
unfolding requote rename_in_cons rename_in_qq only_in_cons only_in_qq rename_atom
computing_rename_in_cons = tt
