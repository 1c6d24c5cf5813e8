-- `rename_in_cons` and `rename_in_qq` step by step, one step for each record, with the sums that each holds. docs/FORMAT.md, 'Sums'.
-- `rename_in_cons_step` (Invent.antt) answers the same with one test (`steps_agree` of proofs/Steps.antt).
-- Assumes nothing.
use Rattle.std.specs.Prelude.{Bool, true, false, ◌&&◌, ℕ}
use Rattle.names.specs.Maps.{NameMap, renamed}
use Rattle.records.specs.Records.{Loc, Sexp, SN, SC, SI, SQ, SA}
use Rattle.records.specs.Sexps.{nilp, is_atom}
use Rattle.walk.specs.RenameInCons.{requote}
use Rattle.walk.specs.Steps.{M, ◌>>=◌, ret, sexp_size, step, child}

-- F: the longest record
module _ (F : ℕ) where
  -- a record kept or rebuilt: nothing in its sum
  abbrev pub finished : Sexp → M Sexp
  finished r = step F sexp_size (ret r)

  -- an SC whose parts go on: the head and then the tail in its sum
  abbrev pub parts : Loc → M Sexp → M Sexp → M Sexp
  parts l h t = step F sexp_size (do
    h' ← child F sexp_size h
    t' ← child F sexp_size t
    ret (SC l h' t'))

  module _ (qq : Bool) (m : NameMap) where
    unfoldable mutual
      -- `rename_in_cons`
      pub rename_in_cons_sums : Sexp → M Sexp
      rename_in_cons_sums (SN l) = finished (SN l)
      rename_in_cons_sums (SC l h t) =
          elim (is_atom "q" h) [
            | true ↦ finished (SC l h t)
            | false ↦ elim (is_atom "quote" h) [
              | true ↦ finished (requote l h t)
              | false ↦ elim (is_atom "qq" h && qq) [
                | true ↦ only_in_qq_sums t (SC l h t)
                | false ↦ parts l (rename_in_cons_sums h) (rename_in_cons_sums t)
              ]
            ]
          ]
      rename_in_cons_sums (SI l v) = finished (SI l v)
      rename_in_cons_sums (SQ l q n) = finished (SQ l q n)
      rename_in_cons_sums (SA l n) = finished (SA l (renamed m n))

      -- `rename_in_qq`
      pub rename_in_qq_sums : Sexp → M Sexp
      rename_in_qq_sums (SN l) = finished (SN l)
      rename_in_qq_sums (SC l h t) =
          elim (is_atom "unquote" h) [
            | true ↦ only_in_cons_sums t (parts l (rename_in_qq_sums h) (rename_in_qq_sums t))
            | false ↦ parts l (rename_in_qq_sums h) (rename_in_qq_sums t)
          ]
      rename_in_qq_sums (SI l v) = finished (SI l v)
      rename_in_qq_sums (SQ l q n) = finished (SQ l q n)
      rename_in_qq_sums (SA l n) = finished (SA l n)

      -- the only element of a proper list, or else what stands beside
      pub only_in_cons_sums : Sexp → M Sexp → M Sexp
      only_in_cons_sums (SN l) k = k
      only_in_cons_sums (SC l x t) k = elim (nilp t) [ true ↦ step F sexp_size (child F sexp_size (rename_in_cons_sums x)) | false ↦ k ]
      only_in_cons_sums (SI l v) k = k
      only_in_cons_sums (SQ l q n) k = k
      only_in_cons_sums (SA l n) k = k

      -- the same inside `qq`
      pub only_in_qq_sums : Sexp → Sexp → M Sexp
      only_in_qq_sums (SN l) k = finished k
      only_in_qq_sums (SC l x t) k = elim (nilp t) [ true ↦ step F sexp_size (child F sexp_size (rename_in_qq_sums x)) | false ↦ finished k ]
      only_in_qq_sums (SI l v) k = finished k
      only_in_qq_sums (SQ l q n) k = finished k
      only_in_qq_sums (SA l n) k = finished k
