-- New names for patterns and args (rename.rs), and `rename_in_cons` as a step. docs/FORMAT.md, 'The walk'.
-- Assumes nothing.
use Rattle.std.specs.Prelude.{Bool, true, false, [], ◌∷◌, ℕ, ◌+◌, leb, length}
use Rattle.names.specs.Names.{Bytes, ascii, same, name_limit, gensym}
use Rattle.names.specs.Maps.{NameMap}
use Rattle.names.specs.Refusals.{placeless}
use Rattle.names.specs.declared.Reason.TheVariants.{LongName}
use Rattle.names.specs.declared.Refusal.{Refusal}
use Rattle.records.specs.Records.{Sexp, SN, SC, SI, SQ, SA}
use Rattle.walk.specs.RenameInCons.{rename_in_cons}
use Rattle.walk.specs.Steps.{M, made, done, refused, ◌>>=◌, ret, sexp_size, step}

-- 6: a made name that is too long
abbrev pub name_too_long : Refusal
name_too_long = placeless LongName

-- `gensym` at the walk's counter; 6 where the made name is too long
unfoldable pub draw : Bytes → M Bytes
draw n c x = elim (leb (length (gensym n c)) name_limit) [ true ↦ done (made n (gensym n c) ∷ []) (gensym n c) (c + 1) x | false ↦ refused [] name_too_long ]

-- Invent (`invent_new_names_sexp`): each atom but `@` draws a number, head before tail, repeats too; the map grows by each, the newest first
unfoldable pub invent_new_names_sexp : NameMap → Sexp → M NameMap
invent_new_names_sexp m (SN l) = ret m
invent_new_names_sexp m (SC l h t) = invent_new_names_sexp m h >>= λ m'. invent_new_names_sexp m' t
invent_new_names_sexp m (SI l v) = ret m
invent_new_names_sexp m (SQ l q n) = ret m
invent_new_names_sexp m (SA l n) = elim (same n (ascii "@")) [ true ↦ ret m | false ↦ (draw n >>= λ n'. ret ((n, n') ∷ m)) ]

-- F: the longest record
module _ (F : ℕ) where
  -- `rename_in_cons` as a step. Every SC of its result stands in the result, so one test of the finished record answers as all sums do
  -- (`steps_agree` of proofs/Steps.antt).
  unfoldable pub rename_in_cons_step : Bool → NameMap → Sexp → M Sexp
  rename_in_cons_step qq m s = step F sexp_size (ret (rename_in_cons qq m s))

-- unfolds with every definition of this file
unfoldable pub computing_invent : Unit {0}
unfolding draw invent_new_names_sexp rename_in_cons_step
computing_invent = tt
