-- The patterns of a parallel let by their new names (rename.rs). docs/FORMAT.md, 'The walk'.
-- Assumes nothing.
use Rattle.std.specs.Prelude.{false, List, [], ◌∷◌, ◌++◌, ℕ}
use Rattle.names.specs.Maps.{NameMap}
use Rattle.records.specs.Records.{Pattern, Name, Complex, Binding, BB}
use Rattle.walk.specs.Steps.{M, ◌>>=◌, ret, sexp_size, child}
use Rattle.walk.specs.Invent.{draw, invent_new_names_sexp, rename_in_cons_step}

-- F: the longest record
module _ (F : ℕ) where
  -- `make_binding_unique`: a binding's own map, and its pattern by that map; a Name draws a number, `@` too
  unfoldable pub make_binding_unique : Pattern → M (NameMap × Pattern)
  make_binding_unique (Name n) = draw n >>= λ n'. ret ((n, n') ∷ [], Name n')
  make_binding_unique (Complex s) = do
    m ← invent_new_names_sexp [] s
    s' ← child F sexp_size (rename_in_cons_step F false m s)
    ret (m, Complex s')

  -- the bindings of a parallel let, one after the other, and their joined map, where the later binding prevails
  unfoldable pub make_bindings_unique : NameMap → List Binding → M (NameMap × List Binding)
  make_bindings_unique m [] = ret (m, [])
  make_bindings_unique m (BB l nl p b ∷ bs) = do
    (m₁, p') ← make_binding_unique p
    (m', bs') ← make_bindings_unique (m₁ ++ m) bs
    ret (m', BB l nl p' b ∷ bs')

-- unfolds with every definition of this file
unfoldable pub computing_patterns : Unit {0}
unfolding make_binding_unique make_bindings_unique
computing_patterns = tt
