-- Own (`rename_args_bodyform`) and In-body (`rename_in_bodyform`) on the B records (rename.rs). docs/FORMAT.md, 'The walk'.
-- Assumes nothing.
use Rattle.std.specs.Prelude.{false, List, [], ◌∷◌, ℕ, zero, suc, get_or}
use Rattle.std.proofs.Math.Option.{Option, none, some}
use Rattle.names.specs.Names.{Bytes}
use Rattle.names.specs.Maps.{NameMap}
use Rattle.names.specs.Refusals.{refusing, place_at}
use Rattle.names.specs.declared.Reason.TheVariants.{Deadlock}
use Rattle.names.specs.declared.Refusal.{Refusal}
use Rattle.records.specs.Records.{Loc, loc_number, Sexp, Name, Complex, Body, BL, BQ, BV, BC, BM, BF, Bodies, []ᵇ, ◌∷ᵇ◌, Tail, no_tail, tail, Binding, BB, Bindings, []ᵍ, ◌∷ᵍ◌, to_bindings, list_of, byte}
use Rattle.records.specs.declared.Kind.TheVariants.{Parallel, Sequential, Assign}
pub use Rattle.ordering.specs.Assign.{no_binding}
use Rattle.ordering.specs.Toposort.{ordered, deadlock}
use Rattle.ordering.specs.Words.{toposort_assign_bindings}
use Rattle.walk.specs.RenameInCons.{rename_atom}
use Rattle.walk.specs.Steps.{M, Out, done, refused, Visit, reached, ◌>>=◌, ret, refuse, out_of_fuel, sexp_size, body_size, step, child, further}
use Rattle.walk.specs.Invent.{invent_new_names_sexp, rename_in_cons_step}
use Rattle.walk.specs.Patterns.{make_bindings_unique}

-- `desugar_sequential_let_bindings`: nested parallel lets, the first binding outermost, each with that binding's L, no keyword and no hint
unfoldable pub desugar_sequential_let_bindings : List Binding → Body → Body
desugar_sequential_let_bindings [] b = b
desugar_sequential_let_bindings (BB l nl p e ∷ bs) b = BL Parallel l (byte 0) (byte 0) (BB l nl p e ∷ᵍ []ᵍ) (desugar_sequential_let_bindings bs b)

-- the entry of an assign: its fields, the counter then, and the record given back if its use is finished
abbrev pub visit : Loc → Bytes → Bytes → Bindings → Body → ℕ → Option Body → Visit
visit l k h bs b c o = record { loc = l; keyword = k; hint = h; bindings = list_of bs; body = b; counter = c; back = o }

-- a visit stands in the list before those that it leads to
unfoldable pub logged : (Option Body → Visit) → Out Body → Out Body
logged e (done log a c x) = done (reached (e (some a)) ∷ log) a c x
logged e (refused log r) = refused (reached (e none) ∷ log) r

-- a use of `rename_args_bodyform` on this record, listed if it is an assign
unfoldable pub log_assign : Body → M Body → M Body
log_assign (BL Parallel l k h bs b) m = m
log_assign (BL Sequential l k h bs b) m = m
log_assign (BL Assign l k h bs b) m = λ c x. logged (visit l k h bs b c) (m c x)
log_assign (BQ s) m = m
log_assign (BV s) m = m
log_assign (BC l bs t) m = m
log_assign (BM l f) m = m
log_assign (BF l k ca c a b) m = m

-- 5: an assign with no order, its place the L
abbrev pub deadlocked : Loc → Refusal
deadlocked l = refusing Deadlock (place_at (loc_number l))

-- In-body of a BQ: an atom alone goes by the map
unfoldable pub rename_in_quoted : NameMap → Sexp → M Body
rename_in_quoted m s = ret (BQ (rename_atom m s))

-- In-body of a BV: the same
unfoldable pub rename_in_value : NameMap → Sexp → M Body
rename_in_value m s = ret (BV (rename_atom m s))

-- the two rules, on the records one level down
pub record Rules : Type 0 where
  pub args_bodyform : Body → M Body
  pub in_bodyform : NameMap → Body → M Body

-- F: the longest record
module _ (F : ℕ) where
  -- a rule on each body
  unfoldable pub each_body : (Body → M Body) → Bodies → M Bodies
  each_body f []ᵇ = ret []ᵇ
  each_body f (b ∷ᵇ bs) = do
    b' ← child F body_size (f b)
    bs' ← each_body f bs
    ret (b' ∷ᵇ bs')

  -- a rule on a call's tail
  unfoldable pub call_tail : (Body → M Body) → Tail → M Tail
  call_tail f no_tail = ret no_tail
  call_tail f (tail b) = child F body_size (f b) >>= λ b'. ret (tail b')

  -- a rule on each binding's body
  unfoldable pub each_binding_body : (Body → M Body) → List Binding → M (List Binding)
  each_binding_body f [] = ret []
  each_binding_body f (BB l nl p b ∷ bs) = do
    b' ← child F body_size (f b)
    bs' ← each_binding_body f bs
    ret (BB l nl p b' ∷ bs')

  module _ (r : Rules) where
    -- Own of a body, then In-body of what it gives
    unfoldable pub args_then_in : NameMap → Body → M Body
    args_then_in m b = child F body_size (r.args_bodyform b) >>= λ b'. further F body_size b' (r.in_bodyform m)

    -- Own of a parallel let
    unfoldable pub rename_args_let : Loc → Bytes → Bytes → List Binding → Body → M Body
    rename_args_let l k h bs b = do
      (m, bs') ← make_bindings_unique F [] bs
      bs'' ← each_binding_body r.args_bodyform bs'
      b' ← args_then_in m b
      ret (BL Parallel l k h (to_bindings bs'') b')

    -- Own of what a sequential let became. With bindings that is a parallel let, what it holds one level down in r; with none it is the body, which stands
    -- one level below the let and is taken by r.
    unfoldable pub rename_args_desugared : List Binding → Body → M Body
    rename_args_desugared [] b = r.args_bodyform b
    rename_args_desugared (BB l nl p e ∷ bs) b = step F body_size (rename_args_let l (byte 0) (byte 0) (BB l nl p e ∷ []) (desugar_sequential_let_bindings bs b))

    -- Own of a sequential let: the desugared let comes back, and Own takes it further (`sequential_own` of proofs/Sequential.antt)
    unfoldable pub rename_args_sequential : List Binding → Body → M Body
    rename_args_sequential bs b = child F body_size (ret (desugar_sequential_let_bindings bs b)) >>= λ d. further F body_size d (λ _. rename_args_desugared bs b)

    -- one binding of an assign, with the map that grows; a Name binding is copied
    unfoldable pub rename_assign_binding : NameMap → Binding → M (NameMap × Binding)
    rename_assign_binding m (BB l nl (Name n) b) = ret (m, BB l nl (Name n) b)
    rename_assign_binding m (BB l nl (Complex p) b) = do
      m' ← invent_new_names_sexp m p
      o ← child F body_size (r.args_bodyform b)
      p' ← child F sexp_size (rename_in_cons_step F false m' p)
      b' ← further F body_size o (r.in_bodyform m')
      ret (m', BB l nl (Complex p') b')

    -- the bindings of these indices, one after the other; the last stands first in what is written (`rename_assign_bindings`)
    unfoldable pub rename_assign_bindings : List Binding → List ℕ → NameMap → List Binding → M (NameMap × List Binding)
    rename_assign_bindings bs [] m written = ret (m, written)
    rename_assign_bindings bs (i ∷ is) m written = do
      (m', b) ← rename_assign_binding m (get_or bs i no_binding)
      rename_assign_bindings bs is m' (b ∷ written)

    -- Own of an assign whose order is known
    unfoldable pub rename_args_ordered : Loc → Bytes → Bytes → List Binding → Body → List ℕ → M Body
    rename_args_ordered l k h bs b is = do
      (m, bs') ← rename_assign_bindings bs is [] []
      b' ← args_then_in m b
      ret (BL Assign l k h (to_bindings bs') b')

    -- Own of an assign: it is ordered first; 5 at a deadlock, with the assign's place
    unfoldable pub rename_args_assign : Loc → Bytes → Bytes → List Binding → Body → M Body
    rename_args_assign l k h bs b = elim (toposort_assign_bindings bs) [ deadlock _ ↦ refuse (deadlocked l) | ordered is ↦ rename_args_ordered l k h bs b is ]

    -- Own
    unfoldable pub rename_args_bodyform : Body → M Body
    rename_args_bodyform (BL Parallel l k h bs b) = rename_args_let l k h (list_of bs) b
    rename_args_bodyform (BL Sequential l k h bs b) = rename_args_sequential (list_of bs) b
    rename_args_bodyform (BL Assign l k h bs b) = rename_args_assign l k h (list_of bs) b
    rename_args_bodyform (BQ s) = ret (BQ s)
    rename_args_bodyform (BV s) = ret (BV s)
    rename_args_bodyform (BC l bs t) = do
      bs' ← each_body r.args_bodyform bs
      t' ← call_tail r.args_bodyform t
      ret (BC l bs' t')
    rename_args_bodyform (BM l f) = ret (BM l f)
    rename_args_bodyform (BF l k ca c a b) = do
      m ← invent_new_names_sexp [] a
      a' ← child F sexp_size (rename_in_cons_step F false m a)
      b' ← args_then_in m b
      ret (BF l k ca c a' b')

    -- the elements of a call; element 0 is put back as it was
    unfoldable pub in_elements : NameMap → Bodies → M Bodies
    in_elements m []ᵇ = ret []ᵇ
    in_elements m (b ∷ᵇ bs) = do
      b' ← child F body_size (r.in_bodyform m b)
      b'' ← further F body_size b' (λ x. ret b)
      bs' ← each_body (r.in_bodyform m) bs
      ret (b'' ∷ᵇ bs')

    -- In-body
    unfoldable pub rename_in_bodyform : NameMap → Body → M Body
    rename_in_bodyform m (BL k l w h bs b) = do
      bs' ← each_binding_body (r.in_bodyform m) (list_of bs)
      b' ← child F body_size (r.in_bodyform m b)
      ret (BL k l w h (to_bindings bs') b')
    rename_in_bodyform m (BQ s) = rename_in_quoted m s
    rename_in_bodyform m (BV s) = rename_in_value m s
    rename_in_bodyform m (BC l bs t) = do
      bs' ← in_elements m bs
      t' ← call_tail (r.in_bodyform m) t
      ret (BC l bs' t')
    rename_in_bodyform m (BM l f) = ret (BM l f)
    rename_in_bodyform m (BF l k ca c a b) = do
      c' ← child F body_size (r.in_bodyform m c)
      ca' ← child F sexp_size (rename_in_cons_step F false m ca)
      b'' ← args_then_in m b
      ret (BF l k ca' c' a b'')

    -- each use of a rule is a step
    unfoldable pub body_rules : Rules
    body_rules = record {
      args_bodyform = λ b. log_assign b (step F body_size (rename_args_bodyform b));
      in_bodyform = λ m b. step F body_size (rename_in_bodyform m b);
    }

  -- the rules on records at most `fuel` deep
  unfoldable pub walk : ℕ → Rules
  walk zero = record { args_bodyform = λ b. refuse out_of_fuel; in_bodyform = λ m b. refuse out_of_fuel }
  walk (suc fuel) = body_rules (walk fuel)

-- unfolds with every definition of this file
unfoldable pub computing_bodyforms : Unit {0}
unfolding desugar_sequential_let_bindings logged log_assign each_body call_tail each_binding_body args_then_in rename_args_let rename_args_desugared rename_args_sequential rename_assign_binding rename_assign_bindings rename_args_ordered rename_args_assign rename_args_bodyform in_elements rename_in_quoted rename_in_value rename_in_bodyform body_rules walk
computing_bodyforms = tt
