-- Substitute with its running sums, step by step, answers as the definition does, which tests the finished record alone. Assumes nothing.
use mathlib.Core.Path.{◌≡◌, refl, ap, sym, ◌∙◌}
use mathlib.Core.Bool.{Bool, true, false, ◌&&◌}
use mathlib.Core.List.{List, [], flatten}
use mathlib.Core.Option.{Option, none, some}
use Prim.Native.Nat.{ℕ, ◌+◌, ◌≤◌}
use native.Mathlib.Nat.{zero-add}
use native.Mathlib.Omega.{arith}
use lib.Dec.{leb, T, leb→le, le→leb}
use lib.ListN.{length, length-append}
use Rattle.names.specs.Maps.{NameMap}
use Rattle.names.specs.Names.{ascii}
use Rattle.names.specs.declared.Refusal.{Refusal}
use Rattle.records.specs.Records.{Loc, Sexp, SN, SC, SI, SQ, SA, sexp_bytes, record_bytes}
use Rattle.records.specs.Sexps.{nilp, is_atom}
use Rattle.walk.specs.RenameInCons.{rename_in_cons, rename_in_qq, only_in_cons, only_in_qq}
use Rattle.walk.specs.Steps.{M, Out, Event, done, refused, over_long, ret, ◌>>=◌, ◌>>◌, after, step, child, add_to_sum, fits, sexp_size}
use Rattle.walk.specs.Invent.{rename_in_cons_step}
use Rattle.walk.specs.Sums.{finished, rename_in_cons_sums, rename_in_qq_sums, only_in_cons_sums, only_in_qq_sums}

-- from the counter c and the sum x, m answers o
pub record Runs {A : Type 0} (m : M A) (c x : ℕ) (o : Out A) : Type 0 where
  pub answers : m c x ≡ o

pub after_nil : {A : Type 0} (o : Out A) → after [] o ≡ o
unfolding after
after_nil (done log a c x) = refl
after_nil (refused log r) = refl

pub runs_ret : {A : Type 0} {a : A} {c x : ℕ} → Runs (ret a) c x (done [] a c x)
unfolding ret
runs_ret = record { answers = refl }

module _ {A B : Type 0} {m : M A} (k : A → M B) where
  pub runs_then : {c x c' x' : ℕ} {log : List Event} {a : A} → Runs m c x (done log a c' x') → Runs (m >>= k) c x (after log (k a c' x'))
  unfolding ◌>>=◌
  runs_then e = record { answers = rw (e.answers, ◌>>=◌) }

  runs_bind : {c x c' x' : ℕ} {a : A} {o : Out B} → Runs m c x (done [] a c' x') → Runs (k a) c' x' o → Runs (m >>= k) c x o
  runs_bind {o} e f = record { answers = (runs_then e).answers ∙ ap (after []) f.answers ∙ after_nil o }

  pub runs_bind_refused : {c x : ℕ} {r : Refusal} {log : List Event} → Runs m c x (refused log r) → Runs (m >>= k) c x (refused log r)
  unfolding ◌>>=◌
  runs_bind_refused e = record { answers = rw (e.answers, ◌>>=◌) }

module _ (F : ℕ) where
  runs_add_to_sum : {c x : ℕ} (n : ℕ) → leb (x + n) F ≡ true → Runs (add_to_sum F n) c x (done [] tt c (x + n))
  unfolding add_to_sum
  runs_add_to_sum n t = record { answers = rw (t, add_to_sum) }

  runs_hold_over : {c x : ℕ} (n : ℕ) → leb (x + n) F ≡ false → Runs (add_to_sum F n) c x (refused [] over_long)
  unfolding add_to_sum
  runs_hold_over n t = record { answers = rw (t, add_to_sum) }

  module _ {A : Type 0} (size : A → ℕ) {m : M A} where
    runs_child : {c x c' x' : ℕ} {a : A} → Runs m c x (done [] a c' x') → leb (x' + size a) F ≡ true → Runs (child F size m) c x (done [] a c' (x' + size a))
    unfolding child ◌>>◌
    runs_child {a} e t = runs_bind _ e (runs_bind _ (runs_add_to_sum (size a) t) runs_ret)

    runs_child_over : {c x c' x' : ℕ} {a : A} → Runs m c x (done [] a c' x') → leb (x' + size a) F ≡ false → Runs (child F size m) c x (refused [] over_long)
    unfolding child ◌>>◌
    runs_child_over {a} e t = runs_bind _ e (runs_bind_refused _ (runs_hold_over (size a) t))

    runs_child_refused : {c x : ℕ} {r : Refusal} → Runs m c x (refused [] r) → Runs (child F size m) c x (refused [] r)
    unfolding child
    runs_child_refused e = runs_bind_refused _ e

    runs_step : {c c' x' : ℕ} {a : A} (x : ℕ) → Runs m c 0 (done [] a c' x') → leb (size a) F ≡ true → Runs (step F size m) c x (done [] a c' x)
    unfolding step fits after
    runs_step x e t = record { answers = rw (e.answers, t, step, fits) }

    runs_step_over : {c c' x' : ℕ} {a : A} (x : ℕ) → Runs m c 0 (done [] a c' x') → leb (size a) F ≡ false → Runs (step F size m) c x (refused [] over_long)
    unfolding step fits after
    runs_step_over x e t = record { answers = rw (e.answers, t, step, fits) }

    runs_step_refused : {c : ℕ} {r : Refusal} (x : ℕ) → Runs m c 0 (refused [] r) → Runs (step F size m) c x (refused [] r)
    unfolding step
    runs_step_refused x e = record { answers = rw (e.answers, step) }

  -- m answers as the finished record r alone does
  pub record Is (m : M Sexp) (r : Sexp) : Type 0 where
    pub yes_fits : (c x : ℕ) → leb (sexp_size r) F ≡ true → Runs m c x (done [] r c x)
    pub no_fit : (c x : ℕ) → leb (sexp_size r) F ≡ false → Runs m c x (refused [] over_long)

  bool_cases : {X : Type 0} (b : Bool) → (b ≡ true → X) → (b ≡ false → X) → X
  bool_cases true f g = f refl
  bool_cases false f g = g refl

  grows : (a b : ℕ) → a ≤ b → leb a F ≡ false → leb b F ≡ false
  grows a b h e = bool_cases (leb b F) (λ t. absurd (let p : a ≤ F = omega (arith, leb→le b F (rw t tt)) in let q : T (leb a F) = le→leb a F p in (rw e at q))) (λ t. t)

  shrinks : (a b : ℕ) → a ≤ b → leb b F ≡ true → leb a F ≡ true
  shrinks a b h e = bool_cases (leb a F) (λ t. t) (λ t. t ∙ sym (grows a b h t) ∙ e)

  is_fit : (r : Sexp) → Is (finished F r) r
  is_fit r = record { yes_fits = λ c x t. runs_step sexp_size x runs_ret t; no_fit = λ c x t. runs_step_over sexp_size x runs_ret t }

  -- a step that hands on one child's result
  is_child : {m : M Sexp} {r : Sexp} → Is m r → Is (step F sexp_size (child F sexp_size m)) r
  is_child {m} {r} e = record {
    yes_fits = λ c x t. runs_step sexp_size x (runs_child sexp_size (e.yes_fits c 0 t) (rw zero-add t)) t;
    no_fit = λ c x t. runs_step_refused sexp_size x (runs_child_refused sexp_size (e.no_fit c 0 t));
  }

  size_cons : (l : Loc) (h t : Sexp) → sexp_size (SC l h t) ≡ 2 + (length l + (sexp_size h + sexp_size t))
  unfolding sexp_size sexp_bytes record_bytes flatten ascii
  size_cons l h t = simp (length-append) (omega arith)

  -- an SC of two results
  is_cons : {mh mt : M Sexp} {h t : Sexp} (l : Loc) → Is mh h → Is mt t
      → Is (step F sexp_size (child F sexp_size mh >>= λ a. child F sexp_size mt >>= λ b. ret (SC l a b))) (SC l h t)
  is_cons {mh} {mt} {h} {t} l eh et = record {
    yes_fits = λ c x q.
        let qh : leb (sexp_size h) F ≡ true = shrinks (sexp_size h) _ (omega (arith, size_cons l h t)) q in
        let qt : leb (sexp_size t) F ≡ true = shrinks (sexp_size t) _ (omega (arith, size_cons l h t)) q in
        let s : leb (0 + sexp_size h + sexp_size t) F ≡ true = shrinks _ _ (omega (arith, size_cons l h t)) q in
        runs_step sexp_size x (runs_bind _ (first c qh) (runs_bind _ (runs_child sexp_size (et.yes_fits c _ qt) s) runs_ret)) q;
    no_fit = λ c x q.
        bool_cases (leb (sexp_size h) F)
        (λ qh. bool_cases (leb (sexp_size t) F)
        (λ qt. bool_cases (leb (0 + sexp_size h + sexp_size t) F)
        (λ s. runs_step_over sexp_size x (runs_bind _ (first c qh) (runs_bind _ (runs_child sexp_size (et.yes_fits c _ qt) s) runs_ret)) q)
        (λ s. runs_step_refused sexp_size x (runs_bind _ (first c qh) (runs_bind_refused _ (runs_child_over sexp_size (et.yes_fits c _ qt) s)))))
        (λ qt. runs_step_refused sexp_size x (runs_bind _ (first c qh) (runs_bind_refused _ (runs_child_refused sexp_size (et.no_fit c _ qt))))))
        (λ qh. runs_step_refused sexp_size x (runs_bind_refused _ (runs_child_refused sexp_size (eh.no_fit c 0 qh))));
  }
    where
      first : (c : ℕ) → leb (sexp_size h) F ≡ true → Runs (child F sexp_size mh) c 0 (done [] h c (0 + sexp_size h))
      first c qh = runs_child sexp_size (eh.yes_fits c 0 qh) (rw zero-add qh)

  is_cond : {m₁ m₂ : M Sexp} {r₁ r₂ : Sexp} (b : Bool) → Is m₁ r₁ → Is m₂ r₂ → Is (elim b [ true ↦ m₁ | false ↦ m₂ ]) (elim b [ true ↦ r₁ | false ↦ r₂ ])
  is_cond true e f = e
  is_cond false e f = f

  is_only : {m k : M Sexp} {x r : Sexp} (b : Bool) → Is m x → Is k r
      → Is (elim b [ true ↦ m | false ↦ k ]) (elim (elim b as (λ _. Option Sexp) [ true ↦ some x | false ↦ none ]) [ none ↦ r | some y ↦ y ])
  is_only true e f = e
  is_only false e f = f

  module _ (qq : Bool) (m : NameMap) where
    mutual
      unfolding rename_in_cons_sums rename_in_cons

      cons_is : (s : Sexp) → Is (rename_in_cons_sums F qq m s) (rename_in_cons qq m s)
      cons_is (SN l) = is_fit _
      cons_is (SC l h t) =
          is_cond (is_atom "q" h) (is_fit _)
          (is_cond (is_atom "quote" h) (is_fit _)
          (is_cond (is_atom "qq" h && qq) (only_qq_is t (SC l h t)) (is_cons l (cons_is h) (cons_is t))))
      cons_is (SI l v) = is_fit _
      cons_is (SQ l q n) = is_fit _
      cons_is (SA l n) = is_fit _

      qq_is : (s : Sexp) → Is (rename_in_qq_sums F qq m s) (rename_in_qq qq m s)
      qq_is (SN l) = is_fit _
      qq_is (SC l h t) =
          is_cond (is_atom "unquote" h) (only_cons_is t _ _ (is_cons l (qq_is h) (qq_is t))) (is_cons l (qq_is h) (qq_is t))
      qq_is (SI l v) = is_fit _
      qq_is (SQ l q n) = is_fit _
      qq_is (SA l n) = is_fit _

      only_cons_is : (s : Sexp) (k : M Sexp) (r : Sexp) → Is k r → Is (only_in_cons_sums F qq m s k) (elim (only_in_cons qq m s) [ none ↦ r | some x ↦ x ])
      only_cons_is (SN l) k r e = e
      only_cons_is (SC l x t) k r e = is_only (nilp t) (is_child (cons_is x)) e
      only_cons_is (SI l v) k r e = e
      only_cons_is (SQ l q n) k r e = e
      only_cons_is (SA l n) k r e = e

      only_qq_is : (s k : Sexp) → Is (only_in_qq_sums F qq m s k) (elim (only_in_qq qq m s) [ none ↦ k | some x ↦ x ])
      only_qq_is (SN l) k = is_fit _
      only_qq_is (SC l x t) k = is_only (nilp t) (is_child (qq_is x)) (is_fit k)
      only_qq_is (SI l v) k = is_fit _
      only_qq_is (SQ l q n) k = is_fit _
      only_qq_is (SA l n) k = is_fit _

    -- step by step, with all its sums, `rename_in_cons` answers as `rename_in_cons_step` does
    pub steps_agree : (s : Sexp) (c x : ℕ) → rename_in_cons_sums F qq m s c x ≡ rename_in_cons_step F qq m s c x
    unfolding rename_in_cons_step
    steps_agree s c x =
        let r = rename_in_cons qq m s in
        bool_cases (leb (sexp_size r) F)
        (λ t. ((cons_is s).yes_fits c x t).answers ∙ sym ((is_fit r).yes_fits c x t).answers)
        (λ t. ((cons_is s).no_fit c x t).answers ∙ sym ((is_fit r).no_fit c x t).answers)
