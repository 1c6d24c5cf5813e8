-- What stands after each mark, field by field, in the form in which the code meets it. Assumes nothing.
use mathlib.Core.Path.{◌≡◌, refl, ap, sym, ◌∙◌}
use mathlib.Core.List.{List, [], ◌∷◌, ◌++◌}
use Prim.Native.Nat.{ℕ, zero, suc, ◌≤◌, ◌<◌}
use native.Mathlib.Omega.{arith}
use lib.ListN.{length, get_or}
use Rattle.names.specs.Names.{Bytes}
use Rattle.std.specs.Prelude.{Result, Ok, Err}
use Rattle.names.specs.Refusals.{place_at, refusing}
use Rattle.names.specs.declared.Reason.TheVariants.{PastLimit}
use Rattle.names.specs.declared.Refusal.{Refusal}
use Rattle.records.specs.declared.Family.{Family}
use Rattle.records.specs.declared.Family.TheVariants.{Body as a_Body, Binding as a_binding, Helper as a_helper, Form as a_form}
use Rattle.records.specs.declared.Scan.{Scan}
use Rattle.records.specs.declared.Kind.{Kind}
use Rattle.records.specs.Limits.{cons_limit}
use Rattle.records.specs.Records.{BL, no_tail, Binding, Form, byte, to_bindings}
use Rattle.records.specs.Read.{InMod, Context, in_bindings, sexp, sexp_at, note, kind_of, more_levels, binding_zone, pattern_of, binding, binding_after, let_of, let_after, tail_after, call_tail, call_after, mod_after, lambda_after, constant_after, macro_after, function_after, namespace_after, reference_after, form_after, readers}
use Rattle.records.specs.ReadFields.{Read, done, refused, Reader, malformed, ◌>>=◌, ◌>>◌, ret, times, deeper, loc, name, raw_field, keyword, hint, count, at_most}
use Rattle.records.specs.Scan.{left_by, input_at, reader_of, times_of, many_of, body_after, lambda_within, helper_after, let_of_kind, tail_of, below, below_lambda, in_zone_of, Comes, Reads, Goes}
use Rattle.records.proofs.Readers.{Any}
use Rattle.records.specs.Lists.{joined}
use Rattle.records.proofs.Exact.{Exact, exact_loc, exact_name, exact_raw_field, exact_keyword, exact_hint, exact_count, exact_up_to, exact_sexp, exact_note, exact_times, exact_bind, exact_last, exact_pattern_of, exact_in_bindings, exact_readers}
use Rattle.records.proofs.Scans.{comes_of, comes_bind, comes_stop, comes_last, comes_ret, done_at, reads_of}
use Rattle.records.proofs.Chains.{past, stop, Field, Child, field, byte_field, child, goes_of}
use Rattle.records.proofs.ContextLaws.{comes_deeper, comes_shallow, comes_in_lambda, comes_no_lambda, comes_in_zone, comes_in_bindings}
use Rattle.records.proofs.Goes.{exact_of, bytes_of}

-- readers one after the other, grouped the other way
comes_assoc : {A B C : Type 0} (m : Reader A) (k : A → Reader B) (l : B → Reader C) {x : Context} {c : Scan} {r : Result Scan Refusal} → Comes ((m >>= k) >>= l) x c r → Comes (m >>= λ a. k a >>= l) x c r
unfolding ◌>>=◌
comes_assoc {A} {B} {C} m k l {x} {c} h = record { there = h.there ∙ ap left_by (go (m x (input_at x.mark c))); same = h.same }
  where
    go : (o : Read A)
        → ◌≡◌ {A = Read C} (elim (elim o as (λ _. Read B) [ done a i ↦ k a x i | refused n p ↦ refused n p ]) [ done b j ↦ l b x j | refused n p ↦ refused n p ])
        (elim o [ done a i ↦ (k a >>= l) x i | refused n p ↦ refused n p ])
    go (done a i) = refl
    go (refused n p) = refl

-- a count and that many records, whatever they are
exact_many : (f : Family) (fuel : ℕ) → Exact Any (λ l. byte (length l) ++ joined (bytes_of f fuel) l) [] (many_of f fuel).1
unfolding byte
exact_many f fuel = exact_bind exact_count λ n p. exact_last (λ l q. ap (λ (k : ℕ). k ∷ joined (bytes_of f fuel) l) (sym q)) (λ l q. tt) (exact_times n (exact_of f fuel))

module _ {x : Context} {c : Scan} {r : Result Scan Refusal} where
  -- a count and that many records, and then what is made of them
  many_then : {B : Type 0} {K : Scan → Type 0} (f : Family) (fuel : ℕ) → x.room ≤ fuel → (k : List (reader_of f fuel).0 → Reader B) → Child (many_of f) x c r K
      → ((a : List (reader_of f fuel).0) (d : Scan) → K d → Comes (k a) x d r) → Comes (count >>= λ n. times n (reader_of f fuel).1 >>= k) x c r
  many_then f fuel w k h t = comes_assoc count (λ n. times n (reader_of f fuel).1) k (child {m = many_of f} fuel w (exact_many f fuel) h t)

module _ {x : Context} {c : Scan} {r : Result Scan Refusal} where
  -- BC, and its tail
  pub goes_call : Field loc x.mark c r (λ d. Child (many_of a_Body) x d r (λ e. Goes tail_of x e r)) → Goes (body_after call_after) x c r
  goes_call h = goes_of (λ fuel w. field refl exact_loc h (λ u d h. many_then a_Body fuel w _ h (λ bs e h. comes_last (λ v. done_at _) (h.enough fuel w))))

  pub tail_none : Field (at_most malformed 1) x.mark c r (λ d. (get_or c.s.now c.at 0 ≡ 0) × (r ≡ Ok d)) → Goes tail_of x c r
  unfolding call_tail tail_after
  tail_none h = goes_of (λ fuel w. byte_field _ refl (exact_up_to 1) h (λ d q. rw (q.0, q.1, tail_after) (comes_ret no_tail)))

  pub tail_there : Field (at_most malformed 1) x.mark c r (λ d. (get_or c.s.now c.at 0 ≡ 0 → ⊥) × Goes (reader_of a_Body) x d r) → Goes tail_of x c r
  unfolding call_tail tail_after
  tail_there h = goes_of (λ fuel w. byte_field _ refl (exact_up_to 1) h (λ d q. at fuel (get_or c.s.now c.at 0) q.0 (q.1.enough fuel w)))
    where
      at : {d : Scan} (fuel b : ℕ) → (b ≡ 0 → ⊥) → Comes (readers fuel).body x d r → Comes (tail_after (readers fuel).body b) x d r
      at fuel zero e k = absurd (e refl)
      at fuel (suc b) e k = comes_last (λ t. done_at _) k

  -- BM
  pub goes_mod : {d : Scan} → Comes note x c (Ok d) → Field loc x.mark d r (λ e. Goes (reader_of a_form) (in_zone_of InMod x) e r) → Goes (body_after mod_after) x c r
  unfolding ◌>>◌
  goes_mod a h = goes_of (λ fuel w. comes_bind _ exact_note a (λ _. field refl exact_loc h (λ u e h. comes_last (λ v. done_at _) (comes_in_zone (h.enough fuel w)))))

  -- BF
  pub goes_lambda : (x.lambdas ≡ 0 → ⊥) → Field loc x.mark c r (λ d. Field keyword x.mark d r (λ e. Field (sexp_at cons_limit) x.mark e r (λ f. Child (reader_of a_Body) (below_lambda x) f r
      (λ u. Field (sexp_at cons_limit) x.mark u r (λ v. Goes (reader_of a_Body) (below_lambda x) v r))))) → Goes (body_after lambda_within) x c r
  unfolding sexp
  goes_lambda z h = goes_of (λ fuel w. comes_in_lambda (omega arith)
      (field refl exact_loc h (λ l₁ d h. field refl exact_keyword h (λ k e h. field refl exact_sexp h (λ ca f h. child {m = reader_of a_Body} fuel w (exact_readers fuel).body h (λ c₁ u h.
      field refl exact_sexp h (λ a v h. comes_last (λ _. done_at _) (h.enough fuel w))))))))

  pub goes_no_lambda : {e : Refusal} → x.lambdas ≡ 0 → e ≡ refusing PastLimit (place_at x.mark) → r ≡ Err e → Goes (body_after lambda_within) x c r
  goes_no_lambda h z q = rw q (goes_of (λ fuel w. comes_no_lambda (lambda_after (readers fuel)) z (omega arith)))

  -- BB
  pub goes_binding : Field loc x.mark c r (λ d. Field loc x.mark d r (λ e. Field pattern_of x.mark e r (λ p. Goes (reader_of a_Body) x p r)))
      → Goes (λ fuel. (Binding, binding_after (readers fuel).body)) x c r
  goes_binding h = goes_of (λ fuel w. field refl exact_loc h (λ l₁ d h. field refl exact_loc h (λ l₂ e h. field refl exact_pattern_of h (λ q p h. comes_last (λ _. done_at _) (h.enough fuel w)))))

  -- HC, HM, HD, HN
  pub goes_constant : Field loc x.mark c r (λ d. Field name x.mark d r (λ e. Field raw_field x.mark e r (λ f. Goes (reader_of a_Body) x f r))) → Goes (helper_after constant_after) x c r
  goes_constant h = goes_of (λ fuel w. field refl exact_loc h (λ l₁ d h. field refl exact_name h (λ n e h. field refl exact_raw_field h (λ t f h. comes_last (λ _. done_at _) (h.enough fuel w)))))

  pub goes_macro : Field loc x.mark c r (λ d. Field name x.mark d r (λ e. Field raw_field x.mark e r (λ f. Field (sexp_at cons_limit) x.mark f r (λ u. Goes (reader_of a_form) x u r))))
      → Goes (helper_after macro_after) x c r
  unfolding sexp
  goes_macro h = goes_of (λ fuel w. field refl exact_loc h (λ l₁ d h. field refl exact_name h (λ n e h. field refl exact_raw_field h (λ t f h. field refl exact_sexp h (λ a u h.
      comes_last (λ _. done_at _) (h.enough fuel w))))))

  pub goes_function : Field loc x.mark c r (λ d. Field (at_most malformed 1) x.mark d r (λ i. Field name x.mark i r (λ e. Field raw_field x.mark e r
      (λ f. Field (sexp_at cons_limit) x.mark f r (λ u. Goes (reader_of a_Body) x u r))))) → Goes (helper_after function_after) x c r
  unfolding sexp
  goes_function h = goes_of (λ fuel w. field refl exact_loc h (λ l₁ d h. field refl (exact_up_to 1) h (λ y i h. field refl exact_name h (λ n e h. field refl exact_raw_field h (λ t f h.
      field refl exact_sexp h (λ a u h. comes_last (λ _. done_at _) (h.enough fuel w)))))))

  pub goes_namespace : Field loc x.mark c r (λ d. Field name x.mark d r (λ e. Field raw_field x.mark e r (λ f. Goes (many_of a_helper) x f r))) → Goes (helper_after namespace_after) x c r
  goes_namespace h = goes_of (λ fuel w. field refl exact_loc h (λ l₁ d h. field refl exact_name h (λ n e h. field refl exact_raw_field h (λ t f h.
      comes_assoc count (λ k. times k (readers fuel).helper) _ (comes_last (λ _. done_at _) (h.enough fuel w))))))

  -- CF
  pub goes_form : Field loc x.mark c r (λ d. Field raw_field x.mark d r (λ e. Field (sexp_at cons_limit) x.mark e r (λ f. Child (many_of a_helper) x f r (λ u. Goes (reader_of a_Body) x u r))))
      → Goes (λ fuel. (Form, form_after (readers fuel))) x c r
  unfolding sexp
  goes_form h = goes_of (λ fuel w. field refl exact_loc h (λ l₁ d h. field refl exact_raw_field h (λ t e h. field refl exact_sexp h (λ a f h. many_then a_helper fuel w _ h (λ hs u h.
      comes_last (λ _. done_at _) (h.enough fuel w))))))

  -- BL: its kind byte, and what stands after it
  pub goes_let : Field (at_most malformed 2) x.mark c r (λ d. Goes (let_of_kind (kind_of (get_or c.s.now c.at 0))) x d r) → Goes (body_after let_after) x c r
  goes_let h = goes_of (λ fuel w. byte_field _ refl (exact_up_to 2) h (λ d h. h.enough fuel w))

-- HR
pub reads_reference : {mark : ℕ} {c : Scan} {r : Result Scan Refusal} → Field loc mark c r (λ d. Field name mark d r (λ e. Reads raw_field mark e r)) → Reads reference_after mark c r
reads_reference h = reads_of (λ x q. field q exact_loc h (λ l₁ d h. field q exact_name h (λ n e h. comes_last (λ _. done_at _) (comes_of h x q))))

-- the levels of a let of n bindings are there, and its bindings and its body come, or they are not
pub data Levels (k : Kind) (n : ℕ) (x : Context) (c : Scan) (r : Result Scan Refusal) : Type 0 where
  too_deep : {e : Refusal} (more : ℕ) → more ≡ more_levels k n → x.room < more → e ≡ refusing PastLimit (place_at x.mark) → r ≡ Err e → Levels k n x c r
  levels : (more : ℕ) → more ≡ more_levels k n → more ≤ x.room
      → Child (times_of n a_binding) (in_zone_of (binding_zone k x.zone) (below more x)) c r (λ b. Goes (reader_of a_Body) (below more x) b r) → Levels k n x c r

module _ {x : Context} {c : Scan} {r : Result Scan Refusal} where
  -- a let after its count
  levels_then : (k : Kind) (n fuel : ℕ) → x.room ≤ fuel → (l₁ w₁ h₁ : Bytes) → Levels k n x c r
      → Comes (deeper (more_levels k n) (in_bindings k (times n (binding (readers fuel).body)) >>= λ bs. (readers fuel).body >>= λ b. ret (BL k l₁ w₁ h₁ (to_bindings bs) b))) x c r
  levels_then k n fuel w l₁ w₁ h₁ (too_deep more q o z v) = rw (v, ← q) (comes_shallow _ z more o)
  levels_then k n fuel w l₁ w₁ h₁ (levels more q o h) = rw (← q) (comes_deeper more o
      (bindings_then h))
    where
      bindings_then : Child (times_of n a_binding) (in_zone_of (binding_zone k x.zone) (below more x)) c r (λ b. Goes (reader_of a_Body) (below more x) b r)
          → Comes (in_bindings k (times n (binding (readers fuel).body)) >>= λ bs. (readers fuel).body >>= λ b. ret (BL k l₁ w₁ h₁ (to_bindings bs) b)) (below more x) c r
      bindings_then (past g m) = let u = comes_in_bindings _ (g.enough fuel (omega arith)) in comes_bind _ (exact_in_bindings k (exact_times n (exact_of a_binding fuel))) u (λ bs. comes_last (λ _. done_at _) (m.enough fuel (omega arith)))
      bindings_then (stop g z) = comes_stop _ (comes_in_bindings _ (g.enough fuel (omega arith))) z

module _ {x : Context} {c : Scan} {r : Result Scan Refusal} where
  pub goes_let_of : (k : Kind) → Field loc x.mark c r (λ d. Field keyword x.mark d r (λ e. Field hint x.mark e r (λ f. Field count x.mark f r (λ u. Levels k (get_or f.s.now f.at 0) x u r)))) → Goes (let_of_kind k) x c r
  unfolding let_of
  goes_let_of k h = goes_of (λ fuel w. field refl exact_loc h (λ l₁ d h. field refl exact_keyword h (λ w₁ e h. field refl exact_hint h (λ h₁ f h. byte_field _ refl exact_count h (λ u h.
      levels_then k (get_or f.s.now f.at 0) fuel w l₁ w₁ h₁ h)))))
