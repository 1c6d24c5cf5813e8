-- The bindings of a parallel let by their new patterns: the runs, where a binding's parts stand, and what a new pattern takes. Assumes nothing.
use mathlib.Core.Path.{◌≡◌, refl, ap, subst, ◌∙◌}
use mathlib.Core.List.{List, [], ◌∷◌, ◌++◌}
use native.Mathlib.Omega.{arith}
use Prim.Native.Nat.{ℕ, zero, suc, ◌+◌, ◌*◌, ◌≤◌}
use lib.ListN.{length, length-append}
use Rattle.names.specs.Maps.{NameMap}
use Rattle.names.specs.Names.{Bytes, ascii, name_field, gensym}
use Rattle.names.specs.Segments.{At}
use Rattle.names.specs.declared.Refusal.{Refusal}
use Rattle.names.proofs.Digits.{decimal_length_le}
use Rattle.names.proofs.Fields.{name_field_length}
use Rattle.names.proofs.Gensym.{gensym_length}
use Rattle.names.proofs.Places.{at_left, at_right, at_place}
use Rattle.records.specs.StepAnswer.{refuses}
use Rattle.records.specs.Records.{Loc, sexp_bytes, Pattern, Name, Complex, pattern_field, Body, body_bytes, Binding, BB, binding_bytes}
use Rattle.records.specs.Valid.{BindingFields}
use Rattle.walk.specs.Arena.{outcome}
use Rattle.walk.specs.Draws.{counter_most}
use Rattle.walk.specs.NewNames.{pattern_own, pattern_adds, pattern_drawn, pattern_needs}
use Rattle.walk.specs.Patterns.{make_binding_unique, make_bindings_unique}
use Rattle.walk.specs.Scopes.{with_pattern, with_patterns}
use Rattle.walk.specs.Steps.{M, ◌>>=◌, ret}
use Rattle.walk.specs.Walking.{let_aside}
use Rattle.walk.proofs.LetHeads.{binding_head, binding_split, binding_head_length}
use Rattle.walk.proofs.RoomLaws.{least_body}
use Rattle.walk.proofs.RunLaws.{then_then, ret_then, then_same}

-- the runs
module _ (F : ℕ) (m : NameMap) (l nl : Loc) (p : Pattern) (b : Body) (bs : List Binding) (k : NameMap × List Binding → M Body) where
  -- what follows the first pattern
  abbrev then_more : NameMap × Pattern → M (NameMap × List Binding)
  then_more v = make_bindings_unique F (v.0 ++ m) bs >>= λ w. ret (w.0, BB l nl v.1 b ∷ w.1)

  first_run : (c x : ℕ) → outcome ((make_bindings_unique F m (BB l nl p b ∷ bs) >>= k) c x) ≡ outcome ((make_binding_unique F p >>= λ v. then_more v >>= k) c x)
  unfolding make_bindings_unique
  first_run c x = then_then (make_binding_unique F p) then_more k c x

  pub bindings_step : (n : NameMap) (u : Pattern) (c x d y : ℕ) → ((next : NameMap × Pattern → M Body) → outcome ((make_binding_unique F p >>= next) c x) ≡ outcome (next (n, u) d y))
      → outcome ((make_bindings_unique F m (BB l nl p b ∷ bs) >>= k) c x) ≡ outcome ((make_bindings_unique F (n ++ m) bs >>= λ w. k (w.0, BB l nl u b ∷ w.1)) d y)
  bindings_step n u c x d y h =
      first_run c x ∙ h (λ v. then_more v >>= k) ∙ then_then (make_bindings_unique F (n ++ m) bs) (λ w. ret (w.0, BB l nl u b ∷ w.1)) k d y
      ∙ then_same (make_bindings_unique F (n ++ m) bs) _ _ (λ w e z. ret_then k (w.0, BB l nl u b ∷ w.1) e z) d y

  pub bindings_stop : (q : Refusal) (c x : ℕ) → ((next : NameMap × Pattern → M Body) → outcome ((make_binding_unique F p >>= next) c x) ≡ refuses q)
      → outcome ((make_bindings_unique F m (BB l nl p b ∷ bs) >>= k) c x) ≡ refuses q
  bindings_stop q c x h = first_run c x ∙ h (λ v. then_more v >>= k)

-- bindings whose first ones have new patterns
pub more_patterns : (ps : List Pattern) (ds rest : List Binding) (u : Pattern) (b : Binding) → length ps ≡ length ds
    → with_patterns (ps ++ u ∷ []) (ds ++ b ∷ []) ++ rest ≡ with_patterns ps ds ++ (with_pattern u b ∷ rest)
unfolding with_patterns
more_patterns [] [] rest u b e = refl
more_patterns [] (d ∷ ds) rest u b e = absurd (omega arith)
more_patterns (p ∷ ps) [] rest u b e = absurd (omega arith)
more_patterns (p ∷ ps) (d ∷ ds) rest u b e = ap (λ (x : List Binding). with_pattern p d ∷ x) (more_patterns ps ds rest u b (omega arith))

-- where the parts of a binding stand
pub record BindingHere (mem : Bytes) (at : ℕ) (p : Pattern) (b : Body) (n : ℕ) : Type 0 where
  pub pattern : At mem (at + 10) (pattern_field p)
  pub body : At mem (at + 10 + length (pattern_field p)) (body_bytes b)
  pub whole : n ≡ 10 + length (pattern_field p) + length (body_bytes b)

pub binding_here : {mem : Bytes} {at : ℕ} (l nl : Loc) (p : Pattern) (b : Body) → BindingFields (BB l nl p b) → At mem at (binding_bytes (BB l nl p b))
    → BindingHere mem at p b (length (binding_bytes (BB l nl p b)))
unfolding BindingFields
binding_here {mem} {at} l nl p b v h =
    let w = binding_head_length l nl v.0 v.1 in
    let parts = subst (At mem at) (binding_split l nl p b) h in
    let rest = at_place (at + 10) (omega arith) (at_right (binding_head l nl) (pattern_field p ++ body_bytes b) parts) in
    record {
      pattern = at_left (pattern_field p) (body_bytes b) rest;
      body = at_right (pattern_field p) (body_bytes b) rest;
      whole = omega (arith, ap length (binding_split l nl p b), length-append (binding_head l nl) (pattern_field p ++ body_bytes b), length-append (pattern_field p) (body_bytes b));
    }

-- what a binding's new pattern and its map take, by the binding's bytes
pub record PatternTakes (f c F : ℕ) (p : Pattern) (n : ℕ) : Type 0 where
  pub own : pattern_own c p ≤ n
  pub drawn : pattern_drawn p ≤ n
  pub adds : pattern_adds f p ≤ f
  pub alone : 1 + n ≤ F → f ≤ F → pattern_needs f c p ≤ 4 * F

pub pattern_takes : (f c F : ℕ) (l nl : Loc) (p : Pattern) (b : Body) → BindingFields (BB l nl p b) → c ≤ counter_most → PatternTakes f c F p (length (binding_bytes (BB l nl p b)))
unfolding BindingFields pattern_own pattern_adds pattern_drawn pattern_field counter_most ascii
pattern_takes f c F l nl (Name n) b v le =
    let w = binding_head_length l nl v.0 v.1 in
    let x = ap length (binding_split l nl (Name n) b) in
    let y = length-append (binding_head l nl) (pattern_field (Name n) ++ body_bytes b) in
    let z = length-append (pattern_field (Name n)) (body_bytes b) in
    let size : 20 + length n ≤ length (binding_bytes (BB l nl (Name n) b)) = omega (arith, least_body b v.3, name_field_length n) in
    let made : 1 + length (name_field (gensym n c)) ≤ 19 + length n = omega (arith, name_field_length (gensym n c), gensym_length n c, decimal_length_le 13 (c + 1) (omega arith)) in
    record { own = omega arith; drawn = omega arith; adds = omega arith; alone = λ i j. omega arith }
pattern_takes f c F l nl (Complex s) b v le =
    let w = binding_head_length l nl v.0 v.1 in
    let x = ap length (binding_split l nl (Complex s) b) in
    let y = length-append (binding_head l nl) (pattern_field (Complex s) ++ body_bytes b) in
    let z = length-append (pattern_field (Complex s)) (body_bytes b) in
    let size : 1 + length (sexp_bytes s) ≤ length (binding_bytes (BB l nl (Complex s) b)) = omega arith in
    record { own = omega arith; drawn = omega arith; adds = omega arith; alone = λ i j. omega arith }

-- what is held for the patterns and their map
pub aside_four : (F count : ℕ) → 4 * F ≤ let_aside F count
aside_four F zero = omega arith
aside_four F (suc zero) = omega arith
aside_four F (suc (suc n)) = omega arith
