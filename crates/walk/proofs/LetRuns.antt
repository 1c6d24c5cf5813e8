-- The bodies of bindings by a rule, one after the other: what the first of them gives, whatever follows; and how far they bring the counter. Assumes nothing.
use mathlib.Core.Path.{◌≡◌, refl, ap, ◌∙◌}
use mathlib.Core.Bool.{Bool}
use mathlib.Core.List.{List, [], ◌∷◌, ◌++◌}
use Prim.Native.Nat.{ℕ, ◌+◌, ◌≤◌, ◌<◌}
use lib.ListN.{length}
use Rattle.names.specs.Maps.{NameMap}
use Rattle.names.specs.declared.Refusal.{Refusal}
use Rattle.records.specs.StepAnswer.{gives, refuses}
use Rattle.records.specs.Depth.{list_depth}
use Rattle.records.specs.Records.{Pattern, Body, body_bytes, Binding, BB, binding_bytes}
use Rattle.walk.specs.Arena.{outcome}
use Rattle.walk.specs.Bodyforms.{each_binding_body}
use Rattle.walk.specs.Draws.{inside_of, dbl}
use Rattle.walk.specs.LetWalks.{head_bytes, binding_body}
use Rattle.walk.specs.Scopes.{with_pattern}
use Rattle.walk.specs.Steps.{M, ◌>>=◌, ret, child, body_size, over_long}
use Rattle.walk.specs.Walking.{rule}
use Rattle.walk.proofs.DoneLaws.{child_gives, child_over, child_refuses}
use Rattle.walk.proofs.LetHeads.{binding_is}
use Rattle.walk.proofs.Limits.{runs_each_binding_body}
use Rattle.walk.proofs.Results.{led_counter, rule_bounded}
use Rattle.walk.proofs.RunLaws.{ret_then, then_then, neutral_rule, then_same}

-- a binding with this pattern and this body
unfoldable pub remade : Binding → Pattern → Body → Binding
remade (BB l nl p b) q u = BB l nl q u

-- its bytes
pub remade_bytes : (x : Binding) (q : Pattern) (u : Body) → binding_bytes (remade x q u) ≡ head_bytes (with_pattern q x) ++ body_bytes u
unfolding remade with_pattern head_bytes binding_body
remade_bytes (BB l nl p b) q u = binding_is (BB l nl q u)

module _ (F : ℕ) (f : Body → M Body) where
  -- the first of bindings, and those after it
  each_next : (x : Binding) (q : Pattern) (bs : List Binding)
      → each_binding_body F f (with_pattern q x ∷ bs) ≡ (child F body_size (f (binding_body x)) >>= λ b'. each_binding_body F f bs >>= λ bs'. ret (remade x q b' ∷ bs'))
  unfolding each_binding_body with_pattern binding_body remade
  each_next (BB l nl p b) q bs = refl

  -- none
  pub each_none : (k : List Binding → M Body) (c x : ℕ) → outcome ((each_binding_body F f [] >>= k) c x) ≡ outcome (k [] c x)
  unfolding each_binding_body
  each_none k c x = ret_then k [] c x

module _ (F : ℕ) (owning : Bool) (d : ℕ) (m : NameMap) (x : Binding) (q : Pattern) (bs : List Binding) (k : List Binding → M Body) (c sum : ℕ) where
  -- the rule
  abbrev own : Body → M Body
  own = rule F owning d m

  -- what follows the first
  after_one : Body → M Body
  after_one b' = (each_binding_body F own bs >>= λ bs'. ret (remade x q b' ∷ bs')) >>= k

  -- the first, and what follows
  opened : outcome ((each_binding_body F own (with_pattern q x ∷ bs) >>= k) c sum) ≡ outcome ((child F body_size (own (binding_body x)) >>= after_one) c sum)
  unfolding after_one
  opened =
      ap (λ (r : M (List Binding)). outcome ((r >>= k) c sum)) (each_next F own x q bs)
      ∙ then_then (child F body_size (own (binding_body x))) (λ b'. each_binding_body F own bs >>= λ bs'. ret (remade x q b' ∷ bs')) k c sum

  -- the first is refused, too long, or done
  pub each_refuses : {r : Refusal} → outcome (own (binding_body x) c 0) ≡ refuses r → outcome ((each_binding_body F own (with_pattern q x ∷ bs) >>= k) c sum) ≡ refuses r
  each_refuses e = opened ∙ child_refuses F body_size after_one (neutral_rule F owning d m (binding_body x)) c sum e

  pub each_over : {u : Body} {c' : ℕ} → outcome (own (binding_body x) c 0) ≡ gives u c' → F < sum + length (body_bytes u)
      → outcome ((each_binding_body F own (with_pattern q x ∷ bs) >>= k) c sum) ≡ refuses over_long
  unfolding body_size
  each_over e lt = opened ∙ child_over F body_size after_one (neutral_rule F owning d m (binding_body x)) c sum e lt

  pub each_gives : {u : Body} {c' : ℕ} → outcome (own (binding_body x) c 0) ≡ gives u c' → sum + length (body_bytes u) ≤ F
      → outcome ((each_binding_body F own (with_pattern q x ∷ bs) >>= k) c sum) ≡ outcome ((each_binding_body F own bs >>= λ us. k (remade x q u ∷ us)) c' (sum + length (body_bytes u)))
  unfolding body_size after_one
  each_gives {u} {c'} e le =
      let s = sum + length (body_bytes u) in
      opened ∙ child_gives F body_size after_one (neutral_rule F owning d m (binding_body x)) c sum e le
      ∙ then_then (each_binding_body F own bs) (λ bs'. ret (remade x q u ∷ bs')) k c' s
      ∙ then_same (each_binding_body F own bs) (λ bs'. ret (remade x q u ∷ bs') >>= k) (λ us. k (remade x q u ∷ us)) (λ us c x'. ret_then k (remade x q u ∷ us) c x') c' s

-- how far the counter comes over bindings
pub each_counter : (F : ℕ) (owning : Bool) (d : ℕ) (m : NameMap) (bs : List Binding) → list_depth bs ≤ d → (c x c' x' : ℕ) (us : List Binding)
    → ((k : List Binding → M Body) → outcome ((each_binding_body F (rule F owning d m) bs >>= k) c x) ≡ outcome (k us c' x')) → c' ≤ c + dbl d (inside_of bs)
each_counter F owning d m bs le c x c' x' us h = led_counter (runs_each_binding_body F d (rule_bounded F owning d m) bs le) c x c' x' us h
