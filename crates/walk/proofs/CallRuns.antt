-- What the elements and the tail of a call run to, one element at a time; and a BC as the run of its parts. Assumes nothing.
use mathlib.Core.Path.{◌≡◌, refl, ap, ◌∙◌}
use mathlib.Core.Bool.{Bool, true, false}
use native.Mathlib.Omega.{arith}
use Prim.Native.Nat.{ℕ, zero, suc, ◌+◌, ◌-◌, ◌≤◌, ◌<◌}
use Rattle.names.specs.Maps.{NameMap}
use Rattle.names.specs.declared.Refusal.{Refusal}
use Rattle.records.specs.StepAnswer.{gives, refuses}
use Rattle.records.specs.Records.{Loc, Body, BC, Bodies, []ᵇ, ◌∷ᵇ◌, Tail, no_tail, tail}
use Rattle.walk.specs.Arena.{outcome}
use Rattle.walk.specs.Bodyforms.{each_body, call_tail, in_elements, rename_args_bodyform, rename_in_bodyform, walk}
use Rattle.walk.specs.CallWalks.{every, backs}
use Rattle.walk.specs.Steps.{M, ◌>>=◌, ret, over_long, step, child, further, body_size}
use Rattle.walk.specs.Walking.{rule}
use Rattle.walk.proofs.DoneLaws.{child_gives, child_over, child_refuses, further_gives}
use Rattle.walk.proofs.RunLaws.{Neutral, then_then, ret_then, neutral_rule, neutral_ret, own_step, in_step, then_same}

-- what stays of an element: what it was, or what was made of it
abbrev pub stays : Bool → Body → Body → Body
stays true b u = b
stays false b u = u

module _ (F d : ℕ) (m : NameMap) where
  -- none left
  pub none_left : (owning : Bool) (i : ℕ) (k : Bodies → M Body) (c x : ℕ) → outcome ((every F owning d m i []ᵇ >>= k) c x) ≡ outcome (k []ᵇ c x)
  unfolding each_body in_elements
  none_left true i k c x = ret_then k []ᵇ c x
  none_left false zero k c x = ret_then k []ᵇ c x
  none_left false (suc i) k c x = ret_then k []ᵇ c x

  module _ (b : Body) (bs : Bodies) (k : Bodies → M Body) (c x : ℕ) where
    -- what follows the first of them
    abbrev others : (Body → M Body) → Body → M Body
    others f u = each_body F f bs >>= λ us. k (u ∷ᵇ us)

    joined : (f : Body → M Body) (u : Body) (c x : ℕ) → outcome (((each_body F f bs >>= λ us. ret (u ∷ᵇ us)) >>= k) c x) ≡ outcome (others f u c x)
    joined f u c x =
        then_then (each_body F f bs) (λ us. ret (u ∷ᵇ us)) k c x
        ∙ then_same (each_body F f bs) (λ us. ret (u ∷ᵇ us) >>= k) (λ us. k (u ∷ᵇ us)) (λ us c x. ret_then k (u ∷ᵇ us) c x) c x

    each_opened : (f : Body → M Body) → outcome ((each_body F f (b ∷ᵇ bs) >>= k) c x) ≡ outcome ((child F body_size (f b) >>= others f) c x)
    unfolding each_body
    each_opened f =
        then_then (child F body_size (f b)) (λ u. each_body F f bs >>= λ us. ret (u ∷ᵇ us)) k c x
        ∙ then_same (child F body_size (f b)) (λ u. (each_body F f bs >>= λ us. ret (u ∷ᵇ us)) >>= k) (others f) (λ u c x. joined f u c x) c x

    -- element 0 under In-body
    abbrev back_then : Body → M Body
    back_then u = further F body_size u (λ v. ret b) >>= others (rule F false d m)

    in_opened : outcome ((in_elements F (walk F d) m (b ∷ᵇ bs) >>= k) c x) ≡ outcome ((child F body_size (rule F false d m b) >>= back_then) c x)
    unfolding in_elements
    in_opened =
        then_then (child F body_size (rule F false d m b)) (λ u. further F body_size u (λ v. ret b) >>= λ w. each_body F (rule F false d m) bs >>= λ us. ret (w ∷ᵇ us)) k c x
        ∙ then_same (child F body_size (rule F false d m b))
        (λ u. (further F body_size u (λ v. ret b) >>= λ w. each_body F (rule F false d m) bs >>= λ us. ret (w ∷ᵇ us)) >>= k) back_then
        (λ u c x.
        then_then (further F body_size u (λ v. ret b)) (λ w. each_body F (rule F false d m) bs >>= λ us. ret (w ∷ᵇ us)) k c x
        ∙ then_same (further F body_size u (λ v. ret b)) (λ w. (each_body F (rule F false d m) bs >>= λ us. ret (w ∷ᵇ us)) >>= k) (others (rule F false d m)) (λ w c x. joined (rule F false d m) w c x) c x)
        c x

    abbrev Runs : Bool → ℕ → M Bodies
    Runs owning i = every F owning d m i (b ∷ᵇ bs)

    pub first_refuses : (owning : Bool) (i : ℕ) (r : Refusal) → outcome (rule F owning d m b c 0) ≡ refuses r → outcome ((Runs owning i >>= k) c x) ≡ refuses r
    first_refuses true i r e = each_opened (rule F true d m) ∙ child_refuses F body_size (others (rule F true d m)) (neutral_rule F true d m b) c x e
    first_refuses false zero r e = in_opened ∙ child_refuses F body_size back_then (neutral_rule F false d m b) c x e
    first_refuses false (suc i) r e = each_opened (rule F false d m) ∙ child_refuses F body_size (others (rule F false d m)) (neutral_rule F false d m b) c x e

    module _ {u : Body} {c' : ℕ} where
      pub first_over : (owning : Bool) (i : ℕ) → outcome (rule F owning d m b c 0) ≡ gives u c' → F < x + body_size u → outcome ((Runs owning i >>= k) c x) ≡ refuses over_long
      first_over true i e lt = each_opened (rule F true d m) ∙ child_over F body_size (others (rule F true d m)) (neutral_rule F true d m b) c x e lt
      first_over false zero e lt = in_opened ∙ child_over F body_size back_then (neutral_rule F false d m b) c x e lt
      first_over false (suc i) e lt = each_opened (rule F false d m) ∙ child_over F body_size (others (rule F false d m)) (neutral_rule F false d m b) c x e lt

      -- the sum is then longer by what stays
      pub first_gives : (owning : Bool) (i : ℕ) → outcome (rule F owning d m b c 0) ≡ gives u c' → x + body_size u ≤ F → (i ≡ 0 → x ≡ 0) → body_size b ≤ F
          → outcome ((Runs owning i >>= k) c x) ≡ outcome ((every F owning d m (suc i) bs >>= λ us. k (stays (backs owning i) b u ∷ᵇ us)) c' (x + body_size (stays (backs owning i) b u)))
      unfolding backs ret outcome
      first_gives true i e le z s = each_opened (rule F true d m) ∙ child_gives F body_size (others (rule F true d m)) (neutral_rule F true d m b) c x e le
      first_gives false zero e le z s =
          let n : x + body_size u - body_size u + body_size b ≡ x + body_size b = omega arith in
          let z₀ = z refl in
          in_opened ∙ child_gives F body_size back_then (neutral_rule F false d m b) c x e le
          ∙ further_gives F body_size (others (rule F false d m)) (λ v. ret b) u (neutral_ret b) c' (x + body_size u) {a = b} {c' = c'} refl (omega arith)
          ∙ ap (λ (j : ℕ). outcome (others (rule F false d m) b c' j)) n
      first_gives false (suc i) e le z s = each_opened (rule F false d m) ∙ child_gives F body_size (others (rule F false d m)) (neutral_rule F false d m b) c x e le

-- the tail
module _ (F : ℕ) (f : Body → M Body) (k : Tail → M Body) (c x : ℕ) where
  pub no_tail_gives : outcome ((call_tail F f no_tail >>= k) c x) ≡ outcome (k no_tail c x)
  unfolding call_tail
  no_tail_gives = ret_then k no_tail c x

  module _ (b : Body) (n : Neutral (f b)) where
    tail_opened : outcome ((call_tail F f (tail b) >>= k) c x) ≡ outcome ((child F body_size (f b) >>= λ u. k (tail u)) c x)
    unfolding call_tail
    tail_opened =
        then_then (child F body_size (f b)) (λ u. ret (tail u)) k c x
        ∙ then_same (child F body_size (f b)) (λ u. ret (tail u) >>= k) (λ u. k (tail u)) (λ u c x. ret_then k (tail u) c x) c x

    pub tail_refuses : (r : Refusal) → outcome (f b c 0) ≡ refuses r → outcome ((call_tail F f (tail b) >>= k) c x) ≡ refuses r
    tail_refuses r e = tail_opened ∙ child_refuses F body_size (λ u. k (tail u)) n c x e

    module _ {u : Body} {c' : ℕ} (e : outcome (f b c 0) ≡ gives u c') where
      pub tail_over : F < x + body_size u → outcome ((call_tail F f (tail b) >>= k) c x) ≡ refuses over_long
      tail_over lt = tail_opened ∙ child_over F body_size (λ u. k (tail u)) n c x e lt

      pub tail_gives : x + body_size u ≤ F → outcome ((call_tail F f (tail b) >>= k) c x) ≡ outcome (k (tail u) c' (x + body_size u))
      tail_gives le = tail_opened ∙ child_gives F body_size (λ u. k (tail u)) n c x e le

-- a BC: its elements, then its tail
abbrev pub tail_then : ℕ → Bool → ℕ → NameMap → Loc → Tail → Bodies → M Body
tail_then F owning d m l u us = call_tail F (rule F owning d m) u >>= λ w. ret (BC l us w)

pub call_rule : (F : ℕ) (owning : Bool) (d : ℕ) (m : NameMap) (l : Loc) (bs : Bodies) (u : Tail) (c : ℕ) → 1 ≤ d
    → outcome (rule F owning d m (BC l bs u) c 0) ≡ outcome (step F body_size (every F owning (d - 1) m 0 bs >>= tail_then F owning (d - 1) m l u) c 0)
unfolding rename_args_bodyform rename_in_bodyform
call_rule F true d m l bs u c le = own_step F d m (BC l bs u) c le
call_rule F false d m l bs u c le = in_step F d m (BC l bs u) c le
