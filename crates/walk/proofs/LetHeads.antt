-- The bytes of a binding; and its head, with the pattern that stands aside or with its own, written at a place. Assumes nothing.
use mathlib.Core.Path.{◌≡◌, refl, sym, ap, subst, ◌∙◌}
use mathlib.Core.Bool.{Bool, true, false}
use mathlib.Core.Logic.{inr}
use mathlib.Core.List.{◌++◌, flatten, append_assoc, append-nil}
use native.Mathlib.Omega.{arith}
use Prim.Native.Nat.{ℕ, ◌+◌, ◌-◌, ◌≤◌}
use lib.ListN.{length, drop, length-append}
use Rattle.names.specs.Names.{Bytes, ascii}
use Rattle.names.specs.Segments.{At, Filled, Movable}
use Rattle.names.proofs.Frames.{same_then, same_wider, at_below, at_above, copied_at, movable_up}
use Rattle.names.proofs.Places.{at_place, at_left, at_join}
use Rattle.records.specs.Parts.{Past, pattern_part}
use Rattle.records.specs.Records.{Loc, record_bytes, Pattern, pattern_field, Body, body_bytes, Binding, BB, binding_bytes}
use Rattle.records.specs.Valid.{ValidLoc, BindingFields}
use Rattle.walk.specs.LetWalks.{head_bytes, binding_pattern, binding_body, HeadReady, Wrote}
use Rattle.walk.specs.Scopes.{with_pattern}

-- a binding: its bytes before the pattern, the pattern, and the body
unfoldable pub binding_head : Loc → Loc → Bytes
binding_head l nl = ascii "BB" ++ (l ++ nl)

pub binding_split : (l nl : Loc) (p : Pattern) (b : Body) → binding_bytes (BB l nl p b) ≡ binding_head l nl ++ (pattern_field p ++ body_bytes b)
unfolding binding_bytes record_bytes flatten binding_head
binding_split l nl p b = simp (append_assoc, append-nil)

-- the first take ten bytes
pub binding_head_length : (l nl : Loc) → ValidLoc l → ValidLoc nl → length (binding_head l nl) ≡ 10
unfolding binding_head ascii
binding_head_length l nl p q = omega (arith, length-append l nl, p.width, q.width)

-- the mark and both L of a binding
unfoldable pub locs : Binding → Bytes
locs (BB l nl p b) = binding_head l nl

-- they take ten bytes
pub locs_length : (x : Binding) → BindingFields x → length (locs x) ≡ 10
unfolding locs BindingFields
locs_length (BB l nl p b) f = binding_head_length l nl f.0 f.1

-- a head is these and a pattern
pub head_with : (q : Pattern) (x : Binding) → head_bytes (with_pattern q x) ≡ locs x ++ pattern_field q
unfolding head_bytes with_pattern locs binding_head ascii
head_with q (BB l nl p b) = simp append_assoc

-- a binding is its head and its body
pub binding_is : (x : Binding) → binding_bytes x ≡ head_bytes x ++ body_bytes (binding_body x)
unfolding binding_bytes record_bytes flatten head_bytes binding_body
binding_is (BB l nl p b) = simp (append_assoc, append-nil)

-- with its own pattern a binding is what it was
pub with_own : (x : Binding) → with_pattern (binding_pattern x) x ≡ x
unfolding with_pattern binding_pattern
with_own (BB l nl p b) = refl

-- a head with its own pattern
pub head_own : (x : Binding) → head_bytes x ≡ locs x ++ pattern_field (binding_pattern x)
head_own x = sym (ap head_bytes (with_own x)) ∙ head_with (binding_pattern x) x

-- how long a head is
pub head_length : (q : Pattern) (x : Binding) → BindingFields x → length (head_bytes (with_pattern q x)) ≡ 10 + length (pattern_field q)
head_length q x f = ap length (head_with q x) ∙ omega (arith, length-append (locs x) (pattern_field q), locs_length x f)

pub own_length : (x : Binding) → BindingFields x → length (head_bytes x) ≡ 10 + length (pattern_field (binding_pattern x))
own_length x f = ap length (head_own x) ∙ omega (arith, length-append (locs x) (pattern_field (binding_pattern x)), locs_length x f)

module _ {mem : Bytes} {at body to aside : ℕ} {owning : Bool} (p : HeadReady mem at body to aside owning) where
  -- mark and both L can be copied
  pub head_moves : Movable mem at to 10
  head_moves = movable_up (omega (arith, p.ends, p.low, own_length p.x p.fields)) (omega (arith, p.room, head_length p.new p.x p.fields))

  -- a body stands behind its head
  pub whole_forward : at ≤ body
  whole_forward = omega (arith, p.ends)

  -- the pattern that stands aside
  module _ (own : owning ≡ true) {mid : Bytes} (f : Filled mem mid to (drop at mem) 10) where
    -- it stays where it is
    pub pattern_stays : At mid aside (pattern_field p.new)
    pattern_stays = at_above f.frame (p.drawn own) (omega (arith, p.before own, head_length p.new p.x p.fields))

    module _ {e : ℕ} (past : Past pattern_part mid aside e) where
      -- where it ends
      pub pattern_ends : e ≡ aside + length (pattern_field p.new)
      pattern_ends = past.past p.new p.valid pattern_stays

      -- it can be copied behind mark and L
      pub pattern_moves : Movable mid aside (to + 10) (e - aside)
      pattern_moves =
          let l = head_length p.new p.x p.fields in
          record {
            source = omega (arith, pattern_ends, pattern_stays.fits);
            target = omega (arith, pattern_ends, p.room, f.frame.size);
            safe = inr (omega (arith, p.before own));
          }

      -- the head is written with it
      pub head_drawn : {new : Bytes} → Filled mid new (to + 10) (drop aside mid) (e - aside) → Wrote mem new to (head_bytes (with_pattern p.new p.x)) (10 + (e - aside))
      head_drawn {new} g =
          let x = p.x in
          let q = p.new in
          let k = locs_length x p.fields in
          let l = head_length q x p.fields in
          let o = own_length x p.fields in
          let n = pattern_ends in
          let here : At mem at (locs x) = at_left (locs x) (pattern_field (binding_pattern x)) (subst (At mem at) (head_own x) p.there) in
          let first : At mid to (locs x) = copied_at at to f (omega (arith, p.room)) here (omega arith) (omega arith) (omega arith) in
          let second : At new (to + 10) (pattern_field q) = copied_at aside (to + 10) g (omega (arith, p.room, f.frame.size)) pattern_stays (omega arith) (omega arith) (omega arith) in
          record {
            size = omega arith;
            out = subst (At new to) (sym (head_with q x)) (at_join (locs x) (pattern_field q) (at_below g.frame first (omega arith)) (at_place (to + length (locs x)) (omega arith) second));
            frame = same_then to (to + length (head_bytes (with_pattern q x))) (omega arith) (omega arith) (omega arith) (omega arith) f.frame g.frame;
          }

  -- its own pattern
  module _ (own : owning ≡ false) where
    -- such a head is what it was
    same_head : head_bytes (with_pattern p.new p.x) ≡ head_bytes p.x
    same_head = ap (λ (q : Pattern). head_bytes (with_pattern q p.x)) (p.kept own) ∙ ap head_bytes (with_own p.x)

    -- it can be copied
    pub whole_moves : Movable mem at to (body - at)
    whole_moves = movable_up (omega (arith, p.ends, p.low)) (omega (arith, p.ends, p.room, ap length same_head))

    -- it is written as it was
    pub head_kept : {new : Bytes} → Filled mem new to (drop at mem) (body - at) → Wrote mem new to (head_bytes (with_pattern p.new p.x)) (body - at)
    head_kept {new} f =
        let n = ap length same_head in
        record {
          size = omega (arith, p.ends);
          out = subst (At new to) (sym same_head) (copied_at at to f (omega (arith, p.ends, p.room)) p.there (omega arith) (omega (arith, p.ends)) (omega arith));
          frame = same_wider to (to + length (head_bytes (with_pattern p.new p.x))) (omega arith) (omega (arith, p.ends)) f.frame;
        }
