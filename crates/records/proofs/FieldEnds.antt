-- Where a field ends, by its lengths and its first byte alone. Assumes nothing.
use mathlib.Core.Path.{◌≡◌, ap}
use mathlib.Core.List.{[], ◌∷◌}
use mathlib.Core.Logic.{inl, inr}
use Prim.Native.Nat.{ℕ, ◌+◌, ◌≤◌, ◌<◌}
use native.Mathlib.Omega.{arith}
use lib.ListN.{length, take, drop, length-append}
use Rattle.names.specs.Names.{Bytes, number_of}
use Rattle.names.specs.Segments.{At}
use Rattle.names.proofs.Places.{at_left}
use Rattle.records.specs.Records.{byte, loc_width, Pattern, Name, Complex, pattern_field}
use Rattle.records.specs.Valid.{ValidKeyword, ValidHint, ValidPattern}
use Rattle.records.specs.Views.{SeesTagged, PatternAt}
use Rattle.records.specs.Parts.{fixed_part, counted_part, optional_part, name_part, keyword_part, hint_part, sexp_part, pattern_part, Past}
use Rattle.records.specs.declared.TaggedView.{TaggedView}
use Rattle.records.proofs.Parts.{past_fewer, past_then}
use Rattle.records.proofs.Views.{ByteAt, byte_length, tag_is}

-- a length, and that many bytes: some are missing, and none
module _ {s : Bytes} (at w : ℕ) where
  counted_ends : (x : Bytes) → (counted_part w).2 x → At s at x → at + length x ≡ at + w + number_of (take w (drop at s))
  counted_ends x (b, bs, l, m, e) a =
      let y = (at_left b bs (rw e at a)).there in
      let q : take w (drop at s) ≡ b = rw l at y in
      omega (arith, l, m, ap number_of q, ap length e, length-append b bs)

  pub counted_short : at ≤ length s → length s < at + w + number_of (take w (drop at s)) → Past (counted_part w) s at (length s)
  counted_short le h = record { within = omega arith; onward = le; past = λ x v a. absurd (omega (arith, counted_ends x v a, a.fits)) }

  pub counted_past : {k : ℕ} → k ≡ number_of (take w (drop at s)) → at + w + k ≤ length s → Past (counted_part w) s at (at + w + k)
  counted_past e h = record { within = h; onward = omega arith; past = λ x v a. omega (arith, e, counted_ends x v a) }

-- a byte, with an L behind it from `least` on: none, and one
module _ {s : Bytes} {at next tag least : ℕ} (b : ByteAt s at tag) (x : Past (fixed_part 1) s at next) where
  pub optional_short : tag < least → Past (optional_part least) s at next
  unfolding byte
  optional_short l = record { within = x.within; onward = x.onward; past = go }
    where
      go : (w : Bytes) → (optional_part least).2 w → At s at w → next ≡ at + length w
      go w (inl (k, m, e)) a = rw e (x.past (k ∷ []) (byte_length k) (rw e at a))
      go w (inr (k, m, (d, v, e))) a = absurd (omega (arith, tag_is b k d (rw e at a)))

  pub optional_long : {r : ℕ} → least ≤ tag → Past (fixed_part loc_width) s next r → Past (optional_part least) s at r
  unfolding byte
  optional_long {r} l y = record { within = y.within; onward = omega (arith, x.onward, y.onward); past = go }
    where
      go : (w : Bytes) → (optional_part least).2 w → At s at w → r ≡ at + length w
      go w (inl (k, m, e)) a = absurd (omega (arith, tag_is b k [] (rw e at a)))
      go w (inr (k, m, (d, v, e))) a = rw e (past_then x y (k ∷ []) d (byte_length k) v.width (rw e at a))

pub keyword_past : {s : Bytes} {at r : ℕ} → Past (optional_part 1) s at r → Past keyword_part s at r
keyword_past = past_fewer go
  where
    go : (w : Bytes) → ValidKeyword w → (optional_part 1).2 w
    go w (inl e) = inl (0, omega arith, e)
    go w (inr v) = inr (1, omega arith, v)

pub hint_past : {s : Bytes} {at r : ℕ} → Past (optional_part 2) s at r → Past hint_part s at r
hint_past = past_fewer go
  where
    go : (w : Bytes) → ValidHint w → (optional_part 2).2 w
    go w (inl e) = inl (0, omega arith, e)
    go w (inr (inl e)) = inl (1, omega arith, e)
    go w (inr (inr (inl v))) = inr (2, omega arith, v)
    go w (inr (inr (inr v))) = inr (3, omega arith, v)

-- a pattern: a name, and an S record
module _ {s : Bytes} {at r : ℕ} {v : TaggedView} (x : SeesTagged s at v) where
  pub name_pattern_past : v.tag ≡ 0 → Past name_part s v.next r → Past pattern_part s at r
  unfolding byte pattern_field ValidPattern PatternAt
  name_pattern_past z y = record { within = y.within; onward = omega (arith, x.past.onward, y.onward); past = go }
    where
      go : (p : Pattern) → ValidPattern p → At s at (pattern_field p) → r ≡ at + length (pattern_field p)
      go (Name n) f a = past_then x.past y (0 ∷ []) n (byte_length 0) f a
      go (Complex e) f a = absurd (omega (arith, (x.pattern (Complex e) a).tag))

  pub sexp_pattern_past : (v.tag ≡ 0 → ⊥) → Past sexp_part s v.next r → Past pattern_part s at r
  unfolding byte pattern_field ValidPattern PatternAt
  sexp_pattern_past z y = record { within = y.within; onward = omega (arith, x.past.onward, y.onward); past = go }
    where
      go : (p : Pattern) → ValidPattern p → At s at (pattern_field p) → r ≡ at + length (pattern_field p)
      go (Name n) f a = absurd (z (x.pattern (Name n) a).tag)
      go (Complex e) f a = past_then x.past y (1 ∷ []) e (byte_length 1) f a
