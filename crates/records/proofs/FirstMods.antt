-- The first BM of a tree that the reader notes, as an offset of its bytes: what the notes of a whole record come to. Assumes nothing.
use mathlib.Core.Path.{◌≡◌, refl, ap}
use mathlib.Core.List.{List, [], ◌∷◌}
use Rattle.std.specs.Prelude.{Option, None, Some}
use Prim.Native.Nat.{ℕ, ◌+◌}
use native.Mathlib.Omega.{arith}
use lib.ListN.{length}
use Rattle.names.specs.Names.{Bytes, ascii, name_field}
use Rattle.records.specs.Read.{Zone, Plain, InBinding, InMod, noted, binding_zone}
use Rattle.records.specs.Records.{byte, sexp_bytes, kind_field, pattern_field, Body, BL, BQ, BV, BC, BM, BF, body_bytes, Bodies, []ᵇ, ◌∷ᵇ◌, bodies_bytes, Tail, no_tail, tail, tail_bytes, Binding, BB, binding_bytes, Bindings, []ᵍ, ◌∷ᵍ◌, bindings_bytes, Helper, HC, HM, HD, HN, HR, helper_bytes, Helpers, []ʰ, ◌∷ʰ◌, helpers_bytes, Form, CF, form_bytes, bodies_count, bindings_count, helpers_count}

-- the first of what stands before and of what stands behind it
abbrev pub earlier : Option ℕ → Option ℕ → Option ℕ
earlier None y = y
earlier (Some p) y = Some p

-- n bytes further on
abbrev pub behind : ℕ → Option ℕ → Option ℕ
behind n None = None
behind n (Some p) = Some (n + p)

pub earlier_none : (x : Option ℕ) → earlier x None ≡ x
earlier_none None = refl
earlier_none (Some p) = refl

-- three places, one after the other
pub earlier_behind : (f x y : Option ℕ) (o n : ℕ) → earlier (earlier f (behind o x)) (behind (o + n) y) ≡ earlier f (behind o (earlier x (behind n y)))
earlier_behind (Some p) x y o n = refl
earlier_behind None (Some p) y o n = refl
earlier_behind None None None o n = refl
earlier_behind None None (Some p) o n = let e : (o + n) + p ≡ o + (n + p) = omega arith in ap Some e

-- a note at the mark
pub noted_behind : (z : Zone) (f : Option ℕ) (o : ℕ) → noted z f o ≡ earlier f (behind o (noted z None 0))
unfolding noted
noted_behind Plain None o = refl
noted_behind Plain (Some p) o = refl
noted_behind InBinding None o = let e : o ≡ o + 0 = omega arith in ap Some e
noted_behind InBinding (Some p) o = refl
noted_behind InMod None o = refl
noted_behind InMod (Some p) o = refl

-- fields one after the other, each with the first place in it
abbrev pub first_in : List (Bytes × Option ℕ) → Option ℕ
first_in [] = None
first_in (x ∷ xs) = earlier x.1 (behind (length x.0) (first_in xs))

unfoldable mutual
  -- of a B record in zone z
  pub body_first : Zone → Body → Option ℕ
  body_first z (BL k l w h bs b) =
      first_in ((ascii "BL", None) ∷ (kind_field k, None) ∷ (l, None) ∷ (w, None) ∷ (h, None) ∷ (byte (bindings_count bs), None)
      ∷ (bindings_bytes bs, bindings_first (binding_zone k z) bs) ∷ (body_bytes b, body_first z b) ∷ [])
  body_first z (BQ s) = None
  body_first z (BV s) = None
  body_first z (BC l bs t) =
      first_in ((ascii "BC", None) ∷ (l, None) ∷ (byte (bodies_count bs), None) ∷ (bodies_bytes bs, bodies_first z bs) ∷ (tail_bytes t, tail_first z t) ∷ [])
  body_first z (BM l f) = noted z None 0
  body_first z (BF l w ca c a b) =
      first_in ((ascii "BF", None) ∷ (l, None) ∷ (w, None) ∷ (sexp_bytes ca, None) ∷ (body_bytes c, body_first z c)
      ∷ (sexp_bytes a, None) ∷ (body_bytes b, body_first z b) ∷ [])

  -- the elements of a call
  pub bodies_first : Zone → Bodies → Option ℕ
  bodies_first z []ᵇ = None
  bodies_first z (b ∷ᵇ bs) = first_in ((body_bytes b, body_first z b) ∷ (bodies_bytes bs, bodies_first z bs) ∷ [])

  -- its tail
  pub tail_first : Zone → Tail → Option ℕ
  tail_first z no_tail = None
  tail_first z (tail b) = first_in ((byte 1, None) ∷ (body_bytes b, body_first z b) ∷ [])

  -- a binding
  pub binding_first : Zone → Binding → Option ℕ
  binding_first z (BB l nl p b) = first_in ((ascii "BB", None) ∷ (l, None) ∷ (nl, None) ∷ (pattern_field p, None) ∷ (body_bytes b, body_first z b) ∷ [])

  -- the bindings of a let
  pub bindings_first : Zone → Bindings → Option ℕ
  bindings_first z []ᵍ = None
  bindings_first z (b ∷ᵍ bs) = first_in ((binding_bytes b, binding_first z b) ∷ (bindings_bytes bs, bindings_first z bs) ∷ [])

  -- an H record
  pub helper_first : Zone → Helper → Option ℕ
  helper_first z (HC l n r b) = first_in ((ascii "HC", None) ∷ (l, None) ∷ (name_field n, None) ∷ (r, None) ∷ (body_bytes b, body_first z b) ∷ [])
  helper_first z (HM l n r a f) =
      first_in ((ascii "HM", None) ∷ (l, None) ∷ (name_field n, None) ∷ (r, None) ∷ (sexp_bytes a, None) ∷ (form_bytes f, form_first z f) ∷ [])
  helper_first z (HD l i n r a b) =
      first_in ((ascii "HD", None) ∷ (l, None) ∷ (byte i, None) ∷ (name_field n, None) ∷ (r, None) ∷ (sexp_bytes a, None) ∷ (body_bytes b, body_first z b) ∷ [])
  helper_first z (HN l n r hs) =
      first_in ((ascii "HN", None) ∷ (l, None) ∷ (name_field n, None) ∷ (r, None) ∷ (byte (helpers_count hs), None)
      ∷ (helpers_bytes hs, helpers_first z hs) ∷ [])
  helper_first z (HR l n r) = None

  -- helpers
  pub helpers_first : Zone → Helpers → Option ℕ
  helpers_first z []ʰ = None
  helpers_first z (h ∷ʰ hs) = first_in ((helper_bytes h, helper_first z h) ∷ (helpers_bytes hs, helpers_first z hs) ∷ [])

  -- a compile form
  pub form_first : Zone → Form → Option ℕ
  form_first z (CF l r a hs b) =
      first_in ((ascii "CF", None) ∷ (l, None) ∷ (r, None) ∷ (sexp_bytes a, None) ∷ (byte (helpers_count hs), None)
      ∷ (helpers_bytes hs, helpers_first z hs) ∷ (body_bytes b, body_first z b) ∷ [])
