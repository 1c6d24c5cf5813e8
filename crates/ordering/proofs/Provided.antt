-- What the loop over the entries of names comes to, and that it says which bindings provide a name. Assumes nothing.
use mathlib.Core.Path.{◌≡◌, refl, sym, ◌∙◌}
use mathlib.Core.Bool.{Bool, true, false, cond, ◌||◌}
use mathlib.Core.List.{List, [], ◌∷◌, ◌++◌, map}
use Prim.Native.Nat.{ℕ, zero, suc, ◌+◌, ◌-◌, ◌*◌, ◌/◌, ◌%◌, ◌^◌, ◌≤◌, ◌<◌}
use native.Mathlib.Nat.{pow-suc}
use native.Mathlib.Omega.{arith}
use lib.ListN.{length, take, drop, get_or}
use lib.Pow.{pow_mono}
use lib.Seq.{drop-cons, drop-length}
use Rattle.names.specs.Names.{Bytes, same}
use Rattle.names.proofs.Places.{at_is}
use Rattle.records.specs.Records.{Binding, BB}
use Rattle.ordering.specs.Items.{any, gives}
use Rattle.ordering.specs.Provisions.{places, Entry, Entries, Provisions, listed_bindings}
use Rattle.ordering.specs.Needs.{binding_limit, bits, providers}
use Rattle.ordering.specs.Words.{pattern_provides, item, items}
use Rattle.ordering.proofs.Bits.{digit, bits_cons}

-- the bytes that an entry says
abbrev entry_bytes : Bytes → ℕ → Bytes
entry_bytes a e = take (e % places - e / places) (drop (e / places) a)

-- 1 where an entry before the next 0 says x
unfoldable pub found_in : Bytes → Bytes → List ℕ → ℕ
found_in a x [] = 0
found_in a x (zero ∷ es) = 0
found_in a x (suc e ∷ es) = cond (same x (entry_bytes a (suc e))) 1 (found_in a x es)

-- the bindings whose entries, from their 0 on, say x, as bits
unfoldable pub bits_in : Bytes → Bytes → List ℕ → ℕ
bits_in a x [] = 0
bits_in a x (zero ∷ es) = 2 * bits_in a x es + found_in a x es
bits_in a x (suc e ∷ es) = bits_in a x es

-- how many bindings are listed from a place on
listed_drop : (k : ℕ) (es : List ℕ) → listed_bindings (drop k es) ≤ listed_bindings es
unfolding listed_bindings
listed_drop zero es = omega arith
listed_drop (suc k) [] = omega arith
listed_drop (suc k) (zero ∷ es) = omega (arith, listed_drop k es)
listed_drop (suc k) (suc e ∷ es) = listed_drop k es

module _ (a x : Bytes) where
  -- room for the bits
  found_digit : (es : List ℕ) → found_in a x es ≤ 1
  unfolding found_in
  found_digit [] = omega arith
  found_digit (zero ∷ es) = omega arith
  found_digit (suc e ∷ es) = go (same x (entry_bytes a (suc e))) (found_digit es)
    where
      go : {n : ℕ} (b : Bool) → n ≤ 1 → cond b 1 n ≤ 1
      go true h = omega arith
      go false h = h

  bits_room : (es : List ℕ) → bits_in a x es < 2 ^ listed_bindings es
  unfolding bits_in listed_bindings
  bits_room [] = omega arith
  bits_room (zero ∷ es) = omega (arith, bits_room es, found_digit es, pow-suc 2 (listed_bindings es))
  bits_room (suc e ∷ es) = bits_room es

  bits_fit : (k : ℕ) (es : List ℕ) → listed_bindings es ≤ binding_limit → bits_in a x (drop k es) < 2 ^ 64
  bits_fit k es few =
      let le : 2 ^ listed_bindings (drop k es) ≤ 2 ^ 64 = pow_mono {j = 64} (omega (arith, listed_drop k es)) in
      omega (arith, bits_room (drop k es))

  -- one entry more: a 0, or that of a name
  at_zero : (e : ℕ) (es : List ℕ) → e ≡ 0 → (found_in a x (e ∷ es) ≡ 0) × (bits_in a x (e ∷ es) ≡ 2 * bits_in a x es + found_in a x es)
  unfolding found_in bits_in
  at_zero e es z = rw z (refl, refl)

  at_name : (e : ℕ) (es : List ℕ) → (e ≡ 0 → ⊥) → (found_in a x (e ∷ es) ≡ cond (same x (entry_bytes a e)) 1 (found_in a x es)) × (bits_in a x (e ∷ es) ≡ bits_in a x es)
  unfolding found_in bits_in
  at_name zero es h = absurd (h refl)
  at_name (suc e) es h = (refl, refl)

  -- the entries of the names of one binding
  entry_says : {e : ℕ} {y : Bytes} → Entry a e y → entry_bytes a e ≡ y
  entry_says {e} {y} h = at_is (e / places) (e % places - e / places) refl (omega (arith, h.ends)) h.there

  digit_or : (b c : Bool) → cond b 1 (digit c) ≡ digit (b || c)
  digit_or true c = refl
  digit_or false c = refl

  names_in : (es rest : List ℕ) (ys : List Bytes) → Entries a es ys → found_in a x rest ≡ 0 → (found_in a x (es ++ rest) ≡ digit (any (same x) ys)) × (bits_in a x (es ++ rest) ≡ bits_in a x rest)
  unfolding Entries
  names_in [] rest [] h z = (z, refl)
  names_in [] rest (y ∷ ys) h z = absurd h
  names_in (e ∷ es) rest [] h z = absurd h
  names_in (e ∷ es) rest (y ∷ ys) h z =
      let n = at_name e (es ++ rest) h.0.some in
      let m = names_in es rest ys h.1 z in
      (n.0 ∙ rw (entry_says h.0, m.0) (digit_or (same x y) (any (same x) ys)), n.1 ∙ m.1)

  -- the entries of all bindings
  all_in : (bs : List Binding) (given : List ℕ) → Provisions a given bs → (found_in a x given ≡ 0) × (bits_in a x given ≡ providers (items bs) x)
  unfolding Provisions providers items item gives bits found_in bits_in
  all_in [] given e = rw e (refl, refl)
  all_in (BB l nl p b ∷ bs) given (es, rest, e, en, pr) =
      let r = all_in bs rest pr in
      let n = names_in es rest (pattern_provides p) en r.0 in
      let z = at_zero 0 (es ++ rest) refl in
      let f : Bool = any (same x) (pattern_provides p) in
      rw e (z.0, z.1 ∙ omega (arith, n.0, n.1, r.1, bits_cons f (map (gives x) (map item bs))))

-- what the loop has of the entries from k on
pub record From (a x : Bytes) (given : List ℕ) (bits found k : ℕ) : Type 0 where
  pub within : k ≤ length given
  pub found_is : found ≡ found_in a x (drop k given)
  pub bits_is : bits ≡ bits_in a x (drop k given)

pub from_end : (a x : Bytes) (given : List ℕ) → From a x given 0 0 (length given)
unfolding found_in bits_in
from_end a x given = record { within = omega arith; found_is = rw drop-length refl; bits_is = rw drop-length refl }

-- one entry more
module _ {a x : Bytes} {given : List ℕ} {bits found k : ℕ} (h : From a x given bits found k) (p : 0 < k) where
  one_more : drop (k - 1) given ≡ get_or given (k - 1) 0 ∷ drop k given
  one_more =
      let s : suc (k - 1) ≡ k = omega arith in
      rw s at (drop-cons given (k - 1) 0 (omega arith))

  pub from_zero : get_or given (k - 1) 0 ≡ 0 → From a x given (2 * bits + found) 0 (k - 1)
  from_zero z =
      let n = at_zero a x (get_or given (k - 1) 0) (drop k given) z in
      record { within = omega arith; found_is = rw one_more (sym n.0); bits_is = rw one_more (omega (arith, n.1)) }

  pub zero_fits : get_or given (k - 1) 0 ≡ 0 → listed_bindings given ≤ binding_limit → 2 * bits + found < 2 ^ 64
  zero_fits z few = omega (arith, bits_fit a x (k - 1) given few, (from_zero z).bits_is)

  pub from_name : (get_or given (k - 1) 0 ≡ 0 → ⊥) → (y : Bool) → y ≡ same x (entry_bytes a (get_or given (k - 1) 0)) → From a x given bits (cond y 1 found) (k - 1)
  from_name z y e =
      let n = at_name a x (get_or given (k - 1) 0) (drop k given) z in
      record { within = omega arith; found_is = rw (one_more, e, h.found_is) (sym n.0); bits_is = rw one_more (h.bits_is ∙ sym n.1) }

pub from_start : {a x : Bytes} {given : List ℕ} {bits found k : ℕ} → From a x given bits found k → k ≡ 0 → (bs : List Binding) → Provisions a given bs → bits ≡ providers (items bs) x
from_start {a} {x} {given} h z bs v = rw z at h.bits_is ∙ (all_in a x bs given v).1
