-- Where bindings start (`binding_starts`): what is known after i of the places are written. Assumes nothing.
use mathlib.Core.Path.{◌≡◌, refl, sym, ap, ◌∙◌}
use mathlib.Core.List.{List}
use native.Mathlib.Decide.{dec_lt}
use native.Mathlib.Omega.{arith}
use Prim.Native.Nat.{ℕ, suc, ◌+◌, ◌-◌, ◌≤◌, ◌<◌}
use lib.ListN.{length, take, get_or, set, length-set}
use lib.Seq.{get_or-set_same, get_or-set_other}
use Rattle.names.specs.Names.{Bytes}
use Rattle.names.specs.Segments.{At}
use Rattle.names.proofs.Places.{at_place}
use Rattle.records.specs.Lists.{joined, Each}
use Rattle.records.specs.Parts.{ValidBinding, family_part, Past}
use Rattle.records.specs.Records.{Binding, binding_bytes}
use Rattle.records.specs.declared.Family.TheVariants.{Binding as a_binding}
use Rattle.walk.specs.AssignWalks.{BindingStarts}
use Rattle.walk.specs.Bodyforms.{no_binding}
use Rattle.walk.proofs.Joined.{each_at, piece_at, piece_size}

-- the first i places of n are written, the last of them within the bytes
pub record Started (s : Bytes) (first n : ℕ) (starts : List ℕ) (i : ℕ) : Type 0 where
  pub some : 1 ≤ i
  pub upto : i ≤ n
  pub size : length starts ≡ n
  pub within : get_or starts (i - 1) 0 ≤ length s
  pub says : (bs : List Binding) → Each ValidBinding bs → At s first (joined binding_bytes bs) → n ≡ suc (length bs) → (k : ℕ) → k < i
      → get_or starts k 0 ≡ first + length (joined binding_bytes (take k bs))

-- the first place
pub started : {s : Bytes} {first : ℕ} (starts : List ℕ) → first ≤ length s → 0 < length starts → Started s first (length (set starts 0 first)) (set starts 0 first) 1
unfolding joined
started {s} {first} starts le lt =
    let z = get_or-set_same starts 0 first 0 lt in
    record {
      some = omega arith;
      upto = omega (arith, length-set starts 0 first);
      size = refl;
      within = omega (arith, z);
      says = λ bs v a n k i. let e : k ≡ 0 = omega arith in rw e (z ∙ omega arith);
    }

-- one place more
pub started_next : {s : Bytes} {first n i r : ℕ} {starts : List ℕ} → Started s first n starts i → i < n → Past (family_part a_binding) s (get_or starts (i - 1) 0) r → Started s first n (set starts i r) (i + 1)
started_next {s} {first} {n} {i} {r} {starts} h lt q =
    let in_row : i < length starts = omega (arith, h.size) in
    let z = get_or-set_same starts i r 0 in_row in
    let e : i + 1 - 1 ≡ i = omega arith in
    record {
      some = omega arith;
      upto = omega arith;
      size = length-set starts i r ∙ h.size;
      within = rw (e, z) q.within;
      says = λ bs v a m k l. elim (dec_lt k i) [
        | yes w ↦ get_or-set_other starts i k r 0 (λ y. omega (arith, y)) ∙ h.says bs v a m k w
        | no w ↦
            let k_is : k ≡ i = omega arith in
            let j = i - 1 in
            let low : j < length bs = omega (arith, h.some) in
            let before = h.says bs v a m j (omega (arith, h.some)) in
            let next : suc j ≡ i = omega (arith, h.some) in
            let here = at_place (get_or starts j 0) (sym before) (piece_at bs j low a) in
            let ends = q.past (get_or bs j no_binding) (each_at ValidBinding bs j low v) here in
            let size = ap (λ (x : ℕ). length (joined binding_bytes (take x bs))) next in
            rw k_is (z ∙ omega (arith, ends, before, size, piece_size bs j low))
      ];
    }

-- all places
pub started_all : {s : Bytes} {first n i : ℕ} {starts : List ℕ} → Started s first n starts i → n ≤ i
    → (bs : List Binding) → Each ValidBinding bs → At s first (joined binding_bytes bs) → n ≡ suc (length bs) → (get_or starts 0 0 ≡ first) × BindingStarts s starts bs
unfolding joined
started_all {s} {first} {n} {i} {starts} h le bs v a m =
    let z : get_or starts 0 0 ≡ first = h.says bs v a m 0 (omega (arith, h.some)) ∙ omega arith in (
      z,
      record { many = h.size ∙ m; there = at_place (get_or starts 0 0) (sym z) a; starts_at = λ k l. h.says bs v a m k (omega (arith, h.upto)) ∙ omega (arith, z) },
    )
