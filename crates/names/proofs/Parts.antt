-- A part that is lent as `&mut xs[a..e]`, k = e - a, and comes back as ys: what is said of the part, said of the whole. Assumes nothing.
use mathlib.Core.Path.{◌≡◌, sym, ap, ◌∙◌}
use mathlib.Core.List.{◌++◌}
use native.Mathlib.Nat.{add_assoc}
use native.Mathlib.Omega.{arith}
use Prim.Native.Nat.{ℕ, ◌+◌, ◌-◌, ◌≤◌}
use lib.ListN.{length, take, drop, length-append, length-drop, take-append-drop}
use lib.Seq.{drop-append-add, drop-append-le, drop-drop, length-take-le, take-add, take-append-add, take-append-le, take-take}
use Rattle.names.specs.Names.{Bytes}
use Rattle.names.specs.Segments.{At, SameOutside, Filled}
use Rattle.names.proofs.Places.{at_from_drop, at_from_take, at_into_drop, at_into_take, at_place}

abbrev pub part : Bytes → ℕ → ℕ → Bytes
part xs a k = take k (drop a xs)

abbrev pub back : Bytes → ℕ → ℕ → Bytes → Bytes
back xs a k ys = take a xs ++ (ys ++ drop k (drop a xs))

-- segments of the part are segments of the whole
pub at_part : {xs : Bytes} {s p : ℕ} {bs : Bytes} (a k : ℕ) → At xs s bs → s ≡ a + p → p + length bs ≤ k → At (part xs a k) p bs
at_part {p = p} a k h e le = at_into_take k le (at_into_drop a (at_place (a + p) e h))

-- what stands at a place stands at the start of the part from there on
pub into : {xs : Bytes} {p : ℕ} {bs : Bytes} → At xs p bs → At (part xs p (length xs - p)) 0 bs
into {xs} {p} h = at_part p (length xs - p) h (omega arith) (omega (arith, h.fits))

pub at_from_part : {xs : Bytes} {p : ℕ} {bs : Bytes} (a k : ℕ) → a ≤ length xs → At (part xs a k) p bs → At xs (a + p) bs
at_from_part a k le h = at_from_drop a le (at_from_take k h)

-- a part that comes back unchanged
pub back_own : (xs : Bytes) (a k : ℕ) → back xs a k (part xs a k) ≡ xs
back_own xs a k = rw (take-append-drop k (drop a xs)) (take-append-drop a xs)

module _ (xs : Bytes) (a k : ℕ) (le : a + k ≤ length xs) where
  pub part_length : length (part xs a k) ≡ k
  part_length = length-take-le k (drop a xs) (omega (arith, length-drop a xs))

  start : length (take a xs) ≡ a
  start = length-take-le a xs (omega arith)

  module _ (ys : Bytes) (len : length ys ≡ k) where
    pub back_length : length (back xs a k ys) ≡ length xs
    back_length =
        let d = drop a xs in
        length-append (take a xs) (ys ++ drop k d) ∙ omega (arith, length-append ys (drop k d), start, length-drop k d, length-drop a xs)

    -- from the part's start on
    from : (i : ℕ) → i ≤ k → drop (a + i) (back xs a k ys) ≡ drop i ys ++ drop k (drop a xs)
    from i lt =
        let d = drop k (drop a xs) in
        ap (λ (n : ℕ). drop (n + i) (back xs a k ys)) (sym start) ∙ drop-append-add (take a xs) (ys ++ d) i ∙ drop-append-le i ys d (omega arith)

    upto : (i : ℕ) → i ≤ k → take (a + i) (back xs a k ys) ≡ take a xs ++ take i ys
    upto i lt =
        let d = drop k (drop a xs) in
        ap (λ (n : ℕ). take (n + i) (back xs a k ys)) (sym start) ∙ take-append-add (take a xs) (ys ++ d) i ∙ ap (λ (l : Bytes). take a xs ++ l) (take-append-le i ys d (omega arith))

    -- the bytes of the part, in the whole
    inside : (i n : ℕ) → i + n ≤ k → take n (drop (a + i) (back xs a k ys)) ≡ take n (drop i ys)
    inside i n lt = ap (take n) (from i (omega arith)) ∙ take-append-le n (drop i ys) (drop k (drop a xs)) (omega (arith, length-drop i ys))

    pub at_back : {p : ℕ} {bs : Bytes} → At ys p bs → At (back xs a k ys) (a + p) bs
    at_back {p} {bs} h = record { fits = omega (arith, back_length, h.fits); there = inside p (length bs) (omega (arith, h.fits)) ∙ h.there }

  module _ {ys : Bytes} where
    -- the frame of the part is the frame of the whole
    pub same_back : {p q : ℕ} → SameOutside (part xs a k) ys p q → p ≤ k → q ≤ k → SameOutside xs (back xs a k ys) (a + p) (a + q)
    same_back {p} {q} s lp lq =
        let len : length ys ≡ k = s.size ∙ part_length in
        let d = drop a xs in
        record {
          size = back_length ys len;
          low = upto ys len p lp ∙ ap (λ (l : Bytes). take a xs ++ l) (s.low ∙ take-take p k d lp) ∙ sym (take-add a p xs);
          high =
              from ys len q lq ∙ ap (λ (l : Bytes). l ++ drop k d) s.high
              ∙ sym (drop-append-le q (take k d) (drop k d) (omega (arith, part_length))) ∙ ap (drop q) (take-append-drop k d) ∙ drop-drop q a xs;
        }

    pub filled_back : {q : ℕ} {vs : Bytes} {n : ℕ} → Filled (part xs a k) ys q vs n → q + n ≤ k → Filled xs (back xs a k ys) (a + q) vs n
    filled_back {q} {vs} {n} f fit =
        record {
          frame = rw add_assoc (same_back f.frame (omega arith) fit);
          got = inside ys (f.frame.size ∙ part_length) q n fit ∙ f.got;
        }
