-- Names compared from the far end: `common_ending` is the longest common ending, and what two names are found to be where a comparison stops.
-- Assumes nothing.
use mathlib.Core.Path.{◌≡◌, refl, sym, ap, ◌∙◌}
use mathlib.Core.Logic.{⊎_elim}
use mathlib.Core.Bool.{Bool, true, false}
use mathlib.Core.List.{[], ◌∷◌, ◌++◌, append-nil}
use native.Mathlib.Omega.{arith}
use Prim.Native.Nat.{ℕ, suc, ◌+◌, ◌-◌, ◌≤◌}
use borrow.Author.Tests.{eq-eqb, ne_eqb}
use lib.Dec.{T}
use lib.ListN.{length, take, drop, get_or, length-append, length-drop, take-append-drop, drop_of_length-le}
use lib.Seq.{drop_at, drop-cons, get_or-append-add}
use Rattle.names.specs.Compare.{EndsWith, LongestCommonEnding, ends_with, common_ending, pairs_read, comparison}
use Rattle.names.specs.Names.{Bytes, same}
use Rattle.names.proofs.Order.{lt_or_le}
use Rattle.names.proofs.Same.{same→eq, same_self, same_refl, same_lengths}

-- what stands before an ending makes up for its length
front_length : {xs e : Bytes} (h : EndsWith xs e) → length h.front + length e ≡ length xs
front_length h = simp length-append at (ap length h.is)

-- `ends_with` says whether a list ends with another
pub ends_with_says : (xs e : Bytes) → T (ends_with xs e) → EndsWith xs e
unfolding ends_with
ends_with_says xs e t =
    let n = length xs - length e in
    record { front = take n xs; is = ap (λ (l : Bytes). take n xs ++ l) (sym (same→eq (drop n xs) e t)) ∙ take-append-drop n xs }

pub ends_with_told : (xs e : Bytes) → EndsWith xs e → T (ends_with xs e)
unfolding ends_with
ends_with_told xs e h =
    let n = length xs - length e in
    let d : drop n xs ≡ e = ap (drop n) (sym h.is) ∙ drop_at h.front e n (omega (arith, front_length h)) in
    rw d (same_refl e)

-- nothing longer ends a list than the list itself
whole_longest : (xs ys : Bytes) → EndsWith ys xs → LongestCommonEnding xs ys xs
whole_longest xs ys k = record { first = record { front = []; is = refl }; second = k; longest = λ d h _. omega (arith, front_length h) }

-- `common_ending` is what it is called
pub common_longest : (xs ys : Bytes) → LongestCommonEnding xs ys (common_ending xs ys)
unfolding common_ending
common_longest [] ys = whole_longest [] ys (record { front = ys; is = append-nil ys })
common_longest (x ∷ xs) ys = go (ends_with ys (x ∷ xs)) refl (common_longest xs ys)
  where
    shorter : ends_with ys (x ∷ xs) ≡ false → LongestCommonEnding xs ys (common_ending xs ys) → (d f : Bytes) → f ++ d ≡ x ∷ xs → EndsWith ys d
        → length d ≤ length (common_ending xs ys)
    shorter t r d [] h k = absurd (rw t at (rw h at (ends_with_told ys d k)))
    shorter t r d (y ∷ f) h k = let e : f ++ d ≡ xs = cc in r.longest d (record { front = f; is = e }) k

    go : (s : Bool) → ends_with ys (x ∷ xs) ≡ s → LongestCommonEnding xs ys (common_ending xs ys) → LongestCommonEnding (x ∷ xs) ys (common_ending (x ∷ xs) ys)
    go true t r = rw (t, common_ending) (whole_longest (x ∷ xs) ys (ends_with_says ys (x ∷ xs) (rw t tt)))
    go false t r = rw (t, common_ending) record {
      first = record { front = x ∷ r.first.front; is = ap (λ (l : Bytes). x ∷ l) r.first.is };
      second = r.second;
      longest = λ d h k. shorter t r d h.front h.is k;
    }

-- of two longest common endings neither is longer
longest_length : {xs ys d e : Bytes} → LongestCommonEnding xs ys d → LongestCommonEnding xs ys e → length d ≡ length e
longest_length {xs} {ys} {d} {e} h k =
    let p = h.longest e k.first k.second in
    let q = k.longest d h.first h.second in
    omega arith

-- a byte of an ending is one of its list
ending_byte : {xs e : Bytes} (h : EndsWith xs e) (i : ℕ) → length h.front ≤ i → get_or xs i 0 ≡ get_or e (i - length h.front) 0
ending_byte {xs} {e} h i le =
    let at : i ≡ length h.front + (i - length h.front) = omega arith in
    rw (← h.is) (ap (λ (k : ℕ). get_or (h.front ++ e) k 0) at ∙ get_or-append-add h.front e (i - length h.front) 0)

-- names of two lengths: nothing is read
pub lengths_differ : (a b : Bytes) → (length a ≡ length b → ⊥) → record { equal = false; pairs = 0 } ≡ comparison a b
unfolding pairs_read
lengths_differ a b h = rw (same_lengths a b h, ne_eqb (length a) (length b) h, pairs_read)

-- the pairs of names of one length are those of any longest common ending and, unless the names are equal, one more
module _ {a b e : Bytes} (size : length a ≡ length b) (l : LongestCommonEnding a b e) where
  pairs_same : same a b ≡ true → length e ≡ pairs_read a b
  unfolding pairs_read
  pairs_same t = rw (eq-eqb (length a) (length b) size, pairs_read, t) (omega (arith, longest_length (common_longest a b) l))

  pairs_other : same a b ≡ false → length e + 1 ≡ pairs_read a b
  unfolding pairs_read
  pairs_other t = rw (eq-eqb (length a) (length b) size, pairs_read, t) (omega (arith, longest_length (common_longest a b) l))

-- the names have one length, and their last n bytes are alike
pub record Alike (a b : Bytes) (n : ℕ) : Type 0 where
  pub size : length a ≡ length b
  pub ending : drop (length a - n) a ≡ drop (length b - n) b

pub alike_none : (a b : Bytes) → length a ≡ length b → Alike a b 0
alike_none a b size = record {
  size = size;
  ending = drop_of_length-le a {i = length a - 0} (omega arith) ∙ sym (drop_of_length-le b {i = length b - 0} (omega arith));
}

-- all their bytes are alike: they are equal
pub found_same : {a b : Bytes} {n : ℕ} → Alike a b n → length a ≤ n → record { equal = true; pairs = length a } ≡ comparison a b
found_same {a} {b} {n} h all =
    let za : length a - n ≡ 0 = omega arith in
    let zb : length b - n ≡ 0 = omega (arith, h.size) in
    let e : a ≡ b = rw (za, zb) at h.ending in
    let t : same a b ≡ true = rw (← e) (same_self a) in
    cc (t, pairs_same h.size (whole_longest a b (record { front = []; is = e })) t)

-- the last n bytes are alike, and one more stands before them, at i
module _ {a b : Bytes} {n : ℕ} (h : Alike a b n) (i : ℕ) (before : suc i ≡ length a - n) where
  behind : drop (suc i) a ≡ drop (suc i) b
  behind = let e : suc i ≡ length b - n = omega (arith, h.size) in rw before (h.ending ∙ rw (← before, e))

  -- it is alike too
  pub alike_more : get_or a i 0 ≡ get_or b i 0 → Alike a b (n + 1)
  alike_more e =
      let ia : length a - (n + 1) ≡ i = omega arith in
      let ib : length b - (n + 1) ≡ i = omega (arith, h.size) in
      record { size = h.size; ending = rw (ia, ib, drop-cons a i 0 (omega arith), drop-cons b i 0 (omega (arith, h.size)), e, behind) }

  -- or it differs, and what stands behind it is the longest common ending
  module _ (other : get_or a i 0 ≡ get_or b i 0 → ⊥) where
    differ : same a b ≡ false
    differ = go (same a b) refl
      where
        go : (s : Bool) → same a b ≡ s → s ≡ false
        go true t = absurd (other (ap (λ (l : Bytes). get_or l i 0) (same→eq a b (rw t tt))))
        go false t = refl

    no_longer : (d : Bytes) → EndsWith a d → EndsWith b d → length d ≤ length (drop (suc i) a)
    no_longer d f g =
        let l : length f.front ≡ length g.front = omega (arith, h.size, front_length f, front_length g) in
        ⊎_elim
        (λ le. omega (arith, length-drop (suc i) a, front_length f))
        (λ le. absurd (other (ending_byte f i le ∙ rw l (sym (ending_byte g i (omega arith))))))
        (lt_or_le i (length f.front))

    longest_ending : LongestCommonEnding a b (drop (suc i) a)
    longest_ending = record {
      first = record { front = take (suc i) a; is = take-append-drop (suc i) a };
      second = record { front = take (suc i) b; is = rw behind (take-append-drop (suc i) b) };
      longest = no_longer;
    }

    pub found_other : record { equal = false; pairs = n + 1 } ≡ comparison a b
    found_other =
        let l : length (drop (suc i) a) ≡ n = omega (arith, length-drop (suc i) a) in
        cc (differ, pairs_other h.size longest_ending differ, l)
