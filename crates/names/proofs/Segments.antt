-- What a list is after bytes were written at a place. Assumes nothing.
use mathlib.Core.Path.{◌≡◌, sym, ap, ◌∙◌}
use mathlib.Core.List.{[], ◌∷◌, ◌++◌, append_assoc}
use native.Mathlib.Nat.{zero-add}
use native.Mathlib.Numerals.{add-one}
use native.Mathlib.Omega.{arith}
use Prim.Native.Nat.{ℕ, suc, ◌+◌, ◌-◌, ◌≤◌, ◌<◌}
use lib.ListN.{length, take, drop, get_or, set, length-append, take-append-drop}
use lib.Seq.{drop-append-add, drop_at, drop-drop, drop-paste, length-paste, length-take-le, paste, set_at, take-add, take-append_seam, take_at, take-length, take-suc}
use borrow.Rule.Slice.PartMut.{put_mid}
use Rattle.names.specs.CallAnswer.{written}
use Rattle.names.specs.Names.{Bytes}
use Rattle.names.specs.Segments.{Filled}

-- xs with vs written at q
abbrev pub placed : Bytes → ℕ → Bytes → Bytes
placed xs q vs = take q xs ++ vs ++ drop (q + length vs) xs

-- a filled list is known whole
pub filled_is : {xs ys : Bytes} {q : ℕ} {vs : Bytes} {n : ℕ} → Filled xs ys q vs n → ys ≡ paste xs q vs n
filled_is {xs} {ys} {q} {vs} {n} f =
    sym (take-append-drop (q + n) ys) ∙ cc (take-add q n ys, f.frame.low, f.frame.high, f.got)

pub filled_placed : {xs ys : Bytes} {q : ℕ} (vs : Bytes) → Filled xs ys q vs (length vs) → ys ≡ placed xs q vs
filled_placed vs f = filled_is f ∙ rw take-length

pub paste_filled : (xs : Bytes) (q : ℕ) (vs : Bytes) (n : ℕ) → q + n ≤ length xs → n ≤ length vs → Filled xs (paste xs q vs n) q vs n
paste_filled xs q vs n fit le =
    let h : q ≤ length xs = omega arith in
    let l : length (take q xs) ≡ q = length-take-le q xs h in
    record {
      frame = record {
        size = length-paste xs q vs n fit le;
        low = rw append_assoc (take_at (take q xs) _ q l);
        high = drop-paste xs q vs n h le;
      };
      got = rw (append_assoc, drop_at (take q xs) _ q l) (take_at (take n vs) _ n (length-take-le n vs le));
    }

pub placed_filled : (xs : Bytes) (q : ℕ) (vs : Bytes) → q + length vs ≤ length xs → Filled xs (placed xs q vs) q vs (length vs)
placed_filled xs q vs fit = rw take-length at (paste_filled xs q vs (length vs) fit (omega arith))

-- one byte more, in front of what was written
pub placed_before : (xs : Bytes) (q v : ℕ) (vs : Bytes) → q < length xs → set (placed xs (q + 1) vs) q v ≡ placed xs q (v ∷ vs)
placed_before xs q v vs lt =
    let e : q + 1 + length vs ≡ q + suc (length vs) = omega arith in
    let s : take (q + 1) xs ≡ take q xs ++ get_or xs q 0 ∷ [] = rw add-one (take-suc xs q 0 lt) in
    rw (s, e) (simp append_assoc (set_at (take q xs) (get_or xs q 0) _ v q (length-take-le q xs (omega arith))))

-- one piece after the other
pub placed_after : (xs : Bytes) (q : ℕ) (us vs : Bytes) → q ≤ length xs → placed (placed xs q us) (q + length us) vs ≡ placed xs q (us ++ vs)
placed_after xs q us vs le =
    let l : length (take q xs ++ us) ≡ q + length us = length-append (take q xs) us ∙ ap (λ (n : ℕ). n + length us) (length-take-le q xs le) in
    let e : q + length us + length vs ≡ q + length (us ++ vs) = omega (arith, length-append us vs) in
    rw (← l, take-append_seam, drop-append-add, drop-drop, l, e) (simp append_assoc)

pub filled_then : {xs ys zs : Bytes} {q p : ℕ} {us vs : Bytes} → Filled xs ys q us (length us) → Filled ys zs p vs (length vs) → p ≡ q + length us → q + length (us ++ vs) ≤ length xs
    → Filled xs zs q (us ++ vs) (length (us ++ vs))
filled_then {xs} {ys} {zs} {q} {p} {us} {vs} f g e fit =
    let is : zs ≡ placed xs q (us ++ vs) = filled_placed vs g ∙ rw (filled_placed us f, e) (placed_after xs q us vs (omega arith)) in
    rw is (placed_filled xs q (us ++ vs) fit)

-- at the front of a buffer
pub filled_written : {xs ys vs : Bytes} → Filled xs ys 0 vs (length vs) → ys ≡ written vs xs
unfolding written
filled_written {xs} {ys} {vs} f = filled_placed vs f ∙ rw zero-add

-- a part of the length of vs is overwritten by it
pub pasted : {xs vs ys : Bytes} {q : ℕ} → q + length vs ≤ length xs → ys ≡ vs → Filled xs (put_mid q (q + length vs - q) xs ys) q vs (length vs)
pasted {xs} {vs} {ys} {q} fit e =
    let n : q + length vs - q ≡ length vs = omega arith in
    let is : put_mid q (q + length vs - q) xs ys ≡ placed xs q vs = rw (n, e, drop-drop) (sym (append_assoc (take q xs) vs (drop (q + length vs) xs))) in
    rw is (placed_filled xs q vs fit)
