-- Which bytes a change leaves alone, and what stands where bytes were written. Assumes nothing.
use mathlib.Core.Logic.{inl}
use mathlib.Core.Path.{◌≡◌, refl, sym, ap, ◌∙◌}
use mathlib.Core.List.{[], ◌∷◌}
use native.Mathlib.Nat.{add-zero}
use native.Mathlib.Numerals.{add-one}
use native.Mathlib.Omega.{arith}
use Prim.Native.Nat.{ℕ, ◌+◌, ◌-◌, ◌≤◌, ◌<◌}
use lib.ListN.{length, take, drop, get_or, set, length-drop, length-set, take-append-drop}
use lib.Seq.{drop-drop, drop-set-add, drop-set-lt, get_or-drop, get_or-take, take-add, take-set-le, take-suc, take-suc-set, take-take}
use Rattle.names.specs.Names.{Bytes}
use Rattle.names.specs.Segments.{At, SameOutside, Filled, Movable}
use Rattle.names.proofs.Places.{at_into_drop, at_place, take_drop, take_drop_take}

-- no change
pub same_refl : {xs : Bytes} {lo hi : ℕ} → SameOutside xs xs lo hi
same_refl = record { size = refl; low = refl; high = refl }

-- the change undone
pub same_sym : {xs ys : Bytes} {lo hi : ℕ} → SameOutside xs ys lo hi → SameOutside ys xs lo hi
same_sym s = record { size = sym s.size; low = sym s.low; high = sym s.high }

-- a change told by wider bounds
pub same_wider : {xs ys : Bytes} {lo hi : ℕ} (l h : ℕ) → l ≤ lo → hi ≤ h → SameOutside xs ys lo hi → SameOutside xs ys l h
same_wider {xs} {ys} {lo} {hi} l h le he s =
    record {
      size = s.size;
      low = sym (take-take l lo ys le) ∙ ap (take l) s.low ∙ take-take l lo xs le;
      high = over ys ∙ ap (drop (h - hi)) s.high ∙ sym (over xs);
    }
  where
    over : (zs : Bytes) → drop h zs ≡ drop (h - hi) (drop hi zs)
    over zs = let e : hi + (h - hi) ≡ h = omega arith in sym (drop-drop (h - hi) hi zs ∙ ap (λ (n : ℕ). drop n zs) e)

-- one change after another, within bounds of both
pub same_then : {xs ys zs : Bytes} {a b c d : ℕ} (lo hi : ℕ) → lo ≤ a → lo ≤ c → b ≤ hi → d ≤ hi → SameOutside xs ys a b → SameOutside ys zs c d → SameOutside xs zs lo hi
same_then lo hi la lc bh dh s t =
    let f = same_wider lo hi la bh s in
    let g = same_wider lo hi lc dh t in
    record { size = g.size ∙ f.size; low = g.low ∙ f.low; high = g.high ∙ f.high }

-- a change of nothing
pub same_all : {xs ys : Bytes} {lo hi : ℕ} → SameOutside xs ys lo hi → hi ≤ lo → ys ≡ xs
same_all {xs} {ys} {lo} {hi} s le =
    let w = same_wider lo lo (omega arith) le s in
    sym (take-append-drop lo ys) ∙ cc (w.low, w.high, take-append-drop lo xs)

-- one byte stored
pub same_set : (xs : Bytes) (i v lo hi : ℕ) → lo ≤ i → i < hi → SameOutside xs (set xs i v) lo hi
same_set xs i v lo hi le lt = record { size = length-set xs i v; low = take-set-le lo xs i v le; high = drop-set-lt hi xs i v lt }

-- what stands below a change and above it
module _ {xs ys : Bytes} {lo hi : ℕ} (s : SameOutside xs ys lo hi) where
  pub at_below : {p : ℕ} {bs : Bytes} → At xs p bs → p + length bs ≤ lo → At ys p bs
  at_below {p} {bs} h le =
      let low = (same_wider (p + length bs) hi le (omega arith) s).low in
      record { fits = omega (arith, s.size, h.fits); there = take_drop p (length bs) ys ∙ ap (drop p) low ∙ sym (take_drop p (length bs) xs) ∙ h.there }

  pub at_above : {p : ℕ} {bs : Bytes} → At xs p bs → hi ≤ p → At ys p bs
  at_above {p} {bs} h le = record { fits = omega (arith, s.size, h.fits); there = ap (take (length bs)) (same_wider lo p (omega arith) le s).high ∙ h.there }

  pub get_below : (j : ℕ) → j < lo → get_or ys j 0 ≡ get_or xs j 0
  get_below j lt = sym (get_or-take lo ys j 0 lt) ∙ ap (λ (l : Bytes). get_or l j 0) s.low ∙ get_or-take lo xs j 0 lt

  pub get_above : (j : ℕ) → hi ≤ j → get_or ys j 0 ≡ get_or xs j 0
  get_above j le =
      let e : hi + (j - hi) ≡ j = omega arith in
      let above : (zs : Bytes) → get_or zs j 0 ≡ get_or (drop hi zs) (j - hi) 0 = λ zs. rw (get_or-drop, e) in
      above ys ∙ ap (λ (l : Bytes). get_or l (j - hi) 0) s.high ∙ sym (above xs)

-- bytes written one after the other, from the first on
pub filled_none : {xs : Bytes} {q : ℕ} {vs : Bytes} → Filled xs xs q vs 0
filled_none = record { frame = same_refl; got = refl }

pub filled_more : {xs ys : Bytes} {q : ℕ} {vs : Bytes} {i : ℕ} (v : ℕ) → Filled xs ys q vs i → q + i < length ys → i < length vs → v ≡ get_or vs i 0
    → Filled xs (set ys (q + i) v) q vs (i + 1)
filled_more {xs} {ys} {q} {vs} {i} v f lt lv e =
    record {
      frame = same_then q (q + (i + 1)) (omega arith) (omega arith) (omega arith) (omega arith) f.frame (same_set ys (q + i) v q (q + (i + 1)) (omega arith) (omega arith));
      got = rw (drop-set-add, add-one) (take-suc-set (drop q ys) i v (omega (arith, length-drop q ys)) ∙ cc (f.got, e, take-suc vs i 0 lv));
    }

-- bytes that go to a later place which they do not reach
pub movable_up : {xs : Bytes} {p q n : ℕ} → p + n ≤ q → q + n ≤ length xs → Movable xs p q n
movable_up h l = record { source = omega arith; target = l; safe = inl h }

-- one byte written
pub filled_set : (xs : Bytes) (i v : ℕ) → i < length xs → Filled xs (set xs i v) i (v ∷ []) 1
filled_set xs i v lt = rw add-zero at (filled_more v (filled_none {xs = xs} {q = i} {vs = v ∷ []}) (omega arith) (omega arith) refl)

-- what was written stands there
pub filled_at : {xs ys : Bytes} {q : ℕ} {vs : Bytes} {n i : ℕ} {bs : Bytes} (t : ℕ) → Filled xs ys q vs n → q + n ≤ length xs → At vs i bs → i + length bs ≤ n → q + i ≡ t → At ys t bs
filled_at {xs} {ys} {q} {vs} {n} {i} {bs} t f fit h le e =
    let m = length bs in
    let there : take m (drop i (drop q ys)) ≡ bs = sym (take_drop_take i m n (drop q ys) le) ∙ ap (λ (l : Bytes). take m (drop i l)) f.got ∙ take_drop_take i m n vs le ∙ h.there in
    record { fits = omega (arith, f.frame.size); there = rw (← e, ← drop-drop) there }

-- a segment at s of a run that went from p to q
pub copied_at : {xs ys : Bytes} {q n s : ℕ} {bs : Bytes} (p t : ℕ) → Filled xs ys q (drop p xs) n → q + n ≤ length xs → At xs s bs → p ≤ s → s + length bs ≤ p + n → t + p ≡ q + s → At ys t bs
copied_at {s = s} p t f fit h ps le e = filled_at t f fit (at_into_drop p (at_place (p + (s - p)) (omega arith) h)) (omega arith) (omega arith)

-- two runs side by side
pub filled_on : {xs ys zs : Bytes} {q n p m : ℕ} {vs ws : Bytes} → Filled xs ys q vs n → Filled ys zs p ws m → p ≡ q + n → take m ws ≡ take m (drop n vs) → Filled xs zs q vs (n + m)
filled_on {xs} {ys} {zs} {q} {n} {p} {m} {vs} {ws} f g e same =
    record {
      frame = same_then q (q + (n + m)) (omega arith) (omega arith) (omega arith) (omega arith) f.frame g.frame;
      got =
          take-add n m (drop q zs)
          ∙ cc (take_drop q n zs, take_drop q n ys, rw e at g.frame.low, f.got, drop-drop n q zs, rw e at g.got, same, take-add n m vs);
    }
