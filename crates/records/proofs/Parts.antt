-- Where a tree ends that stands at a place, and trees one behind the other. Assumes nothing.
use mathlib.Core.Path.{◌≡◌, refl, ap, sym}
use mathlib.Core.List.{List, [], ◌∷◌, ◌++◌}
use Prim.Native.Nat.{ℕ, ◌+◌, ◌-◌, ◌≤◌, ◌<◌}
use native.Mathlib.Omega.{arith}
use lib.ListN.{length, take, drop, length-append, length-drop}
use lib.Seq.{take_all}
use Rattle.names.specs.Names.{Bytes}
use Rattle.names.specs.Segments.{At}
use Rattle.records.specs.Lists.{joined, Each}
use Rattle.records.specs.Parts.{Part, Skips, Past, PastBytes}
use Rattle.names.proofs.Places.{at_left, at_right}
use Rattle.names.proofs.Parts.{into}

-- a record that stands by itself is the one that stands at a place
pub skips_past : {p : Part} {s : Bytes} {at r : ℕ} → at ≤ length s → Skips p (take (length s - at) (drop at s)) r → Past p s at (at + r)
skips_past {p} {s} {at} {r} h k =
    let w : take (length s - at) (drop at s) ≡ drop at s = take_all (length s - at) (drop at s) (omega (arith, length-drop at s)) in
    record {
      within = omega (arith, k.within, ap length w, length-drop at s);
      onward = omega arith;
      past = λ t v a. ap (λ (n : ℕ). at + n) (k.skips t v (into a));
    }

-- fewer trees are meant
pub past_fewer : {A : Type 0} {f : A → Bytes} {P Q : A → Type 0} {s : Bytes} {at r : ℕ} → ((t : A) → Q t → P t) → Past (A, f, P) s at r → Past (A, f, Q) s at r
past_fewer h k = record { within = k.within; onward = k.onward; past = λ t v a. k.past t (h t v) a }

-- one tree behind the other
pub past_then : {p q : Part} {s : Bytes} {at m r : ℕ} → Past p s at m → Past q s m r → (t : p.0) (u : q.0) → p.2 t → q.2 u → At s at (p.1 t ++ q.1 u) → r ≡ at + length (p.1 t ++ q.1 u)
past_then {p} {q} x y t u v w a =
    let e = x.past t v (at_left (p.1 t) (q.1 u) a) in
    omega (arith, e, y.past u w (rw e (at_right (p.1 t) (q.1 u) a)), length-append (p.1 t) (q.1 u))

-- of n trees i are behind, the others stand from `at` on, and they end at e
pub record Left (p : Part) (s : Bytes) (at i n e : ℕ) : Type 0 where
  pub rest : List p.0
  pub count : i + length rest ≡ n
  pub fit : Each p.2 rest
  pub there : At s at (joined p.1 rest)
  pub ends : at + length (joined p.1 rest) ≡ e

-- one more is stepped over
pub left_step : {p : Part} {s : Bytes} {at r i n e : ℕ} → Left p s at i n e → i < n → Past p s at r → Left p s r (i + 1) n e
unfolding joined Each
left_step {p} {s} {at} {r} {i} {n} {e} h l k = go h.rest h.count h.fit h.there h.ends
  where
    go : (ts : List p.0) → i + length ts ≡ n → Each p.2 ts → At s at (joined p.1 ts) → at + length (joined p.1 ts) ≡ e → Left p s r (i + 1) n e
    go [] c f a q = absurd (omega arith)
    go (t ∷ ts) c f a q =
        let w : r ≡ at + length (p.1 t) = k.past t f.0 (at_left _ _ a) in
        record {
          rest = ts;
          count = omega arith;
          fit = f.1;
          there = rw w (at_right (p.1 t) _ a);
          ends = omega (arith, length-append (p.1 t) (joined p.1 ts));
        }

-- none is left
pub left_none : {p : Part} {s : Bytes} {at i n e : ℕ} → Left p s at i n e → n ≤ i → at ≡ e
unfolding joined
left_none {p} {s} {at} {i} {n} {e} h l = go h.rest h.count h.ends
  where
    go : (ts : List p.0) → i + length ts ≡ n → at + length (joined p.1 ts) ≡ e → at ≡ e
    go [] c q = omega arith
    go (t ∷ ts) c q = absurd (omega arith)

-- so many bytes
pub fixed_past : {s : Bytes} {at n : ℕ} → at + n ≤ length s → PastBytes n s at (at + n)
fixed_past {s} {at} h = record { past = record { within = h; onward = omega arith; past = λ t v a. ap (λ (k : ℕ). at + k) (sym v) }; missing = λ l. absurd (omega arith) }

pub fixed_short : {s : Bytes} {at n : ℕ} → at ≤ length s → length s - at < n → PastBytes n s at (length s)
fixed_short h l = record { past = record { within = omega arith; onward = h; past = λ t v a. absurd (omega (arith, a.fits, v)) }; missing = λ _. refl }
