-- Entries that say places: the first k of them, and a lone binding with one. Assumes nothing.
use mathlib.Core.List.{List, [], ◌∷◌}
use native.Mathlib.Omega.{arith}
use Prim.Native.Nat.{ℕ, zero, suc, ◌/◌, ◌%◌, ◌≤◌, ◌<◌}
use lib.ListN.{length, take, get_or, length-take}
use lib.Seq.{get_or-take}
use Rattle.names.specs.Names.{Bytes}
use Rattle.ordering.specs.Provisions.{places, listed_bindings, Given}

-- no more bindings are listed in the first k
listed_take : (k : ℕ) (es : List ℕ) → listed_bindings (take k es) ≤ listed_bindings es
unfolding listed_bindings
listed_take zero es = omega arith
listed_take (suc k) [] = omega arith
listed_take (suc k) (zero ∷ es) = let h = listed_take k es in omega (arith, h)
listed_take (suc k) (suc e ∷ es) = listed_take k es

pub given_take : {s : Bytes} {given : List ℕ} (k : ℕ) → k ≤ length given → Given s given → Given s (take k given)
given_take {s} {given} k le g = record {
  few = omega (arith, listed_take k given, g.few);
  within = λ i lt.
      let h : i < k = omega (arith, length-take k given) in
      rw (get_or-take k given i 0 h) (g.within i (omega arith));
}

-- one binding with one name
one_listed : (e : ℕ) → listed_bindings (0 ∷ e ∷ []) ≤ 64
unfolding listed_bindings
one_listed zero = omega arith
one_listed (suc e) = omega arith

pub given_one : {s : Bytes} (e : ℕ) → e / places ≤ e % places → e % places ≤ length s → Given s (0 ∷ e ∷ [])
given_one {s} e fore within = record { few = one_listed e; within = go }
  where
    go : (k : ℕ) → k < 2 → (get_or (0 ∷ e ∷ []) k 0 / places ≤ get_or (0 ∷ e ∷ []) k 0 % places) × (get_or (0 ∷ e ∷ []) k 0 % places ≤ length s)
    go zero lt = (omega arith, omega arith)
    go (suc zero) lt = (fore, within)
    go (suc (suc k)) lt = absurd (omega arith)
