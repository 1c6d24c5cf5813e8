-- A map at the end of a part of memory: with the older map that stands right above the part it is the joined map of the whole; and in a part that reaches the
-- end of memory it is the map of the whole. Assumes nothing.
use mathlib.Core.Path.{◌≡◌, sym, ap, subst, ◌∙◌}
use mathlib.Core.List.{[], ◌∷◌, ◌++◌}
use native.Mathlib.Omega.{arith}
use Prim.Native.Nat.{ℕ, ◌+◌, ◌-◌, ◌≤◌}
use lib.ListN.{length, length-append, length-drop}
use Rattle.names.specs.Maps.{NameMap, map_bytes, Limited}
use Rattle.names.specs.Names.{Bytes}
use Rattle.names.specs.Segments.{At, SameOutside}
use Rattle.names.proofs.Frames.{at_above}
use Rattle.names.proofs.Parts.{part, back, part_length, back_length, at_back, same_back}
use Rattle.names.proofs.Places.{at_whole, at_place, at_rest, at_join, at_end}
use Rattle.walk.specs.Arena.{MapAt}
use Rattle.walk.proofs.JoinedMaps.{joined_bytes}
use Rattle.walk.proofs.OnParts.{from, rejoin}

-- the bytes of a map are as many as it says, and stand at the end
pub map_length : {mem : Bytes} {len : ℕ} {m : NameMap} → MapAt mem len m → length (map_bytes m) ≡ len
map_length {mem} {len} w = omega (arith, ap length w.there, length-drop (length mem - len) mem, w.within)

pub map_stands : {mem : Bytes} {len : ℕ} {m : NameMap} → MapAt mem len m → At mem (length mem - len) (map_bytes m)
map_stands {mem} {len} w = let p = length mem - len in subst (At mem p) w.there (at_place p (omega arith) (at_rest p (at_whole mem) (omega arith)))

both_limited : (a b : NameMap) → Limited a → Limited b → Limited (a ++ b)
unfolding Limited
both_limited [] b p q = q
both_limited (e ∷ a) b p q = (p.0, p.1, both_limited a b p.2 q)

pub map_joined : (xs : Bytes) (a k : ℕ) {y : Bytes} {lo hi len older : ℕ} {m n : NameMap} → a + k + older ≡ length xs → SameOutside (part xs a k) y lo hi → lo ≤ k → hi ≤ k → MapAt y len m → MapAt xs older n
    → MapAt (back xs a k y) (len + older) (m ++ n)
map_joined xs a k {y} {len = len} {older} {m} {n} e s low high w o =
    let l = s.size ∙ part_length xs a k (omega arith) in
    let whole = back xs a k y in
    let f = same_back xs a k (omega arith) s low high in
    let p = length whole - (len + older) in
    let new = at_place p (omega (arith, f.size, w.within)) (at_back xs a k (omega arith) y l (map_stands w)) in
    let old = at_place (p + length (map_bytes m)) (omega (arith, f.size, map_length w, w.within)) (at_above f (map_stands o) (omega arith)) in
    let sum = length-append (map_bytes m) (map_bytes n) in
    record {
      within = omega (arith, f.size, w.within);
      there = at_end (at_join (map_bytes m) (map_bytes n) new old) (omega (arith, f.size, w.within, map_length w, map_length o)) ∙ sym (joined_bytes m n);
      limited = both_limited m n w.limited o.limited;
    }

-- in the part from a on it is the map of the whole
pub map_back : (xs : Bytes) (a : ℕ) {y : Bytes} {len : ℕ} {m : NameMap} → a ≤ length xs → length y ≡ length (from xs a) → MapAt y len m → MapAt (rejoin xs a y) len m
map_back xs a {y} {len} le s w =
    let k = length xs - a in
    let l = s ∙ part_length xs a k (omega arith) in
    let b = back_length xs a k (omega arith) y l in
    let at = at_place (length (rejoin xs a y) - len) (omega (arith, w.within)) (at_back xs a k (omega arith) y l (map_stands w)) in
    record { within = omega (arith, w.within); there = at_end at (omega (arith, w.within, map_length w)); limited = w.limited }
