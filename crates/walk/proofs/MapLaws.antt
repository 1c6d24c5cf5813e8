-- A map at the end of memory: one without entries, how many bytes an entry takes, the map after one more, and in a part of memory. Assumes nothing.
use mathlib.Core.Path.{◌≡◌, refl, sym, ap, ◌∙◌}
use mathlib.Core.List.{[], ◌∷◌, ◌++◌, append_assoc}
use native.Mathlib.Omega.{arith}
use Prim.Native.Nat.{ℕ, ◌+◌, ◌*◌, ◌-◌, ◌≤◌, ◌<◌}
use lib.ListN.{length, take, drop, length-append, length-drop, take-append-drop}
use lib.Seq.{drop-drop, drop-length, take_all, take-length}
use Rattle.names.specs.Maps.{map_bytes, NameMap, Limited}
use Rattle.names.specs.Names.{Bytes, ascii, gensym, number_field, name_field, name_limit, name_width}
use Rattle.names.specs.Segments.{At, SameOutside, Filled}
use Rattle.names.proofs.Digits.{decimal_length_le}
use Rattle.names.proofs.Fields.{name_field_length, name_filled}
use Rattle.names.proofs.Gensym.{gensym_length}
use Rattle.names.proofs.Frames.{same_wider, at_below}
use Rattle.names.proofs.Parts.{part, part_length}
use Rattle.names.proofs.Places.{at_is}
use Rattle.names.proofs.Segments.{filled_then}
use Rattle.walk.specs.Arena.{MapAt}
use Rattle.walk.specs.DrawnMaps.{atom_size, counter_limit, map_growth, between, entry, EntryRoom}

-- a map without entries
pub no_map : {mem : Bytes} → MapAt mem 0 []
unfolding map_bytes Limited
no_map {mem} =
    let e : length mem - 0 ≡ length mem = omega arith in
    record { within = omega arith; there = ap (λ (n : ℕ). drop n mem) e ∙ drop-length mem; limited = tt }

-- an entry of a map: its length, and how it is written
pub entry_length : (a b : Bytes) → length (entry a b) ≡ name_width + length a + (name_width + length b)
entry_length a b = omega (arith, length-append (name_field a) (name_field b), name_field_length a, name_field_length b)

pub entry_written : (start end : ℕ) (new : Bytes) {xs a b ys : Bytes} {at : ℕ} → EntryRoom xs at start end new → Filled xs a at (number_field name_width (end - start)) name_width
    → Filled a b (at + name_width) (drop start a) (end - start) → Filled b ys (at + name_width + (end - start)) (name_field new) (length (name_field new))
    → Filled xs ys at (entry (between xs start end) new) (length (entry (between xs start end) new))
entry_written start end new {xs} {a} {b} {at = at} r f g h =
    let n = between xs start end in
    let l = entry_length n new in
    let w : length n ≡ end - start = part_length xs start (end - start) (omega (arith, r.forward, r.behind, r.fits)) in
    let here : At xs start n = record { fits = omega (arith, r.forward, r.behind, r.fits); there = ap (λ (k : ℕ). take k (drop start xs)) w } in
    let kept : take (end - start) (drop start a) ≡ n = at_is start (end - start) refl (sym w) (at_below f.frame here (omega (arith, r.forward, r.behind))) in
    let number : Filled xs a at (number_field name_width (length n)) name_width = rw w f in
    let copied : Filled a b (at + name_width) n (end - start) = record { frame = g.frame; got = g.got ∙ kept ∙ sym (take_all (end - start) n (omega arith)) } in
    let own : Filled a b (at + name_width) n (length n) = rw w copied in
    filled_then (name_filled n number own (omega (arith, r.fits, name_field_length n))) h (omega (arith, name_field_length n)) r.fits

-- an entry that is drawn is within the growth of its SA
pub entry_bound : (n : Bytes) (c : ℕ) → c + 1 < counter_limit → length (entry n (gensym n c)) ≤ map_growth * atom_size (length n)
unfolding ascii
entry_bound n c lt = omega (arith, entry_length n (gensym n c), gensym_length n c, decimal_length_le 15 (c + 1) lt)

-- an entry written right before the map
pub map_grown : {old new : Bytes} {len q : ℕ} {m : NameMap} (a b : Bytes) (k : ℕ) → MapAt old len m → Filled old new q (entry a b) (length (entry a b))
    → k ≡ length (entry a b) + len → q + k ≡ length old → length a ≤ name_limit → length b ≤ name_limit → MapAt new k ((a, b) ∷ m)
unfolding map_bytes Limited
map_grown {old} {new} {len} {q} {m} a b k h f ek eq la lb =
    let w = length (entry a b) in
    let size = f.frame.size in
    let here : length new - k ≡ q = omega arith in
    let above : q + w ≡ length old - len = omega arith in
    let got : take w (drop q new) ≡ entry a b = f.got ∙ take-length (entry a b) in
    let rest : drop w (drop q new) ≡ map_bytes m = drop-drop w q new ∙ f.frame.high ∙ ap (λ (i : ℕ). drop i old) above ∙ h.there in
    let all : drop q new ≡ entry a b ++ map_bytes m = sym (take-append-drop w (drop q new)) ∙ cc in
    record { within = omega arith; there = rw here (all ∙ append_assoc (name_field a) (name_field b) (map_bytes m)); limited = (la, lb, h.limited) }

-- the map at the end, of a part and after a change
pub map_of_part : {xs : Bytes} {len : ℕ} {m : NameMap} (a : ℕ) → a + len ≤ length xs → MapAt xs len m → MapAt (part xs a (length xs - a)) len m
map_of_part {xs} {len} {m} a le at =
    let l = part_length xs a (length xs - a) (omega arith) in
    let w : part xs a (length xs - a) ≡ drop a xs = take_all (length xs - a) (drop a xs) (omega (arith, length-drop a xs)) in
    let top = length (part xs a (length xs - a)) - len in
    let e : a + top ≡ length xs - len = omega arith in
    record { within = omega arith; there = ap (drop top) w ∙ drop-drop top a xs ∙ ap (λ (n : ℕ). drop n xs) e ∙ at.there; limited = at.limited }

pub map_after : {xs ys : Bytes} {lo hi len : ℕ} {m : NameMap} → SameOutside xs ys lo hi → hi + len ≤ length xs → MapAt xs len m → MapAt ys len m
map_after {xs} {ys} {lo} {hi} {len} s le at =
    let e : length ys - len ≡ length xs - len = omega (arith, s.size) in
    let above = (same_wider lo (length xs - len) (omega arith) (omega arith) s).high in
    record { within = omega (arith, s.size, at.within); there = ap (λ (n : ℕ). drop n ys) e ∙ above ∙ at.there; limited = at.limited }
