-- An entry as its bytes: written one number after the other, and read where it stands. Assumes nothing.
use mathlib.Core.Path.{◌≡◌, refl, ◌∙◌}
use mathlib.Core.Bool.{Bool, true, false, not}
use mathlib.Core.List.{◌++◌}
use native.Mathlib.Nat.{add-zero}
use native.Mathlib.Omega.{arith}
use Prim.Native.Nat.{ℕ, ◌+◌, ◌*◌, ◌≤◌}
use lib.Dec.{eqb}
use lib.ListN.{length, take, drop, get_or, set}
use Rattle.names.specs.Names.{Bytes, number_field, number_of}
use Rattle.names.specs.Segments.{At, Filled}
use Rattle.names.proofs.Frames.{filled_set}
use Rattle.names.proofs.Numbers.{number_at}
use Rattle.names.proofs.Places.{at_left, at_right, at_get}
use Rattle.names.proofs.Segments.{filled_then}
use Rattle.records.specs.Records.{byte}
use Rattle.outline.specs.declared.Entry.{Entry}
use Rattle.outline.specs.Index.{place_width, entry_width, flag, entry_bytes}
use Rattle.outline.specs.Shape.{EntryFits}

-- how long an entry is
pub entry_long : (e : Entry) → length (entry_bytes e) ≡ entry_width
unfolding number_field byte entry_bytes
entry_long e = refl

-- three numbers and a byte written one after the other are an entry
pub entry_filled : (e : Entry) {m m₁ m₂ m₃ : Bytes} → entry_width ≤ length m → Filled m m₁ 0 (number_field place_width e.around.offset) place_width
    → Filled m₁ m₂ place_width (number_field place_width e.around.depth) place_width
    → Filled m₂ m₃ (2 * place_width) (number_field place_width e.len) place_width
    → Filled m (set m₃ (3 * place_width) (flag e.around.inside)) 0 (entry_bytes e) entry_width
unfolding number_field byte entry_bytes
entry_filled e {m₃ = m₃} room f g h =
    let k = filled_set m₃ (3 * place_width) (flag e.around.inside) (omega (arith, f.frame.size, g.frame.size, h.frame.size)) in
    let three = filled_then h k refl (omega (arith, f.frame.size, g.frame.size)) in
    let two = filled_then g three refl (omega (arith, f.frame.size)) in
    filled_then f two refl room

-- a flag read back
flag_read : (b : Bool) → not (eqb (flag b) 0) ≡ b
unfolding flag
flag_read false = refl
flag_read true = refl

-- an entry read where it stands
pub entry_read : {xs : Bytes} {p : ℕ} (e : Entry) → EntryFits e → At xs p (entry_bytes e) → {o d l : ℕ} → o ≡ number_of (take place_width (drop p xs))
    → d ≡ number_of (take place_width (drop (p + place_width) xs)) → l ≡ number_of (take place_width (drop (p + 2 * place_width) xs))
    → record { around = record { offset = o; depth = d; inside = not (eqb (get_or xs (p + 3 * place_width) 0) 0) }; len = l } ≡ e
unfolding number_field byte entry_bytes
entry_read {xs} {p} e s h {o} {d} {l} ho hd hl =
    let x = number_field place_width e.around.offset in
    let y = number_field place_width e.around.depth in
    let z = number_field place_width e.len in
    let w = byte (flag e.around.inside) in
    let three = at_left (x ++ y ++ z) w h in
    let two = at_left (x ++ y) z three in
    let f : get_or xs (p + 3 * place_width) 0 ≡ flag e.around.inside = rw add-zero at (at_get (at_right (x ++ y ++ z) w h) 0 (omega arith)) in
    let eo = ho ∙ number_at place_width e.around.offset s.offset (at_left x y two) in
    let ed = hd ∙ number_at place_width e.around.depth s.depth (at_right x y two) in
    let el = hl ∙ number_at place_width e.len s.len (at_right (x ++ y) z three) in
    rw (eo, ed, el, f, flag_read e.around.inside) refl
