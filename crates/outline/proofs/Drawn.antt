-- A line as it is drawn character by character, and lines one behind the other. Assumes nothing.
use Rattle.std.specs.declared.option.Option.{Option}
use mathlib.Core.Path.{◌≡◌, refl, ap, subst, ◌∙◌}
use mathlib.Core.List.{◌++◌}
use native.Mathlib.Nat.{zero-add}
use native.Mathlib.Omega.{arith}
use Prim.Native.Nat.{ℕ, ◌+◌, ◌≤◌, ◌<◌}
use lib.ListN.{length, take, get_or, set}
use Rattle.names.specs.Names.{Bytes}
use Rattle.names.specs.Segments.{At, Filled}
use Rattle.names.proofs.Frames.{filled_more}
use Rattle.records.specs.Records.{mark_width, byte}
use Rattle.records.specs.declared.NameView.{NameView}
use Rattle.outline.specs.declared.Entry.{Entry}
use Rattle.outline.specs.Outline.{Outline, node, outline_mark, outline_name, mark_bytes, outline_bytes, OutlineOf}
use Rattle.outline.specs.Page.{line_width, fitted, line_parts, line_text, line}
use Rattle.outline.specs.PageWork.{label_name, Labels, LineAsks, LineWritten}
use Rattle.outline.proofs.Characters.{ended_length, ended_get, ended_last}
use Rattle.outline.proofs.KnownMarks.{mark_there}

-- what stands on the line of the record that s starts with
abbrev pub drawn_text : Bytes → ℕ → Option NameView → Bytes
drawn_text s depth name = line_parts depth (take mark_width s) (label_name s name)

-- at its width, and 0A after it
abbrev pub drawn_line : Bytes → ℕ → Option NameView → Bytes
drawn_line s depth name = fitted line_width (drawn_text s depth name) ++ byte 10

-- one byte more
front_more : (s : Bytes) (depth : ℕ) (name : Option NameView) {xs ys : Bytes} {i : ℕ} (v : ℕ) → Filled xs ys 0 (drawn_line s depth name) i → line_width + 1 ≤ length xs → i < line_width + 1
    → v ≡ get_or (drawn_line s depth name) i 0 → Filled xs (set ys i v) 0 (drawn_line s depth name) (i + 1)
front_more s depth name v f room lt e =
    rw zero-add at (filled_more v f (omega (arith, f.frame.size)) (omega (arith, ended_length line_width (drawn_text s depth name))) e)

-- it is the line of that record
line_drawn : {s : Bytes} {name : Option NameView} (e : Entry) (x : Outline) → OutlineOf x → At s 0 (outline_bytes x) → Labels s name → drawn_line s e.around.depth name ≡ line (e, x)
unfolding line line_text outline_mark outline_name
line_drawn {s} {name} e x o a l =
    ap (λ (t : Bytes). fitted line_width t ++ byte 10) (rw (mark_there x a, l.says x o a) (as_text x))
  where
    as_text : (y : Outline) → line_parts e.around.depth (mark_bytes (outline_mark y)) (outline_name y) ≡ line_text (e, y)
    as_text (node m n ps) = refl

-- the line of the record that s starts with, under its label
module _ {s : Bytes} {depth : ℕ} {name : Option NameView} {xs ys : Bytes} (p : LineAsks s depth xs) (l : Labels s name) where
  -- a character more
  pub drawn_more : {i v : ℕ} → Filled xs ys 0 (drawn_line s depth name) i → i < line_width → v ≡ get_or (drawn_text s depth name) i 32
      → Filled xs (set ys i v) 0 (drawn_line s depth name) (i + 1)
  drawn_more {i} {v} f lt e =
      front_more s depth name v f p.room (omega arith) (e ∙ ended_get line_width (drawn_text s depth name) i lt)

  -- after the last the 0A, and it is written
  pub drawn_whole : Filled xs ys 0 (drawn_line s depth name) line_width → LineWritten s depth xs (set ys line_width 10)
  drawn_whole f = record { frame = whole.frame; filled = written_line }
    where
      whole : Filled xs (set ys line_width 10) 0 (drawn_line s depth name) (line_width + 1)
      whole = front_more s depth name 10 f p.room (omega arith) (ended_last line_width (drawn_text s depth name))

      written_line : (e : Entry) (x : Outline) → e.around.depth ≡ depth → OutlineOf x → At s 0 (outline_bytes x) → Filled xs (set ys line_width 10) 0 (line (e, x)) (line_width + 1)
      written_line e x d o a =
          let g : Filled xs (set ys line_width 10) 0 (drawn_line s e.around.depth name) (line_width + 1) = rw d whole in
          subst (λ (vs : Bytes). Filled xs (set ys line_width 10) 0 vs (line_width + 1)) (line_drawn e x o a l) g
