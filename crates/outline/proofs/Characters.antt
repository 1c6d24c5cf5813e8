-- The characters of a line, one by one. Assumes nothing.
use mathlib.Core.Path.{◌≡◌, refl, sym, ap, ◌∙◌}
use mathlib.Core.List.{[], ◌∷◌, ◌++◌, map}
use Rattle.std.specs.declared.option.Option.{Option}
use Rattle.std.specs.declared.option.Option.TheVariants.{Some, None}
use native.Mathlib.Omega.{arith}
use Prim.Native.Nat.{ℕ, zero, suc, ◌+◌, ◌*◌, ◌-◌, ◌≤◌, ◌<◌}
use lib.ListN.{length, take, drop, get_or, length-append, length-drop, length-map, get_or-append, get_or-eq_default}
use lib.Seq.{get_or-append-add, get_or_at, get_or-drop, get_or-take, length-take-le}
use Rattle.names.specs.Names.{Bytes, ascii}
use Rattle.records.specs.Records.{mark_width, byte}
use Rattle.records.specs.declared.NameView.{NameView}
use Rattle.outline.specs.Page.{spaces, visible, shown, fitted, line_parts}
use Rattle.outline.specs.PageWork.{LabelWithin, label_name}
use Rattle.outline.proofs.Lines.{spaces_long, fitted_long}

-- within a list it does not matter what stands for the rest
get_any : (l : Bytes) (i d e : ℕ) → i < length l → get_or l i d ≡ get_or l i e
get_any [] i d e lt = absurd (omega arith)
get_any (x ∷ xs) zero d e lt = refl
get_any (x ∷ xs) (suc i) d e lt = get_any xs i d e (omega arith)

-- an element of a list that a function goes over
get_mapped : (f : ℕ → ℕ) (l : Bytes) (i d e : ℕ) → i < length l → get_or (map f l) i d ≡ f (get_or l i e)
get_mapped f [] i d e lt = absurd (omega arith)
get_mapped f (x ∷ xs) zero d e lt = refl
get_mapped f (x ∷ xs) (suc i) d e lt = get_mapped f xs i d e (omega arith)

-- a record without a name
module _ (s : Bytes) (k : ℕ) where
  -- a dash
  pub dash_shown : k ≡ 0 → 45 ≡ get_or (shown (label_name s None)) k 32
  unfolding shown label_name ascii
  dash_shown e = rw e refl

  -- and nothing more
  pub dash_ended : (k ≡ 0 → ⊥) → 32 ≡ get_or (shown (label_name s None)) k 32
  unfolding shown label_name ascii
  dash_ended ne = sym (get_or-eq_default (45 ∷ []) 32 {n = k} (omega arith))

-- one with a name
module _ (s : Bytes) (v : NameView) (k : ℕ) (w : LabelWithin s (Some v)) where
  -- the bytes of the name
  seen : Bytes
  seen = take (v.end - v.start) (drop v.start s)

  -- as many as the view says
  seen_length : length seen ≡ v.end - v.start
  unfolding seen
  seen_length = length-take-le (v.end - v.start) (drop v.start s) (omega (arith, length-drop v.start s))

  -- a byte of the name
  pub name_shown : k < v.end - v.start → visible (get_or s (v.start + k) 0) ≡ get_or (shown (label_name s (Some v))) k 32
  unfolding shown label_name seen
  name_shown lt =
      let there : get_or seen k 0 ≡ get_or s (v.start + k) 0 = get_or-take (v.end - v.start) (drop v.start s) k 0 lt ∙ get_or-drop v.start s k 0 in
      ap visible (sym there) ∙ sym (get_mapped visible seen k 32 0 (omega (arith, seen_length)))

  -- and nothing more
  pub name_ended : v.end - v.start ≤ k → 32 ≡ get_or (shown (label_name s (Some v))) k 32
  unfolding shown label_name seen
  name_ended le = sym (get_or-eq_default (map visible seen) 32 {n = k} (omega (arith, length-map seen visible, seen_length)))

-- the characters of a name, or of none
pub ruleset name_characters = (dash_shown, dash_ended, name_shown, name_ended)

-- spaces
spaces_get : (n i d : ℕ) → i < n → get_or (spaces n) i d ≡ 32
unfolding spaces
spaces_get zero i d lt = absurd (omega arith)
spaces_get (suc n) zero d lt = refl
spaces_get (suc n) (suc i) d lt = spaces_get n i d (omega arith)

-- what stands on a line from left to right: i is the place in the line
module _ (depth : ℕ) (s : Bytes) (n : Option Bytes) (i : ℕ) where
  -- in front are spaces
  pub front_shown : i < 2 * depth → 32 ≡ get_or (line_parts depth (take mark_width s) n) i 32
  unfolding line_parts
  front_shown lt =
      sym
      (get_or-append (spaces (2 * depth)) (take mark_width s ++ (ascii " " ++ shown n)) 32 i (omega (arith, spaces_long (2 * depth)))
      ∙ spaces_get (2 * depth) i 32 lt)

  module _ (past : 2 * depth ≤ i) (le : mark_width ≤ length s) where
    -- the mark has its bytes
    mark_length : length (take mark_width s) ≡ mark_width
    mark_length = length-take-le mark_width s le

    -- behind the spaces
    past_front : get_or (line_parts depth (take mark_width s) n) i 32 ≡ get_or (take mark_width s ++ (ascii " " ++ shown n)) (i - 2 * depth) 32
    unfolding line_parts
    past_front =
        let e : i ≡ length (spaces (2 * depth)) + (i - 2 * depth) = omega (arith, spaces_long (2 * depth)) in
        ap (λ (k : ℕ). get_or (spaces (2 * depth) ++ (take mark_width s ++ (ascii " " ++ shown n))) k 32) e
        ∙ get_or-append-add (spaces (2 * depth)) (take mark_width s ++ (ascii " " ++ shown n)) (i - 2 * depth) 32

    -- a byte of the mark
    pub mark_shown : i - 2 * depth < mark_width → get_or s (i - 2 * depth) 0 ≡ get_or (line_parts depth (take mark_width s) n) i 32
    mark_shown lt =
        let j = i - 2 * depth in
        sym
        (past_front ∙ get_or-append (take mark_width s) (ascii " " ++ shown n) 32 j (omega (arith, mark_length)) ∙ get_or-take mark_width s j 32 lt
        ∙ get_any s j 32 0 (omega arith))

    -- behind the mark
    past_mark : (k : ℕ) → i - 2 * depth ≡ mark_width + k → get_or (line_parts depth (take mark_width s) n) i 32 ≡ get_or (ascii " " ++ shown n) k 32
    past_mark k e =
        let f : i - 2 * depth ≡ length (take mark_width s) + k = omega (arith, mark_length) in
        past_front ∙ rw f (get_or-append-add (take mark_width s) (ascii " " ++ shown n) k 32)

    -- a space behind the mark
    pub gap_shown : i - 2 * depth ≡ mark_width → 32 ≡ get_or (line_parts depth (take mark_width s) n) i 32
    unfolding ascii
    gap_shown e = sym (past_mark 0 (omega arith))

    -- then the name
    pub name_behind : mark_width < i - 2 * depth → get_or (shown n) (i - 2 * depth - mark_width - 1) 32 ≡ get_or (line_parts depth (take mark_width s) n) i 32
    unfolding ascii
    name_behind lt = sym (past_mark (suc (i - 2 * depth - mark_width - 1)) (omega arith))

-- a text at a width
padded_get : (l : Bytes) (w i d : ℕ) → i < length l + w → get_or (l ++ spaces w) i d ≡ get_or l i 32
padded_get [] w i d lt = spaces_get w i d (omega arith)
padded_get (x ∷ xs) w zero d lt = refl
padded_get (x ∷ xs) w (suc i) d lt = padded_get xs w i d (omega arith)

module _ (w : ℕ) (bs : Bytes) where
  -- its characters, with spaces behind
  fitted_get : (i : ℕ) → i < w → get_or (fitted w bs) i 0 ≡ get_or bs i 32
  unfolding fitted
  fitted_get i lt = get_or-take w (bs ++ spaces w) i 0 lt ∙ padded_get bs w i 0 (omega arith)

  -- and with 0A after it
  pub ended_length : length (fitted w bs ++ byte 10) ≡ w + 1
  unfolding byte
  ended_length = length-append (fitted w bs) (10 ∷ []) ∙ ap (λ (n : ℕ). n + 1) (fitted_long w bs)

  -- the characters of the text
  pub ended_get : (i : ℕ) → i < w → get_or bs i 32 ≡ get_or (fitted w bs ++ byte 10) i 0
  ended_get i lt = sym (get_or-append (fitted w bs) (byte 10) 0 i (omega (arith, fitted_long w bs)) ∙ fitted_get i lt)

  -- and the last
  pub ended_last : 10 ≡ get_or (fitted w bs ++ byte 10) w 0
  unfolding byte
  ended_last = sym (get_or_at (fitted w bs) 10 [] 0 w (fitted_long w bs))
