-- Segments of a list of bytes: what stands at a place, and which part of a list a change leaves alone.
-- Assumes nothing.
use Rattle.std.specs.Prelude.{◌⊎◌, ◌≡◌, ℕ, ◌+◌, ◌≤◌, length, take, drop}
use Rattle.std.specs.Borrow.{Bor}
use Rattle.names.specs.Names.{Bytes}

-- bs stands in xs from p on
pub record At (xs : Bytes) (p : ℕ) (bs : Bytes) : Type 0 where
  pub fits : p + length bs ≤ length xs
  pub there : take (length bs) (drop p xs) ≡ bs

-- the slice r is the part of the slice s that stands at p, and no copy of it: it points into s
pub record PartOf (s : Bor Bytes) (p : ℕ) (r : Bor Bytes) : Type 0 where
  pub points : r.ref_ptr ≡ (s.ref_ptr.0, p + s.ref_ptr.1)
  pub there : At s.now p r.now

-- ys is xs but for what stands from lo up to hi
pub record SameOutside (xs ys : Bytes) (lo hi : ℕ) : Type 0 where
  pub size : length ys ≡ length xs
  pub low : take lo ys ≡ take lo xs
  pub high : drop hi ys ≡ drop hi xs

-- the first n bytes of vs were written at q, and nothing else
pub record Filled (xs ys : Bytes) (q : ℕ) (vs : Bytes) (n : ℕ) : Type 0 where
  pub frame : SameOutside xs ys q (q + n)
  pub got : take n (drop q ys) ≡ take n vs

-- n bytes can go from one place to another, the first byte first: both parts lie within xs, and they do not overlap or the bytes move down
pub record Movable (xs : Bytes) (from to n : ℕ) : Type 0 where
  pub source : from + n ≤ length xs
  pub target : to + n ≤ length xs
  pub safe : (from + n ≤ to) ⊎ (to ≤ from)
