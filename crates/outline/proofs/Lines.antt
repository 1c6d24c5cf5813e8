-- The lines of a page: each has as many characters as the others and ends with 0A, and there are as many as records. Assumes nothing.
use mathlib.Core.Path.{◌≡◌, refl, ap, ◌∙◌}
use mathlib.Core.List.{List, [], ◌∷◌, ◌++◌, map}
use native.Mathlib.Omega.{arith}
use Prim.Native.Nat.{ℕ, zero, suc, ◌+◌, ◌*◌}
use lib.ListN.{length, length-append, length-map}
use lib.Seq.{length-take-le}
use Rattle.names.specs.Names.{Bytes}
use Rattle.records.specs.Lists.{joined}
use Rattle.records.specs.Records.{byte, Form}
use Rattle.outline.specs.declared.Entry.{Entry}
use Rattle.outline.specs.Outline.{Outline, outline_records, form_outline}
use Rattle.outline.specs.Index.{nothing_around, outline_listing}
use Rattle.outline.specs.Page.{line_width, spaces, fitted, line_text, line, lines, page}
use Rattle.outline.proofs.Joins.{joined_long}
use Rattle.outline.proofs.Listed.{listing_counts}

-- spaces are as many as asked for
pub spaces_long : (n : ℕ) → length (spaces n) ≡ n
unfolding spaces
spaces_long zero = refl
spaces_long (suc n) = ap suc (spaces_long n)

-- what is fitted has the width
pub fitted_long : (w : ℕ) (bs : Bytes) → length (fitted w bs) ≡ w
unfolding fitted
fitted_long w bs = length-take-le w (bs ++ spaces w) (omega (arith, length-append bs (spaces w), spaces_long w))

-- a line is a text of the width, and 0A
pub line_ends : (l : Entry × Outline) → (fit : Bytes) × (length fit ≡ line_width) × (line l ≡ fit ++ byte 10)
unfolding line
line_ends l = (fitted line_width (line_text l), fitted_long line_width (line_text l), refl)

-- how long a line is
pub line_long : (l : Entry × Outline) → length (line l) ≡ line_width + 1
unfolding byte
line_long l = let (fit, n, e) = line_ends l in rw e (length-append fit (byte 10) ∙ ap (λ (k : ℕ). k + 1) n)

-- as many lines as records
pub page_lines : (f : Form) → length (lines f) ≡ outline_records (form_outline f)
unfolding lines
page_lines f = length-map (outline_listing nothing_around (form_outline f)) line ∙ listing_counts nothing_around (form_outline f)

-- a page is the lines of what is listed
pub page_joined : (ls : List (Entry × Outline)) → joined (λ x. x) (map line ls) ≡ joined line ls
unfolding joined
page_joined [] = refl
page_joined (l ∷ ls) = ap (λ (y : Bytes). line l ++ y) (page_joined ls)

-- how long a page is
pub page_long : (f : Form) → length (page f) ≡ (line_width + 1) * outline_records (form_outline f)
unfolding page lines
page_long f =
    let ls = outline_listing nothing_around (form_outline f) in
    ap length (page_joined ls) ∙ joined_long (line_width + 1) line line_long ls ∙ ap (λ (k : ℕ). (line_width + 1) * k) (listing_counts nothing_around (form_outline f))
