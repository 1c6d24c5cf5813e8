-- A page line by line: the record that an entry of the index speaks of, and its line behind those before it. Assumes nothing.
use mathlib.Core.Path.{◌≡◌, refl, sym, ap, subst, ◌∙◌}
use mathlib.Core.List.{List, [], ◌∷◌, ◌++◌}
use native.Mathlib.Omega.{arith}
use Prim.Native.Nat.{ℕ, zero, suc, ◌+◌, ◌*◌, ◌-◌, ◌≤◌, ◌<◌}
use lib.ListN.{length, take, drop}
use lib.Seq.{drop_at, take_all, take_at}
use Rattle.names.specs.CallAnswer.{written}
use Rattle.names.specs.Names.{Bytes}
use Rattle.names.specs.Segments.{At, Filled}
use Rattle.names.proofs.Frames.{filled_on}
use Rattle.names.proofs.Parts.{part, back, into, part_length, filled_back}
use Rattle.names.proofs.Places.{at_place}
use Rattle.names.proofs.Segments.{filled_written}
use Rattle.records.specs.Limits.{most_longest}
use Rattle.records.specs.Lists.{joined, Each}
use Rattle.records.specs.Records.{Form}
use Rattle.outline.specs.declared.Entry.{Entry}
use Rattle.outline.specs.Outline.{Outline, form_outline}
use Rattle.outline.specs.Index.{nothing_around, outline_listing, entry_width, index_bytes}
use Rattle.outline.specs.Shape.{EntryAt}
use Rattle.outline.specs.Page.{line_width, line, lines, page}
use Rattle.outline.specs.PageWork.{LineAsks, LineWritten, Indexed}
use Rattle.outline.proofs.Joins.{joined_long, joined_append, each_here}
use Rattle.outline.proofs.Lines.{line_long, page_joined, page_long}
use Rattle.outline.proofs.Listed.{StandsIn, stands_small, form_stands, listing_counts, index_at}
use Rattle.outline.proofs.Listings.{index_bytes_length}
use Rattle.outline.proofs.KnownMarks.{mark_inside}

-- a list in front of, at and behind its k-th element
record SplitAt {A : Type 0} (ls : List A) (k : ℕ) : Type 0 where
  front : List A
  here : A
  rest : List A
  is : ls ≡ front ++ here ∷ rest
  count : length front ≡ k

-- every place that it has
split_at_element : {A : Type 0} (ls : List A) (k : ℕ) → k < length ls → SplitAt ls k
split_at_element [] k lt = absurd (omega arith)
split_at_element (x ∷ xs) zero lt = record { front = []; here = x; rest = xs; is = refl; count = refl }
split_at_element {A} (x ∷ xs) (suc k) lt =
    let p = split_at_element xs k (omega arith) in
    record { front = x ∷ p.front; here = p.here; rest = p.rest; is = ap (λ (zs : List A). x ∷ zs) p.is; count = ap suc p.count }

-- the listing of a form
abbrev form_listing : Form → List (Entry × Outline)
form_listing f = outline_listing nothing_around (form_outline f)

-- of a page the line behind those of others
line_behind : (f : Form) (before : List (Entry × Outline)) (l : Entry × Outline) (rest : List (Entry × Outline)) → form_listing f ≡ before ++ l ∷ rest
    → take (line_width + 1) (drop ((line_width + 1) * length before) (page f)) ≡ line l
unfolding page lines joined
line_behind f before l rest e =
    let whole : page f ≡ joined line before ++ (line l ++ joined line rest) = page_joined (form_listing f) ∙ ap (joined line) e ∙ joined_append line before (l ∷ rest) in
    rw (whole, drop_at (joined line before) (line l ++ joined line rest) ((line_width + 1) * length before) (joined_long (line_width + 1) line line_long before))
    (take_at (line l) (joined line rest) (line_width + 1) (line_long l))

-- the record of the k-th entry, and its line in the page
pub record EntryRecord (input : Bytes) (f : Form) (k : ℕ) (e : Entry) : Type 0 where
  pub outline : Outline
  pub stands : StandsIn input (e, outline)
  pub next : take (line_width + 1) (drop ((line_width + 1) * k) (page f)) ≡ line (e, outline)

module _ {input entries : Bytes} {n : ℕ} {f : Form} (i : Indexed input entries n f) where
  -- the index is there
  pub index_fits : entry_width * n ≤ length entries
  index_fits = omega (arith, i.index.fits, index_bytes_length (form_listing f), i.count)

  -- an entry that is read at k is that of the k-th record
  pub record_at : {k : ℕ} {e : Entry} → length input ≤ most_longest → k < n → EntryAt entries k e → EntryRecord input f k e
  record_at {k} {e} short lt r = go (split_at_element (form_listing f) k (omega (arith, i.count)))
    where
      go : SplitAt (form_listing f) k → EntryRecord input f k e
      go p =
          let l = p.here in
          let each : Each (StandsIn input) (form_listing f) = rw i.bytes (form_stands f i.fields) in
          let st : StandsIn input l = each_here (StandsIn input) p.front l p.rest (subst (λ (ls : List (Entry × Outline)). Each (StandsIn input) ls) p.is each) in
          let at = index_at p.front l p.rest (subst (λ (ls : List (Entry × Outline)). At entries 0 (index_bytes ls)) p.is i.index) in
          let same : e ≡ l.0 = r l.0 (stands_small st short) (at_place (entry_width * k) (ap (λ (m : ℕ). entry_width * m) p.count) at) in
          let next : take (line_width + 1) (drop ((line_width + 1) * k) (page f)) ≡ line l =
          subst (λ (m : ℕ). take (line_width + 1) (drop ((line_width + 1) * m) (page f)) ≡ line l) p.count (line_behind f p.front l p.rest p.is) in
          rw same (record { outline = l.1; stands = st; next = next })

  -- all lines are the page
  pub page_whole : {xs ys : Bytes} → Filled xs ys 0 (page f) ((line_width + 1) * n) → ys ≡ written (page f) xs
  page_whole {xs} {ys} h =
      let e : (line_width + 1) * n ≡ length (page f) = omega (arith, page_long f, listing_counts nothing_around (form_outline f), i.count) in
      filled_written (rw e at h)

module _ {input : Bytes} {f : Form} {k : ℕ} {e : Entry} (r : EntryRecord input f k e) where
  -- it stands in the input
  pub record_inside : e.around.offset ≤ length input
  record_inside = omega (arith, r.stands.there.fits)

  -- what the line is written from and to
  pub record_asks : (out : Bytes) → length input ≤ most_longest → (line_width + 1) * k + (line_width + 1) ≤ length out
      → LineAsks (part input e.around.offset (length input - e.around.offset)) e.around.depth (part out ((line_width + 1) * k) (length out - (line_width + 1) * k))
  record_asks out short room =
      let at = e.around.offset in
      let q = (line_width + 1) * k in
      let st = r.stands in
      let fit = st.there.fits in
      record {
        mark = omega (arith, fit, mark_inside r.outline, part_length input at (length input - at) (omega arith));
        deep = omega (arith, fit, st.deep);
        room = omega (arith, part_length out q (length out - q) (omega arith));
      }

  -- it is written behind the lines before
  pub record_written : {xs out ys : Bytes} → Filled xs out 0 (page f) ((line_width + 1) * k) → (line_width + 1) * k + (line_width + 1) ≤ length out
      → LineWritten (part input e.around.offset (length input - e.around.offset)) e.around.depth (part out ((line_width + 1) * k) (length out - (line_width + 1) * k)) ys
      → Filled xs (back out ((line_width + 1) * k) (length out - (line_width + 1) * k) ys) 0 (page f) ((line_width + 1) * (k + 1))
  record_written {xs} {out} {ys} h room w =
      let q = (line_width + 1) * k in
      let m = length out - q in
      let l = line (e, r.outline) in
      let g = filled_back out q m (omega arith) (w.filled e r.outline refl r.stands.of (into r.stands.there)) (omega arith) in
      let whole : take (line_width + 1) l ≡ l = take_all (line_width + 1) l (omega (arith, line_long (e, r.outline))) in
      let n : (line_width + 1) * (k + 1) ≡ q + (line_width + 1) = omega arith in
      rw n (filled_on h g (omega arith) (whole ∙ sym r.next))
