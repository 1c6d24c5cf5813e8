-- What each function of `crate::index` says, from what those that it calls say. Assumes nothing.
use Rattle.std.specs.declared.option.Option.TheVariants.{Some, None}
use mathlib.Core.Path.{◌≡◌, refl, ap, sym, ◌∙◌}
use mathlib.Core.List.{List, [], ◌∷◌, ◌++◌, append-nil}
use Prim.Native.Nat.{ℕ, ◌+◌, ◌*◌, ◌-◌, ◌≤◌, ◌<◌}
use native.Mathlib.Nat.{add-zero, zero-add}
use native.Mathlib.Numerals.{add-one}
use native.Mathlib.Omega.{arith}
use lib.ListN.{length, take, drop, get_or, length-append, length-take}
use lib.Seq.{take_at, length-take-le, drop-cons}
use Rattle.names.specs.Names.{Bytes, name_field}
use Rattle.names.specs.Segments.{At, Filled}
use Rattle.names.proofs.Places.{at_whole, at_left, at_right, at_join, at_place}
use Rattle.names.proofs.Parts.{part, back, part_length, back_length, at_back, into}
use Rattle.names.proofs.Frames.{at_above, filled_at}
use Rattle.records.specs.Lists.{joined}
use Rattle.records.specs.Parts.{Past, name_part}
use Rattle.records.specs.Records.{mark_width, byte}
use Rattle.records.proofs.Places.{byte_there}
use Rattle.outline.specs.declared.Around.{Around}
use Rattle.outline.specs.declared.Counted.{Counted}
use Rattle.outline.specs.declared.Field.{Field}
use Rattle.outline.specs.declared.Field.TheVariants as fields
use Rattle.outline.specs.declared.Mark.{Mark}
use Rattle.outline.specs.declared.index.Listing.{Listing}
use Rattle.outline.specs.Outline.{Outline, node, Pieces, no_more, bytes_then, record_alone, outline_mark, mark_bytes, outline_bytes, pieces_bytes}
use Rattle.outline.specs.Index.{moved_on, under, outline_listing, pieces_listing, entry_width, entry_bytes, index_bytes}
use Rattle.outline.specs.Shape.{first_mark, fields_of, records_then, InShape, in_shape, FieldsAre, FieldIs, a_plain_field, a_record, a_name_pattern, a_complex_pattern, no_tail_field, a_tail_field, several_records, counted_to, IndexRoom, Indexes, Begun, GoesOn, Entered, IndexesOn}
use Rattle.outline.specs.Listing.{so_far, NextByte, Lists}
use Rattle.outline.proofs.EntryLaws.{entry_long}
use Rattle.outline.proofs.KnownMarks.{mark_long, no_mark, mark_same, mark_fits}
use Rattle.outline.proofs.EnteredLaws.{begun_on, goes_then, goes_past, entered_none, entered_bytes}
use Rattle.outline.proofs.ReachedLaws.{Reached, Many, Onward, reached_records, same_then}

-- a record that stands by itself is the child that stands at a place
pub child_indexes : {s mem mem' : Bytes} {a : Around} {c r : Counted} (from : ℕ) → from ≡ entry_width * c.count → Begun s mem a c
    → Indexes (part s c.end (length s - c.end)) (part mem from (length mem - from)) mem' (moved_on c.end a) r
    → IndexesOn (FieldIs fields.Record) s mem (back mem from (length mem - from) mem') a c (counted_to (c.count + r.count) (c.end + r.end))
unfolding pieces_bytes pieces_listing
child_indexes {s} {mem} {mem'} {a} {c} {r} from e b x =
    let room : from ≤ length mem = omega (arith, b.room, b.within, b.few) in
    let fit : from + (length mem - from) ≤ length mem = omega arith in
    let len : length mem' ≡ length mem - from = x.size ∙ part_length mem from (length mem - from) fit in
    record {
      goes = record {
        onward = omega arith;
        more = omega arith;
        within = omega (arith, x.within, b.within, part_length s c.end (length s - c.end) (omega (arith, b.within)));
        few = omega (arith, b.few, x.few);
        size = back_length mem from (length mem - from) fit mem' len;
        kept = rw (← e) (take_at (take from mem) _ from (length-take-le from mem room));
      };
      lists = λ p f h. go len fit f h;
    }
  where
    go : {p : Pieces} → length mem' ≡ length mem - from → from + (length mem - from) ≤ length mem → FieldIs fields.Record p → At s c.end (pieces_bytes p)
        → Entered (back mem from (length mem - from) mem') a c (counted_to (c.count + r.count) (c.end + r.end)) p
    go len fit (a_record {x = y} w) h =
        let there = into (at_left (outline_bytes y) [] h) in
        let n = x.counts y w there in
        record {
          ends = rw append-nil (ap (λ (k : ℕ). c.end + k) (x.ends y w there));
          counts = rw append-nil (ap (λ (k : ℕ). c.count + k) n);
          entries = rw append-nil (at_place (entry_width * c.count) (add-zero from ∙ e) (at_back mem from (length mem - from) fit mem' len (x.lists y w there)));
        }
    go len fit (a_plain_field {bs = bs} x9) h = elim x9 [ ]

-- a byte says what follows
module _ {l m : Listing} {tag : ℕ} (h : NextByte l m tag) where
  -- which it is, and where what follows stands
  after_tag : (k : ℕ) (p : Pieces) → At l.bytes.now l.end (pieces_bytes (bytes_then (byte k) p)) → (tag ≡ k) × (m.end ≡ l.end + length (byte k)) × At l.bytes.now m.end (pieces_bytes p)
  unfolding byte pieces_bytes
  after_tag k p w =
      let here = at_left (byte k) (pieces_bytes p) w in
      let e : m.end ≡ l.end + 1 = h.past.past (byte k) refl here in
      (h.byte ∙ byte_there k here, e, at_place m.end (sym e) (at_right (byte k) (pieces_bytes p) w))

  -- over it
  goes_past_tag : GoesOn l.bytes.now l.mem.now l.mem.now (so_far l) (counted_to l.count m.end)
  goes_past_tag = goes_past l.begun h.past.onward h.past.within

  -- a Name pattern
  pub name_lists : {end : ℕ} {g : Begun m.bytes.now m.mem.now m.around (counted_to m.count end)} → tag ≡ 0 → Past name_part m.bytes.now m.end end
      → Lists (FieldIs fields.Pattern) l (record { bytes = m.bytes; mem = m.mem; around = m.around; count = m.count; end = end; begun = g })
  unfolding pieces_bytes
  name_lists {end} z y = record { same = record { bytes = h.same.bytes; mem = h.same.mem; around = h.same.around }; indexes = rw (h.mem, h.count) (record { goes = goes; lists = λ p f w. go f w }) }
    where
      name : Past name_part l.bytes.now m.end end
      name = rw h.same.bytes at y

      goes : GoesOn l.bytes.now l.mem.now l.mem.now (so_far l) (counted_to l.count end)
      goes = goes_past l.begun (omega (arith, h.past.onward, name.onward)) name.within

      go : {p : Pieces} → FieldIs fields.Pattern p → At l.bytes.now l.end (pieces_bytes p) → Entered l.mem.now l.around (so_far l) (counted_to l.count end) p
      go (a_name_pattern n v) w =
          let next = after_tag 0 (bytes_then (name_field n) no_more) w in
          entered_bytes (byte 0) next.1 (entered_bytes (name_field n) (name.past n v (at_left (name_field n) [] next.2)) (entered_none (begun_on l.begun goes)))
      go (a_complex_pattern {x = e} v) w = absurd (omega (arith, (after_tag 1 (record_alone e) w).0))
      go (a_plain_field {bs = bs} x7) w = elim x7 [ ]

  -- no tail
  pub no_tail_lists : tag ≡ 0 → Lists (FieldIs fields.Tail) l m
  no_tail_lists z = record { same = h.same; indexes = rw (h.mem, h.count) (record { goes = goes_past_tag; lists = λ p f w. go f w }) }
    where
      go : {p : Pieces} → FieldIs fields.Tail p → At l.bytes.now l.end (pieces_bytes p) → Entered l.mem.now l.around (so_far l) (counted_to l.count m.end) p
      go no_tail_field w = entered_bytes (byte 0) (after_tag 0 no_more w).1 (entered_none (begun_on l.begun goes_past_tag))
      go (a_tail_field {x = e} v) w = absurd (omega (arith, (after_tag 1 (record_alone e) w).0))
      go (a_plain_field {bs = bs} x7) w = elim x7 [ ]

  -- not 0: a record follows
  module _ {n : Listing} (ne : tag ≡ 0 → ⊥) (k : Lists (FieldIs fields.Record) m n) where
    -- the record as it is listed behind the byte
    record_after : IndexesOn (FieldIs fields.Record) l.bytes.now l.mem.now n.mem.now l.around (counted_to l.count m.end) (so_far n)
    record_after = rw (h.same.bytes, h.mem, h.same.around, h.count) at k.indexes

    -- over the byte and the record
    goes_after_tag : GoesOn l.bytes.now l.mem.now n.mem.now (so_far l) (so_far n)
    goes_after_tag = goes_then goes_past_tag record_after.goes

    -- the record that follows is entered
    record_after_tag : {e : Outline} → InShape e → At l.bytes.now l.end (pieces_bytes (bytes_then (byte 1) (record_alone e))) → Entered n.mem.now l.around (so_far l) (so_far n) (bytes_then (byte 1) (record_alone e))
    record_after_tag {e} v w =
        let next = after_tag 1 (record_alone e) w in
        entered_bytes (byte 1) next.1 (record_after.lists (record_alone e) (a_record v) next.2)

    -- a Complex pattern
    pub complex_lists : Lists (FieldIs fields.Pattern) l n
    complex_lists = record { same = same_then h.same k.same; indexes = record { goes = goes_after_tag; lists = λ p f w. go f w } }
      where
        go : {p : Pieces} → FieldIs fields.Pattern p → At l.bytes.now l.end (pieces_bytes p) → Entered n.mem.now l.around (so_far l) (so_far n) p
        go (a_complex_pattern v) w = record_after_tag v w
        go (a_name_pattern b v) w = absurd (ne (after_tag 0 (bytes_then (name_field b) no_more) w).0)
        go (a_plain_field {bs = bs} x7) w = elim x7 [ ]

    -- a tail
    pub tail_lists : Lists (FieldIs fields.Tail) l n
    tail_lists = record { same = same_then h.same k.same; indexes = record { goes = goes_after_tag; lists = λ p f w. go f w } }
      where
        go : {p : Pieces} → FieldIs fields.Tail p → At l.bytes.now l.end (pieces_bytes p) → Entered n.mem.now l.around (so_far l) (so_far n) p
        go (a_tail_field v) w = record_after_tag v w
        go no_tail_field w = absurd (ne (after_tag 0 no_more w).0)
        go (a_plain_field {bs = bs} x7) w = elim x7 [ ]

  -- a count, and that many records
  pub several_lists : {n : Listing} {i : ℕ} → tag ≤ i → Onward (Many 0 tag) (Many i tag) m n → Lists (FieldIs fields.Several) l n
  several_lists {n} {i} le k = record { same = same_then h.same k.same; indexes = record { goes = goes_then goes_past_tag goes; lists = λ p f w. go f w } }
    where
      goes : GoesOn l.bytes.now l.mem.now n.mem.now (counted_to l.count m.end) (so_far n)
      goes = rw (h.same.bytes, h.mem, h.count) at k.goes

      reached : (p : Pieces) → Many 0 tag p → At l.bytes.now m.end (pieces_bytes p) → Reached (Many i tag) l.bytes.now n.mem.now l.around (counted_to l.count m.end) (so_far n) p
      reached p v w = rw (h.same.bytes, h.same.around, h.count) at (k.lists p v (rw h.same.bytes w))

      go : {p : Pieces} → FieldIs fields.Several p → At l.bytes.now l.end (pieces_bytes p) → Entered n.mem.now l.around (so_far l) (so_far n) p
      go (several_records xs v) w =
          let next = after_tag (length xs) (records_then xs) w in
          entered_bytes (byte (length xs)) next.1 (reached_records (reached (records_then xs) (record { all = xs; number = omega (arith, next.0); good = v; same = refl }) next.2) le)
      go (a_plain_field {bs = bs} x7) w = elim x7 [ ]

-- the next field of a row
pub row_at : (row : List Field) (i : ℕ) → i < length row → drop i row ≡ get_or row i fields.Byte ∷ drop (i + 1) row
row_at row i l = rw add-one (drop-cons row i fields.Byte l)

-- no mark: no record
pub unmarked_indexes : {s mem : Bytes} {a : Around} → None ≡ first_mark (take mark_width s) → Indexes s mem mem a (counted_to 0 (length s))
unmarked_indexes {s} {mem} {a} m = record {
  within = omega arith;
  few = omega arith;
  size = refl;
  ends = λ x v h. absurd (no_mark x h m);
  counts = λ x v h. absurd (no_mark x h m);
  lists = λ x v h. absurd (no_mark x h m);
}

-- behind its mark the fields of a record can be listed
pub begun_fields : {s mem : Bytes} {a u : Around} (m : Mark) → IndexRoom s mem a → Some m ≡ first_mark (take mark_width s) → u ≡ under m a → Begun s mem u (counted_to 1 mark_width)
begun_fields {s} {a = a} m b is e =
    rw e (record { room = b.room; offset = b.offset; depth = omega (arith, b.depth); started = omega arith; within = omega (arith, mark_fits (take mark_width s) is, length-take mark_width s); few = omega arith })

-- the entry of a record, written where its fields left work memory, and behind it those of its fields
pub record_indexes : {s mem mem' left mem'' : Bytes} {a u : Around} {r : Counted} {m : Mark} {row : List Field} → IndexRoom s mem a → Some m ≡ first_mark (take mark_width s) → row ≡ fields_of m → u ≡ under m a
    → IndexesOn (FieldsAre row) s mem mem' u (counted_to 1 mark_width) r → Filled left mem'' 0 (entry_bytes (record { around = a; len = r.end })) entry_width → left ≡ mem'
    → Indexes s mem mem'' a r
unfolding outline_mark outline_bytes outline_listing index_bytes joined
record_indexes {s} {mem} {mem'} {left} {mem''} {a} {u} {r} {m} {row} b e er eu y f is = record {
  within = y.goes.within;
  few = y.goes.few;
  size = put.frame.size ∙ y.goes.size;
  ends = λ x v h. (go v h).0;
  counts = λ x v h. (go v h).1;
  lists = λ x v h. (go v h).2;
}
  where
    put : Filled mem' mem'' 0 (entry_bytes (record { around = a; len = r.end })) entry_width
    put = rw is at f

    go : {x : Outline} → InShape x → At s 0 (outline_bytes x) → (r.end ≡ length (outline_bytes x)) × (r.count ≡ length (outline_listing a x)) × At mem'' 0 (index_bytes (outline_listing a x))
    go (in_shape {m = k} {n = n} {ps = ps} v) h =
        let q = mark_long k in
        let o : m ≡ k = mark_same (node k n ps) h e in
        let z : IndexesOn (FieldsAre (fields_of k)) s mem mem' (under k a) (counted_to 1 mark_width) r = rw (er, eu, o) at y in
        let l = z.lists ps v (at_place mark_width (zero-add (length (mark_bytes k)) ∙ q) (at_right (mark_bytes k) (pieces_bytes ps) h)) in
        let end : r.end ≡ length (mark_bytes k ++ pieces_bytes ps) = omega (arith, l.ends, q, length-append (mark_bytes k) (pieces_bytes ps)) in
        let mine = entry_bytes (record { around = a; len = r.end }) in
        let size : length mine ≡ entry_width = entry_long (record { around = a; len = r.end }) in
        let own : At mem'' 0 mine = filled_at 0 put (omega (arith, b.room, y.goes.size, y.goes.onward, y.goes.within)) (at_whole mine) (omega (arith, size)) refl in
        let rest : At mem'' entry_width (index_bytes (pieces_listing (moved_on (length (mark_bytes k)) (under k a)) ps)) = rw q (at_above put.frame l.entries (omega arith)) in
        let same : length (pieces_listing (moved_on (length (mark_bytes k)) (under k a)) ps) ≡ length (pieces_listing (moved_on mark_width (under k a)) ps) =
        ap (λ (j : ℕ). length (pieces_listing (moved_on j (under k a)) ps)) q in
        (end, omega (arith, l.counts, same), rw (← end) (at_join mine _ own (at_place (0 + length mine) (omega (arith, size)) rest)))
