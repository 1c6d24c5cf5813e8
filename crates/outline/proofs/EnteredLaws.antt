-- Steps over bytes and records: what is listed before a step is kept, and the entries of pieces follow one another. Assumes nothing.
use mathlib.Core.Path.{◌≡◌, refl, ap, sym, ◌∙◌}
use mathlib.Core.List.{◌++◌}
use Prim.Native.Nat.{ℕ, ◌+◌, ◌*◌, ◌≤◌}
use native.Mathlib.Omega.{arith}
use lib.ListN.{length, take, length-append}
use lib.Seq.{take-take}
use Rattle.names.specs.Names.{Bytes}
use Rattle.names.specs.Segments.{At}
use Rattle.names.proofs.Places.{at_join, at_place, at_into_take, at_from_take}
use Rattle.records.specs.Lists.{joined}
use Rattle.outline.specs.declared.Around.{Around}
use Rattle.outline.specs.declared.Counted.{Counted}
use Rattle.outline.specs.Outline.{Pieces, no_more, bytes_then, ◌++ᵖ◌, pieces_bytes}
use Rattle.outline.specs.Index.{moved_on, pieces_listing, entry_width, index_bytes}
use Rattle.outline.specs.Shape.{counted_to, Begun, GoesOn, Entered}
use Rattle.outline.proofs.Listings.{moved_on_again, pieces_bytes_join, index_bytes_join, index_bytes_length, pieces_listing_join}

module _ {s mem mem' : Bytes} {c r : Counted} where
  -- where a step ended another can begin
  pub begun_on : {a : Around} → Begun s mem a c → GoesOn s mem mem' c r → Begun s mem' a r
  begun_on b g = record {
    room = omega (arith, b.room, g.size);
    offset = b.offset;
    depth = b.depth;
    started = omega (arith, b.started, g.onward);
    within = g.within;
    few = g.few;
  }

  -- one step, and one more
  pub goes_then : {mem'' : Bytes} {t : Counted} → GoesOn s mem mem' c r → GoesOn s mem' mem'' r t → GoesOn s mem mem'' c t
  goes_then {mem''} g h =
      let n = entry_width * c.count in
      let m = entry_width * r.count in
      let le : n ≤ m = omega (arith, g.more) in
      record {
        onward = omega (arith, g.onward, h.onward);
        more = omega (arith, g.more, h.more);
        within = h.within;
        few = h.few;
        size = h.size ∙ g.size;
        kept = sym (take-take n m mem'' le) ∙ ap (take n) h.kept ∙ take-take n m mem' le ∙ g.kept;
      }

-- a step over bytes: nothing is written
pub goes_past : {s mem : Bytes} {a : Around} {c : Counted} {at : ℕ} → Begun s mem a c → c.end ≤ at → at ≤ length s → GoesOn s mem mem c (counted_to c.count at)
goes_past b o w = record { onward = o; more = omega arith; within = w; few = omega (arith, b.few); size = refl; kept = refl }

-- no step
pub goes_nowhere : {s mem : Bytes} {a : Around} {c : Counted} → Begun s mem a c → GoesOn s mem mem c c
goes_nowhere b = goes_past b (omega arith) b.within

-- no piece is entered
pub entered_none : {s mem : Bytes} {a : Around} {c : Counted} → Begun s mem a c → Entered mem a c c no_more
unfolding pieces_bytes pieces_listing index_bytes joined
entered_none b = record { ends = omega arith; counts = omega arith; entries = record { fits = omega (arith, b.room, b.within, b.few); there = refl } }

-- bytes, and then pieces
pub entered_bytes : {mem : Bytes} {a : Around} {c r : Counted} {p : Pieces} {at : ℕ} (bs : Bytes) → at ≡ c.end + length bs → Entered mem a (counted_to c.count at) r p → Entered mem a c r (bytes_then bs p)
unfolding pieces_bytes pieces_listing
entered_bytes {mem} {a} {c} {r} {p} bs e l =
    let w : moved_on (length bs) (moved_on c.end a) ≡ moved_on _ a = moved_on_again c.end (length bs) a ∙ ap (λ (n : ℕ). moved_on n a) (sym e) in
    record {
      ends = omega (arith, l.ends, length-append bs (pieces_bytes p));
      counts = rw w l.counts;
      entries = rw w l.entries;
    }

-- pieces one behind the other
pub entered_join : {s mem mem' : Bytes} {a : Around} {c d r : Counted} {p q : Pieces} → Entered mem a c d p → GoesOn s mem mem' d r → Entered mem' a d r q → Entered mem' a c r (p ++ᵖ q)
entered_join {mem} {mem'} {a} {c} {d} {r} {p} {q} l g k =
    let here = moved_on c.end a in
    let first = pieces_listing here p in
    let second = pieces_listing (moved_on d.end a) q in
    let there : moved_on (length (pieces_bytes p)) here ≡ moved_on d.end a = moved_on_again c.end (length (pieces_bytes p)) a ∙ ap (λ (n : ℕ). moved_on n a) (sym l.ends) in
    let whole : pieces_listing here (p ++ᵖ q) ≡ first ++ second = rw (← there) (pieces_listing_join here p q) in
    let size = index_bytes_length first in
    let e : entry_width * d.count ≡ entry_width * c.count + length (index_bytes first) = omega (arith, l.counts, size) in
    let kept : At mem' (entry_width * c.count) (index_bytes first) =
    at_from_take (entry_width * d.count) (rw g.kept (at_into_take (entry_width * d.count) (omega (arith, e)) l.entries)) in
    record {
      ends = omega (arith, l.ends, k.ends, ap length (pieces_bytes_join p q), length-append (pieces_bytes p) (pieces_bytes q));
      counts = omega (arith, l.counts, k.counts, ap length whole, length-append first second);
      entries = rw (whole, index_bytes_join) (at_join (index_bytes first) (index_bytes second) kept (at_place _ e k.entries));
    }
