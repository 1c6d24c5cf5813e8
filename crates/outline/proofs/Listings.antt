-- The records of pieces one behind the other, and the bytes of their entries. Assumes nothing.
use mathlib.Core.Path.{◌≡◌, refl, ap, sym, ◌∙◌}
use mathlib.Core.List.{List, ◌++◌, append_assoc}
use Prim.Native.Nat.{ℕ, ◌+◌, ◌*◌}
use native.Mathlib.Nat.{add-zero}
use native.Mathlib.Omega.{arith}
use lib.ListN.{length, length-append}
use Rattle.names.specs.Names.{Bytes}
use Rattle.outline.specs.declared.Around.{Around}
use Rattle.outline.specs.declared.Entry.{Entry}
use Rattle.outline.specs.Outline.{Outline, Pieces, no_more, bytes_then, record_then, ◌++ᵖ◌, outline_bytes, pieces_bytes}
use Rattle.outline.specs.Index.{moved_on, outline_listing, pieces_listing, entry_width, index_bytes}
use Rattle.outline.proofs.EntryLaws.{entry_long}
use Rattle.outline.proofs.Joins.{joined_long, joined_append}

-- further, and further again
pub moved_on_again : (n k : ℕ) (a : Around) → moved_on k (moved_on n a) ≡ moved_on (n + k) a
moved_on_again n k a =
    let e : a.offset + n + k ≡ a.offset + (n + k) = omega arith in
    ap (λ (o : ℕ). record { offset = o; depth = a.depth; inside = a.inside }) e

-- no further
further_none : (a : Around) → moved_on 0 a ≡ a
further_none a = ap (λ (o : ℕ). record { offset = o; depth = a.depth; inside = a.inside }) (add-zero a.offset)

-- the bytes of pieces one behind the other
pub pieces_bytes_join : (p q : Pieces) → pieces_bytes (p ++ᵖ q) ≡ pieces_bytes p ++ pieces_bytes q
unfolding ◌++ᵖ◌ pieces_bytes
pieces_bytes_join no_more q = refl
pieces_bytes_join (bytes_then bs ps) q = ap (λ (x : Bytes). bs ++ x) (pieces_bytes_join ps q) ∙ sym (append_assoc bs (pieces_bytes ps) (pieces_bytes q))
pieces_bytes_join (record_then x ps) q = ap (λ (y : Bytes). outline_bytes x ++ y) (pieces_bytes_join ps q) ∙ sym (append_assoc (outline_bytes x) (pieces_bytes ps) (pieces_bytes q))

-- entries one behind the other
pub index_bytes_join : (xs ys : List (Entry × Outline)) → index_bytes (xs ++ ys) ≡ index_bytes xs ++ index_bytes ys
unfolding index_bytes
index_bytes_join xs ys = joined_append _ xs ys

-- their bytes
pub index_bytes_length : (ls : List (Entry × Outline)) → length (index_bytes ls) ≡ entry_width * length ls
unfolding index_bytes
index_bytes_length ls = joined_long entry_width _ (λ l. entry_long l.0) ls

-- the records of pieces one behind the other
pub pieces_listing_join : (a : Around) (p q : Pieces) → pieces_listing a (p ++ᵖ q) ≡ pieces_listing a p ++ pieces_listing (moved_on (length (pieces_bytes p)) a) q
unfolding ◌++ᵖ◌ pieces_bytes pieces_listing
pieces_listing_join a no_more q = ap (λ (b : Around). pieces_listing b q) (sym (further_none a))
pieces_listing_join a (bytes_then bs ps) q =
    let e : moved_on (length (pieces_bytes ps)) (moved_on (length bs) a) ≡ moved_on (length (bs ++ pieces_bytes ps)) a = moved_on_again (length bs) (length (pieces_bytes ps)) a ∙ ap (λ (n : ℕ). moved_on n a) (sym (length-append bs (pieces_bytes ps))) in
    rw (← e) (pieces_listing_join (moved_on (length bs) a) ps q)
pieces_listing_join a (record_then x ps) q =
    let b = outline_bytes x in
    let here = moved_on (length b) a in
    let e : moved_on (length (pieces_bytes ps)) here ≡ moved_on (length (b ++ pieces_bytes ps)) a = moved_on_again (length b) (length (pieces_bytes ps)) a ∙ ap (λ (n : ℕ). moved_on n a) (sym (length-append b (pieces_bytes ps))) in
    rw (← e, append_assoc) (ap (λ (l : List (Entry × Outline)). outline_listing a x ++ l) (pieces_listing_join here ps q))

-- none behind
pub join_none : (p : Pieces) → p ++ᵖ no_more ≡ p
unfolding ◌++ᵖ◌
join_none no_more = refl
join_none (bytes_then bs ps) = ap (bytes_then bs) (join_none ps)
join_none (record_then x ps) = ap (record_then x) (join_none ps)

-- three, one behind the other
pub join_assoc : (p q r : Pieces) → (p ++ᵖ q) ++ᵖ r ≡ p ++ᵖ (q ++ᵖ r)
unfolding ◌++ᵖ◌
join_assoc no_more q r = refl
join_assoc (bytes_then bs ps) q r = ap (bytes_then bs) (join_assoc ps q r)
join_assoc (record_then x ps) q r = ap (record_then x) (join_assoc ps q r)
