-- `crate::index`: every member of the cycle meets its contract. What falls is the length of the bytes: a child starts behind a mark. Assumes nothing.
use mathlib.Core.Path.{refl, ap}
use native.Mathlib.Omega.{arith}
use lib.ListN.{length}
use Rattle.std.proofs.Common.{rules}
use Rattle.outline.proofs.PlainFields.{byte_tree, loc_tree, keyword_tree, hint_tree, number_tree, name_tree, raw_tree, number_past, plain_lists}
use Rattle.outline.proofs.ReachedLaws.{onward_none, onward_field, onward_record, onward_fields}
use Rattle.outline.proofs.IndexLaws.{child_indexes, name_lists, no_tail_lists, complex_lists, tail_lists, several_lists, row_at, unmarked_indexes, begun_fields, record_indexes}
use Rattle.outline.proofs.index.+indexing.Goals as goal

pub Listing::child-returns : goal.Listing::child-returns
Listing::child-returns t c = record { same = record { bytes = refl; mem = refl; around = refl }; indexes = child_indexes _ refl c.args.self.now.begun c.index-r.ensures }

pub Listing::field-returns-in-Byte : goal.Listing::field-returns-in-Byte
Listing::field-returns-in-Byte t c = rw c.in-Byte.is (plain_lists byte_tree c.past_bytes-self.ensures.past)

pub Listing::field-returns-in-Loc : goal.Listing::field-returns-in-Loc
Listing::field-returns-in-Loc t c = rw c.in-Loc.is (plain_lists loc_tree c.past_bytes-self-in-Loc.ensures.past)

pub Listing::field-returns-in-Keyword : goal.Listing::field-returns-in-Keyword
Listing::field-returns-in-Keyword t c = rw c.in-Keyword.is (plain_lists keyword_tree c.past_keyword-self.ensures)

pub Listing::field-returns-in-Hint : goal.Listing::field-returns-in-Hint
Listing::field-returns-in-Hint t c = rw c.in-Hint.is (plain_lists hint_tree c.past_hint-self.ensures)

pub Listing::field-returns-in-Number : goal.Listing::field-returns-in-Number
Listing::field-returns-in-Number t c = rw c.in-Number.is (plain_lists number_tree (number_past c.integer_view.ensures))

pub Listing::field-returns-in-Name : goal.Listing::field-returns-in-Name
Listing::field-returns-in-Name t c = rw c.in-Name.is (plain_lists name_tree c.past_name-self.ensures)

pub Listing::field-returns-in-Raw : goal.Listing::field-returns-in-Raw
Listing::field-returns-in-Raw t c = rw c.in-Raw.is (plain_lists raw_tree c.past_raw-self.ensures)

pub Listing::fields-loop-f-init : goal.Listing::fields-loop-f-init
Listing::fields-loop-f-init t c = onward_none c.args.self.now

pub Listing::fields-field-requires : goal.Listing::fields-field-requires
Listing::fields-field-requires t c = let e = ap (λ b. length b.now) c.loop-f.invariant.same.bytes in (omega arith, tt)

pub Listing::fields-loop-f-preserved : goal.Listing::fields-loop-f-preserved
Listing::fields-loop-f-preserved t c = onward_field (row_at c.args.row.now c.loop-f.f-index (omega arith)) c.loop-f.invariant c.field.ensures

pub Listing::fields-returns : goal.Listing::fields-returns
Listing::fields-returns t c = onward_fields (omega arith) c.loop-f.invariant

pub Listing::pattern-returns-then-next_byte-eq0 : goal.Listing::pattern-returns-then-next_byte-eq0
Listing::pattern-returns-then-next_byte-eq0 t c = name_lists c.next_byte.ensures c.if-next_byte-eq0.true c.past_name-self.ensures

pub Listing::pattern-returns-else-next_byte-eq0 : goal.Listing::pattern-returns-else-next_byte-eq0
Listing::pattern-returns-else-next_byte-eq0 t c = complex_lists c.next_byte.ensures c.if-next_byte-eq0.false c.child.ensures

pub Listing::several-loop-init : goal.Listing::several-loop-init
Listing::several-loop-init t c = onward_none c.next_byte-n.new.self

pub Listing::several-loop-preserved : goal.Listing::several-loop-preserved
Listing::several-loop-preserved t c = onward_record (omega arith) c.loop.invariant c.child.ensures

pub Listing::several-returns : goal.Listing::several-returns
Listing::several-returns t c = several_lists c.next_byte-n.ensures (omega arith) c.loop.invariant

pub Listing::tail-returns-then-next_byte-ne0 : goal.Listing::tail-returns-then-next_byte-ne0
Listing::tail-returns-then-next_byte-ne0 t c = tail_lists c.next_byte.ensures c.if-next_byte-ne0.true c.child.ensures

pub Listing::tail-returns-else-next_byte-ne0 : goal.Listing::tail-returns-else-next_byte-ne0
Listing::tail-returns-else-next_byte-ne0 t c = no_tail_lists c.next_byte.ensures c.if-next_byte-ne0.false

pub index-returns-in_default : goal.index-returns-in_default
index-returns-in_default t c = unmarked_indexes c.in_default.ensures

pub index-invariant_of-listing : goal.index-invariant_of-listing
index-invariant_of-listing t c = record { begun = begun_fields c.in-Some.mark c.requires c.in-Some.ensures c.under.ensures }

pub index-returns : goal.index-returns
index-returns t c = record_indexes c.requires c.in-Some.ensures c.fields_of.ensures c.under.ensures c.fields.ensures.indexes c.put_entry.ensures (search rules)
