-- `crate::skip::skip_sexp` meets its contract. What falls is the length. Assumes nothing.
use native.Mathlib.Omega.{arith}
use Rattle.records.proofs.Marks.{sexp_placed, no_sexp}
use Rattle.records.proofs.AnySexp.{integer, text, name, sees_nil, sees_pair, sees_number, sees_text, sees_name_of, sees_unknown, skips_nil, skips_pair, skips_leaf, skips_none}
use Rattle.records.proofs.skip.+skip_sexp.Goals as goal

pub skip_sexp-requires : goal.skip_sexp-requires
skip_sexp-requires t c = (let p = (sees_pair c.past_head-head.ensures (sexp_placed c.in-Some-Pair.field-0-is c.in-Some-Pair.ensures)).places in omega arith, tt)

pub skip_sexp-requires-in-Some-Pair : goal.skip_sexp-requires-in-Some-Pair
skip_sexp-requires-in-Some-Pair t c = (let p = (sees_pair c.past_head-head.ensures (sexp_placed c.in-Some-Pair.field-0-is c.in-Some-Pair.ensures)).places in omega arith, tt)

pub returns-in-Some-Nil : goal.returns-in-Some-Nil
returns-in-Some-Nil t c = skips_nil (sees_nil c.past_head-head.ensures (sexp_placed c.in-Some-Nil.field-0-is c.in-Some-Nil.ensures))

pub returns-in-Some-Pair : goal.returns-in-Some-Pair
returns-in-Some-Pair t c = skips_pair (sees_pair c.past_head-head.ensures (sexp_placed c.in-Some-Pair.field-0-is c.in-Some-Pair.ensures)) c.skip_sexp.ensures c.skip_sexp-in-Some-Pair.ensures

pub returns-in-Some-Integer : goal.returns-in-Some-Integer
returns-in-Some-Integer t c = skips_leaf integer (sees_number c.past_head-head.ensures (sexp_placed c.in-Some-Integer.field-0-is c.in-Some-Integer.ensures) c.integer_view.ensures)

pub returns-in-Some-Text : goal.returns-in-Some-Text
returns-in-Some-Text t c = skips_leaf text (sees_text c.past_head-head.ensures (sexp_placed c.in-Some-Text.field-0-is c.in-Some-Text.ensures) c.past_bytes.ensures.past c.name_view.ensures)

pub returns-in-Some-Atom : goal.returns-in-Some-Atom
returns-in-Some-Atom t c = skips_leaf name (sees_name_of c.past_head-head.ensures (sexp_placed c.in-Some-Atom.field-0-is c.in-Some-Atom.ensures) c.name_view-in-Some-Atom.ensures)

pub returns-in-None : goal.returns-in-None
returns-in-None t c = skips_none (sees_unknown (no_sexp _ c.in-None.ensures))
