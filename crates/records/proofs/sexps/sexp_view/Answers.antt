-- `crate::sexps::sexp_view` meets its contract. Assumes nothing.
use Rattle.records.proofs.Marks.{sexp_placed, no_sexp}
use Rattle.records.proofs.AnySexp.{sees_nil, sees_pair, sees_number, sees_text, sees_name_of, sees_unknown}
use Rattle.records.proofs.sexps.sexp_view.Goals as goal

pub returns-in-Some-Nil : goal.returns-in-Some-Nil
returns-in-Some-Nil c = sees_nil c.past_head-head.ensures (sexp_placed c.in-Some-Nil.field-0-is c.in-Some-Nil.ensures)

pub returns-in-Some-Pair : goal.returns-in-Some-Pair
returns-in-Some-Pair c = sees_pair c.past_head-head.ensures (sexp_placed c.in-Some-Pair.field-0-is c.in-Some-Pair.ensures)

pub returns-in-Some-Integer : goal.returns-in-Some-Integer
returns-in-Some-Integer c = sees_number c.past_head-head.ensures (sexp_placed c.in-Some-Integer.field-0-is c.in-Some-Integer.ensures) c.integer_view.ensures

pub returns-in-Some-Text : goal.returns-in-Some-Text
returns-in-Some-Text c = sees_text c.past_head-head.ensures (sexp_placed c.in-Some-Text.field-0-is c.in-Some-Text.ensures) c.past_bytes.ensures.past c.name_view.ensures

pub returns-in-Some-Atom : goal.returns-in-Some-Atom
returns-in-Some-Atom c = sees_name_of c.past_head-head.ensures (sexp_placed c.in-Some-Atom.field-0-is c.in-Some-Atom.ensures) c.name_view-in-Some-Atom.ensures

pub returns-in-None : goal.returns-in-None
returns-in-None c = sees_unknown (no_sexp _ c.in-None.ensures)
