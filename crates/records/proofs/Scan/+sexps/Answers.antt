-- The S records of `records::sexp`: `leading_sexp`, `pair` and `child_sexp` meet their contracts. What falls is the SC depth left. Assumes nothing.
use mathlib.Core.Path.{refl, sym}
use Rattle.records.proofs.Scans.{same_err, left_err, started}
use Rattle.records.proofs.Chains.{past, stop}
use Rattle.records.proofs.Marks.{sexp_placed, no_sexp}
use Rattle.records.proofs.Unnoted.{sexp_unnoted}
use Rattle.records.proofs.SexpLaws.{sexp_unread, sexp_nil, sexp_pair, sexp_deep, sexp_integer, sexp_quoted, sexp_atom, sexp_unknown, pair_parts, child_sexp_moves, child_sexp_stops}
use Rattle.records.proofs.Scan.+sexps.Goals as goal

pub child_sexp-returns-in_err-leading_sexp-clause-reads : goal.child_sexp-returns-in_err-leading_sexp-clause-reads
child_sexp-returns-in_err-leading_sexp-clause-reads t c = rw (same_err c.from_residual.ensures.1) (child_sexp_stops _ _ _ refl (c.in_err-leading_sexp.ensures refl))

pub child_sexp-returns-clause-reads : goal.child_sexp-returns-clause-reads
child_sexp-returns-clause-reads t c = child_sexp_moves _ _ _ refl (c.in_ok-leading_sexp.ensures refl) refl refl (sym (sexp_unnoted _ (c.in_ok-leading_sexp.ensures refl)))

pub leading_sexp-returns-in_err-past_mark : goal.leading_sexp-returns-in_err-past_mark
leading_sexp-returns-in_err-past_mark t c = λ z. sexp_unread _ (started z c.in_err-past_mark.ensures.reads) (left_err _ _ _ c.from_residual.ensures.1)

pub leading_sexp-returns-then-depth-eq0 : goal.leading_sexp-returns-then-depth-eq0
leading_sexp-returns-then-depth-eq0 t c = λ z. sexp_deep (started z c.in_ok-past_mark.ensures.reads) _ c.if-depth-eq0.true (sexp_placed c.in-Some-Pair.field-0-is (rw c.in_ok-past_mark.ensures.reads.same at c.in-Some-Pair.ensures)) c.refused.ensures

pub leading_sexp-returns-else-depth-eq0 : goal.leading_sexp-returns-else-depth-eq0
leading_sexp-returns-else-depth-eq0 t c = λ z. sexp_pair (started z c.in_ok-past_mark.ensures.reads) _ (sexp_placed c.in-Some-Pair.field-0-is (rw c.in_ok-past_mark.ensures.reads.same at c.in-Some-Pair.ensures)) c.if-depth-eq0.false c.pair.ensures

pub leading_sexp-returns-in-Some-Nil : goal.leading_sexp-returns-in-Some-Nil
leading_sexp-returns-in-Some-Nil t c = λ z. sexp_nil (started z c.in_ok-past_mark.ensures.reads) _ (sexp_placed c.in-Some-Nil.field-0-is (rw c.in_ok-past_mark.ensures.reads.same at c.in-Some-Nil.ensures)) c.loc.ensures.reads

pub leading_sexp-returns-in_err-loc-in-Some-Integer : goal.leading_sexp-returns-in_err-loc-in-Some-Integer
leading_sexp-returns-in_err-loc-in-Some-Integer t c = λ z. sexp_integer (started z c.in_ok-past_mark.ensures.reads) _ (sexp_placed c.in-Some-Integer.field-0-is (rw c.in_ok-past_mark.ensures.reads.same at c.in-Some-Integer.ensures)) (stop c.in_err-loc-in-Some-Integer.ensures.reads (left_err _ _ _ c.from_residual-in_err-loc-in-Some-Integer.ensures.1))

pub leading_sexp-returns-in_ok-loc-in-Some-Integer : goal.leading_sexp-returns-in_ok-loc-in-Some-Integer
leading_sexp-returns-in_ok-loc-in-Some-Integer t c = λ z. sexp_integer (started z c.in_ok-past_mark.ensures.reads) _ (sexp_placed c.in-Some-Integer.field-0-is (rw c.in_ok-past_mark.ensures.reads.same at c.in-Some-Integer.ensures)) (past c.in_ok-loc-in-Some-Integer.ensures.reads c.integer.ensures.reads)

pub leading_sexp-returns-in_err-loc-in-Some-Text : goal.leading_sexp-returns-in_err-loc-in-Some-Text
leading_sexp-returns-in_err-loc-in-Some-Text t c = λ z. sexp_quoted (started z c.in_ok-past_mark.ensures.reads) _ (sexp_placed c.in-Some-Text.field-0-is (rw c.in_ok-past_mark.ensures.reads.same at c.in-Some-Text.ensures)) (stop c.in_err-loc-in-Some-Text.ensures.reads (left_err _ _ _ c.from_residual-in_err-loc-in-Some-Text.ensures.1))

pub leading_sexp-returns-in_err-byte-in-Some-Text : goal.leading_sexp-returns-in_err-byte-in-Some-Text
leading_sexp-returns-in_err-byte-in-Some-Text t c = λ z. sexp_quoted (started z c.in_ok-past_mark.ensures.reads) _ (sexp_placed c.in-Some-Text.field-0-is (rw c.in_ok-past_mark.ensures.reads.same at c.in-Some-Text.ensures))
    (past c.in_ok-loc-in-Some-Text.ensures.reads (stop (c.in_err-byte-in-Some-Text.ensures.reads) (left_err _ _ _ c.from_residual-in_err-byte-in-Some-Text.ensures.1)))

pub leading_sexp-returns-in_ok-byte-in-Some-Text : goal.leading_sexp-returns-in_ok-byte-in-Some-Text
leading_sexp-returns-in_ok-byte-in-Some-Text t c = λ z. sexp_quoted (started z c.in_ok-past_mark.ensures.reads) _ (sexp_placed c.in-Some-Text.field-0-is (rw c.in_ok-past_mark.ensures.reads.same at c.in-Some-Text.ensures))
    (past c.in_ok-loc-in-Some-Text.ensures.reads (past (c.in_ok-byte-in-Some-Text.ensures.reads) c.name.ensures.reads))

pub leading_sexp-returns-in_err-loc-in-Some-Atom : goal.leading_sexp-returns-in_err-loc-in-Some-Atom
leading_sexp-returns-in_err-loc-in-Some-Atom t c = λ z. sexp_atom (started z c.in_ok-past_mark.ensures.reads) _ (sexp_placed c.in-Some-Atom.field-0-is (rw c.in_ok-past_mark.ensures.reads.same at c.in-Some-Atom.ensures)) (stop c.in_err-loc-in-Some-Atom.ensures.reads (left_err _ _ _ c.from_residual-in_err-loc-in-Some-Atom.ensures.1))

pub leading_sexp-returns-in_ok-loc-in-Some-Atom : goal.leading_sexp-returns-in_ok-loc-in-Some-Atom
leading_sexp-returns-in_ok-loc-in-Some-Atom t c = λ z. sexp_atom (started z c.in_ok-past_mark.ensures.reads) _ (sexp_placed c.in-Some-Atom.field-0-is (rw c.in_ok-past_mark.ensures.reads.same at c.in-Some-Atom.ensures)) (past c.in_ok-loc-in-Some-Atom.ensures.reads c.name-in-Some-Atom.ensures.reads)

pub leading_sexp-returns-in-None : goal.leading_sexp-returns-in-None
leading_sexp-returns-in-None t c = λ z. sexp_unknown (started z c.in_ok-past_mark.ensures.reads) _ (no_sexp _ (rw c.in_ok-past_mark.ensures.reads.same at c.in-None.ensures)) c.refused-in-None.ensures

pub pair-returns-in_err-loc : goal.pair-returns-in_err-loc
pair-returns-in_err-loc t c = pair_parts _ (stop c.in_err-loc.ensures.reads (left_err _ _ _ c.from_residual.ensures.1))

pub pair-returns-in_err-child_sexp : goal.pair-returns-in_err-child_sexp
pair-returns-in_err-child_sexp t c = pair_parts _ (past c.in_ok-loc.ensures.reads (stop c.in_err-child_sexp.ensures.reads (left_err _ _ _ c.from_residual-in_err-child_sexp.ensures.1)))

pub pair-returns : goal.pair-returns
pair-returns t c = pair_parts _ (past c.in_ok-loc.ensures.reads (past c.in_ok-child_sexp.ensures.reads c.child_sexp-2.ensures.reads))
