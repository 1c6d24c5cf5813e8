-- S records in the form in which the code meets them: each kind by the place of its mark. Assumes nothing.
use mathlib.Core.Path.{◌≡◌, refl, ap, sym, subst, ◌∙◌}
use Prim.Native.Nat.{ℕ, zero, suc, ◌-◌, ◌<◌, ◌+◌}
use native.Mathlib.Omega.{arith}
use lib.ListN.{length, take, get_or}
use Rattle.names.specs.Names.{Bytes, ascii, same}
use Rattle.names.specs.Refusals.{place_at, refusing}
use Rattle.names.specs.declared.Reason.TheVariants.{NotOneRecord, PastLimit}
use Rattle.names.specs.declared.Refusal.{Refusal}
use Rattle.std.specs.Prelude.{Option, Result, Ok, Err, IsErrAnd}
use Rattle.std.specs.Borrow.{Bor}
use Rattle.records.specs.declared.Scan.{Scan}
use Rattle.records.specs.Records.{mark_width, Sexp, SN, SI, SQ, SA}
use Rattle.records.specs.Read.{sexp_kinds, sexp_rule, cons_rule, sexp_at, Context, pattern_of, pattern_after, sexp}
use Rattle.records.specs.ReadFields.{Reader, ◌>>=◌, ret, refuse, malformed, over_limit, fault_reason, bytes, next, choose, loc, name, integer, at_most}
use Rattle.records.specs.Scan.{mark_index, sexp_marks, starts, Comes, Reads}
use Rattle.records.proofs.Exact.{exact_loc, exact_next, exact_sexp_at, exact_up_to}
use Rattle.records.proofs.Scans.{left, comes_of, reads_of, comes_last, done_at, reads_last}
use Rattle.records.proofs.Chains.{Field, field}
use Rattle.records.proofs.FieldLaws.{reads_byte}
use Rattle.records.proofs.RecordLaws.{comes_marked, comes_unmarked, comes_unread, comes_refuse, index_mark, index_none, OwnMark, own_marked, at_mark, comes_child, comes_child_stop}
use Rattle.records.specs.Limits.{cons_limit}

-- how an SC is read with so many left
cons_left : ℕ → Reader Sexp
cons_left zero = refuse over_limit
cons_left (suc n) = cons_rule (sexp_at n)

rule_of : (n : ℕ) → sexp_rule (cons_left n) ≡ sexp_at n
unfolding cons_left sexp_at
rule_of zero = refl
rule_of (suc n) = refl

-- no mark stands there
pub sexp_unread : {mark : ℕ} {s : Bor Bytes} {first : Option ℕ} {e : Refusal} {r : Result Scan Refusal} (n : ℕ) → Reads (bytes mark_width) mark (starts s first) (Err e) → IsErrAnd r (λ y. y ≡ e) → Reads (sexp_at n) mark (starts s first) r
unfolding sexp_rule
sexp_unread {mark} {s} {first} {r} n g z = subst (λ (m : Reader Sexp). Reads m mark (starts s first) r) (rule_of n) (reads_of (λ x q. comes_unread _ (comes_of g x q) z))

module _ {mark : ℕ} {s : Bor Bytes} {first : Option ℕ} {d : Scan} (g : Reads (bytes mark_width) mark (starts s first) (Ok d)) (n : ℕ) where
  -- the kind whose mark has this place
  kind : {r : Result Scan Refusal} (i : ℕ) (k : Reader Sexp) → choose (ascii (get_or sexp_marks i "")) (sexp_kinds (cons_left n)) ≡ k → i ≡ mark_index (take mark_width s.now) sexp_marks → i < 5
      → ((x : Context) → x.mark ≡ mark → Comes k x d r) → Reads (sexp_at n) mark (starts s first) r
  unfolding sexp_rule
  kind {r} i k e q l h = subst (λ (m : Reader Sexp). Reads m mark (starts s first) r) (rule_of n)
      (reads_of (λ x w. comes_marked (sexp_kinds (cons_left n)) (comes_of g x w) (get_or sexp_marks i "") k e (index_mark (take mark_width s.now) sexp_marks i (sym q) l) (h x w)))

  pub sexp_nil : {r : Result Scan Refusal} → 0 ≡ mark_index (take mark_width s.now) sexp_marks → Reads loc mark d r → Reads (sexp_at n) mark (starts s first) r
  unfolding choose same ascii
  sexp_nil q h = kind 0 (loc >>= λ l. ret (SN l)) refl q (omega arith) (λ x w. comes_last (λ l. done_at _) (comes_of h x w))

  pub sexp_integer : {r : Result Scan Refusal} → 2 ≡ mark_index (take mark_width s.now) sexp_marks → Field loc mark d r (λ e. Reads integer mark e r) → Reads (sexp_at n) mark (starts s first) r
  unfolding choose same ascii
  sexp_integer q h = kind 2 (loc >>= λ l. integer >>= λ v. ret (SI l v)) refl q (omega arith) (λ x w.
      field w exact_loc h (λ l e i. comes_last (λ v. done_at _) (comes_of i x w)))

  pub sexp_quoted : {r : Result Scan Refusal} → 3 ≡ mark_index (take mark_width s.now) sexp_marks → Field loc mark d r (λ e. Field next mark e r (λ f. Reads name mark f r)) → Reads (sexp_at n) mark (starts s first) r
  unfolding choose same ascii
  sexp_quoted q h = kind 3 (loc >>= λ l. next >>= λ y. name >>= λ m. ret (SQ l y m)) refl q (omega arith) (λ x w.
      field w exact_loc h (λ l e i. field w exact_next i (λ y f j. comes_last (λ m. done_at _) (comes_of j x w))))

  pub sexp_atom : {r : Result Scan Refusal} → 4 ≡ mark_index (take mark_width s.now) sexp_marks → Field loc mark d r (λ e. Reads name mark e r) → Reads (sexp_at n) mark (starts s first) r
  unfolding choose same ascii
  sexp_atom q h = kind 4 (loc >>= λ l. name >>= λ m. ret (SA l m)) refl q (omega arith) (λ x w.
      field w exact_loc h (λ l e i. comes_last (λ m. done_at _) (comes_of i x w)))

  pub sexp_pair : {r : Result Scan Refusal} → 1 ≡ mark_index (take mark_width s.now) sexp_marks → (n ≡ 0 → ⊥) → Reads (cons_rule (sexp_at (n - 1))) mark d r → Reads (sexp_at n) mark (starts s first) r
  unfolding choose same ascii cons_left
  sexp_pair {r} q z h = kind 1 (cons_left n) refl q (omega arith) (λ x w. comes_of (left n z h) x w)
    where
      left : (m : ℕ) → (m ≡ 0 → ⊥) → Reads (cons_rule (sexp_at (m - 1))) mark d r → Reads (cons_left m) mark d r
      left zero z h = absurd (z refl)
      left (suc m) z h = subst (λ (k : ℕ). Reads (cons_rule (sexp_at k)) mark d r) (omega arith) h

  pub sexp_deep : {e : Refusal} → n ≡ 0 → 1 ≡ mark_index (take mark_width s.now) sexp_marks → e ≡ refusing PastLimit (place_at mark) → Reads (sexp_at n) mark (starts s first) (Err e)
  unfolding choose same ascii cons_left fault_reason
  sexp_deep {e} q w z = kind 1 (cons_left n) refl w (omega arith) (λ x v. comes_of (none n q) x v)
    where
      none : (m : ℕ) → m ≡ 0 → Reads (cons_left m) mark d (Err e)
      none zero q = reads_of (λ x k. comes_refuse over_limit (z ∙ ap (λ (m : ℕ). refusing PastLimit (place_at m)) (sym k)))
      none (suc m) q = absurd (omega arith)

  pub sexp_unknown : {e : Refusal} → 5 ≡ mark_index (take mark_width s.now) sexp_marks → e ≡ refusing NotOneRecord (place_at mark) → Reads (sexp_at n) mark (starts s first) (Err e)
  unfolding sexp_rule
  sexp_unknown {e} q z =
      subst (λ (m : Reader Sexp). Reads m mark (starts s first) (Err e)) (rule_of n)
      (reads_of (λ x k. comes_unmarked (sexp_kinds (cons_left n)) (comes_of g x k) (index_none (take mark_width s.now) (sexp_kinds (cons_left n)) (sym q)) (z ∙ ap (λ (m : ℕ). refusing NotOneRecord (place_at m)) (sym k))))

-- what stands after the mark of an SC: its L, its head and its tail
pub pair_parts : {mark : ℕ} {c : Scan} {r : Result Scan Refusal} (n : ℕ) → Field loc mark c r (λ l. Field (sexp_at n) mark l r (λ h. Reads (sexp_at n) mark h r)) → Reads (cons_rule (sexp_at n)) mark c r
unfolding cons_rule
pair_parts n h = reads_of (λ x q. field q exact_loc h (λ l d i. field q (exact_sexp_at n) i (λ u e j. comes_last (λ v. done_at _) (comes_of j x q))))

-- an S record that is a child
own_sexp : (n : ℕ) → OwnMark (sexp_at n)
unfolding sexp_at sexp_rule
own_sexp zero = own_marked _
own_sexp (suc n) = own_marked _

module _ {mark : ℕ} (c : Scan) (p : Bor Bytes) (n : ℕ) (part : p.now ≡ take (length c.s.now - c.at) (left c)) where
  at_own : {r : Result Scan Refusal} → Reads (sexp_at n) (mark + c.at) (starts p c.first) r → (x : Context) → x.mark ≡ mark → Comes (sexp_at n) (at_mark (x.mark + c.at) x) (starts p c.first) r
  at_own h x q = comes_of h (at_mark (x.mark + c.at) x) (ap (λ (k : ℕ). k + c.at) q)

  pub child_sexp_moves : {d e : Scan} → Reads (sexp_at n) (mark + c.at) (starts p c.first) (Ok d) → e.s ≡ c.s → e.at ≡ c.at + d.at → e.first ≡ d.first → Reads (sexp_at n) mark c (Ok e)
  child_sexp_moves h same far first = reads_of (λ x q. comes_child x c p (own_sexp n) part (at_own h x q) same far first)

  pub child_sexp_stops : {e : Refusal} → Reads (sexp_at n) (mark + c.at) (starts p c.first) (Err e) → Reads (sexp_at n) mark c (Err e)
  child_sexp_stops h = reads_of (λ x q. comes_child_stop x c p (own_sexp n) part (at_own h x q))

-- a pattern
module _ {mark : ℕ} {c d : Scan} {r : Result Scan Refusal} (g : Reads (at_most malformed 1) mark c (Ok d)) where
  pub pattern_name : get_or c.s.now c.at 0 ≡ 0 → Reads name mark d r → Reads pattern_of mark c r
  unfolding pattern_of pattern_after
  pattern_name q h = reads_byte (exact_up_to 1) g pattern_after (rw (q, pattern_after) (reads_last (λ a. done_at _) h))

  pub pattern_complex : (get_or c.s.now c.at 0 ≡ 0 → ⊥) → Reads (sexp_at cons_limit) mark d r → Reads pattern_of mark c r
  unfolding pattern_of pattern_after sexp
  pattern_complex q h = reads_byte (exact_up_to 1) g pattern_after (at (get_or c.s.now c.at 0) q)
    where
      at : (b : ℕ) → (b ≡ 0 → ⊥) → Reads (pattern_after b) mark d r
      at zero e = absurd (e refl)
      at (suc b) e = reads_last (λ a. done_at _) h
