-- One BL of kind 2, in the form in which the code meets it. Assumes nothing.
use mathlib.Core.Path.{◌≡◌, refl}
use mathlib.Core.Bool.{true, false}
use Prim.Native.Nat.{ℕ, ◌-◌}
use native.Mathlib.Omega.{arith}
use lib.ListN.{get_or, take}
use borrow.Author.Tests.{eq-eqb, ne_eqb}
use Rattle.names.specs.Names.{Bytes, ascii, same}
use Rattle.std.specs.Prelude.{Option, Result, Ok, Err, IsErrAnd}
use Rattle.std.specs.Borrow.{Bor}
use Rattle.names.specs.Refusals.{place_at, refusing}
use Rattle.names.specs.declared.Reason.TheVariants.{NotOneRecord}
use Rattle.names.specs.declared.Refusal.{Refusal}
use Rattle.names.proofs.Same.{same→eq}
use Rattle.records.specs.Records.{mark_width}
use Rattle.records.specs.declared.Scan.{Scan}
use Rattle.records.specs.declared.Kind.TheVariants.{Assign}
use Rattle.records.specs.Limits.{level_limit}
use Rattle.records.specs.Read.{Context, assign_of}
use Rattle.records.specs.ReadFields.{next, malformed, fault_reason, bytes, check, choose}
use Rattle.records.specs.Scan.{let_of_kind, below, starts, Comes, Reads, Goes}
use Rattle.records.proofs.Exact.{exact_next}
use Rattle.records.proofs.Scans.{comes_of}
use Rattle.records.proofs.FieldLaws.{reads_fail}
use Rattle.records.proofs.Chains.{Field, byte_field}
use Rattle.records.proofs.RecordLaws.{comes_marked, comes_unmarked, comes_unread}
use Rattle.records.proofs.ContextLaws.{comes_deeper}

-- no mark stands there
pub assign_unread : {x : Context} {s : Bor Bytes} {first : Option ℕ} {e : Refusal} {r : Result Scan Refusal} → Reads (bytes mark_width) x.mark (starts s first) (Err e) → IsErrAnd r (λ y. y ≡ e) → Comes assign_of x (starts s first) r
unfolding assign_of
assign_unread {x} g z = comes_unread _ (comes_of g x refl) z

module _ {x : Context} {s : Bor Bytes} {first : Option ℕ} {d : Scan} (g : Reads (bytes mark_width) x.mark (starts s first) (Ok d)) where
  pub assign_unknown : {e : Refusal} → same (take mark_width s.now) (ascii "BL") ≡ false → e ≡ refusing NotOneRecord (place_at x.mark) → Comes assign_of x (starts s first) (Err e)
  unfolding assign_of choose
  assign_unknown t z = comes_unmarked _ (comes_of g x refl) (rw (t, choose)) z

  module _ (t : same (take mark_width s.now) (ascii "BL") ≡ true) (room : x.room ≡ level_limit) where
    -- another kind byte, and a 2
    pub assign_other : {r : Result Scan Refusal} → Field next x.mark d r (λ k. (get_or d.s.now d.at 0 ≡ 2 → ⊥) × (r ≡ Err (refusing NotOneRecord (place_at x.mark)))) → Comes assign_of x (starts s first) r
    unfolding assign_of choose same ascii fault_reason
    assign_other h = comes_marked _ (comes_of g x refl) "BL" _ refl (same→eq _ _ (rw t tt)) (comes_deeper 1 (omega arith)
        (byte_field _ refl exact_next h (λ k q. rw q.1 (comes_of (reads_fail _ malformed _ (ne_eqb _ _ q.0) refl) (below 1 x) refl))))

    pub assign_there : {r : Result Scan Refusal} → Field next x.mark d r (λ k. (get_or d.s.now d.at 0 ≡ 2) × Goes (let_of_kind Assign) (below 1 x) k r) → Comes assign_of x (starts s first) r
    unfolding assign_of choose same ascii check
    assign_there h = comes_marked _ (comes_of g x refl) "BL" _ refl (same→eq _ _ (rw t tt)) (comes_deeper 1 (omega arith)
        (byte_field _ refl exact_next h (λ k q. rw (eq-eqb _ _ q.0) (q.1.enough (level_limit - 1) (omega arith)))))
