-- Records of every kind in the form in which the code meets them, for every fuel that is enough. Assumes nothing.
use mathlib.Core.Path.{◌≡◌, refl, subst}
use mathlib.Core.List.{[]}
use Prim.Native.Nat.{ℕ, zero, suc, ◌+◌, ◌-◌, ◌≤◌, ◌<◌}
use native.Mathlib.Omega.{arith}
use lib.ListN.{length, get_or, take}
use Rattle.names.specs.Names.{Bytes}
use Rattle.records.specs.declared.Family.{Family}
use Rattle.records.specs.declared.Family.TheVariants.{Body as a_Body, Binding as a_binding, Helper as a_helper, Form as a_form}
use Rattle.std.specs.Prelude.{Result, Ok, Err}
use Rattle.std.specs.Borrow.{Bor}
use Rattle.names.specs.declared.Refusal.{Refusal}
use Rattle.records.specs.declared.Scan.{Scan}
use Rattle.records.specs.Records.{body_bytes, binding_bytes, helper_bytes, form_bytes}
use Rattle.records.specs.Read.{Context, binding, body_rule, helper_rule, form_rule, rules, readers}
use Rattle.records.specs.ReadFields.{Reader, times, count}
use Rattle.records.specs.Scan.{reader_of, times_of, many_of, starts, Reads, Goes}
use Rattle.records.proofs.Readers.{Any}
use Rattle.records.proofs.Exact.{Exact, exact_readers, exact_binding, exact_count}
use Rattle.records.proofs.Scans.{left, comes_of, comes_last, comes_ret, done_at}
use Rattle.records.proofs.Chains.{Field, Child, byte_field, child, goes_of}
use Rattle.records.proofs.RecordLaws.{OwnMark, own_marked, at_mark, comes_child, comes_child_stop}

-- the bytes of each kind of record
pub bytes_of : (f : Family) (fuel : ℕ) → (reader_of f fuel).0 → Bytes
bytes_of a_Body fuel = body_bytes
bytes_of a_binding fuel = binding_bytes
bytes_of a_helper fuel = helper_bytes
bytes_of a_form fuel = form_bytes

pub exact_of : (f : Family) (fuel : ℕ) → Exact Any (bytes_of f fuel) [] (reader_of f fuel).1
unfolding bytes_of
exact_of a_Body fuel = (exact_readers fuel).body
exact_of a_binding fuel = exact_binding (exact_readers fuel).body
exact_of a_helper fuel = (exact_readers fuel).helper
exact_of a_form fuel = (exact_readers fuel).form

own_of : (f : Family) (fuel : ℕ) → OwnMark (reader_of f fuel).1
unfolding readers rules body_rule helper_rule form_rule binding
own_of a_Body zero = own_marked _
own_of a_Body (suc fuel) = own_marked _
own_of a_binding zero = own_marked _
own_of a_binding (suc fuel) = own_marked _
own_of a_helper zero = own_marked _
own_of a_helper (suc fuel) = own_marked _
own_of a_form zero = own_marked _
own_of a_form (suc fuel) = own_marked _

-- a child record, read as a part that starts at its mark
module _ (f : Family) {x : Context} (c : Scan) (p : Bor Bytes) (part : p.now ≡ take (length c.s.now - c.at) (left c)) where
  pub goes_child : {d e : Scan} → Goes (reader_of f) (at_mark (x.mark + c.at) x) (starts p c.first) (Ok d) → e.s ≡ c.s → e.at ≡ c.at + d.at → e.first ≡ d.first → Goes (reader_of f) x c (Ok e)
  goes_child h same far first = goes_of (λ fuel l. comes_child x c p (own_of f fuel) part (h.enough fuel l) same far first)

  pub goes_child_stop : {e : Refusal} → Goes (reader_of f) (at_mark (x.mark + c.at) x) (starts p c.first) (Err e) → Goes (reader_of f) x c (Err e)
  goes_child_stop h = goes_of (λ fuel l. comes_child_stop x c p (own_of f fuel) part (h.enough fuel l))

-- a count, and that many records
pub goes_many : (f : Family) {x : Context} {c : Scan} {r : Result Scan Refusal} → Field count x.mark c r (λ d. Goes (times_of (get_or c.s.now c.at 0) f) x d r) → Goes (many_of f) x c r
goes_many f h = goes_of (λ fuel w. byte_field _ refl exact_count h (λ d g. g.enough fuel w))

-- a BB takes no level, and stands above its body
abbrev pub weight : Family → ℕ
weight a_Body = 0
weight a_binding = 3
weight a_helper = 0
weight a_form = 0

-- a loop over n records: after the last, and one more
module _ (f : Family) {x : Context} (n : ℕ) {c : Scan} where
  pub loop_last : (i : ℕ) → n ≤ i → Goes (times_of (n - i) f) x c (Ok c)
  unfolding times
  loop_last i l = let e : 0 ≡ n - i = omega arith in subst (λ (j : ℕ). Goes (times_of j f) x c (Ok c)) e (goes_of (λ fuel h. comes_ret []))

  pub loop_more : {r : Result Scan Refusal} (i : ℕ) → i < n → Child (reader_of f) x c r (λ d. Goes (times_of (n - (i + 1)) f) x d r) → Goes (times_of (n - i) f) x c r
  unfolding times
  loop_more {r} i l h =
      let e : suc (n - (i + 1)) ≡ n - i = omega arith in
      subst (λ (j : ℕ). Goes (times_of j f) x c r) e
      (goes_of (λ fuel u. child {m = reader_of f} fuel u (exact_of f fuel) h (λ a d g. comes_last (λ v. done_at _) (g.enough fuel u))))

-- a reader that asks only for the mark
pub goes_reads : {A : Type 0} {m : Reader A} {x : Context} {c : Scan} {r : Result Scan Refusal} → Reads m x.mark c r → Goes (λ _. (A, m)) x c r
goes_reads {x} h = goes_of (λ fuel l. comes_of h x refl)
