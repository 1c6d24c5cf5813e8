-- The fields of a record in the form in which the code meets them: what stands where a reading has come to. Assumes nothing.
use mathlib.Core.Path.{◌≡◌, refl, ap, sym, ◌∙◌, subst}
use mathlib.Core.Bool.{Bool, true, false}
use mathlib.Core.List.{[], ◌∷◌, ◌++◌}
use Prim.Native.Nat.{ℕ, ◌+◌, ◌-◌, ◌≤◌, ◌<◌}
use native.Mathlib.Omega.{arith}
use lib.ListN.{length, get_or, take, drop, length-drop, length-append}
use lib.Seq.{take_at, get_or-drop, drop-drop}
use borrow.Author.Tests.{le-leb, lt-leb}
use Rattle.std.specs.Prelude.{Result, Ok, Err}
use Rattle.names.specs.Names.{Bytes, number_of, number_field}
use Rattle.names.specs.Refusals.{place_at, refusing}
use Rattle.names.specs.declared.Reason.TheVariants.{NotOneRecord}
use Rattle.names.specs.declared.Refusal.{Refusal}
use Rattle.records.specs.declared.Scan.{Scan}
use Rattle.records.specs.Records.{byte, raw_width, integer_width}
use Rattle.records.specs.Read.{Context}
use Rattle.records.specs.ReadFields.{Input, Read, done, refused, Fault, malformed, fault_reason, Reader, ◌>>=◌, ret, check, times, next, bytes, counted, at_most, loc, raw_field, with_loc, optional_loc, integer, shortest}
use Rattle.records.specs.Scan.{left_by, input_at, Comes, Reads}
use Rattle.records.proofs.Exact.{Exact, exact_bytes, exact_next, exact_up_to, exact_counted}
use Rattle.records.proofs.Scans.{left, same_length, comes_of, comes_then, reads_of, reads_then, reads_ret, done_at, reads_last, taken}

-- a length of w bytes, and that many bytes
module _ {mark : ℕ} {c d : Scan} (w : ℕ) (g : Reads (bytes w) mark c (Ok d)) where
  pub reads_counted : {r : Result Scan Refusal} (n : ℕ) → n ≡ number_of (take w (left c)) → Reads (bytes n) mark d r → Reads (counted w) mark c r
  unfolding counted
  reads_counted {r} n e h = reads_then _ (exact_bytes w) g (λ a p b. subst (λ (k : ℕ). Reads (bytes k) mark d r) (e ∙ ap number_of (ap (take w) b ∙ take_at a _ w p)) h)

  pub counted_there : c.at + w ≤ length c.s.now
  counted_there = let t = taken (exact_bytes w) g in omega (arith, t.size, t.good, d.in_bounds, same_length g.same)

-- one byte
same_read : (x : Context) (i : Input) → left_by (bytes 1 x i) ≡ left_by (next x i)
unfolding bytes times next ◌>>=◌ ret left_by
same_read x i = go i.rest refl
  where
    go : (l : Bytes) → i.rest ≡ l → left_by (bytes 1 x i) ≡ left_by (next x i)
    go [] q = rw (q, next, bytes, times, ◌>>=◌)
    go (b ∷ bs) q = rw (q, next, bytes, times, ◌>>=◌)

pub one_byte : {mark : ℕ} {c : Scan} {r : Result Scan Refusal} → Reads (bytes 1) mark c r → Reads next mark c r
one_byte {c} g = record { anywhere = λ x q. g.anywhere x q ∙ same_read x (input_at x.mark c); same = g.same }

-- a reader of one byte, and then another of that byte
module _ {P : ℕ → Type 0} {m : Reader ℕ} {x : Context} {c d : Scan} (e : Exact P byte [] m) (g : Comes m x c (Ok d)) where
  first_byte : (a : ℕ) → left c ≡ byte a ++ left d → a ≡ get_or c.s.now c.at 0
  unfolding byte
  first_byte a b = let e : c.at + 0 ≡ c.at = omega arith in sym (ap (λ (t : Bytes). get_or t 0 0) b) ∙ get_or-drop c.at c.s.now 0 0 ∙ ap (λ (n : ℕ). get_or c.s.now n 0) e

  pub comes_byte : {B : Type 0} {r : Result Scan Refusal} (k : ℕ → Reader B) → Comes (k (get_or c.s.now c.at 0)) x d r → Comes (m >>= k) x c r
  comes_byte {r} k h = comes_then k e g (λ a p b. subst (λ (v : ℕ). Comes (k v) x d r) (sym (first_byte a b)) h)

module _ {P : ℕ → Type 0} {m : Reader ℕ} {mark : ℕ} {c d : Scan} (e : Exact P byte [] m) (g : Reads m mark c (Ok d)) where
  pub byte_there : c.at < length c.s.now
  unfolding byte
  byte_there = let t = taken e g in omega (arith, t.size, d.in_bounds, same_length g.same)

  pub reads_byte : {B : Type 0} {r : Result Scan Refusal} (k : ℕ → Reader B) → Reads (k (get_or c.s.now c.at 0)) mark d r → Reads (m >>= k) mark c r
  reads_byte k h = reads_of (λ x q. comes_byte e (comes_of g x q) k (comes_of h x q))

-- a test of what was just read
module _ {A : Type 0} (m : Reader A) {mark : ℕ} {c : Scan} where
  pub reads_pass : {r : Result Scan Refusal} (f : Fault) (b : Bool) → b ≡ true → Reads m mark c r → Reads (check f b m) mark c r
  unfolding check
  reads_pass f true q h = h
  reads_pass f false q h = absurd (let z : ◌≡◌ {A = ℕ} 0 1 = cc in omega arith)

  pub reads_fail : {e : Refusal} (f : Fault) (b : Bool) → b ≡ false → e ≡ refusing (fault_reason f) (place_at mark) → Reads (check f b m) mark c (Err e)
  unfolding check left_by
  reads_fail f true q z = absurd (let z : ◌≡◌ {A = ℕ} 0 1 = cc in omega arith)
  reads_fail f false q z = record { anywhere = λ x w. ap Err (z ∙ ap (λ (k : ℕ). refusing (fault_reason f) (place_at k)) (sym w)); same = tt }

-- a byte that is at most n
module _ {mark : ℕ} {c d : Scan} (n : ℕ) (f : Fault) (g : Reads next mark c (Ok d)) where
  pub at_most_over : {e : Refusal} → n < get_or c.s.now c.at 0 → e ≡ refusing (fault_reason f) (place_at mark) → Reads (at_most f n) mark c (Err e)
  unfolding at_most
  at_most_over h z = reads_byte exact_next g _ (reads_fail (ret _) f _ (lt-leb _ _ h) z)

  pub at_most_fine : get_or c.s.now c.at 0 ≤ n → Reads (at_most f n) mark c (Ok d)
  unfolding at_most
  at_most_fine h = reads_byte exact_next g _ (reads_pass (ret _) f _ (le-leb _ _ h) (reads_ret _))

-- a byte, with an L behind it from `least` on
module _ {mark : ℕ} {c d : Scan} {least : ℕ} (n : ℕ) (g : Reads (at_most malformed n) mark c (Ok d)) where
  pub optional_absent : get_or c.s.now c.at 0 < least → Reads (optional_loc least n) mark c (Ok d)
  unfolding optional_loc with_loc
  optional_absent h = reads_byte (exact_up_to n) g _ (rw (lt-leb _ _ h, with_loc) (reads_ret _))

  pub optional_present : {r : Result Scan Refusal} → least ≤ get_or c.s.now c.at 0 → Reads loc mark d r → Reads (optional_loc least n) mark c r
  unfolding optional_loc with_loc
  optional_present h e = reads_byte (exact_up_to n) g _ (rw (le-leb _ _ h, with_loc) (reads_last (λ a. done_at _) e))

-- R is what it is counted by, and what that counts
pub reads_raw : {mark : ℕ} {c : Scan} {r : Result Scan Refusal} → Reads (counted raw_width) mark c r → Reads raw_field mark c r
unfolding counted raw_field ◌>>=◌ ret left_by
reads_raw {c} g = record { anywhere = λ x q. g.anywhere x q ∙ first x (bytes raw_width x (input_at x.mark c)); same = g.same }
  where
    second : (x : Context) (b : Bytes) (o : Read Bytes) → left_by o ≡ left_by {A = Bytes} (elim o [ done bs j ↦ done (b ++ bs) j | refused f p ↦ refused f p ])
    second x b (done bs j) = refl
    second x b (refused f p) = refl

    first : (x : Context) (o : Read Bytes) → left_by {A = Bytes} (elim o [ done b j ↦ bytes (number_of b) x j | refused f p ↦ refused f p ])
        ≡ left_by {A = Bytes} (elim o [ done b j ↦ elim (bytes (number_of b) x j) [ done bs k ↦ done (b ++ bs) k | refused f p ↦ refused f p ] | refused f p ↦ refused f p ])
    first x (done b j) = second x b (bytes (number_of b) x j)
    first x (refused f p) = refl

-- a number's bytes after their count
module _ {mark : ℕ} {c d : Scan} (g : Reads (counted integer_width) mark c (Ok d)) where
  pub integer_part : c.at + integer_width ≤ d.at
  unfolding number_field
  integer_part = let t = taken exact_counted g in omega (arith, t.size)

  -- the bytes that are tested
  the_bytes : (v : Bytes) → left c ≡ (number_field 1 (length v) ++ v) ++ left d → take (d.at - (c.at + integer_width)) (drop (c.at + integer_width) c.s.now) ≡ v
  unfolding number_field
  the_bytes v b =
      let rest : drop (c.at + integer_width) c.s.now ≡ v ++ left d = sym (drop-drop integer_width c.at c.s.now) ∙ ap (drop integer_width) b in
      let n : length v ≡ d.at - (c.at + integer_width) = omega (arith, ap length b, length-append v (left d), length-drop c.at c.s.now, length-drop d.at d.s.now, d.in_bounds, same_length g.same) in
      ap (take (d.at - (c.at + integer_width))) rest ∙ take_at v _ _ n

  pub integer_shortest : shortest (take (d.at - (c.at + integer_width)) (drop (c.at + integer_width) c.s.now)) ≡ true → Reads integer mark c (Ok d)
  unfolding integer
  integer_shortest h = reads_then _ exact_counted g (λ v p b. reads_pass (ret v) malformed _ (ap shortest (sym (the_bytes v b)) ∙ h) (reads_ret v))

  pub integer_longer : {e : Refusal} → shortest (take (d.at - (c.at + integer_width)) (drop (c.at + integer_width) c.s.now)) ≡ false → e ≡ refusing NotOneRecord (place_at mark) → Reads integer mark c (Err e)
  unfolding integer fault_reason
  integer_longer h z = reads_then _ exact_counted g (λ v p b. reads_fail (ret v) malformed _ (ap shortest (sym (the_bytes v b)) ∙ h) z)
