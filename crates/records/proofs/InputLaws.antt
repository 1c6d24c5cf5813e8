-- A whole input in the form in which the code meets it: its limits, and what its reading comes to. Assumes nothing.
use mathlib.Core.Path.{◌≡◌, refl, ap, sym, ◌∙◌}
use mathlib.Core.Bool.{Bool, true, false, ◌&&◌}
use mathlib.Core.List.{[], ◌∷◌}
use Rattle.std.specs.Prelude.{Option, None, Some, Result, Ok, Err, IsErrAnd}
use Rattle.std.specs.Borrow.{Bor}
use Prim.Native.Nat.{ℕ, ◌+◌, ◌*◌, ◌≤◌, ◌<◌}
use native.Mathlib.Omega.{arith}
use lib.Dec.{leb}
use lib.ListN.{length, length-drop}
use borrow.Author.Tests.{le-leb, lt-leb}
use Rattle.names.specs.Names.{Bytes}
use Rattle.names.specs.Refusals.{place_at, refusing, placeless}
use Rattle.names.specs.declared.Reason.TheVariants.{OutOfRange, NotOneRecord, PastLimit, ModInBinding}
use Rattle.names.specs.declared.Refusal.{Refusal}
use Rattle.names.specs.CallAnswer.{max_counter}
use Rattle.records.specs.declared.Wanted.{Wanted}
use Rattle.records.specs.declared.Wanted.TheVariants.{Form as a_whole_form, Helper as a_single_helper, Assign as an_assign}
use Rattle.records.specs.declared.Scan.{Scan}
use Rattle.records.specs.Limits.{level_limit, least_longest, most_longest, work_factor}
use Rattle.records.specs.Records.{body_bytes, helper_bytes, form_bytes}
use Rattle.records.specs.Opened.{Opened, opened, closed, limits, no_mod, any_mod, open_by, read_input, open_input}
use Rattle.records.specs.Read.{Whole, whole, unread, left_over, outermost, from_first, read_whole}
use Rattle.records.specs.ReadFields.{Input, Read, done, refused, fault_reason, Reader}
use Rattle.records.specs.Scan.{left_by, input_at, starts, first_of, kept_of, opening_of, wanted_reader, Comes}
use Rattle.records.proofs.Readers.{Any}
use Rattle.records.proofs.Exact.{Exact, exact_readers, exact_assign_of}
use Rattle.records.proofs.Scans.{left, same_err, same_length, Took, took}

-- F, work memory and counter, one test after the other
module _ (F work c : ℕ) where
  pub limits_least : F < least_longest → false ≡ limits F work c
  unfolding limits
  limits_least h = rw (lt-leb least_longest F h)

  pub limits_most : most_longest < F → false ≡ limits F work c
  unfolding limits
  limits_most h = rw (lt-leb F most_longest h) (go (leb least_longest F))
    where
      go : (a : Bool) → false ≡ (a && false && leb (work_factor * F) work && leb c max_counter)
      go true = refl
      go false = refl

  pub limits_work : work < work_factor * F → false ≡ limits F work c
  unfolding limits
  limits_work h = rw (lt-leb (work_factor * F) work h) (go (leb least_longest F && leb F most_longest))
    where
      go : (a : Bool) → false ≡ (a && false && leb c max_counter)
      go true = refl
      go false = refl

  pub limits_counter : least_longest ≤ F → F ≤ most_longest → work_factor * F ≤ work → leb c max_counter ≡ limits F work c
  unfolding limits
  limits_counter a b d = rw (le-leb least_longest F a, le-leb F most_longest b, le-leb (work_factor * F) work d)

-- a whole input, judged by its first BM alone
module _ {A : Type 0} (m : Reader A) (F work c : ℕ) (input : Bytes) where
  pub open_limits : {e : Refusal} → false ≡ limits F work c → e ≡ placeless OutOfRange → Err e ≡ kept_of (open_by first_of m F work c input)
  unfolding open_by
  open_limits h z = rw (z, ← h, open_by) refl

  pub open_long : {e : Refusal} → true ≡ limits F work c → F < length input → e ≡ placeless PastLimit → Err e ≡ kept_of (open_by first_of m F work c input)
  unfolding open_by
  open_long h l z = rw (z, ← h, lt-leb (length input) F l, open_by) refl

-- an input s within its limits
module _ {A : Type 0} (m : Reader A) (F work c : ℕ) (s : Bor Bytes) (h : true ≡ limits F work c) (l : length s.now ≤ F) where
  read_it : open_by first_of m F work c s.now ≡ first_of (read_whole m s.now)
  unfolding open_by
  read_it = rw (← h, le-leb (length s.now) F l, open_by)

  pub open_refused : {e : Refusal} {r : Result (Option ℕ) Refusal} → Comes m outermost (starts s None) (Err e) → IsErrAnd r (λ y. y ≡ e) → r ≡ kept_of (open_by first_of m F work c s.now)
  unfolding left_by input_at read_whole first_of
  open_refused {e} g z = same_err z ∙ go (m outermost (from_first s.now)) refl g.there
    where
      go : (o : Read A) → m outermost (from_first s.now) ≡ o → ◌≡◌ {A = Result Input Refusal} (Err e) (left_by o) → Err e ≡ kept_of (open_by first_of m F work c s.now)
      go (done a i) q w = absurd (let z : ◌≡◌ {A = ℕ} 0 1 = cc in omega arith)
      go (refused n p) q w =
          let unread_there : read_whole m s.now ≡ unread n p = rw (q, read_whole) in
          let same : e ≡ refusing (fault_reason n) p = cc in
          ap Err same ∙ sym (ap kept_of (read_it ∙ ap first_of unread_there))

  module _ {P : A → Type 0} {f : A → Bytes} {d : Scan} (e : Exact P f [] m) (g : Comes m outermost (starts s None) (Ok d)) where
    -- what is left over decides
    read_as : (t : Took P f m outermost (starts s None) d) → open_by first_of m F work c s.now ≡ first_of (left_over t.value (input_at 0 d))
    unfolding read_whole input_at
    read_as t = rw (read_it, t.ran, read_whole) refl

    bytes_left : length s.now ≡ d.at + length (left d)
    bytes_left = omega (arith, length-drop d.at d.s.now, d.in_bounds, same_length g.same)

    pub open_left : {e : Refusal} → d.at < length s.now → e ≡ refusing NotOneRecord (place_at d.at) → Err e ≡ kept_of (open_by first_of m F work c s.now)
    unfolding left_over fault_reason input_at first_of
    open_left b z = let t = took e g in ap Err z ∙ sym (ap kept_of (read_as t ∙ over t.value (left d) refl))
      where
        over : (a : A) (k : Bytes) → left d ≡ k → first_of (left_over a (input_at 0 d)) ≡ closed (refusing NotOneRecord (place_at d.at))
        over a [] q = absurd (omega (arith, ap length q, bytes_left))
        over a (x ∷ xs) q = let n : 0 + d.at ≡ d.at = omega arith in rw (q, left_over) (ap (λ (k : ℕ). closed (refusing NotOneRecord (place_at k))) n)

    pub open_read : length s.now ≤ d.at → Ok d.first ≡ kept_of (open_by first_of m F work c s.now)
    unfolding left_over input_at first_of
    open_read b = let t = took e g in sym (ap kept_of (read_as t ∙ over t.value (left d) refl))
      where
        over : (a : A) (k : Bytes) → left d ≡ k → first_of (left_over a (input_at 0 d)) ≡ opened d.first
        over a [] q = rw (q, left_over) refl
        over a (x ∷ xs) q = absurd (omega (arith, ap length q, bytes_left))

-- the code's answer from the first BM, where a BM may stand anywhere, and where it may not stand in a binding body of an assign
abbrev pub from_any : Result (Option ℕ) Refusal → Result (Unit {0}) Refusal
from_any (Ok o) = Ok tt
from_any (Err e) = Err e

abbrev pub from_first_mod : Result (Option ℕ) Refusal → Result (Unit {0}) Refusal
from_first_mod (Ok None) = Ok tt
from_first_mod (Ok (Some p)) = Err (refusing ModInBinding (place_at p))
from_first_mod (Err e) = Err e

-- a call's answer, from that of the first BM
module _ {A : Type 0} (m : Reader A) (F work c : ℕ) (input : Bytes) where
  opening_by : (by : Whole A → Opened A) (g : Result (Option ℕ) Refusal → Result (Unit {0}) Refusal) → ((e : Refusal) → g (Err e) ≡ Err e) → ((w : Whole A) → g (kept_of (first_of w)) ≡ opening_of (by w))
      → g (kept_of (open_by first_of m F work c input)) ≡ opening_of (open_by by m F work c input)
  unfolding open_by
  opening_by by g one all = by_limits (limits F work c)
    where
      by_length : (b : Bool) → g (kept_of (elim b as (λ _. Opened (Option ℕ)) [ false ↦ closed (placeless PastLimit) | true ↦ first_of (read_whole m input) ]))
          ≡ opening_of (elim b as (λ _. Opened A) [ false ↦ closed (placeless PastLimit) | true ↦ by (read_whole m input) ])
      by_length true = all (read_whole m input)
      by_length false = one (placeless PastLimit)

      by_limits : (b : Bool) → g (kept_of (elim b as (λ _. Opened (Option ℕ)) [
        | false ↦ closed (placeless OutOfRange)
        | true ↦ elim (leb (length input) F) [ false ↦ closed (placeless PastLimit) | true ↦ first_of (read_whole m input) ]
      ]))
          ≡ opening_of (elim b as (λ _. Opened A) [
            | false ↦ closed (placeless OutOfRange)
            | true ↦ elim (leb (length input) F) [ false ↦ closed (placeless PastLimit) | true ↦ by (read_whole m input) ]
          ])
      by_limits true = by_length (leb (length input) F)
      by_limits false = one (placeless OutOfRange)

  pub opening_any : from_any (kept_of (open_by first_of m F work c input)) ≡ opening_of (read_input m F work c input)
  unfolding any_mod first_of
  opening_any = opening_by any_mod from_any (λ e. refl) by_whole
    where
      by_whole : (w : Whole A) → from_any (kept_of (first_of w)) ≡ opening_of (any_mod w)
      by_whole (whole a o) = refl
      by_whole (unread f p) = refl

  pub opening_no_mod : from_first_mod (kept_of (open_by first_of m F work c input)) ≡ opening_of (open_input m F work c input)
  unfolding no_mod first_of
  opening_no_mod = opening_by no_mod from_first_mod (λ e. refl) by_whole
    where
      by_whole : (w : Whole A) → from_first_mod (kept_of (first_of w)) ≡ opening_of (no_mod w)
      by_whole (whole a None) = refl
      by_whole (whole a (Some p)) = refl
      by_whole (unread f p) = refl

-- the answer says whether an input is opened or refused
module _ {A : Type 0} where
  pub is_opened : (o : Opened A) → opening_of o ≡ Ok tt → (a : A) × (o ≡ opened a)
  is_opened (opened a) e = (a, refl)
  is_opened (closed r) e = let no : ◌≡◌ {A = ℕ} 0 1 = cc in absurd (omega (arith, no))

  pub is_closed : (o : Opened A) (r : Refusal) → opening_of o ≡ Err r → o ≡ closed r
  is_closed (opened a) r e = let no : ◌≡◌ {A = ℕ} 0 1 = cc in absurd (omega (arith, no))
  is_closed (closed q) r e = let same : q ≡ r = cc in ap closed same

-- the reader that a call wants
pub wanted_bytes : (w : Wanted) → (wanted_reader w).0 → Bytes
wanted_bytes a_whole_form = form_bytes
wanted_bytes a_single_helper = helper_bytes
wanted_bytes an_assign = body_bytes

pub exact_wanted : (w : Wanted) → Exact Any (wanted_bytes w) [] (wanted_reader w).1
unfolding wanted_bytes
exact_wanted a_whole_form = (exact_readers level_limit).form
exact_wanted a_single_helper = (exact_readers level_limit).helper
exact_wanted an_assign = exact_assign_of
