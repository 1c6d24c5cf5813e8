-- A call that is refused before any work is refused by one of 1 to 4, and of 1 to 3 where a BM may stand anywhere; and what is known of an input that is opened.
-- Assumes nothing.
use mathlib.Core.Path.{◌≡◌, refl}
use mathlib.Core.Bool.{Bool, true, false, ◌&&◌}
use Rattle.std.specs.Prelude.{Option, None, Some}
use Prim.Native.Nat.{ℕ, ◌*◌, ◌≤◌, ◌<◌}
use native.Mathlib.Omega.{arith}
use lib.Dec.{T, leb, leb→le}
use lib.ListN.{length}
use Rattle.names.specs.Names.{Bytes}
use Rattle.names.specs.Refusals.{place_at, no_place, refusing, placeless, reason_number}
use Rattle.names.specs.declared.Reason.{Reason}
use Rattle.names.specs.declared.Reason.TheVariants.{OutOfRange, NotOneRecord, PastLimit}
use Rattle.names.specs.declared.Place.{Place}
use Rattle.names.specs.CallAnswer.{max_counter}
use Rattle.names.proofs.Same.{T-left, T-right}
use Rattle.records.specs.Opened.{Opened, opened, closed, limits, no_mod, any_mod, open_by, read_input, open_input}
use Rattle.records.proofs.Readers.{T_of}
use Rattle.records.specs.Limits.{least_longest, most_longest, work_factor}
use Rattle.records.specs.Read.{Whole, whole, unread, read_whole}
use Rattle.records.specs.ReadFields.{Reader, malformed, over_limit, fault_reason}

-- the limits hold, and the input is read whole
pub record OpenedFrom {A : Type 0} (reader : Reader A) (F c : ℕ) (input : Bytes) (a : A) : Type 0 where
  pub longest : F ≤ most_longest
  pub counter : c ≤ max_counter
  pub size : length input ≤ F
  pub read : read_whole reader input ≡ whole a None

-- F, work memory and counter of a call within its limits
module _ (F work c : ℕ) where
  -- the tests of F and work memory, and of the counter
  tested : limits F work c ≡ true → T (leb least_longest F && leb F most_longest && leb (work_factor * F) work) × T (leb c max_counter)
  unfolding limits
  tested e =
      let others = leb least_longest F && leb F most_longest && leb (work_factor * F) work in
      let t : T (others && leb c max_counter) = rw e tt in
      (T-left others (leb c max_counter) t, T-right others (leb c max_counter) t)

  pub within_limits : limits F work c ≡ true → (F ≤ most_longest) × (c ≤ max_counter)
  within_limits e =
      let (t, k) = tested e in
      let u = T-left (leb least_longest F && leb F most_longest) (leb (work_factor * F) work) t in
      (leb→le F most_longest (T-right (leb least_longest F) (leb F most_longest) u), leb→le c max_counter k)

  pub work_within : limits F work c ≡ true → work_factor * F ≤ work
  work_within e = leb→le (work_factor * F) work (T-right (leb least_longest F && leb F most_longest) (leb (work_factor * F) work) (tested e).0)

module _ {A : Type 0} (reader : Reader A) (F work c : ℕ) (input : Bytes) where
  -- the limits hold, the input is not longer than F, and it is read whole as a, with x as the first BM noted
  pub record ReadAs (a : A) (x : Option ℕ) : Type 0 where
    pub within : limits F work c ≡ true
    pub size : length input ≤ F
    pub read : read_whole reader input ≡ whole a x

  -- an input is refused with 1 or 3 before reading, or its reading is judged
  by_open : (X : Opened A → Type 0) (judged : Whole A → Opened A) → X (closed (placeless OutOfRange)) → X (closed (placeless PastLimit))
      → (limits F work c ≡ true → length input ≤ F → X (judged (read_whole reader input))) → X (open_by judged reader F work c input)
  unfolding open_by
  by_open X judged one three read = by_limits (limits F work c) refl
    where
      by_length : limits F work c ≡ true → (b : Bool) → leb (length input) F ≡ b
          → X (elim b as (λ _. Opened A) [ false ↦ closed (placeless PastLimit) | true ↦ judged (read_whole reader input) ])
      by_length l true e = read l (leb→le (length input) F (T_of e))
      by_length l false e = three

      by_limits : (b : Bool) → limits F work c ≡ b
          → X (elim b as (λ _. Opened A) [
            | false ↦ closed (placeless OutOfRange)
            | true ↦ elim (leb (length input) F) [ false ↦ closed (placeless PastLimit) | true ↦ judged (read_whole reader input) ]
          ])
      by_limits true e = by_length e (leb (length input) F) refl
      by_limits false e = one

  -- what an input that is read has passed, wherever a BM stands
  abbrev pub ReadThrough : Opened A → Type 0
  ReadThrough (opened a) = (x : Option ℕ) × ReadAs a x
  ReadThrough (closed r) = (1 ≤ reason_number r.reason) × (reason_number r.reason ≤ 3)

  pub read_through : ReadThrough (read_input reader F work c input)
  unfolding any_mod fault_reason
  read_through = by_open ReadThrough any_mod (omega arith, omega arith) (omega arith, omega arith) (λ l k. judged l k (read_whole reader input) refl)
    where
      judged : limits F work c ≡ true → length input ≤ F → (w : Whole A) → read_whole reader input ≡ w → ReadThrough (any_mod w)
      judged l k (whole a x) e = (x, record { within = l; size = k; read = e })
      judged l k (unread malformed p) e = (omega arith, omega arith)
      judged l k (unread over_limit p) e = (omega arith, omega arith)

  -- what an input that is opened has passed, and one that is refused with 4
  abbrev pub Through : Opened A → Type 0
  Through (opened a) = ReadAs a None
  Through (closed r) = (1 ≤ reason_number r.reason) × (reason_number r.reason ≤ 4) × (reason_number r.reason ≡ 4 → (a : A) × (p : ℕ) × ReadAs a (Some p) × (r.place ≡ place_at p))

  -- a refusal by another number
  by_other : (n : Reason) (p : Place) → 1 ≤ reason_number n → reason_number n < 4 → Through (closed (refusing n p))
  by_other n p l h = (l, omega arith, λ e. absurd (omega arith))

  by_read : limits F work c ≡ true → length input ≤ F → (w : Whole A) → read_whole reader input ≡ w → Through (no_mod w)
  unfolding no_mod fault_reason
  by_read l k (whole a None) e = record { within = l; size = k; read = e }
  by_read l k (whole a (Some p)) e = (omega arith, omega arith, λ _. (a, p, record { within = l; size = k; read = e }, refl))
  by_read l k (unread malformed p) e = by_other NotOneRecord p (omega arith) (omega arith)
  by_read l k (unread over_limit p) e = by_other PastLimit p (omega arith) (omega arith)

  pub through : Through (open_input reader F work c input)
  through =
      by_open Through no_mod (by_other OutOfRange no_place (omega arith) (omega arith)) (by_other PastLimit no_place (omega arith) (omega arith)) (λ l k. by_read l k (read_whole reader input) refl)

  -- what is known before any work
  abbrev pub Start : Opened A → Type 0
  Start (opened a) = OpenedFrom reader F c input a
  Start (closed r) = (1 ≤ reason_number r.reason) × (reason_number r.reason ≤ 4)

  pub start : Start (open_input reader F work c input)
  start = go (open_input reader F work c input) through
    where
      go : (o : Opened A) → Through o → Start o
      go (opened a) h = let l = within_limits F work c h.within in record { longest = l.0; counter = l.1; size = h.size; read = h.read }
      go (closed r) h = (h.0, h.1)
