-- One reader after another, as a chain of `?` runs them: the first refusal is the refusal of all. Assumes nothing.
use mathlib.Core.Path.{◌≡◌}
use mathlib.Core.List.{[]}
use Prim.Native.Nat.{ℕ, ◌≤◌}
use native.Mathlib.Omega.{arith}
use lib.ListN.{get_or}
use Rattle.std.specs.Prelude.{Result, Ok, Err, IsErrAnd}
use Rattle.names.specs.Names.{Bytes}
use Rattle.names.specs.declared.Refusal.{Refusal}
use Rattle.records.specs.declared.Scan.{Scan}
use Rattle.records.specs.Records.{byte}
use Rattle.records.specs.Read.{Context}
use Rattle.records.specs.ReadFields.{Reader, ◌>>=◌}
use Rattle.records.specs.Scan.{AnyReader, Comes, Reads, Goes}
use Rattle.records.proofs.Exact.{Exact}
use Rattle.records.proofs.Scans.{comes_of, comes_bind, comes_stop}
use Rattle.records.proofs.FieldLaws.{comes_byte}

-- R of what one reader comes to, and then: K of where it has come to, or its refusal is that of r
pub data Step (R : Result Scan Refusal → Type 0) (K : Scan → Type 0) (r : Result Scan Refusal) : Type 0 where
  past : {d : Scan} → R (Ok d) → K d → Step R K r
  stop : {e : Refusal} → R (Err e) → IsErrAnd r (λ y. y ≡ e) → Step R K r

-- a field, and then K; a record, and then K
abbrev pub Field : {A : Type 0} → Reader A → ℕ → Scan → Result Scan Refusal → (Scan → Type 0) → Type 0
Field m mark c r K = Step (Reads m mark c) K r

abbrev pub Child : (ℕ → AnyReader) → Context → Scan → Result Scan Refusal → (Scan → Type 0) → Type 0
Child m x c r K = Step (Goes m x c) K r

module _ {A B : Type 0} {P : A → Type 0} {f : A → Bytes} {m : Reader A} {k : A → Reader B} {x : Context} {c : Scan} {r : Result Scan Refusal} {K : Scan → Type 0} where
  comes_step : {R : Result Scan Refusal → Type 0} → Exact P f [] m → ((q : Result Scan Refusal) → R q → Comes m x c q) → Step R K r
      → ((a : A) (d : Scan) → K d → Comes (k a) x d r) → Comes (m >>= k) x c r
  comes_step e g (past h n) t = comes_bind k e (g _ h) (λ a. t a _ n)
  comes_step e g (stop h z) t = comes_stop k (g _ h) z

  pub field : {mark : ℕ} → x.mark ≡ mark → Exact P f [] m → Field m mark c r K → ((a : A) (d : Scan) → K d → Comes (k a) x d r) → Comes (m >>= k) x c r
  field q e h t = comes_step e (λ v g. comes_of g x q) h t

-- a byte, by its place, and then what depends on it
module _ {B : Type 0} {P : ℕ → Type 0} {m : Reader ℕ} (k : ℕ → Reader B) {x : Context} {c : Scan} {r : Result Scan Refusal} {K : Scan → Type 0} where
  pub byte_field : {mark : ℕ} → x.mark ≡ mark → Exact P byte [] m → Field m mark c r K → ((d : Scan) → K d → Comes (k (get_or c.s.now c.at 0)) x d r) → Comes (m >>= k) x c r
  byte_field q e (past h n) t = comes_byte e (comes_of h x q) k (t _ n)
  byte_field q e (stop h z) t = comes_stop k (comes_of h x q) z

-- what is so for every fuel
pub goes_of : {m : ℕ → AnyReader} {x : Context} {c : Scan} {r : Result Scan Refusal} → ((fuel : ℕ) → x.room ≤ fuel → Comes (m fuel).1 x c r) → Goes m x c r
goes_of {x} h = record { enough = h; same = (h x.room (omega arith)).same }

module _ {B : Type 0} {m : ℕ → AnyReader} {x : Context} {c : Scan} {r : Result Scan Refusal} {K : Scan → Type 0} where
  pub child : (fuel : ℕ) {P : (m fuel).0 → Type 0} {f : (m fuel).0 → Bytes} {k : (m fuel).0 → Reader B} → x.room ≤ fuel → Exact P f [] (m fuel).1 → Child m x c r K
      → ((a : (m fuel).0) (d : Scan) → K d → Comes (k a) x d r) → Comes ((m fuel).1 >>= k) x c r
  child fuel u e h t = comes_step e (λ v g. g.enough fuel u) h t
