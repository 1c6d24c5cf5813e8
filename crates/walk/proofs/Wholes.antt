-- A step's frame and answer on a part of memory, said of the whole; what an answer of a piece of a rule says; and what is answered of a record that is finished.
-- Assumes nothing.
use mathlib.Core.Path.{◌≡◌, refl, ◌∙◌, sym}
use mathlib.Core.Bool.{Bool, true, false}
use native.Mathlib.Omega.{arith}
use borrow.Author.Tests.{leb-true, leb-false}
use Prim.Native.Nat.{ℕ, ◌+◌, ◌-◌, ◌≤◌, ◌<◌}
use lib.Dec.{leb}
use lib.ListN.{length}
use Rattle.names.specs.Maps.{NameMap}
use Rattle.names.specs.Names.{Bytes}
use Rattle.names.specs.Segments.{At, SameOutside}
use Rattle.names.specs.declared.Refusal.{Refusal}
use Rattle.names.proofs.Frames.{same_wider}
use Rattle.names.proofs.Parts.{part, back, part_length, at_back, same_back}
use Rattle.records.specs.StepAnswer.{Outcome, gives, refuses, Gives, gave, refused}
use Rattle.records.specs.Records.{Body, body_bytes}
use Rattle.records.specs.declared.Step.{Step}
use Rattle.records.proofs.StepAnswers.{gives_back}
use Rattle.walk.specs.Arena.{MapAt, outcome}
use Rattle.walk.specs.Steps.{M, over_long, ◌>>=◌, step, body_size}
use Rattle.walk.specs.Walking.{Leads, led, stopped, Finishes}
use Rattle.walk.specs.declared.Piece.{Piece}
use Rattle.walk.proofs.MapLaws.{map_of_part, map_after}
use Rattle.walk.proofs.OnParts.{from, rejoin}
use Rattle.walk.proofs.RunLaws.{step_gives, step_over, step_refuses}
use Rattle.std.specs.declared.result.Result.{Result}
use Rattle.std.specs.declared.result.Result.TheVariants.{Err}
use Rattle.walk.specs.RuleAnswers.{piece_of}
use Rattle.walk.proofs.RuleAnswers.{piece_same}
use Rattle.records.specs.StepAnswer.{step_of}

-- the length of the part from a place on
pub from_length : (xs : Bytes) (a : ℕ) → a ≤ length xs → length (from xs a) ≡ length xs - a
from_length xs a le = part_length xs a (length xs - a) (omega arith)

-- a part of k bytes from a on, of which a step leaves all but what stands from q up to its last `len` bytes
module _ (xs : Bytes) (a k : ℕ) (le : a + k ≤ length xs) {y : Bytes} (q len : ℕ) (fit : q + len ≤ k) (s : SameOutside (part xs a k) y q (length (part xs a k) - len)) where
  pub cut_frame : SameOutside xs (back xs a k y) (a + q) (a + k - len)
  cut_frame =
      let l = part_length xs a k le in
      same_wider (a + q) (a + k - len) (omega arith) (omega arith) (same_back xs a k le s (omega arith) (omega arith))

  cut_size : length y ≡ k
  cut_size = s.size ∙ part_length xs a k le

  -- what it has written
  pub cut_at : {bs : Bytes} (p : ℕ) → a + q ≡ p → At y q bs → At (back xs a k y) p bs
  cut_at p e h = rw e at (at_back xs a k le y cut_size h)

  -- what it answers
  pub cut_gives : {A : Type 0} {f : A → Bytes} {n : ℕ} {o : Outcome A} {r : Result Step Refusal} (p : ℕ) → a + q ≡ p → Gives f y q n o r → Gives f (back xs a k y) p n o r
  cut_gives p e g = rw e at (gives_back xs a k le cut_size g)

  -- what a piece of a rule answers
  cut_leads : {A : Type 0} {f : A → Bytes} {Has : A → Type 0} {F n c x : ℕ} {run : M A} {r : Result Piece Refusal} (p : ℕ) → a + q ≡ p → Leads f Has F y q n run c x r → Leads f Has F (back xs a k y) p n run c x r
  cut_leads p e (led u c' x' h l w g o) = led u c' x' h l w g (cut_at p e o)
  cut_leads p e (stopped z w g) = stopped z w g

-- the part from a on to the end of memory
module _ (xs : Bytes) (a : ℕ) {y : Bytes} (q len : ℕ) (fit : a + q + len ≤ length xs) (s : SameOutside (from xs a) y q (length (from xs a) - len)) where
  pub whole_frame : SameOutside xs (rejoin xs a y) (a + q) (length xs - len)
  whole_frame = same_wider (a + q) (length xs - len) (omega arith) (omega arith) (cut_frame xs a (length xs - a) (omega arith) q len (omega arith) s)

  pub whole_at : {bs : Bytes} (p : ℕ) → a + q ≡ p → At y q bs → At (rejoin xs a y) p bs
  whole_at = cut_at xs a (length xs - a) (omega arith) q len (omega arith) s

  pub whole_gives : {A : Type 0} {f : A → Bytes} {n : ℕ} {o : Outcome A} {r : Result Step Refusal} (p : ℕ) → a + q ≡ p → Gives f y q n o r → Gives f (rejoin xs a y) p n o r
  whole_gives = cut_gives xs a (length xs - a) (omega arith) q len (omega arith) s

  pub whole_leads : {A : Type 0} {f : A → Bytes} {Has : A → Type 0} {F n c x : ℕ} {run : M A} {r : Result Piece Refusal} (p : ℕ) → a + q ≡ p → Leads f Has F y q n run c x r → Leads f Has F (rejoin xs a y) p n run c x r
  whole_leads = cut_leads xs a (length xs - a) (omega arith) q len (omega arith) s

-- a map in the part from a on, after a change below it
pub map_from : {old xs : Bytes} {lo hi len : ℕ} {m : NameMap} (a : ℕ) → SameOutside old xs lo hi → hi + len ≤ length old → a + len ≤ length old → MapAt old len m → MapAt (from xs a) len m
map_from a s le fit at = map_of_part a (omega (arith, s.size)) (map_after s le at)

-- what an answer `Took i w s d` of a piece says
pub record Led {A : Type 0} (f : A → Bytes) (Has : A → Type 0) (F : ℕ) (new : Bytes) (free n : ℕ) (run : M A) (c x i w s d : ℕ) : Type 0 where
  pub u : A
  pub has : Has u
  pub within : s ≤ F
  pub goes_on : (k : A → M Body) → outcome ((run >>= k) c x) ≡ outcome (k u d s)
  pub read : i ≡ n
  pub wrote : w ≡ length (f u)
  pub out : At new free (f u)

module _ {A : Type 0} {f : A → Bytes} {Has : A → Type 0} {F : ℕ} {new : Bytes} {free n : ℕ} {run : M A} {c x : ℕ} {r : Result Piece Refusal} where
  -- so an answer says
  pub took : (i w s d : ℕ) → r ≡ piece_of i w s d → Leads f Has F new free n run c x r → Led f Has F new free n run c x i w s d
  took i w s d e (led u c' x' h l g q o) =
      let same = piece_same (sym e ∙ q) in
      let a : c' ≡ d = sym same.3 in
      let b : x' ≡ s = sym same.2 in
      record { u = u; has = h; within = rw b at l; goes_on = λ k. rw (a, b) at (g k); read = same.0; wrote = same.1; out = o }
  took i w s d e (stopped z g q) = let y : ◌≡◌ {A = ℕ} 0 1 = cc in absurd (omega arith)

  -- and so a refusal
  pub halted : (z : Refusal) → r ≡ Err z → Leads f Has F new free n run c x r → (k : A → M Body) → outcome ((run >>= k) c x) ≡ refuses z
  halted z e (led u c' x' h l g q o) k = let y : ◌≡◌ {A = ℕ} 0 1 = cc in absurd (omega arith)
  halted z e (stopped y g q) k = let a : y ≡ z = cc in rw a at (g k)

-- equal answers of a piece
pub took_is : {a b c d x y z w : ℕ} → a ≡ x → b ≡ y → c ≡ z → d ≡ w → ◌≡◌ {A = Result Piece Refusal} (piece_of a b c d) (piece_of x y z w)
took_is p q r s = cc

-- a finished record
pub finished_as : {A : Type 0} (bytes : A → Bytes) {F : ℕ} {new : Bytes} {free n i j : ℕ} (run : M A) (c : ℕ) {u : A} {c' : ℕ} {r : Result Step Refusal} → Finishes i j F c' r → outcome (run c 0) ≡ gives u c' → i ≡ n
    → j ≡ length (bytes u) → At new free (bytes u) → Gives bytes new free n (outcome (step F (λ v. length (bytes v)) run c 0)) r
finished_as bytes {F} {new} {free} {n} {i} {j} run c {u} {c'} {r} q e ei ej a = go (leb j F) refl
  where
    go : (o : Bool) → leb j F ≡ o → Gives bytes new free n (outcome (step F (λ v. length (bytes v)) run c 0)) r
    go true t =
        let le : j ≤ F = leb-true _ _ t in
        let z : step_of i j c' ≡ step_of n (length (bytes u)) c' = cc (ei, ej) in
        gave u c' (step_gives F (λ v. length (bytes v)) run c 0 e (omega arith)) (q.fits le ∙ z) a
    go false t = let lt : F < j = leb-false _ _ t in refused over_long (step_over F (λ v. length (bytes v)) run c 0 e (omega arith)) (q.long (omega arith))

-- a refusal before that
pub refused_as : {A : Type 0} (bytes : A → Bytes) (F : ℕ) {new : Bytes} {free n : ℕ} (run : M A) (c : ℕ) {z : Refusal} {r : Result Step Refusal} → outcome (run c 0) ≡ refuses z → r ≡ Err z
    → Gives bytes new free n (outcome (step F (λ v. length (bytes v)) run c 0)) r
refused_as bytes F run c {z} e q = refused z (step_refuses F (λ v. length (bytes v)) run c 0 e) q

-- the same of a body
pub finished_gives : {F : ℕ} {new : Bytes} {free n i j : ℕ} (run : M Body) (c : ℕ) {u : Body} {c' : ℕ} {r : Result Step Refusal} → Finishes i j F c' r → outcome (run c 0) ≡ gives u c' → i ≡ n → j ≡ length (body_bytes u)
    → At new free (body_bytes u) → Gives body_bytes new free n (outcome (step F body_size run c 0)) r
unfolding body_size
finished_gives = finished_as body_bytes

pub refused_gives : (F : ℕ) {new : Bytes} {free n : ℕ} (run : M Body) (c : ℕ) {z : Refusal} {r : Result Step Refusal} → outcome (run c 0) ≡ refuses z → r ≡ Err z → Gives body_bytes new free n (outcome (step F body_size run c 0)) r
unfolding body_size
refused_gives = refused_as body_bytes
