-- What the tests of a case decide: what stands at a place, a step and how far names are drawn. Assumes nothing.
use mathlib.Core.Bool.{Bool}
use mathlib.Core.Path.{◌≡◌, refl, sym, ap, ◌∙◌}
use native.Mathlib.Omega.{arith}
use Prim.Native.Nat.{ℕ, ◌-◌, ◌≤◌}
use lib.ListN.{length, take, drop, length-drop, length-replicate, length-take}
use lib.Seq.{length-take-le}
use Rattle.names.specs.Names.{Bytes, same}
use Rattle.names.specs.declared.Refusal.{Refusal}
use Rattle.names.specs.Segments.{At}
use Rattle.records.specs.Records.{Sexp, sexp_bytes}
use Rattle.records.specs.StepAnswer.{Outcome, Gives, gave, refused}
use Rattle.records.specs.declared.Step.{Step}
use Rattle.replays.proofs.Deciding.{decides_as, decides_same}
use Rattle.replays.specs.Judging.{Decides, filling}
use Rattle.replay_sexps.specs.Cases.{Holds, due_step, Tells}
use Rattle.std.specs.declared.result.Result.{Result}
use Rattle.std.specs.declared.result.Result.TheVariants.{Ok, Err}
use Rattle.records.specs.StepAnswer.{step_of}
use Rattle.records.proofs.StepAnswers.{step_same}

-- a test of the bytes at a place
pub decides_at : {t : Bool} (xs : Bytes) (p : ℕ) (bs : Bytes) → p ≤ length xs → t ≡ same (take (length bs) (drop p xs)) bs → Decides t (At xs p bs)
decides_at xs p bs le e =
    decides_as
    (λ q. record { fits = omega (arith, ap length q, length-take (length bs) (drop p xs), length-drop p xs); there = q })
    (λ h. h.there)
    (rw e (decides_same (take (length bs) (drop p xs)) bs))

-- a test of all between two places
pub decides_between : {t : Bool} (xs : Bytes) (a b : ℕ) → a ≤ b → b ≤ length xs
    → Decides t (take (b - a) (drop a xs) ≡ filling (length (take (b - a) (drop a xs)))) → Decides t (At xs a (filling (b - a)))
decides_between xs a b le fits d =
    let l : length (take (b - a) (drop a xs)) ≡ b - a = length-take-le (b - a) (drop a xs) (omega (arith, length-drop a xs)) in
    let n : length (filling (b - a)) ≡ b - a = length-replicate (b - a) 7 in
    decides_as
    (λ q. record { fits = omega arith; there = ap (λ (k : ℕ). take k (drop a xs)) n ∙ q ∙ ap filling l })
    (λ h. sym (ap (λ (k : ℕ). take k (drop a xs)) n) ∙ h.there ∙ sym (ap filling l))
    d

-- a test of all that memory must hold, where the input stands at its front and the map at its end
pub decides_held : {t : Bool} (mem input map : Bytes) (a b : ℕ) → length map ≤ length mem → b ≡ length mem - length map → a ≤ b
    → At mem 0 input → At mem b map → Decides t (take (b - a) (drop a mem) ≡ filling (length (take (b - a) (drop a mem)))) → Decides t (Holds mem input a map)
decides_held mem input map a b le e within front end d =
    let top = length mem - length map in
    decides_as
    (λ h. record { fits = omega arith; front = front; between = h; end = rw (← e) end })
    (λ h. h.between)
    (decides_between mem a top (omega arith) (omega arith) (rw (← e) d))

-- the step of a case
module _ (read wrote c : ℕ) {step : Result Step Refusal} where
  -- what a step that is that of a case tells
  pub done_parts : (due : Result (Unit {0}) Refusal) {r w k : ℕ} → step ≡ step_of r w k → step ≡ due_step due read wrote c
      → (due ≡ Ok tt) × (r ≡ read) × (w ≡ wrote) × (k ≡ c)
  done_parts (Ok u) s d = let p = step_same (sym s ∙ d) in (refl, p.0, p.1, p.2)
  done_parts (Err r) s d = let z : ◌≡◌ {A = ℕ} 0 1 = cc in absurd (omega arith)

  pub refused_is : (due : Result (Unit {0}) Refusal) {r : Refusal} → step ≡ Err r → step ≡ due_step due read wrote c → due ≡ Err r
  refused_is (Ok u) s d = let z : ◌≡◌ {A = ℕ} 0 1 = cc in absurd (omega arith)
  refused_is (Err r) s d = cc

-- a step that is that of a case, with the wanted bytes where its result goes: the case tells the outcome
pub step_tells : (due : Result (Unit {0}) Refusal) (read after n : ℕ) (wanted mem : Bytes) {k : ℕ} {o : Outcome Sexp} {step : Result Step Refusal} → Gives sexp_bytes mem n k o step
    → step ≡ due_step due read (length wanted) after → take (length wanted) (drop n mem) ≡ wanted → Tells due after wanted o
step_tells due read after n wanted mem (gave u c e s at) d w =
    let p = done_parts read (length wanted) after due s d in
    rw e (p.0, p.3, sym at.there ∙ ap (λ (k : ℕ). take k (drop n mem)) p.2 ∙ w)
step_tells due read after n wanted mem (refused k e s) d w =
    rw e (refused_is read (length wanted) after due s d)
