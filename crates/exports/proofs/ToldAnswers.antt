-- The answers of the linked functions. Assumes nothing.
use mathlib.Core.Path.{◌≡◌, refl, sym, subst}
use mathlib.Core.List.{List}
use Rattle.std.specs.Prelude.{Option, None, Some, Err}
use Prim.Native.Nat.{ℕ, zero, suc}
use Rattle.names.specs.CallAnswer.{CallResult}
use Rattle.names.specs.Names.{Bytes}
use Rattle.names.specs.Refusals.{placeless, reason_number, reason_of, refusal_number, refusal_place}
use Rattle.names.specs.declared.Answer.{Answer}
use Rattle.names.specs.declared.Reason.{Reason}
use Rattle.names.specs.declared.Reason.TheVariants.{OutOfRange, NotOneRecord, PastLimit, ModInBinding, Deadlock, LongName, LongRecord, ShortBuffer, ShortPage}
use Rattle.names.specs.declared.Refusal.{Refusal}
use Rattle.exports.specs.Linked.{Told, Answers, answer_in, refusal_by, refusal_in, read_call}

-- a reason has a number, and no other reason has it
of_number : (r : Reason) → reason_of (reason_number r) ≡ Some r
of_number OutOfRange = refl
of_number NotOneRecord = refl
of_number PastLimit = refl
of_number ModInBinding = refl
of_number Deadlock = refl
of_number LongName = refl
of_number LongRecord = refl
of_number ShortBuffer = refl
of_number ShortPage = refl

told_by : (r : Option Refusal) → refusal_by (reason_of (refusal_number r)) (refusal_place r).start ≡ r
told_by None = refl
told_by (Some r) = rw (of_number r.reason) refl

-- an answer is the one that is told
pub told_is : {n : ℕ} {told : List ℕ} (a : Answer) → Told a n told → answer_in n told ≡ a
told_is a t = rw (t.number, t.others, told_by a.refusal) refl

-- a call's answer that is told is the linked function's
pub handed : {a : Answer} {after : Bytes} {r : CallResult} {n : ℕ} {told : List ℕ} → (a, after) ≡ r → Told a n told → Answers r n told after
handed {a} {after} {n = n} {told = told} e t = subst (λ (x : CallResult). Answers x n told after) e (record { tells = t; buffer = refl })

-- so what holds of an answer's refusal holds of it as told
pub told_refusal : {n : ℕ} {told : List ℕ} (Holds : Option Refusal → Type 0) (a : Answer) → Told a n told → Holds a.refusal → Holds (refusal_in n told)
told_refusal Holds a t p = subst (λ (x : Answer). Holds x.refusal) (sym (told_is a t)) p

-- every other kind is refused
pub other_kind : (k F : ℕ) (input : Bytes) → (k ≡ 0 → ⊥) → (k ≡ 1 → ⊥) → (k ≡ 2 → ⊥) → Err (placeless OutOfRange) ≡ read_call k F input
unfolding read_call
other_kind zero F input p q s = absurd (p refl)
other_kind (suc zero) F input p q s = absurd (q refl)
other_kind (suc (suc zero)) F input p q s = absurd (s refl)
other_kind (suc (suc (suc k))) F input p q s = refl
