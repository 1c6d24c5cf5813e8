-- Contexts in the form in which the code meets them: levels, zones, BF, and a BM that is noted. Assumes nothing.
use mathlib.Core.Path.{◌≡◌, refl, ap, sym, ◌∙◌}
use Prim.Native.Nat.{ℕ, zero, suc, ◌+◌, ◌≤◌, ◌<◌}
use borrow.Author.Tests.{le-leb, lt-leb}
use Rattle.names.specs.Names.{Bytes}
use Rattle.names.specs.Refusals.{place_at, refusing}
use Rattle.names.specs.declared.Reason.TheVariants.{PastLimit}
use Rattle.names.specs.declared.Refusal.{Refusal}
use Rattle.std.specs.Prelude.{Option, None, Some, Result, Ok, Err}
use Rattle.std.specs.Option.{option_or}
use Rattle.records.specs.declared.Scan.{Scan}
use Rattle.records.specs.declared.Kind.{Kind}
use Rattle.records.specs.declared.Kind.TheVariants.{Assign}
use Rattle.records.specs.Read.{Zone, Plain, InBinding, InMod, Context, in_bindings, kind_of, binding_zone, note, noted}
use Rattle.records.specs.ReadFields.{Input, refused, Reader, over_limit, fault_reason, deeper, in_lambda, in_zone}
use Rattle.records.specs.Scan.{left_by, input_at, answer_at, below, below_lambda, in_zone_of, Comes}
use Rattle.records.proofs.Scans.{left, input}

-- every kind byte but 0 and 1 is an assign's
pub other_kind : (k : ℕ) → (k ≡ 0 → ⊥) → (k ≡ 1 → ⊥) → Assign ≡ kind_of k
unfolding kind_of
other_kind zero p q = absurd (p refl)
other_kind (suc zero) p q = absurd (q refl)
other_kind (suc (suc k)) p q = refl

module _ {A : Type 0} {m : Reader A} {x : Context} {c : Scan} where
  -- the same scan from another context of the same mark
  moved : {r : Result Scan Refusal} (n : Reader A) (y : Context) → y.mark ≡ x.mark → ((i : Input) → n x i ≡ m y i) → Comes m y c r → Comes n x c r
  unfolding input_at
  moved {r} n y q e h = record {
    there = ap (λ (k : ℕ). answer_at k r) (sym q) ∙ h.there ∙ ap (λ (k : ℕ). left_by (m y (input_at k c))) q ∙ sym (ap left_by (e (input_at x.mark c)));
    same = h.same;
  }

  pub comes_deeper : {r : Result Scan Refusal} (n : ℕ) → n ≤ x.room → Comes m (below n x) c r → Comes (deeper n m) x c r
  unfolding deeper
  comes_deeper n l h = moved (deeper n m) (below n x) refl (λ i. rw (le-leb n x.room l, deeper)) h

  pub comes_in_lambda : {r : Result Scan Refusal} → 1 ≤ x.lambdas → Comes m (below_lambda x) c r → Comes (in_lambda m) x c r
  unfolding in_lambda
  comes_in_lambda l h = moved (in_lambda m) (below_lambda x) refl (λ i. rw (le-leb 1 x.lambdas l, in_lambda)) h

  pub comes_in_zone : {r : Result Scan Refusal} {z : Zone} → Comes m (in_zone_of z x) c r → Comes (in_zone z m) x c r
  unfolding in_zone
  comes_in_zone {z} h = moved (in_zone z m) (in_zone_of z x) refl (λ i. refl) h

  pub comes_in_bindings : {r : Result Scan Refusal} (k : Kind) → Comes m (in_zone_of (binding_zone k x.zone) x) c r → Comes (in_bindings k m) x c r
  unfolding in_bindings in_zone
  comes_in_bindings k h = moved (in_bindings k m) (in_zone_of (binding_zone k x.zone) x) refl (λ i. refl) h

-- a limit that is reached
module _ {A : Type 0} (m : Reader A) {x : Context} {c : Scan} {e : Refusal} (z : e ≡ refusing PastLimit (place_at x.mark)) where
  pub comes_shallow : (n : ℕ) → x.room < n → Comes (deeper n m) x c (Err e)
  unfolding deeper left_by fault_reason
  comes_shallow n l =
      let q : deeper n m x (input_at x.mark c) ≡ refused over_limit (place_at x.mark) = rw (lt-leb n x.room l, deeper) in
      record { there = ap Err z ∙ ap left_by (sym q); same = tt }

  pub comes_no_lambda : x.lambdas < 1 → Comes (in_lambda m) x c (Err e)
  unfolding in_lambda left_by fault_reason
  comes_no_lambda l =
      let q : in_lambda m x (input_at x.mark c) ≡ refused over_limit (place_at x.mark) = rw (lt-leb 1 x.lambdas l, in_lambda) in
      record { there = ap Err z ∙ ap left_by (sym q); same = tt }

-- a BM that is met
pub comes_note : {x : Context} {c d : Scan} → d.s ≡ c.s → d.at ≡ c.at → d.first ≡ noted x.zone c.first x.mark → Comes note x c (Ok d)
unfolding note input_at left_by
comes_note {x} {c} {d} b e q = record {
  there =
      let rest : left d ≡ left c = rw (b, e) refl in
      ap (λ (k : ℕ). Ok (input (x.mark + k) (left d) d.first)) e ∙ ap (λ (l : Bytes). Ok (input (x.mark + c.at) l d.first)) rest ∙ ap (λ (o : Option ℕ). Ok (input (x.mark + c.at) (left c) o)) q;
  same = b;
}

-- in a binding of an assign, and elsewhere
pub noted_or : (o : Option ℕ) (p : ℕ) → option_or o (Some p) ≡ noted InBinding o p
unfolding noted
noted_or None p = refl
noted_or (Some q) p = refl

pub noted_not : (z : Zone) (o : Option ℕ) (p : ℕ) → (z ≡ InBinding → ⊥) → o ≡ noted z o p
unfolding noted
noted_not Plain o p h = refl
noted_not InBinding o p h = absurd (h refl)
noted_not InMod o p h = refl
