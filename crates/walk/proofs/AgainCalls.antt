-- What an accepted call of Whole form, Children only or Single helper writes is accepted again, with the same F and the same length of work memory. Assumes nothing.
use mathlib.Core.Path.{◌≡◌, refl, ap, ◌∙◌}
use mathlib.Core.Bool.{Bool, true, false, ◌&&◌}
use mathlib.Core.List.{List, []}
use mathlib.Core.Logic.{inl, inr}
use Prim.Native.Nat.{ℕ, ◌*◌, ◌≤◌}
use native.Mathlib.Omega.{arith}
use lib.Dec.{leb, le→leb}
use lib.ListN.{length, take, drop}
use lib.Seq.{take_at}
use Rattle.names.specs.CallAnswer.{CallResult, accepted_answer, refused_answer, delivered, written, max_counter}
use Rattle.names.specs.Names.{Bytes}
use Rattle.names.specs.Refusals.{placeless, refusal_number}
use Rattle.names.specs.declared.Reason.TheVariants.{ShortBuffer}
use Rattle.names.proofs.Same.{T-both, T-left}
use Rattle.records.specs.declared.Zone.{Zone}
use Rattle.records.specs.declared.Zone.TheVariants.{Plain}
use Rattle.records.specs.Depth.{helper_depth, form_depth}
use Rattle.records.specs.Limits.{level_limit, lambda_limit, least_longest, most_longest, work_factor}
use Rattle.records.specs.Opened.{Opened, opened, closed, limits, open_input}
use Rattle.records.specs.Read.{readers}
use Rattle.records.specs.ReadFields.{Reader}
use Rattle.records.specs.Records.{form_bytes, helper_bytes}
use Rattle.records.specs.Valid.{AreBytes}
use Rattle.records.proofs.Accepted.{Format, form_format, helper_format, opens, opened_valid}
use Rattle.records.proofs.Opened.{Start, through, start}
use Rattle.records.proofs.Readers.{T_of, true_of}
use Rattle.walk.specs.Steps.{M, Out, Event, done, refused}
use Rattle.walk.specs.Helperforms.{whole_walk, children_walk, helper_walk}
use Rattle.walk.specs.Calls.{answered, call_run, whole_run, children_run, helper_run, whole_call, children_call, helper_call}
use Rattle.walk.specs.Draws.{helper_atoms, form_atoms, dbl}
use Rattle.walk.proofs.LimitsOfForms.{whole_runs, children_runs, helper_runs}
use Rattle.walk.proofs.RunBounds.{WalkRefusal, Fine as Within, Runs}
use Rattle.walk.proofs.Kept.{Kept}
use Rattle.walk.proofs.Again.{children_keeps, helper_keeps, whole_keeps}
use Rattle.walk.proofs.Keeping.{Fine, Fits, Gives}

module _ (F work : ℕ) where
  -- any counter within its limit will do
  other_counter : (c c' : ℕ) → limits F work c ≡ true → c' ≤ max_counter → limits F work c' ≡ true
  unfolding limits
  other_counter c c' e h =
      let t = leb least_longest F && leb F most_longest && leb (work_factor * F) work in
      true_of _ (T-both t (leb c' max_counter) (T-left t (leb c max_counter) (T_of e)) (le→leb c' max_counter h))

  -- of an input that is opened
  pub opened_limits : {A : Type 0} (reader : Reader A) (c : ℕ) (input : Bytes) (a : A) → open_input reader F work c input ≡ opened a → limits F work c ≡ true
  opened_limits reader c input a h = (rw h at (through reader F work c input)).within

-- What a call has written, with the answer and buffer r, is the record of the tree that its walk gives, and the call's reader opens it as that tree.
pub record Again {A : Type 0} (reader : Reader A) (walk_of : ℕ → A → M A) (bytes : A → Bytes) (F work c : ℕ) (input : Bytes) (r : CallResult) : Type 0 where
  pub given : A
  pub is_given : open_input reader F work c input ≡ opened given
  pub result : A
  pub log : List Event
  pub counter : ℕ
  pub sum : ℕ
  pub walked : walk_of F given c 0 ≡ done log result counter sum
  pub wrote : take r.0.len r.1 ≡ bytes result
  pub reads : (c' : ℕ) → c' ≤ max_counter → open_input reader F work c' (take r.0.len r.1) ≡ opened result

not_zero : {n : ℕ} → WalkRefusal n → n ≡ 0 → ⊥
not_zero (inl e) z = omega arith
not_zero (inr (inl e)) z = omega arith
not_zero (inr (inr e)) z = omega arith

module _ {A : Type 0} {reader : Reader A} {walk_of : ℕ → A → M A} {bytes : A → Bytes} {Fields : A → Type 0} {Clear : Zone → A → Type 0} {deep lambdas count : A → ℕ}
    (format : Format reader bytes (λ a. Fields a × (deep a ≤ level_limit) × (lambdas a ≤ lambda_limit)) (Clear Plain))
    (runs : (F : ℕ) (a : A) → deep a ≤ level_limit → Runs (dbl level_limit (count a)) (λ b. (deep b ≤ deep a) × (count b ≤ count a)) (walk_of F a))
    (keeps : (F : ℕ) (a : A) → Kept Fields lambdas Clear Plain lambda_limit a → Gives Plain (Fits F bytes (Kept Fields lambdas Clear Plain lambda_limit)) (walk_of F a)) where
  call_again : (F work c : ℕ) (input buffer : Bytes) → AreBytes input
      → let r : CallResult = answered bytes c buffer (call_run reader walk_of F work c input) in refusal_number r.0.refusal ≡ 0 → Again reader walk_of bytes F work c input r
  unfolding call_run answered refused_answer delivered written
  call_again F work c input buffer b = go (open_input reader F work c input) refl (start reader F work c input)
    where
      Goal : CallResult → Type 0
      Goal r = refusal_number r.0.refusal ≡ 0 → Again reader walk_of bytes F work c input r

      delivers : (a t : A) (log : List Event) (c' x : ℕ) → open_input reader F work c input ≡ opened a → walk_of F a c 0 ≡ done log t c' x
          → deep t ≤ level_limit → Fits F bytes (Kept Fields lambdas Clear Plain lambda_limit) t → (y : Bool)
          → Goal (elim y as (λ _. CallResult) [ true ↦ (accepted_answer c' 0 (length (bytes t)), written (bytes t) buffer) | false ↦ refused_answer c buffer (placeless ShortBuffer) ])
      delivers a t log c' x e w h k true z =
          let q = take_at (bytes t) (drop (length (bytes t)) buffer) (length (bytes t)) refl in
          record {
            given = a;
            is_given = e;
            result = t;
            log = log;
            counter = c';
            sum = x;
            walked = w;
            wrote = q;
            reads = λ d l. ap (open_input reader F work d) q ∙ opens format F work d t (other_counter F work c d (opened_limits F work reader c input a e) l) k.1 (k.0.fields, h, k.0.lambdas) k.0.clear;
          }
      delivers a t log c' x e w h k false z = absurd (omega arith)

      walked : (a : A) → open_input reader F work c input ≡ opened a → deep a ≤ level_limit → (o : Out A) → walk_of F a c 0 ≡ o → Within (dbl level_limit (count a)) (λ b. (deep b ≤ deep a) × (count b ≤ count a)) c o
          → Fine Plain (Fits F bytes (Kept Fields lambdas Clear Plain lambda_limit)) o → Goal (answered bytes c buffer o)
      walked a e h (done log t c' x) w r k = delivers a t log c' x e w (omega arith) k.1 (leb (length (bytes t)) (length buffer))
      walked a e h (refused log y) w r k = λ z. absurd (not_zero r.1 z)

      go : (o : Opened A) → open_input reader F work c input ≡ o → Start reader F work c input o
          → Goal (answered bytes c buffer (elim o [ closed r ↦ refused [] r | opened a ↦ walk_of F a c 0 ]))
      go (closed r) e s = λ z. absurd (omega arith)
      go (opened a) e s =
          let v = opened_valid format F work c input a b e in
          walked a e v.0.1 (walk_of F a c 0) refl ((runs F a v.0.1).fine c 0) ((keeps F a (record { fields = v.0.0; lambdas = v.0.2; clear = v.1 })).fine c 0)

module _ (F work c : ℕ) (input buffer : Bytes) (b : AreBytes input) where
  pub whole_again : refusal_number (whole_call F work c input buffer).0.refusal ≡ 0 → Again (readers level_limit).form whole_walk form_bytes F work c input (whole_call F work c input buffer)
  unfolding whole_call whole_run
  whole_again = call_again {deep = form_depth} {count = form_atoms} form_format whole_runs whole_keeps F work c input buffer b

  pub children_again : refusal_number (children_call F work c input buffer).0.refusal ≡ 0 → Again (readers level_limit).form children_walk form_bytes F work c input (children_call F work c input buffer)
  unfolding children_call children_run
  children_again = call_again {deep = form_depth} {count = form_atoms} form_format children_runs children_keeps F work c input buffer b

  pub helper_again : refusal_number (helper_call F work c input buffer).0.refusal ≡ 0 → Again (readers level_limit).helper helper_walk helper_bytes F work c input (helper_call F work c input buffer)
  unfolding helper_call helper_run
  helper_again = call_again {deep = helper_depth} {count = helper_atoms} helper_format helper_runs helper_keeps F work c input buffer b
