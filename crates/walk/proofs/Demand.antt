-- Demand 3 (specs/Assigns.antt) holds of the calls Whole form, Children only and Single helper, whatever they get. Assumes nothing.
use mathlib.Core.Path.{◌≡◌, refl, ap, sym, ◌∙◌}
use mathlib.Core.Logic.{◌⊎◌, inl, inr}
use mathlib.Core.Bool.{Bool, true, false}
use mathlib.Core.List.Memᴰ
use mathlib.Core.List.{List, [], ◌∷◌, ◌++◌}
use Rattle.std.specs.Prelude.{Option, Some}
use Prim.Native.Nat.{ℕ, ◌≤◌, ◌<◌}
use native.Mathlib.Omega.{arith}
use lib.Dec.{leb}
use lib.ListN.{length}
use Rattle.names.specs.Names.{Bytes}
use Rattle.names.specs.CallAnswer.{CallResult, accepted_answer, refused_answer, delivered, written}
use Rattle.names.specs.Refusals.{place_at, placeless, refusal_number, reason_number}
use Rattle.names.specs.declared.Reason.TheVariants.{ShortBuffer}
use Rattle.names.specs.declared.Refusal.{Refusal}
use Rattle.records.specs.Records.{loc_number, form_bytes, helper_bytes}
use Rattle.records.specs.Opened.{Opened, opened, closed, open_input}
use Rattle.records.specs.ReadFields.{Reader}
use Rattle.records.proofs.Opened.{Start, start}
use Rattle.ordering.specs.Lawful.{◌is_in◌}
use Rattle.walk.specs.Steps.{M, Out, done, refused, Visit, visits, events}
use Rattle.walk.specs.Helperforms.{whole_walk, children_walk, helper_walk}
use Rattle.walk.specs.Assigns.{HasOrder, AssignsOrdered}
use Rattle.walk.specs.Calls.{answered, call_run, whole_run, children_run, helper_run, whole_call, children_call, helper_call, whole_visits, children_visits, helper_visits}
use Rattle.walk.proofs.All.{All, all_none, all_cons, all_in, all_map}
use Rattle.walk.proofs.Visits.{Done, Deadlocked, Ends, Good, Fine, Sound}
use Rattle.walk.proofs.VisitsOfForms.{whole_sound, children_sound, helper_sound}
use Rattle.walk.proofs.Splits.{ordered_exactly}

-- of a list whose elements but the last have P, one that has not P is the last
last_one : {A : Type 0} (P : A → Type 0) (earlier before after : List A) (l e : A) → before ++ (e ∷ after) ≡ earlier ++ (l ∷ []) → All P earlier → ¬ P e → (e ≡ l) × (after ≡ [])
last_one P [] [] after l e q a h = (cc, cc)
last_one P (x ∷ xs) [] after l e q (all_cons p ps) h = absurd (h (let w : e ≡ x = cc in rw w p))
last_one P [] (y ∷ []) after l e q a h = absurd (let z : ◌≡◌ {A = ℕ} 0 1 = cc in omega arith)
last_one P [] (y ∷ z ∷ zs) after l e q a h = absurd (let z : ◌≡◌ {A = ℕ} 0 1 = cc in omega arith)
last_one P (x ∷ xs) (y ∷ ys) after l e q (all_cons p ps) h = last_one P xs ys after l e (cc) ps h

middle : {A : Type 0} (before after : List A) (e : A) → e is_in before ++ (e ∷ after)
middle before after e = Memᴰ.append_right before (Memᴰ.head refl)

-- a refusal of the walk is neither 0 nor 8
neither : {X : Type 0} {n : ℕ} → 4 < n → (n ≡ 8 → ⊥) → (n ≡ 0) ⊎ (n ≡ 8) → X
neither h g (inl z) = absurd (omega arith)
neither h g (inr z) = absurd (g z)

module _ (F : ℕ) where
  -- where each has an order, and the number is not 5
  all_ordered : {list : List Visit} {r : Option Refusal} → All HasOrder list → ((e : Visit) → e is_in list → Good F e) → (refusal_number r ≡ 5 → ⊥)
      → ((refusal_number r ≡ 0) ⊎ (refusal_number r ≡ 8) → (e : Visit) → e is_in list → Done F e) → (1 ≤ refusal_number r → refusal_number r ≤ 4 → list ≡ []) → AssignsOrdered F list r
  all_ordered a g h d n = record {
    orders = λ e m. ordered_exactly e.bindings;
    refuses = (λ q. absurd (h q), λ f. absurd (f.2 (all_in a f.1)));
    last = λ before after e q w. absurd (w (all_in {a = e} a (rw q (middle before after e))));
    finished = g;
    all_finished = λ z e m. let r = d z e m in (r.back, r.is_back);
    none_reached = n;
  }

  -- where the last has none
  ends_deadlocked : {list : List Visit} {r : Refusal} → All (Good F) list → Deadlocked F list r → AssignsOrdered F list (Some r)
  ends_deadlocked {list} {r} g d = record {
    orders = λ e m. ordered_exactly e.bindings;
    refuses = (λ _. (d.last, there, d.none_there), λ _. number);
    last = λ before after e q h.
        let w = last_one HasOrder d.earlier before after d.last e (sym q ∙ d.ends) d.before h in
        (ap (λ (x : Refusal). x.place) d.refusal ∙ ap (λ (x : Visit). place_at (loc_number x.loc)) (sym w.0), w.1);
    finished = λ e m. all_in g m;
    all_finished = neither (omega (arith, number)) (λ z. omega (arith, number));
    none_reached = λ _ h. absurd (omega (arith, number));
  }
    where
      number : reason_number r.reason ≡ 5
      number = ap (λ (x : Refusal). reason_number x.reason) d.refusal

      there : d.last is_in list
      there = rw d.ends (middle d.earlier [] d.last)

  of_done : {list : List Visit} {r : Option Refusal} → All (Done F) list → (refusal_number r ≡ 5 → ⊥) → (1 ≤ refusal_number r → refusal_number r ≤ 4 → list ≡ []) → AssignsOrdered F list r
  of_done a h n = all_ordered (all_map (λ e d. d.order) a) (λ e m. (all_in a m).good) h (λ _ e m. all_in a m) n

  of_refused : {list : List Visit} {r : Refusal} → All (Good F) list → Ends F list r → AssignsOrdered F list (Some r)
  of_refused g (inl d) = ends_deadlocked g d
  of_refused g (inr s) = all_ordered s.all_ordered (λ e m. all_in g m) (λ z. absurd (omega (arith, s.late))) (neither (omega (arith, s.late)) s.not_8) (λ _ h. absurd (omega (arith, s.late)))

  -- with the number 0 or 8
  of_delivered : (c : ℕ) (buffer : Bytes) {list : List Visit} (bs : Bytes) (c' : ℕ) → All (Done F) list → AssignsOrdered F list (delivered c buffer bs c').0.refusal
  unfolding delivered refused_answer
  of_delivered c buffer {list} bs c' a = go (leb (length bs) (length buffer))
    where
      go : (b : Bool)
          → AssignsOrdered F list (elim b as (λ _. CallResult) [ true ↦ (accepted_answer c' 0 (length bs), written bs buffer) | false ↦ refused_answer c buffer (placeless ShortBuffer) ]).0.refusal
      go true = of_done a (omega arith) (λ h _. absurd (omega arith))
      go false = of_done a (omega arith) (λ _ h. absurd (omega arith))

module _ {A : Type 0} (reader : Reader A) (walk_of : ℕ → A → M A) (bytes : A → Bytes) (s : (F : ℕ) (a : A) → Sound F (walk_of F a)) (F work c : ℕ) (input buffer : Bytes) where
  -- of a call that answers this run
  abbrev Claim : Out A → Type 0
  Claim o = AssignsOrdered F (visits (events o)) (answered bytes c buffer o).0.refusal

  call_assigns : Claim (call_run reader walk_of F work c input)
  unfolding call_run answered refused_answer
  call_assigns = go (open_input reader F work c input) (start reader F work c input)
    where
      walked : (o : Out A) → Fine F o → Claim o
      walked (done log r c' x) f = of_delivered F c buffer (bytes r) c' f
      walked (refused log r) f = of_refused F f.0 f.1

      go : (o : Opened A) → Start reader F work c input o → Claim (elim o [ closed r ↦ refused [] r | opened a ↦ walk_of F a c 0 ])
      go (closed r) e = of_done F all_none (omega arith) (λ _ _. refl)
      go (opened a) e = walked (walk_of F a c 0) ((s F a).fine c 0)

module _ (F work c : ℕ) (input buffer : Bytes) where
  pub whole_assigns : AssignsOrdered F (whole_visits F work c input) (whole_call F work c input buffer).0.refusal
  unfolding whole_call whole_visits whole_run
  whole_assigns = call_assigns _ whole_walk form_bytes whole_sound F work c input buffer

  pub children_assigns : AssignsOrdered F (children_visits F work c input) (children_call F work c input buffer).0.refusal
  unfolding children_call children_visits children_run
  children_assigns = call_assigns _ children_walk form_bytes children_sound F work c input buffer

  pub helper_assigns : AssignsOrdered F (helper_visits F work c input) (helper_call F work c input buffer).0.refusal
  unfolding helper_call helper_visits helper_run
  helper_assigns = call_assigns _ helper_walk helper_bytes helper_sound F work c input buffer
