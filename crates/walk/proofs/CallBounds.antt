-- No call runs out of fuel, answers a number above 8, or moves the counter by more than 2 to the 46. Assumes nothing.
use mathlib.Core.Path.{◌≡◌, refl, ap}
use mathlib.Core.Logic.{inl, inr}
use mathlib.Core.Bool.{Bool, true, false}
use mathlib.Core.List.Memᴰ
use mathlib.Core.List.{List, []}
use Rattle.std.specs.Prelude.{Option, None}
use Prim.Native.Nat.{ℕ, ◌+◌, ◌≤◌}
use native.Mathlib.Omega.{arith}
use lib.Dec.{leb}
use lib.ListN.{length}
use Rattle.names.specs.CallAnswer.{CallResult, accepted_answer, refused_answer, delivered, written}
use Rattle.names.specs.Names.{Bytes}
use Rattle.names.specs.Refusals.{placeless, refusal_number, reason_number}
use Rattle.names.specs.declared.Reason.TheVariants.{ShortBuffer}
use Rattle.names.specs.declared.Refusal.{Refusal}
use Rattle.records.specs.Depth.{helper_depth, form_depth}
use Rattle.records.specs.Limits.{level_limit, most_longest}
use Rattle.records.specs.Opened.{Opened, opened, closed, open_input}
use Rattle.records.specs.Read.{read_whole, readers, whole}
use Rattle.records.specs.ReadFields.{Reader}
use Rattle.records.specs.Records.{Helper, Form, form_bytes, helper_bytes}
use Rattle.records.proofs.Depth.{form_deep, helper_deep}
use Rattle.records.proofs.Exact.{form_read_back, helper_read_back}
use Rattle.records.proofs.Opened.{OpenedFrom, Start, start}
use Rattle.ordering.specs.Lawful.{◌is_in◌}
use Rattle.walk.specs.Steps.{M, Out, Event, done, refused, Visit, visits, events}
use Rattle.walk.specs.Helperforms.{whole_walk, children_walk, helper_walk}
use Rattle.walk.specs.Calls.{answered, call_run, whole_run, children_run, helper_run, whole_call, children_call, helper_call, whole_visits, children_visits, helper_visits}
use Rattle.walk.specs.Draws.{dbl, helper_atoms, form_atoms, most}
use Rattle.walk.proofs.All.{All, all_map, all_in}
use Rattle.walk.proofs.Sizes.{dbl_mono}
use Rattle.walk.proofs.Atoms.{few_form, few_helper}
use Rattle.walk.proofs.LimitsOfForms.{children_runs, helper_runs, whole_runs}
use Rattle.walk.proofs.RunBounds.{Below, Fine, Runs, WalkRefusal}

most_draws : dbl level_limit most_longest ≡ most
unfolding dbl
most_draws = refl

-- a call from the counter c, the assigns that it reaches, and its answer: no number above 8, and no counter that passes 64 bits
pub record CallBounded (c : ℕ) (list : List Visit) (r : CallResult) : Type 0 where
  pub number : refusal_number r.0.refusal ≤ 8
  pub counter : r.0.counter ≤ c + most
  pub inside : (e : Visit) → e is_in list → e.counter ≤ c + most

module _ {A : Type 0} (reader : Reader A) (walk_of : ℕ → A → M A) (bytes : A → Bytes) (deep count : A → ℕ)
    (shallow : (input : Bytes) (a : A) (o : Option ℕ) → read_whole reader input ≡ whole a o → deep a ≤ level_limit)
    (back : (input : Bytes) (a : A) (o : Option ℕ) → read_whole reader input ≡ whole a o → input ≡ bytes a)
    (few : (a : A) → count a ≤ length (bytes a))
    (s : (F : ℕ) (a : A) → deep a ≤ level_limit → Runs (dbl level_limit (count a)) (λ b. (deep b ≤ deep a) × (count b ≤ count a)) (walk_of F a)) where
  bounded : (F work c : ℕ) (input : Bytes) (a : A) → OpenedFrom reader F c input a → Fine (dbl level_limit (count a)) (λ b. (deep b ≤ deep a) × (count b ≤ count a)) c (walk_of F a c 0)
  bounded F work c input a q = (s F a (shallow input a None q.read)).fine c 0

  -- the walk of an input that is opened refuses with 5, 6 or 7 and nothing else
  walk_refuses : (F work c : ℕ) (input : Bytes) (a : A) {log : List Event} {r : Refusal} → open_input reader F work c input ≡ opened a → walk_of F a c 0 ≡ refused log r → WalkRefusal (reason_number r.reason)
  walk_refuses F work c input a e w =
      let q : OpenedFrom reader F c input a = rw e at (start reader F work c input) in
      let f = rw w at (bounded F work c input a q) in
      f.1

  call_runs : (F work c : ℕ) (input buffer : Bytes) → let o = call_run reader walk_of F work c input in CallBounded c (visits (events o)) (answered bytes c buffer o)
  unfolding call_run answered refused_answer delivered
  call_runs F work c input buffer = go (open_input reader F work c input) (start reader F work c input)
    where
      delivers : {list : List Visit} (b : Bytes) (c' : ℕ) → All (Below (c + most)) list → c' ≤ c + most → (t : Bool)
          → CallBounded c list (elim t as (λ _. CallResult) [ true ↦ (accepted_answer c' 0 (length b), written b buffer) | false ↦ refused_answer c buffer (placeless ShortBuffer) ])
      delivers b c' g h true = record { number = omega arith; counter = h; inside = λ e m. all_in g m }
      delivers b c' g h false = record { number = omega arith; counter = omega arith; inside = λ e m. all_in g m }

      small : {n : ℕ} → WalkRefusal n → n ≤ 8
      small (inl e) = omega arith
      small (inr (inl e)) = omega arith
      small (inr (inr e)) = omega arith

      walked : (n : ℕ) (P : A → Type 0) → dbl level_limit n ≤ most → (o : Out A) → Fine (dbl level_limit n) P c o → CallBounded c (visits (events o)) (answered bytes c buffer o)
      walked n P l (done log b c' h) f = delivers (bytes b) c' (all_map (λ e q. omega arith) f.0) (omega (arith, f.1)) (leb (length (bytes b)) (length buffer))
      walked n P l (refused log r) f = record { number = small f.1; counter = omega arith; inside = λ e m. omega (arith, all_in f.0 m) }

      go : (o : Opened A) → Start reader F work c input o
          → let w : Out A = elim o [ closed r ↦ refused [] r | opened a ↦ walk_of F a c 0 ] in CallBounded c (visits (events w)) (answered bytes c buffer w)
      go (closed r) q = record { number = omega arith; counter = omega arith; inside = λ e m. absurd (Memᴰ.not-nil m) }
      go (opened a) q =
          let h : count a ≤ most_longest = omega (arith, few a, ap length (back input a None q.read)) in
          walked (count a) _ (omega (arith, most_draws, dbl_mono level_limit (count a) most_longest h)) (walk_of F a c 0) (bounded F work c input a q)

module _ (F work c : ℕ) (input buffer : Bytes) where
  pub whole_call_runs : CallBounded c (whole_visits F work c input) (whole_call F work c input buffer)
  unfolding whole_call whole_visits whole_run
  whole_call_runs = call_runs _ whole_walk form_bytes form_depth form_atoms form_deep form_read_back few_form whole_runs F work c input buffer

  pub children_call_runs : CallBounded c (children_visits F work c input) (children_call F work c input buffer)
  unfolding children_call children_visits children_run
  children_call_runs = call_runs _ children_walk form_bytes form_depth form_atoms form_deep form_read_back few_form children_runs F work c input buffer

  pub helper_call_runs : CallBounded c (helper_visits F work c input) (helper_call F work c input buffer)
  unfolding helper_call helper_visits helper_run
  helper_call_runs = call_runs _ helper_walk helper_bytes helper_depth helper_atoms helper_deep helper_read_back few_helper helper_runs F work c input buffer

  -- once the walk has begun, it refuses with 5, 6 or 7 and nothing else
  pub whole_refuses : (f : Form) {log : List Event} {r : Refusal} → open_input (readers level_limit).form F work c input ≡ opened f → whole_walk F f c 0 ≡ refused log r → WalkRefusal (reason_number r.reason)
  whole_refuses = walk_refuses _ whole_walk form_bytes form_depth form_atoms form_deep form_read_back few_form whole_runs F work c input

  pub children_refuses : (f : Form) {log : List Event} {r : Refusal} → open_input (readers level_limit).form F work c input ≡ opened f → children_walk F f c 0 ≡ refused log r → WalkRefusal (reason_number r.reason)
  children_refuses = walk_refuses _ children_walk form_bytes form_depth form_atoms form_deep form_read_back few_form children_runs F work c input

  pub helper_refuses : (x : Helper) {log : List Event} {r : Refusal} → open_input (readers level_limit).helper F work c input ≡ opened x → helper_walk F x c 0 ≡ refused log r → WalkRefusal (reason_number r.reason)
  helper_refuses = walk_refuses _ helper_walk helper_bytes helper_depth helper_atoms helper_deep helper_read_back few_helper helper_runs F work c input
