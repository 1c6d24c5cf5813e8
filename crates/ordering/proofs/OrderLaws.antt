-- What the call Order answers, case by case. Assumes nothing.
use mathlib.Core.Path.{◌≡◌, refl, ap, sym, ◌∙◌}
use mathlib.Core.List.{List}
use Prim.Native.Nat.{ℕ, ◌+◌, ◌-◌, ◌≤◌, ◌<◌}
use native.Mathlib.Omega.{arith}
use borrow.Author.Tests.{le-leb, lt-leb, le-ltb, lt-ltb}
use lib.ListN.{length, take, drop}
use lib.Seq.{length-take-le}
use Rattle.names.specs.CallAnswer.{CallResult, refused_answer, accepted_answer}
use Rattle.names.specs.Names.{Bytes, number_of}
use Rattle.names.specs.Refusals.{place_at, refusing, placeless}
use Rattle.names.specs.declared.Reason.TheVariants.{Deadlock, ShortBuffer}
use Rattle.names.specs.declared.Place.{Place}
use Rattle.names.specs.declared.Refusal.{Refusal}
use Rattle.names.specs.Segments.{At, Filled}
use Rattle.names.proofs.Places.{at_is, at_whole, take_drop}
use Rattle.names.proofs.Segments.{filled_written}
use Rattle.records.specs.Limits.{most_longest}
use Rattle.records.specs.Opened.{Opened, opened, closed, open_input}
use Rattle.records.specs.Read.{assign_of}
use Rattle.records.specs.Records.{Loc, loc_width, loc_number, Body, BL, BQ, BV, BC, BM, BF, Binding, Bindings, list_of, body_bytes}
use Rattle.records.specs.declared.Kind.{Kind}
use Rattle.records.specs.Scan.{opening_of}
use Rattle.records.specs.Valid.{AreBytes, BodyFields, IsLet, ValidAssign}
use Rattle.std.specs.Prelude.{Some, Ok, Err}
use Rattle.records.proofs.Accepted.{assign_format, opened_valid}
use Rattle.records.proofs.Opened.{OpenedFrom, start}
use Rattle.records.specs.Views.{SeesLet}
use Rattle.records.specs.declared.LetView.{LetView}
use Rattle.ordering.specs.Assign.{Let, OrdersBindings}
use Rattle.ordering.specs.Needs.{outcome_of}
use Rattle.ordering.specs.OrderCall.{bindings_of, let_loc, stuck_answer, order_answer, order_of, order_call}
use Rattle.ordering.specs.Toposort.{ordered, deadlock}
use Rattle.ordering.specs.Rounds.{rounds}
use Rattle.ordering.specs.Words.{items, toposort_assign_bindings}
use Rattle.ordering.specs.declared.Order.{Order}
use Rattle.records.proofs.Lists.{list_count}

module _ {before after : Bytes} {c : ℕ} where
  -- the indices in order are written
  pub order_written : {turns count : ℕ} (is : Bytes) → length is ≡ count → Filled before after 0 is (length is) → (accepted_answer c turns count, after) ≡ order_answer c before turns is
  unfolding order_answer
  order_written is e f = rw (← e, filled_written f) refl

  -- the stuck ones are
  pub stuck_written : {place : Place} {count : ℕ} (is : Bytes) → length is ≡ count → Filled before after 0 is (length is) → (record { refusal = Some (refusing Deadlock place); counter = c; rounds = 0; len = count }, after) ≡ stuck_answer c place before is
  unfolding stuck_answer
  stuck_written is e f = rw (← e, filled_written f) refl

module _ (c : ℕ) (buffer : Bytes) (k : Kind) (l : Loc) (w h : Bytes) (bs : Bindings) (b : Body) where
  -- the buffer is too short
  pub order_short : length buffer < length (list_of bs) → order_of c buffer (BL k l w h bs b) ≡ refused_answer c buffer (placeless ShortBuffer)
  unfolding order_of bindings_of
  order_short lt = rw (lt-leb (length (list_of bs)) (length buffer) lt, order_of)

  -- there is an order
  pub order_found : (is : List ℕ) → length (list_of bs) ≤ length buffer → toposort_assign_bindings (list_of bs) ≡ ordered is → order_of c buffer (BL k l w h bs b) ≡ order_answer c buffer (rounds (items (list_of bs))) is
  unfolding order_of bindings_of
  order_found is le e = rw (le-leb (length (list_of bs)) (length buffer) le, e, order_of)

  -- there is none
  pub order_stuck : (is : List ℕ) → length (list_of bs) ≤ length buffer → toposort_assign_bindings (list_of bs) ≡ deadlock is → order_of c buffer (BL k l w h bs b) ≡ stuck_answer c (place_at (loc_number l)) buffer is
  unfolding order_of bindings_of let_loc
  order_stuck is le e = rw (le-leb (length (list_of bs)) (length buffer) le, e, order_of)

-- what an order in an array says of the bindings
module _ {bs : List Binding} {o : Order} (g : OrdersBindings bs o) where
  taken : length (take o.count o.row) ≡ o.count
  taken = length-take-le o.count o.row (omega (arith, g.row, g.few))

  pub found_is : o.count ≤ o.placed → toposort_assign_bindings bs ≡ ordered (take o.count o.row)
  unfolding outcome_of
  found_is le = g.order ∙ rw (le-ltb o.placed (length (take o.count o.row)) (omega (arith, taken))) refl

  pub stuck_is : o.placed < o.count → toposort_assign_bindings bs ≡ deadlock (take (o.count - o.placed) (drop o.placed o.row))
  unfolding outcome_of
  stuck_is lt =
      let e : o.placed + (o.count - o.placed) ≡ o.count = omega arith in
      let d : take (o.count - o.placed) (drop o.placed o.row) ≡ drop o.placed (take o.count o.row) = take_drop o.placed (o.count - o.placed) o.row ∙ ap (λ (n : ℕ). drop o.placed (take n o.row)) e in
      g.order ∙ rw (lt-ltb o.placed (length (take o.count o.row)) (omega (arith, taken)), d) refl

-- an assign's count and place, as its view shows them
module _ {s : Bytes} {v : LetView} {k : Kind} {l : Loc} {w h : Bytes} {bs : Bindings} {b : Body} (x : SeesLet s v) (t : Let s k l w h bs b) where
  pub let_count : length (list_of bs) ≡ v.count
  let_count = list_count bs ∙ sym (x.sees k l w h bs b t.valid t.there).count

  loc_at : At s v.loc l
  loc_at = (x.sees k l w h bs b t.valid t.there).loc

  pub loc_fits : v.loc + loc_width ≤ length s
  unfolding BodyFields
  loc_fits = omega (arith, loc_at.fits, t.valid.0.0.width)

  pub loc_is : number_of (take loc_width (drop v.loc s)) ≡ loc_number l
  unfolding BodyFields loc_number
  loc_is = ap number_of (at_is v.loc loc_width refl (sym t.valid.0.0.width) loc_at)

  -- the answers are those of the definition
  module _ (c : ℕ) (buffer : Bytes) {o : Order} {a : CallResult} (g : OrdersBindings (list_of bs) o) (fits : v.count ≤ length buffer) where
    pub answer_stuck : {place : Place} → o.placed < o.count → place ≡ place_at (number_of (take loc_width (drop v.loc s))) → a ≡ stuck_answer c place buffer (take (o.count - o.placed) (drop o.placed o.row))
        → a ≡ order_of c buffer (BL k l w h bs b)
    answer_stuck lt p e =
        e ∙ ap (λ (q : Place). stuck_answer c q buffer (take (o.count - o.placed) (drop o.placed o.row))) (p ∙ ap place_at loc_is) ∙ sym (order_stuck c buffer k l w h bs b _ (omega (arith, let_count)) (stuck_is g lt))

    pub answer_found : o.count ≤ o.placed → a ≡ order_answer c buffer o.rounds (take o.count o.row) → a ≡ order_of c buffer (BL k l w h bs b)
    answer_found le e =
        e ∙ ap (λ (n : ℕ). order_answer c buffer n (take o.count o.row)) g.rounds ∙ sym (order_found c buffer k l w h bs b _ (omega (arith, let_count)) (found_is g le))

-- an input that is refused before any work
pub call_refused : (F work c : ℕ) (input buffer : Bytes) (r : Refusal) → Err r ≡ opening_of (open_input assign_of F work c input) → order_call F work c input buffer ≡ refused_answer c buffer r
unfolding order_call
call_refused F work c input buffer r e = go (open_input assign_of F work c input) e
  where
    go : (o : Opened Body) → Err r ≡ opening_of o → elim o as (λ _. CallResult) [ closed q ↦ refused_answer c buffer q | opened a ↦ order_of c buffer a ] ≡ refused_answer c buffer r
    go (opened a) q = cc
    go (closed p) q = cc

-- an input that is read: an assign stands in it
pub record Taken (F work c : ℕ) (input buffer : Bytes) (k : Kind) (l : Loc) (w h : Bytes) (bs : Bindings) (b : Body) : Type 0 where
  pub size : length input ≤ most_longest
  pub let_there : Let input k l w h bs b
  pub is : order_call F work c input buffer ≡ order_of c buffer (BL k l w h bs b)

abbrev pub TakenSome : ℕ → ℕ → ℕ → Bytes → Bytes → Type 0
TakenSome F work c input buffer = (k : Kind) × (l : Loc) × (w : Bytes) × (h : Bytes) × (bs : Bindings) × (b : Body) × Taken F work c input buffer k l w h bs b

pub call_taken : (F work c : ℕ) (input buffer : Bytes) → AreBytes input → Ok tt ≡ opening_of (open_input assign_of F work c input)
    → TakenSome F work c input buffer
unfolding order_call IsLet
call_taken F work c input buffer ok e = go (open_input assign_of F work c input) refl e
  where
    go₂ : (a : Body) → open_input assign_of F work c input ≡ opened a → ValidAssign a × (input ≡ body_bytes a) → length input ≤ most_longest
        → TakenSome F work c input buffer
    go₂ (BL k l w h bs b) q (v, i) le = (k, l, w, h, bs, b, record { size = le; let_there = record { valid = v.1; there = rw (← i) (at_whole input) }; is = rw (q, order_call) refl })
    go₂ (BQ s) q (v, i) le = absurd v.0
    go₂ (BV s) q (v, i) le = absurd v.0
    go₂ (BC l bs t) q (v, i) le = absurd v.0
    go₂ (BM l f) q (v, i) le = absurd v.0
    go₂ (BF l w ca d a b) q (v, i) le = absurd v.0

    go : (o : Opened Body) → open_input assign_of F work c input ≡ o → Ok tt ≡ opening_of o → TakenSome F work c input buffer
    go (opened a) q z =
        let u = opened_valid assign_format F work c input a ok q in
        let st : OpenedFrom assign_of F c input a = rw q at (start assign_of F work c input) in
        go₂ a q (u.0, u.2) (omega (arith, st.size, st.longest))
    go (closed r) q z = let no : ◌≡◌ {A = ℕ} 0 1 = cc in absurd (omega (arith, no))
