-- Own of an assign (`assign`): what its order is asked and says; at a deadlock 5 with its place. Assumes nothing.
use mathlib.Core.Path.{◌≡◌, refl, sym, ap, subst, ◌∙◌}
use mathlib.Core.Bool.{true}
use mathlib.Core.List.{◌++◌}
use native.Mathlib.Omega.{arith}
use borrow.Author.Tests.{le-ltb, lt-ltb}
use Prim.Native.Nat.{ℕ, ◌+◌, ◌-◌, ◌≤◌, ◌<◌}
use lib.ListN.{length, take, drop}
use lib.Seq.{length-take-le}
use Rattle.names.specs.Names.{Bytes, ascii, number_of}
use Rattle.names.specs.Refusals.{refusing, place_at}
use Rattle.names.specs.declared.Reason.TheVariants.{Deadlock}
use Rattle.names.specs.Segments.{At}
use Rattle.names.specs.declared.Place.{Place}
use Rattle.names.specs.declared.Refusal.{Refusal}
use Rattle.names.proofs.Frames.{same_refl}
use Rattle.names.proofs.Places.{at_place, at_left, at_right, at_is, at_into_take}
use Rattle.ordering.specs.Assign.{Let, OrdersBindings}
use Rattle.ordering.specs.Needs.{outcome_of}
use Rattle.ordering.specs.Toposort.{deadlock}
use Rattle.ordering.specs.Words.{toposort_assign_bindings}
use Rattle.ordering.specs.declared.Order.{Order}
use Rattle.records.specs.StepAnswer.{refuses, refused}
use Rattle.records.specs.Limits.{most_longest}
use Rattle.records.specs.Records.{mark_width, loc_width, Loc, loc_number, kind_field, byte, Body, BL, body_bytes, Bindings, bindings_bytes, bindings_count, list_of}
use Rattle.records.specs.declared.Kind.{Kind}
use Rattle.records.specs.declared.Kind.TheVariants.{Assign}
use Rattle.records.specs.Valid.{IsLet, BodyFields}
use Rattle.walk.specs.Arena.{outcome}
use Rattle.walk.specs.AssignWalks.{let_bindings, OrderedReady}
use Rattle.walk.specs.Bodyforms.{walk, deadlocked}
use Rattle.walk.specs.Steps.{M, refuse, body_size, step}
use Rattle.walk.specs.Walking.{Fine, BodyReady, Walks}
use Rattle.walk.specs.declared.Task.{Task}
use Rattle.walk.proofs.LetLaws.{let_head, let_split}
use Rattle.walk.proofs.OrderedLaws.{no_order, own_assign}
use Rattle.walk.proofs.Results.{some_level, least_room}
use Rattle.walk.proofs.RunLaws.{step_refuses}
use Rattle.walk.proofs.TurnedLaws.{AssignParts, assign_parts}
use Rattle.walk.proofs.Unique.{unique_fine, tells_of}
use Rattle.std.specs.declared.result.Result.TheVariants.{Err}

module _ {mem : Bytes} {t : Task} (p : BodyReady (IsLet Assign) true mem t) where
  pub view : AssignParts p.tree
  view = assign_parts p.tree p.good.only

  fine : Fine (IsLet Assign) t.f t.depth (BL Assign view.l view.w view.h view.bs view.e)
  fine = subst (Fine (IsLet Assign) t.f t.depth) view.is p.good

  there : At mem 0 (body_bytes (BL Assign view.l view.w view.h view.bs view.e))
  there = subst (λ (b : Body). At mem 0 (body_bytes b)) view.is p.there

  pub cut_fits : t.f ≤ length mem
  cut_fits = omega (arith, p.room, least_room t.f t.depth (some_level p.good))

  pub cut_size : length (take t.f mem) ≡ t.f
  cut_size = length-take-le t.f mem cut_fits

  let_there : Let (take t.f mem) Assign view.l view.w view.h view.bs view.e
  let_there = record { valid = fine.valid; there = at_into_take t.f (omega (arith, fine.short)) there }

  -- the order is asked of the first F bytes
  pub order_asks : (length (take t.f mem) ≤ most_longest) × ((k : Kind) × (l : Loc) × (w : Bytes) × (h : Bytes) × (bs : Bindings) × (b : Body) × Let (take t.f mem) k l w h bs b)
  order_asks = (omega (arith, cut_size, p.longest), (Assign, view.l, view.w, view.h, view.bs, view.e, let_there))

  -- its L
  loc_there : At mem (mark_width + 1) view.l
  unfolding ascii kind_field byte
  loc_there =
      let head = let_head Assign view.l view.w view.h (bindings_count view.bs) in
      let x = at_left head (bindings_bytes view.bs ++ body_bytes view.e) (subst (At mem 0) (let_split Assign view.l view.w view.h view.bs view.e) there) in
      let y = at_right (kind_field Assign) _ (at_right (ascii "BL") _ x) in
      at_place (mark_width + 1) (omega arith) (at_left view.l _ y)

  pub loc_fits : mark_width + 1 + loc_width ≤ length mem
  unfolding BodyFields
  loc_fits = omega (arith, loc_there.fits, fine.valid.0.0.width)

  loc_is : number_of (take loc_width (drop (mark_width + 1) mem)) ≡ loc_number view.l
  unfolding BodyFields loc_number
  loc_is = ap number_of (at_is (mark_width + 1) loc_width refl (sym fine.valid.0.0.width) loc_there)

  -- its order is known, or there is none
  module _ {o : Order} (s : (k : Kind) (l : Loc) (w h : Bytes) (bs : Bindings) (b : Body) → Let (take t.f mem) k l w h bs b → OrdersBindings (list_of bs) o) where
    known : OrdersBindings (list_of view.bs) o
    known = s Assign view.l view.w view.h view.bs view.e let_there

    row_size : length (take o.count o.row) ≡ o.count
    row_size = length-take-le o.count o.row (omega (arith, known.row, known.few))

    listed : let_bindings p.tree ≡ list_of view.bs
    unfolding let_bindings
    listed = ap let_bindings view.is

    pub order_known : o.count ≤ o.placed → OrderedReady mem o t
    unfolding outcome_of
    order_known le = record {
      ready = p;
      count = known.count ∙ sym (ap length listed);
      few = known.few;
      row = known.row;
      order = ap toposort_assign_bindings listed ∙ known.order ∙ rw (le-ltb o.placed (length (take o.count o.row)) (omega (arith, row_size))) refl;
    }

    stuck : o.placed < o.count → toposort_assign_bindings (list_of view.bs) ≡ deadlock (drop o.placed (take o.count o.row))
    unfolding outcome_of
    stuck lt = known.order ∙ rw (lt-ltb o.placed (length (take o.count o.row)) (omega (arith, row_size))) refl

    refuses_so : (r : Refusal) (c x : ℕ) → outcome {A = Body} (refuse r c x) ≡ refuses r
    unfolding refuse outcome
    refuses_so r c x = refl

    pub deadlock_refused : {n : ℕ} {at : Place} {q : Refusal} → o.placed < o.count → n ≡ number_of (take loc_width (drop (mark_width + 1) mem)) → at ≡ place_at n → q ≡ refusing Deadlock at
        → Walks (IsLet Assign) true mem mem t (Err q)
    deadlock_refused {n} {at} {q} lt e₁ e₂ e₃ =
        let e : q ≡ deadlocked view.l = e₃ ∙ ap (refusing Deadlock) (e₂ ∙ ap place_at (e₁ ∙ loc_is)) in
        let run = no_order t.f (walk t.f (t.depth - 1)) view.l view.w view.h (list_of view.bs) view.e _ (stuck lt) in
        tells_of unique_fine p same_refl
        (refused q (own_assign t.f t.depth p.m p.tree view t.counter (some_level p.good) ∙ ap (λ (m : M Body). outcome (step t.f body_size m t.counter 0)) run
        ∙ step_refuses t.f body_size (refuse (deadlocked view.l)) t.counter 0 (refuses_so (deadlocked view.l) t.counter 0) ∙ ap refuses (sym e)) refl)
