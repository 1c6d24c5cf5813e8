-- The body of a binding at a place: Own of it in memory that ends at `aside`, or In-body of it by the map. Assumes nothing.
use mathlib.Core.Path.{◌≡◌, sym, subst}
use mathlib.Core.Bool.{Bool, true, false}
use mathlib.Core.List.{[]}
use native.Mathlib.Omega.{arith}
use Prim.Native.Nat.{ℕ, ◌+◌, ◌-◌, ◌≤◌}
use lib.ListN.{length}
use Rattle.names.specs.Names.{Bytes}
use Rattle.names.proofs.Frames.{same_wider}
use Rattle.names.proofs.Parts.{part, back, part_length, at_part, into}
use Rattle.records.specs.StepAnswer.{Gives}
use Rattle.records.specs.Records.{body_bytes}
use Rattle.records.specs.declared.Step.{Step}
use Rattle.walk.specs.Arena.{MapAt, outcome}
use Rattle.walk.specs.LetWalks.{BindReady, BodyBound}
use Rattle.walk.specs.Room.{room}
use Rattle.walk.specs.Walking.{rule, AnyBody, BodyReady, Walks}
use Rattle.walk.specs.declared.Task.{Task}
use Rattle.walk.proofs.MapLaws.{no_map, map_of_part}
use Rattle.walk.proofs.OnParts.{from, rejoin}
use Rattle.walk.proofs.Results.{some_level, least_room}
use Rattle.walk.proofs.Wholes.{from_length, cut_frame, cut_gives, whole_frame, whole_gives}
use Rattle.std.specs.declared.result.Result.{Result}
use Rattle.names.specs.declared.Refusal.{Refusal}

module _ {mem : Bytes} {at aside : ℕ} {t : Task} {owning : Bool} (p : BindReady mem at aside t owning) where
  -- both results have their room
  pub bind_room : at + t.free + t.map + t.f ≤ length mem
  bind_room = omega (arith, p.room, p.ends.within, least_room t.f t.depth (some_level p.good))

  -- Own
  module _ (own : owning ≡ true) where
    -- its room ends at `aside`
    pub own_place : at + t.free + room t.f t.depth ≤ aside
    own_place = omega (arith, p.room, p.ends.own own)

    -- which lies within memory
    pub own_end : aside ≤ length mem
    own_end = omega (arith, p.ends.own own, p.ends.within)

    -- what Own is asked
    pub own_ready : BodyReady AnyBody true (part mem at (aside - at)) t
    own_ready =
        let l = part_length mem at (aside - at) (omega (arith, own_place, own_end)) in
        let z = p.ends.lone own in
        record {
          tree = p.tree;
          good = p.good;
          there = at_part at (aside - at) p.there (omega arith) (omega (arith, p.below, own_place));
          below = p.below;
          m = [];
          map = subst (λ (n : ℕ). MapAt (part mem at (aside - at)) n []) (sym z) no_map;
          lone = λ e. z;
          room = omega (arith, own_place);
          counts = p.counts;
          longest = p.longest;
        }

    -- what Own answers
    pub own_bound : {y : Bytes} {r : Result Step Refusal} → Walks AnyBody true (part mem at (aside - at)) y t r → BodyBound mem (back mem at (aside - at) y) at aside t owning p r
    unfolding own_ready
    own_bound {y} {r} s =
        let z = p.ends.lone own in
        let e = p.ends.own own in
        let le : at + (aside - at) ≤ length mem = omega (arith, own_place, own_end) in
        let fit : t.free + t.map ≤ aside - at = omega (arith, own_place) in
        let q = own_ready in
        record {
          frame = same_wider (at + t.free) p.top (omega arith) (omega (arith, own_place)) (cut_frame mem at (aside - at) le t.free t.map fit s.frame);
          gives = subst (λ (o : Bool). Gives body_bytes (back mem at (aside - at) y) (at + t.free) (length (body_bytes p.tree)) (outcome (rule t.f o t.depth p.m p.tree t.counter 0)) r) (sym own)
              (cut_gives mem at (aside - at) le t.free t.map fit s.frame (at + t.free) (omega arith) (s.says q.m q.map q.tree q.there q.below q.good));
        }

  -- In-body
  module _ (own : owning ≡ false) where
    -- what In-body is asked
    pub in_ready : BodyReady AnyBody false (from mem at) t
    in_ready =
        let l = from_length mem at (omega (arith, bind_room)) in
        record {
          tree = p.tree;
          good = p.good;
          there = into p.there;
          below = p.below;
          m = p.m;
          map = map_of_part at (omega (arith, bind_room)) p.map;
          lone = λ e. let z : ◌≡◌ {A = ℕ} 0 1 = cc in absurd (omega arith);
          room = omega (arith, p.room, p.ends.within);
          counts = p.counts;
          longest = p.longest;
        }

    -- what In-body answers
    pub in_bound : {y : Bytes} {r : Result Step Refusal} → Walks AnyBody false (from mem at) y t r → BodyBound mem (rejoin mem at y) at aside t owning p r
    unfolding in_ready
    in_bound {y} {r} s =
        let q = in_ready in
        let fit : at + t.free + t.map ≤ length mem = omega (arith, bind_room) in
        record {
          frame = same_wider (at + t.free) p.top (omega arith) (omega (arith, p.ends.inside own)) (whole_frame mem at t.free t.map fit s.frame);
          gives = subst (λ (o : Bool). Gives body_bytes (rejoin mem at y) (at + t.free) (length (body_bytes p.tree)) (outcome (rule t.f o t.depth p.m p.tree t.counter 0)) r) (sym own)
              (whole_gives mem at t.free t.map fit s.frame (at + t.free) (omega arith) (s.says q.m q.map q.tree q.there q.below q.good));
        }
