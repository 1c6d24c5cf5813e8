-- The tail of a call: none, or a body behind the byte 1. Assumes nothing.
use mathlib.Core.Path.{◌≡◌, refl, sym, ap, subst, ◌∙◌}
use mathlib.Core.Bool.{Bool}
use mathlib.Core.List.{[], ◌∷◌}
use native.Mathlib.Omega.{arith}
use Prim.Native.Nat.{ℕ, ◌+◌, ◌-◌, ◌≤◌, ◌<◌}
use lib.ListN.{length, get_or, set}
use Rattle.names.specs.Names.{Bytes}
use Rattle.names.specs.Segments.{At, SameOutside}
use Rattle.names.specs.declared.Refusal.{Refusal}
use Rattle.names.proofs.Frames.{same_wider, same_then, same_set, at_below, filled_set, filled_at}
use Rattle.names.proofs.Parts.{into}
use Rattle.names.proofs.Places.{at_place, at_get, at_right, at_join, at_whole}
use Rattle.records.specs.StepAnswer.{Gives}
use Rattle.records.specs.Records.{Body, body_bytes, Tail, no_tail, tail, tail_bytes, byte}
use Rattle.records.specs.declared.Step.{Step}
use Rattle.records.proofs.StepAnswers.{Made, made, unmade}
use Rattle.walk.specs.Arena.{outcome}
use Rattle.walk.specs.Bodyforms.{call_tail}
use Rattle.walk.specs.CallWalks.{FineTail, tail_room, TailReady, MadeTail, WalksTail}
use Rattle.walk.specs.Draws.{atoms, tail_atoms, dbl}
use Rattle.walk.specs.Room.{room}
use Rattle.walk.specs.Steps.{over_long, body_size}
use Rattle.walk.specs.Walking.{rule, AnyBody, Fine, BodyReady, Walks, Leads, led, stopped}
use Rattle.walk.specs.declared.Piece.{Piece}
use Rattle.walk.specs.declared.Task.{Task}
use Rattle.walk.proofs.CallRuns.{no_tail_gives, tail_refuses, tail_over, tail_gives}
use Rattle.walk.proofs.OnParts.{from, rejoin}
use Rattle.walk.proofs.Results.{rule_short}
use Rattle.walk.proofs.RunLaws.{neutral_rule}
use Rattle.walk.proofs.Unique.{Unique, unique_fine, tells_of}
use Rattle.walk.proofs.Wholes.{from_length, whole_frame, whole_gives, map_from, took_is}
use Rattle.std.specs.declared.result.Result.{Result}
use Rattle.std.specs.declared.result.Result.TheVariants.{Err}
use Rattle.walk.specs.RuleAnswers.{piece_of}
use Rattle.records.specs.StepAnswer.{step_of}

-- one tail at most stands at a place
unique_tail : (F d : ℕ) → Unique tail_bytes (FineTail F d)
unfolding tail_bytes FineTail byte
unique_tail F d xs no_tail no_tail p q x y = refl
unique_tail F d xs no_tail (tail c) p q x y = absurd (omega (arith, at_get x 0 (omega arith), at_get y 0 (omega arith)))
unique_tail F d xs (tail b) no_tail p q x y = absurd (omega (arith, at_get x 0 (omega arith), at_get y 0 (omega arith)))
unique_tail F d xs (tail b) (tail c) p q x y = ap tail (unique_fine (from xs 1) b c p q (into (at_right (1 ∷ []) (body_bytes b) x)) (into (at_right (1 ∷ []) (body_bytes c) y)))

-- a tail that is there
pub record Some (F d : ℕ) (mem : Bytes) (u : Tail) : Type 0 where
  pub b : Body
  pub is : u ≡ tail b
  pub fine : Fine AnyBody F d b
  pub here : At mem 1 (body_bytes b)
  pub size : length (tail_bytes u) ≡ 1 + length (body_bytes b)
  pub needs : tail_room F d u ≡ 1 + room F d
  pub tag : get_or mem 0 0 ≡ 1
  pub draws : tail_atoms u ≡ atoms b

none : {mem : Bytes} (u : Tail) → At mem 0 (tail_bytes u) → get_or mem 0 0 ≡ 0 → u ≡ no_tail
unfolding tail_bytes
none no_tail a e = refl
none (tail b) a e = absurd (omega (arith, at_get a 0 (omega arith)))

some : {F d : ℕ} {mem : Bytes} (u : Tail) → FineTail F d u → At mem 0 (tail_bytes u) → (get_or mem 0 0 ≡ 0 → ⊥) → Some F d mem u
unfolding tail_bytes FineTail tail_room byte tail_atoms
some no_tail f a n = absurd (n (at_get a 0 (omega arith)))
some (tail b) f a n =
    record { b = b; is = refl; fine = f; here = at_right (1 ∷ []) (body_bytes b) a; size = omega arith; needs = refl; tag = at_get a 0 (omega arith); draws = refl }

-- how long a tail is at least, and what it needs at least
pub tail_some : (u : Tail) → 1 ≤ length (tail_bytes u)
unfolding tail_bytes byte
tail_some no_tail = omega arith
tail_some (tail b) = omega arith

pub tail_needs : (F d : ℕ) (u : Tail) → 1 ≤ tail_room F d u
unfolding tail_room
tail_needs F d no_tail = omega arith
tail_needs F d (tail b) = omega arith

module _ {t : Task} {mem : Bytes} {owning : Bool} {sum : ℕ} (p : TailReady owning mem sum t) where
  pub byte_fits : t.free + 1 + t.map ≤ length mem
  byte_fits = omega (arith, p.ready.room, tail_needs t.f t.depth p.ready.tree)

  abbrev tagged : Bytes
  tagged = set mem t.free (get_or mem 0 0)

  tag_frame : SameOutside mem tagged t.free (t.free + 1)
  tag_frame = same_set mem t.free (get_or mem 0 0) t.free (t.free + 1) (omega arith) (omega arith)

  tag_at : At tagged t.free (get_or mem 0 0 ∷ [])
  tag_at = filled_at t.free (filled_set mem t.free (get_or mem 0 0) (omega (arith, byte_fits))) (omega (arith, byte_fits)) (at_whole (get_or mem 0 0 ∷ [])) (omega arith) (omega arith)

  abbrev Answers : Bytes → Tail → Result Piece Refusal → Type 0
  Answers new u r = Leads tail_bytes (MadeTail t.f) t.f new t.free (length (tail_bytes u)) (call_tail t.f (rule t.f owning t.depth p.ready.m) u) t.counter sum r

  pub no_tail_walks : get_or mem 0 0 ≡ 0 → WalksTail owning mem tagged sum t (piece_of 1 1 sum t.counter)
  unfolding tail_bytes byte
  no_tail_walks z =
      tells_of (unique_tail t.f t.depth) p.ready (same_wider t.free (length mem - t.map) (omega arith) (omega (arith, byte_fits)) tag_frame)
      (subst (λ (u : Tail). Answers tagged u (piece_of 1 1 sum t.counter)) (sym (none p.ready.tree p.ready.there z))
      (led no_tail t.counter sum (omega arith) p.held (λ k. no_tail_gives t.f (rule t.f owning t.depth p.ready.m) k t.counter sum) refl
      (subst (λ (v : ℕ). At tagged t.free (v ∷ [])) z tag_at)))

  module _ (n : get_or mem 0 0 ≡ 0 → ⊥) where
    one : Some t.f t.depth mem p.ready.tree
    one = some p.ready.tree p.ready.good p.ready.there n

    abbrev task : Task
    task = record { free = t.free; map = t.map; f = t.f; depth = t.depth; counter = t.counter }

    wide : t.free + 1 + room t.f t.depth + t.map ≤ length mem
    wide = omega (arith, p.ready.room, one.needs)

    size : length tagged ≡ length mem
    size = tag_frame.size

    pub tail_ready : BodyReady AnyBody owning (from tagged 1) task
    tail_ready =
        let z = size in
        let l = from_length tagged 1 (omega (arith, wide)) in
        let s = one.size in
        let q = p.ready.below in
        record {
          tree = one.b;
          good = one.fine;
          there = into (at_below tag_frame one.here (omega arith));
          below = omega arith;
          m = p.ready.m;
          map = map_from 1 tag_frame (omega (arith, byte_fits)) (omega (arith, byte_fits)) p.ready.map;
          lone = p.ready.lone;
          room = omega (arith, wide);
          counts = omega (arith, p.ready.counts, ap (dbl t.depth) one.draws);
          longest = p.ready.longest;
        }

    module _ {y : Bytes} {r : Result Step Refusal} (s : Walks AnyBody owning (from tagged 1) y task r) where
      abbrev end : Bytes
      end = rejoin tagged 1 y

      child_frame : SameOutside tagged end (1 + t.free) (length tagged - t.map)
      child_frame = let z = size in whole_frame tagged 1 t.free t.map (omega (arith, wide)) s.frame

      all_frame : SameOutside mem end t.free (length mem - t.map)
      all_frame =
          let z = size in
          same_then t.free (length mem - t.map) (omega arith) (omega arith) (omega (arith, byte_fits)) (omega arith) tag_frame child_frame

      told : Gives body_bytes end (1 + t.free) (length (body_bytes one.b)) (outcome (rule t.f owning t.depth p.ready.m one.b t.counter 0)) r
      told =
          let z = size in
          let o = one.size in
          let q = p.ready.below in
          whole_gives tagged 1 t.free t.map (omega (arith, wide)) s.frame (1 + t.free) refl
          (s.says p.ready.m (map_from 1 tag_frame (omega (arith, byte_fits)) (omega (arith, byte_fits)) p.ready.map) one.b (into (at_below tag_frame one.here (omega arith))) (omega arith) one.fine)

      -- an answer of the tail that is there
      answers : (r : Result Piece Refusal) → Answers end (tail one.b) r → WalksTail owning mem end sum t r
      answers r g = tells_of (unique_tail t.f t.depth) p.ready all_frame (subst (λ (u : Tail). Answers end u r) (sym one.is) g)

      pub tail_refused : (q : Refusal) → r ≡ Err q → WalksTail owning mem end sum t (Err q)
      tail_refused q e =
          answers (Err q)
          (stopped q (λ k. tail_refuses t.f (rule t.f owning t.depth p.ready.m) k t.counter sum one.b (neutral_rule t.f owning t.depth p.ready.m one.b) q (unmade q e told)) refl)

      module _ (i w d : ℕ) (e : r ≡ step_of i w d) where
        known : Made body_bytes end (1 + t.free) (length (body_bytes one.b)) (outcome (rule t.f owning t.depth p.ready.m one.b t.counter 0)) i w d
        known = made i w d e told

        -- what was read and written
        pub tail_sums : (i ≤ t.f) × (w ≤ t.f)
        tail_sums = (omega (arith, known.read, one.fine.short), omega (arith, known.wrote, rule_short t.f owning t.depth p.ready.m one.b t.counter known.is))

        pub tail_too_long : (q : Refusal) → q ≡ over_long → t.f < sum + w → WalksTail owning mem end sum t (Err q)
        unfolding body_size
        tail_too_long q o lt =
            answers (Err q)
            (stopped over_long
            (λ k. tail_over t.f (rule t.f owning t.depth p.ready.m) k t.counter sum one.b (neutral_rule t.f owning t.depth p.ready.m one.b) known.is (omega (arith, known.wrote)))
            (ap Err o))

        pub tail_done : sum + w ≤ t.f → WalksTail owning mem end sum t (piece_of (1 + i) (1 + w) (sum + w) d)
        unfolding body_size tail_bytes
        tail_done le =
            let u = known.u in
            let tag = at_below child_frame (subst (λ (v : ℕ). At tagged t.free (v ∷ [])) one.tag tag_at) (omega arith) in
            let n : sum + length (body_bytes u) ≡ sum + w = omega (arith, known.wrote) in
            answers (piece_of (1 + i) (1 + w) (sum + w) d)
            (led (tail u) d (sum + w) (omega (arith, known.wrote, tail_sums.1)) le
            (λ k.
            tail_gives t.f (rule t.f owning t.depth p.ready.m) k t.counter sum one.b (neutral_rule t.f owning t.depth p.ready.m one.b) known.is (omega (arith, known.wrote))
            ∙ ap (λ (j : ℕ). outcome (k (tail u) d j)) n)
            (took_is (omega (arith, known.read)) (omega (arith, known.wrote)) refl refl)
            (at_join (1 ∷ []) (body_bytes u) tag (at_place (t.free + 1) (omega arith) known.out)))
