-- A record that is kept up to a place: its head is copied, the rest behind it goes by the rules of a way, one level down. Assumes nothing.
use mathlib.Core.Path.{◌≡◌, refl}
use native.Mathlib.Omega.{arith}
use Prim.Native.Nat.{ℕ, zero, suc, ◌+◌, ◌-◌, ◌≤◌}
use lib.ListN.{length, take, drop, length-append}
use lib.Seq.{length-take-le}
use Rattle.names.specs.Names.{Bytes}
use Rattle.names.specs.Segments.{At, SameOutside, Filled}
use Rattle.names.specs.declared.Refusal.{Refusal}
use Rattle.names.proofs.Frames.{same_then, at_below, copied_at}
use Rattle.names.proofs.Parts.{into}
use Rattle.names.proofs.Places.{at_left, at_right, at_place, at_join}
use Rattle.records.specs.StepAnswer.{Gives}
use Rattle.records.specs.Records.{Helpers, []ʰ, ◌∷ʰ◌}
use Rattle.records.specs.declared.Step.{Step}
use Rattle.walk.specs.Arena.{outcome}
use Rattle.walk.specs.FormWalks.{RestOf, rest_bytes, rest_room, helpers_room, EachFineHelper, FineRest, rest_by, headed, FineAfter, AfterReady, WalksAfter, RestReady, WalksRest, ComesOut}
use Rattle.walk.specs.Room.{room}
use Rattle.walk.specs.Steps.{M, step}
use Rattle.walk.specs.Walking.{Finishes}
use Rattle.walk.specs.declared.Child.TheVariants.{Helperform, Compileform}
use Rattle.walk.specs.declared.Piece.{Piece}
use Rattle.walk.specs.declared.Rest.{Rest}
use Rattle.walk.specs.declared.Rest.TheVariants.{OneBody, OneForm, Listed, Parts}
use Rattle.walk.specs.declared.Task.{Task}
use Rattle.walk.specs.declared.Way.{Way}
use Rattle.walk.specs.declared.Way.TheVariants.{Further}
use Rattle.walk.proofs.DoneLaws.{outcome_done, outcome_stops}
use Rattle.walk.proofs.ComesLaws.{Came, came_as, stayed_as}
use Rattle.walk.proofs.OnParts.{from, rejoin}
use Rattle.walk.proofs.RestLaws.{unique_rest}
use Rattle.walk.proofs.Results.{some_level, room_down}
use Rattle.walk.proofs.TreeLaws.{tree_level}
use Rattle.walk.proofs.Unique.{Unique, tells_of}
use Rattle.walk.proofs.Wholes.{from_length, whole_frame, whole_at, map_from, finished_as, refused_as}
use Rattle.std.specs.declared.result.Result.{Result}
use Rattle.std.specs.declared.result.Result.TheVariants.{Err}
use Rattle.walk.specs.RuleAnswers.{piece_of}

-- one rest at most stands behind a head
unique_after : (k : Rest) (head : Bytes) (F d : ℕ) → Unique (headed k head) (FineAfter k head F d)
unique_after k head F d xs a b p q x y = unique_rest k F (d - 1) _ a b p.fine q.fine (into (at_right head (rest_bytes k a) x)) (into (at_right head (rest_bytes k b) y))

-- a head of n bytes and what the rest needs are within the room of the level
two_levels : (F d n : ℕ) → 1 ≤ d - 1 → n ≤ F → n + (F + room F (d - 1)) ≤ room F d
two_levels F d n l le = omega (arith, room_down F d (omega arith))

-- a head and a count with its helpers
listed_room : (F d n : ℕ) (hs : Helpers) → EachFineHelper F (d - 1) hs → 1 ≤ d → n + 1 ≤ F → n + (1 + helpers_room F (d - 1) hs) ≤ room F d
unfolding EachFineHelper helpers_room room
listed_room F zero n []ʰ f l le = absurd (omega arith)
listed_room F (suc d) n []ʰ f l le = omega arith
listed_room F d n (h ∷ʰ hs) f l le = omega (arith, two_levels F d (n + 1) (tree_level Helperform F (d - 1) h f.0) le)

-- a head and any rest
after_needs : (k : Rest) (F d n : ℕ) (r : RestOf k) → FineRest k F (d - 1) r → 1 ≤ d → n + length (rest_bytes k r) ≤ F → n + rest_room k F (d - 1) r ≤ room F d
after_needs OneBody F d n r f l le = omega (arith, two_levels F d n (some_level f) (omega arith))
after_needs OneForm F d n r f l le = omega (arith, two_levels F d n (tree_level Compileform F (d - 1) r f) (omega arith))
after_needs Listed F d n r f l le = listed_room F d n r f.each l (omega arith)
after_needs Parts F d n r f l le = omega (arith, two_levels F d (n + 1) (some_level f.1) (omega arith))

module _ {k : Rest} {way : Way} {old : Bytes} {at : ℕ} {t : Task} (p : AfterReady k way old at t) where
  abbrev free : ℕ
  free = t.free

  abbrev F : ℕ
  F = t.f

  -- what is kept
  abbrev head : Bytes
  head = take at old

  -- the rest behind it
  abbrev tree : RestOf k
  tree = p.ready.tree

  -- what the rules of the way have to do
  abbrev rest_task : Task
  rest_task = record { free = free; map = t.map; f = F; depth = t.depth - 1; counter = t.counter }

  head_length : length head ≡ at
  head_length = length-take-le at old p.within

  -- the bytes of both
  headed_length : (r : RestOf k) → length (headed k head r) ≡ at + length (rest_bytes k r)
  headed_length r = omega (arith, length-append head (rest_bytes k r), head_length)

  -- the head and what the rest needs fit
  after_fits : at + rest_room k F (t.depth - 1) tree ≤ room F t.depth
  after_fits = after_needs k F t.depth at tree p.ready.good.fine p.ready.good.level (omega (arith, headed_length tree, p.ready.good.short))

  -- its head can be copied
  pub after_copies : (at ≤ free) × (free + at + t.map ≤ length old)
  after_copies = (omega (arith, headed_length tree, p.ready.below), omega (arith, after_fits, p.ready.room))

  -- the head stands at the start
  head_there : At old 0 head
  head_there = at_left head (rest_bytes k tree) p.ready.there

  -- and the rest behind it
  rest_there : At old at (rest_bytes k tree)
  rest_there = at_place at (omega (arith, head_length)) (at_right head (rest_bytes k tree) p.ready.there)

  module _ {one : Bytes} (cp : Filled old one free (drop 0 old) at) where
    -- the rest is still there
    rest_kept : At (from one at) 0 (rest_bytes k tree)
    rest_kept = into (at_below cp.frame rest_there (omega (arith, headed_length tree, p.ready.below)))

    -- the rest, of a way that replaces nothing
    pub after_rest : (way ≡ Further → ⊥) → RestReady k way (from one at) 0 rest_task
    after_rest fresh =
        let l = from_length one at (omega (arith, cp.frame.size, p.within)) in
        record {
          ready = record {
            tree = tree;
            good = p.ready.good.fine;
            there = rest_kept;
            below = omega (arith, headed_length tree, p.ready.below);
            m = p.ready.m;
            map = map_from at cp.frame (omega (arith, after_copies.1)) (omega (arith, after_copies.1)) p.ready.map;
            lone = p.ready.lone;
            room = omega (arith, after_fits, p.ready.room, cp.frame.size);
            counts = p.ready.counts;
            longest = p.ready.longest;
          };
          held = omega arith;
          taken = λ e. absurd (fresh e);
        }

    module _ {x : Bytes} {a : Result Piece Refusal} (w : WalksRest k way (from one at) x 0 rest_task a) where
      -- memory after it
      abbrev two : Bytes
      two = rejoin one at x

      -- it changes only what is behind the copy
      rest_frame : SameOutside one two (at + free) (length one - t.map)
      rest_frame = whole_frame one at free t.map (omega (arith, after_copies.1, cp.frame.size)) w.frame

      -- and both change only what is free
      two_frame : SameOutside old two free (length old - t.map)
      two_frame = same_then free (length old - t.map) (omega arith) (omega arith) (omega (arith, after_copies.1)) (omega (arith, cp.frame.size)) cp.frame rest_frame

      -- the run of the rest
      abbrev run : M (RestOf k)
      run = rest_by F k way (t.depth - 1) p.ready.m tree

      -- what it answered
      answer : ComesOut (rest_bytes k) F x free (length (rest_bytes k tree)) run t.counter 0 a
      answer =
          w.says p.ready.m (map_from at cp.frame (omega (arith, after_copies.1)) (omega (arith, after_copies.1)) p.ready.map) tree rest_kept
          (omega (arith, headed_length tree, p.ready.below)) p.ready.good.fine

      -- what is given of the rest that is known is the answer
      after_tells : {z : Result Step Refusal} → Gives (headed k head) two free (length (headed k head tree)) (outcome (step F (λ v. length (headed k head v)) run t.counter 0)) z → WalksAfter k way old two at t z
      after_tells g = tells_of (unique_after k head F t.depth) p.ready two_frame g

      -- the rest is refused
      pub after_stopped : (q : Refusal) → a ≡ Err q → WalksAfter k way old two at t (Err q)
      after_stopped q e = after_tells (refused_as (headed k head) F run t.counter (outcome_stops (stayed_as q e answer)) refl)

      -- it is written behind the head
      module _ (i j s c : ℕ) (e : a ≡ piece_of i j s c) where
        done : Came (rest_bytes k) F x free (length (rest_bytes k tree)) run t.counter 0 i j s c
        done = came_as i j s c e answer

        -- its result stands behind the copy
        rest_out : At two (free + at) (rest_bytes k done.u)
        rest_out = whole_at one at free t.map (omega (arith, after_copies.1, cp.frame.size)) w.frame (free + at) (omega arith) done.out

        -- and with the copy it is the record
        all_out : At two free (headed k head done.u)
        all_out =
            let h = copied_at 0 free cp (omega (arith, after_copies.1)) head_there (omega arith) (omega (arith, head_length)) (omega arith) in
            at_join head (rest_bytes k done.u) (at_below rest_frame h (omega (arith, head_length))) (at_place (free + length head) (omega (arith, head_length)) rest_out)

        -- what was read and written
        pub after_sums : (at + i ≤ free) × (free + (at + j) ≤ length old)
        after_sums = (omega (arith, done.read, headed_length tree, p.ready.below), omega (arith, rest_out.fits, done.wrote, two_frame.size))

        -- the record is finished
        pub after_finished : {z : Result Step Refusal} → Finishes (at + i) (at + j) F c z → WalksAfter k way old two at t z
        after_finished f =
            after_tells
            (finished_as (headed k head) run t.counter f (outcome_done done.run_done) (omega (arith, done.read, headed_length tree)) (omega (arith, done.wrote, headed_length done.u)) all_out)
