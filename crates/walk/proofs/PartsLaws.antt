-- A count and so many helpers, and the body behind them as a child, beside a sum that goes on. Assumes nothing.
use mathlib.Core.Path.{◌≡◌, refl}
use mathlib.Core.List.{◌++◌}
use native.Mathlib.Omega.{arith}
use Prim.Native.Nat.{ℕ, ◌+◌, ◌-◌, ◌≤◌}
use lib.ListN.{length, length-append}
use Rattle.names.specs.Maps.{NameMap}
use Rattle.names.specs.Names.{Bytes}
use Rattle.names.specs.Segments.{At, SameOutside}
use Rattle.names.specs.declared.Refusal.{Refusal}
use Rattle.names.proofs.Frames.{same_then, at_below}
use Rattle.names.proofs.Parts.{into}
use Rattle.names.proofs.Places.{at_place, at_left, at_right, at_join}
use Rattle.records.specs.Records.{Body, body_bytes, Helpers, helpers_bytes}
use Rattle.walk.specs.Arena.{MapAt}
use Rattle.walk.specs.Draws.{atoms, helpers_atoms, dbl}
use Rattle.walk.specs.FormWalks.{listed_bytes, child_by, helpers_by, new_sum, ChildReady, WalksChild, RestReady, WalksRest, ComesOut, came, stayed}
use Rattle.walk.specs.Room.{room}
use Rattle.walk.specs.Steps.{M, ◌>>=◌, ret}
use Rattle.walk.specs.declared.Child.TheVariants.{Bodyform}
use Rattle.walk.specs.declared.Piece.{Piece}
use Rattle.walk.specs.declared.Rest.TheVariants.{Listed, Parts}
use Rattle.walk.specs.declared.Task.{Task}
use Rattle.walk.specs.declared.Way.{Way}
use Rattle.walk.proofs.ComesLaws.{whole_comes, Came, came_as, stayed_as}
use Rattle.walk.proofs.DoneLaws.{then_done, then_stops, then_stops_later}
use Rattle.walk.proofs.OnParts.{from, rejoin}
use Rattle.walk.proofs.RestLaws.{unique_rest, RestMade, rest_made, rest_room_most}
use Rattle.walk.proofs.Sizes.{dbl_add}
use Rattle.walk.proofs.TreeLaws.{ChildMade, child_made}
use Rattle.walk.proofs.Unique.{tells_of}
use Rattle.walk.proofs.WayLaws.{sum_new, sum_holds_left}
use Rattle.walk.proofs.Wholes.{from_length, whole_frame, map_from, took_is}
use Rattle.std.specs.declared.result.Result.{Result}
use Rattle.std.specs.declared.result.Result.TheVariants.{Err}
use Rattle.walk.specs.RuleAnswers.{piece_of}

module _ {way : Way} {mem : Bytes} {sum : ℕ} {t : Task} (p : RestReady Parts way mem sum t) where
  -- the helpers
  abbrev hs : Helpers
  hs = p.ready.tree.0

  -- the body
  abbrev b : Body
  b = p.ready.tree.1

  -- the map
  abbrev m : NameMap
  m = p.ready.m

  -- the helpers, and the body after them
  abbrev run_helpers : M Helpers
  run_helpers = helpers_by t.f way t.depth m hs

  abbrev run_body : M Body
  run_body = child_by t.f Bodyform way t.depth m b

  abbrev then_body : Helpers → M (Helpers × Body)
  then_body us = run_body >>= λ v. ret (us, v)

  -- the bytes of both
  size : length (listed_bytes hs ++ body_bytes b) ≡ length (listed_bytes hs) + length (body_bytes b)
  size = length-append (listed_bytes hs) (body_bytes b)

  -- there is room for a count, the results and one rule
  wide : t.free + (1 + t.f + room t.f t.depth) + t.map ≤ length mem
  wide = p.ready.room

  -- the draws of both
  draws : dbl t.depth (helpers_atoms hs + atoms b) ≡ dbl t.depth (helpers_atoms hs) + dbl t.depth (atoms b)
  draws = dbl_add t.depth (helpers_atoms hs) (atoms b)

  -- what the helpers are asked
  pub listed_ready : RestReady Listed way mem sum t
  listed_ready =
      record {
        ready =
            record {
              tree = hs;
              good = p.ready.good.0;
              there = at_left (listed_bytes hs) (body_bytes b) p.ready.there;
              below = omega (arith, p.ready.below, size);
              m = m;
              map = p.ready.map;
              lone = p.ready.lone;
              room = omega (arith, wide, rest_room_most Listed t.f t.depth hs);
              counts = omega (arith, p.ready.counts, draws);
              longest = p.ready.longest;
            };
        held = p.held;
        taken = λ e. omega (arith, p.taken e);
      }

  module _ {mid : Bytes} {a : Result Piece Refusal} (s : WalksRest Listed way mem mid sum t a) where
    -- what they answered
    listed_told : ComesOut listed_bytes t.f mid t.free (length (listed_bytes hs)) run_helpers t.counter sum a
    listed_told = s.says m p.ready.map hs (at_left (listed_bytes hs) (body_bytes b) p.ready.there) (omega (arith, p.ready.below, size)) p.ready.good.0

    -- one of them is refused
    pub listed_refused : (q : Refusal) → a ≡ Err q → WalksRest Parts way mem mid sum t (Err q)
    listed_refused q e = tells_of (unique_rest Parts t.f t.depth) p.ready s.frame (stayed q (then_stops run_helpers then_body (stayed_as q e listed_told)) refl)

    module _ (i w x c : ℕ) (e : a ≡ piece_of i w x c) where
      -- they are done
      listed_came : Came listed_bytes t.f mid t.free (length (listed_bytes hs)) run_helpers t.counter sum i w x c
      listed_came = came_as i w x c e listed_told

      -- what they became
      abbrev us : Helpers
      us = listed_came.u

      -- what is known of it
      listed_made : RestMade Listed t.f t.depth way hs t.counter sum us c x
      listed_made = rest_made Listed t.f t.depth way m hs t.counter sum us c x p.ready.map.limited p.ready.good.0 listed_came.run_done

      -- it is in the sum
      listed_sum : x ≡ new_sum way sum (length (helpers_bytes hs)) (length (helpers_bytes us))
      listed_sum = listed_made.sum (λ o. omega (arith, p.taken o))

      -- what was read and written
      pub listed_read : i + length (body_bytes b) ≤ t.free
      listed_read = omega (arith, listed_came.read, p.ready.below, size)

      pub listed_short : w ≤ 1 + t.f
      listed_short = omega (arith, listed_came.wrote, listed_came.within, listed_sum, sum_new way sum (length (helpers_bytes hs)) (length (helpers_bytes us)))

      -- what the rule of the body has to do
      abbrev body_task : Task
      body_task = record { free = t.free + w - i; map = t.map; f = t.f; depth = t.depth; counter = c }

      -- there is room behind their result
      mid_fits : t.free + w + room t.f t.depth + t.map ≤ length mid
      mid_fits = omega (arith, wide, listed_short, s.frame.size)

      -- where the result of the helpers ends
      pub listed_ends : t.free + w ≤ length mid
      listed_ends = omega (arith, mid_fits)

      -- the body stands behind what was read
      body_there : At (from mid i) 0 (body_bytes b)
      body_there =
          into (at_below s.frame (at_place i (omega (arith, listed_came.read)) (at_right (listed_bytes hs) (body_bytes b) p.ready.there)) (omega (arith, listed_read)))

      -- the map is still there
      body_map : MapAt (from mid i) t.map m
      body_map = map_from i s.frame (omega (arith, wide)) (omega (arith, wide, listed_read)) p.ready.map

      -- what the body is asked
      pub body_ready : ChildReady Bodyform way (from mid i) x body_task
      body_ready =
          let l = from_length mid i (omega (arith, mid_fits, listed_read)) in
          record {
            ready =
                record {
                  tree = b;
                  good = p.ready.good.1;
                  there = body_there;
                  below = omega (arith, listed_read);
                  m = m;
                  map = body_map;
                  lone = p.ready.lone;
                  room = omega (arith, mid_fits, listed_read);
                  counts = omega (arith, p.ready.counts, listed_made.counter, draws);
                  longest = p.ready.longest;
                };
            held = listed_came.within;
            taken = λ o. omega (arith, listed_sum, sum_holds_left way sum 0 (length (helpers_bytes hs)) (length (helpers_bytes us)) (length (body_bytes b)) (omega (arith, p.taken o)) o);
          }

      module _ {y : Bytes} {r : Result Piece Refusal} (v : WalksChild Bodyform way (from mid i) y x body_task r) where
        -- memory after it
        abbrev end : Bytes
        end = rejoin mid i y

        -- its part has room for the map
        body_fits : i + (t.free + w - i) + t.map ≤ length mid
        body_fits = omega (arith, mid_fits, listed_read)

        -- it changes only what is behind the result of the helpers
        body_frame : SameOutside mid end (i + (t.free + w - i)) (length mid - t.map)
        body_frame = whole_frame mid i (t.free + w - i) t.map body_fits v.frame

        -- and both change only what is free
        end_frame : SameOutside mem end t.free (length mem - t.map)
        end_frame =
            let n = s.frame.size in
            same_then t.free (length mem - t.map) (omega arith) (omega (arith, listed_read)) (omega arith) (omega arith) s.frame body_frame

        -- what it answered, said of the whole
        body_told : ComesOut body_bytes t.f end (t.free + w) (length (body_bytes b)) run_body c x r
        body_told =
            whole_comes mid i (t.free + w - i) t.map body_fits v.frame (t.free + w) (omega (arith, listed_read))
            (v.says m body_map b body_there (omega (arith, listed_read)) p.ready.good.1)

        -- it is refused
        pub body_refused : (q : Refusal) → r ≡ Err q → WalksRest Parts way mem end sum t (Err q)
        body_refused q o =
            tells_of (unique_rest Parts t.f t.depth) p.ready end_frame
            (stayed q (then_stops_later run_helpers then_body listed_came.run_done (then_stops run_body (λ v. ret (us, v)) (stayed_as q o body_told))) refl)

        module _ (j n x₂ d : ℕ) (o : r ≡ piece_of j n x₂ d) where
          -- it is done
          body_came : Came body_bytes t.f end (t.free + w) (length (body_bytes b)) run_body c x j n x₂ d
          body_came = came_as j n x₂ d o body_told

          -- what is known of what it became
          body_made : ChildMade Bodyform t.f t.depth way b c x body_came.u d x₂
          body_made = child_made Bodyform t.f t.depth way m b c x body_came.u d x₂ p.ready.map.limited p.ready.good.1 body_came.run_done

          -- what was read and written in all
          pub body_read : i + j ≤ t.free
          body_read = omega (arith, listed_read, body_came.read)

          pub body_short : n ≤ t.f
          body_short = omega (arith, body_came.wrote, body_made.made.fine.short)

          -- and that is the answer of both
          pub parts_walk : WalksRest Parts way mem end sum t (piece_of (i + j) (w + n) x₂ d)
          unfolding ret
          parts_walk =
              tells_of (unique_rest Parts t.f t.depth) p.ready end_frame
              (came (us, body_came.u) d x₂
              (then_done run_helpers then_body listed_came.run_done (then_done run_body (λ v. ret (us, v)) body_came.run_done (_, refl)))
              body_came.within
              (took_is (omega (arith, listed_came.read, body_came.read, size)) (omega (arith, listed_came.wrote, body_came.wrote, length-append (listed_bytes us) (body_bytes body_came.u))) refl refl)
              (at_join (listed_bytes us) (body_bytes body_came.u) (at_below body_frame listed_came.out (omega (arith, listed_came.wrote, listed_read)))
              (at_place (t.free + length (listed_bytes us)) (omega (arith, listed_came.wrote)) body_came.out)))
