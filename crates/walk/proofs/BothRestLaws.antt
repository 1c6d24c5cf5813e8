-- A rest by the args-rules in memory cut at the map, then its result by the in-rules, which is moved down over it. Assumes nothing.
use mathlib.Core.Logic.{inr}
use mathlib.Core.Path.{◌≡◌, refl, subst}
use mathlib.Core.List.{[]}
use native.Mathlib.Omega.{arith}
use Prim.Native.Nat.{ℕ, ◌+◌, ◌-◌, ◌≤◌}
use lib.ListN.{length, drop}
use Rattle.names.specs.Maps.{NameMap}
use Rattle.names.specs.Names.{Bytes}
use Rattle.names.specs.Segments.{At, SameOutside, Filled, Movable}
use Rattle.names.specs.declared.Refusal.{Refusal}
use Rattle.names.proofs.Frames.{same_wider, same_then, copied_at}
use Rattle.names.proofs.Parts.{part, back, part_length, at_part, into}
use Rattle.walk.specs.Arena.{MapAt}
use Rattle.walk.specs.FormWalks.{RestOf, rest_bytes, rest_records, rest_atoms, rest_by, RestReady, WalksRest, BothRestReady, WalksBothRest, ComesOut, came, stayed}
use Rattle.walk.specs.Room.{room}
use Rattle.walk.specs.Steps.{M}
use Rattle.walk.specs.declared.Piece.{Piece}
use Rattle.walk.specs.declared.Rest.{Rest}
use Rattle.walk.specs.declared.Rest.TheVariants.{OneBody, OneForm, Listed, Parts}
use Rattle.walk.specs.declared.Task.{Task}
use Rattle.walk.specs.declared.Way.TheVariants.{Own, Further}
use Rattle.walk.proofs.ComesLaws.{cut_comes, whole_comes, Came, came_as, stayed_as}
use Rattle.walk.proofs.DoneLaws.{then_done, then_stops, then_stops_later}
use Rattle.walk.proofs.MapLaws.{no_map}
use Rattle.walk.proofs.OnParts.{from, rejoin}
use Rattle.walk.proofs.RestLaws.{unique_rest, RestMade, rest_made, rest_long, rest_room_most}
use Rattle.walk.proofs.Sizes.{dbl_mono}
use Rattle.walk.proofs.Unique.{tells_of}
use Rattle.walk.proofs.WayLaws.{own_fresh}
use Rattle.walk.proofs.Wholes.{from_length, cut_frame, whole_frame, map_from, took_is}
use Rattle.std.specs.declared.result.Result.{Result}
use Rattle.std.specs.declared.result.Result.TheVariants.{Err}
use Rattle.walk.specs.RuleAnswers.{piece_of}

-- the args-rules need no map
own_any : (F : ℕ) (k : Rest) (d : ℕ) (m n : NameMap) (r : RestOf k) → rest_by F k Own d m r ≡ rest_by F k Own d n r
own_any F OneBody d m n r = refl
own_any F OneForm d m n r = refl
own_any F Listed d m n r = refl
own_any F Parts d m n r = refl

module _ {k : Rest} {mem : Bytes} {sum : ℕ} {t : Task} (p : BothRestReady k mem sum t) where
  -- where the map starts
  abbrev top : ℕ
  top = length mem - t.map

  -- memory up to the map
  abbrev cut : Bytes
  cut = part mem 0 top

  -- what the args-rules have to do
  abbrev own_task : Task
  own_task = record { free = t.free; map = 0; f = t.f; depth = t.depth; counter = t.counter }

  -- the rest
  abbrev r : RestOf k
  r = p.ready.tree

  -- the map
  abbrev m : NameMap
  m = p.ready.m

  -- there is room for two results and for one rule
  wide : t.free + (1 + t.f + (1 + t.f + room t.f t.depth)) + t.map ≤ length mem
  wide = p.ready.room

  pub cut_length : length cut ≡ top
  cut_length = part_length mem 0 top (omega arith)

  -- the rest stands there
  there : At cut 0 (rest_bytes k r)
  there = at_part 0 top p.ready.there (omega arith) (omega (arith, p.ready.below, wide))

  -- what the args-rules are asked
  pub own_ready : RestReady k Own cut sum own_task
  own_ready =
      let l = cut_length in
      record {
        ready =
            record {
              tree = r;
              good = p.ready.good;
              there = there;
              below = p.ready.below;
              m = [];
              map = no_map;
              lone = λ e. refl;
              room = omega (arith, wide, rest_room_most k t.f t.depth r);
              counts = omega (arith, p.ready.counts);
              longest = p.ready.longest;
            };
        held = p.held;
        taken = λ e. absurd (own_fresh e);
      }

  module _ {y : Bytes} {a : Result Piece Refusal} (s : WalksRest k Own cut y sum own_task a) where
    -- memory after them
    abbrev half : Bytes
    half = back mem 0 top y

    -- they change only what is free
    own_frame : SameOutside mem half t.free (length mem - t.map)
    own_frame = same_wider t.free (length mem - t.map) (omega arith) (omega arith) (cut_frame mem 0 top (omega arith) t.free 0 (omega (arith, wide)) s.frame)

    -- what they answered, said of the whole
    own_told : ComesOut (rest_bytes k) t.f half t.free (length (rest_bytes k r)) (rest_by t.f k Own t.depth m r) t.counter sum a
    own_told =
        cut_comes mem 0 top (omega arith) t.free 0 (omega (arith, wide)) s.frame t.free (omega arith)
        (subst (λ (run : M (RestOf k)). ComesOut (rest_bytes k) t.f y t.free (length (rest_bytes k r)) run t.counter sum a) (own_any t.f k t.depth [] m r)
        (s.says [] no_map r there p.ready.below p.ready.good))

    -- they refuse
    pub own_refused : (q : Refusal) → a ≡ Err q → WalksBothRest k mem half sum t (Err q)
    own_refused q e =
        tells_of (unique_rest k t.f t.depth) p.ready own_frame
        (stayed q (then_stops (rest_by t.f k Own t.depth m r) (rest_by t.f k Further t.depth m) (stayed_as q e own_told)) refl)

    module _ (i w x c : ℕ) (e : a ≡ piece_of i w x c) where
      -- they are done
      own_came : Came (rest_bytes k) t.f half t.free (length (rest_bytes k r)) (rest_by t.f k Own t.depth m r) t.counter sum i w x c
      own_came = came_as i w x c e own_told

      -- what they made
      abbrev u : RestOf k
      u = own_came.u

      -- what is known of it
      own_made : RestMade k t.f t.depth Own r t.counter sum u c x
      own_made = rest_made k t.f t.depth Own m r t.counter sum u c x p.ready.map.limited p.ready.good own_came.run_done

      -- what was made is in the sum
      own_sum : x ≡ sum + rest_records k u
      own_sum = own_made.sum (λ o. absurd (own_fresh o))

      -- it is at most a byte longer than F
      own_short : w ≤ 1 + t.f
      own_short = omega (arith, own_came.wrote, own_came.within, own_sum, (rest_long k u).1)

      -- what the in-rules have to do
      abbrev further_task : Task
      further_task = record { free = w; map = t.map; f = t.f; depth = t.depth; counter = c }

      -- there is room behind it
      half_fits : t.free + w + (1 + t.f + room t.f t.depth) + t.map ≤ length half
      half_fits = omega (arith, wide, own_short, own_frame.size)

      -- where the result of the args-rules ends
      pub own_ends : t.free + w ≤ length mem
      own_ends = omega (arith, wide, own_short)

      -- the map is still there
      half_map : MapAt (from half t.free) t.map m
      half_map = map_from t.free own_frame (omega (arith, wide)) (omega (arith, wide)) p.ready.map

      -- what the in-rules are asked
      pub further_ready : RestReady k Further (from half t.free) x further_task
      further_ready =
          let l = from_length half t.free (omega (arith, half_fits)) in
          record {
            ready =
                record {
                  tree = u;
                  good = own_made.fine;
                  there = into own_came.out;
                  below = omega (arith, own_came.wrote);
                  m = m;
                  map = half_map;
                  lone = λ o. let z : ◌≡◌ {A = ℕ} 0 1 = cc in absurd (omega arith);
                  room = omega (arith, half_fits, rest_room_most k t.f t.depth u);
                  counts = omega (arith, p.ready.counts, own_made.counter, dbl_mono t.depth (rest_atoms k u) (rest_atoms k r) own_made.few);
                  longest = p.ready.longest;
                };
            held = own_came.within;
            taken = λ o. omega (arith, own_sum);
          }

      module _ {z : Bytes} {b : Result Piece Refusal} (v : WalksRest k Further (from half t.free) z x further_task b) where
        -- memory after them
        abbrev end : Bytes
        end = rejoin half t.free z

        -- they change only what is behind that result
        further_frame : SameOutside half end (t.free + w) (length half - t.map)
        further_frame = whole_frame half t.free w t.map (omega (arith, half_fits)) v.frame

        -- what they answered, said of the whole
        further_told : ComesOut (rest_bytes k) t.f end (t.free + w) (length (rest_bytes k u)) (rest_by t.f k Further t.depth m u) c x b
        further_told =
            whole_comes half t.free w t.map (omega (arith, half_fits)) v.frame (t.free + w) refl
            (v.says m half_map u (into own_came.out) (omega (arith, own_came.wrote)) own_made.fine)

        -- and both change only what is free
        end_frame : SameOutside mem end t.free (length mem - t.map)
        end_frame = let n = own_frame.size in same_then t.free (length mem - t.map) (omega arith) (omega arith) (omega arith) (omega arith) own_frame further_frame

        -- they refuse
        pub further_refused : (q : Refusal) → b ≡ Err q → WalksBothRest k mem end sum t (Err q)
        further_refused q o =
            tells_of (unique_rest k t.f t.depth) p.ready end_frame
            (stayed q (then_stops_later (rest_by t.f k Own t.depth m r) (rest_by t.f k Further t.depth m) own_came.run_done (stayed_as q o further_told)) refl)

        module _ (j n x₂ d : ℕ) (o : b ≡ piece_of j n x₂ d) where
          -- they are done
          further_came : Came (rest_bytes k) t.f end (t.free + w) (length (rest_bytes k u)) (rest_by t.f k Further t.depth m u) c x j n x₂ d
          further_came = came_as j n x₂ d o further_told

          -- what is known of what they made
          further_made : RestMade k t.f t.depth Further u c x further_came.u d x₂
          further_made = rest_made k t.f t.depth Further m u c x further_came.u d x₂ p.ready.map.limited own_made.fine further_came.run_done

          -- it is at most a byte longer than F
          further_short : n ≤ 1 + t.f
          further_short =
              let q = further_made.sum (λ z. omega (arith, own_sum)) in
              omega (arith, further_came.wrote, further_came.within, q, (rest_long k further_came.u).1)

          -- it fits before the map
          end_fits : t.free + w + n + t.map ≤ length end
          end_fits = omega (arith, half_fits, further_short, further_frame.size)

          -- so it can be moved down
          pub further_moves : Movable end (t.free + w) t.free n
          further_moves = record { source = omega (arith, end_fits); target = omega (arith, end_fits); safe = inr (omega arith) }

          -- and that is the answer of both
          pub both_walks : {new : Bytes} → Filled end new t.free (drop (t.free + w) end) n → WalksBothRest k mem new sum t (piece_of i n x₂ d)
          both_walks g =
              let l = end_frame.size in
              tells_of (unique_rest k t.f t.depth) p.ready
              (same_then t.free (length mem - t.map) (omega arith) (omega arith) (omega arith) (omega (arith, end_fits)) end_frame g.frame)
              (came further_came.u d x₂
              (then_done (rest_by t.f k Own t.depth m r) (rest_by t.f k Further t.depth m) own_came.run_done further_came.run_done)
              further_came.within
              (took_is own_came.read further_came.wrote refl refl)
              (copied_at (t.free + w) t.free g (omega (arith, end_fits)) further_came.out (omega arith) (omega (arith, further_came.wrote)) (omega arith)))
