-- A record whose args stand at a place: its head is copied, its args go by new names, and the rest behind them goes by both rules, one level down. Assumes
-- nothing.
use mathlib.Core.Path.{◌≡◌, refl, ap, ◌∙◌}
use mathlib.Core.Bool.{true}
use mathlib.Core.List.{[], ◌++◌}
use native.Mathlib.Omega.{arith}
use Prim.Native.Nat.{ℕ, ◌+◌, ◌*◌, ◌-◌, ◌≤◌}
use lib.ListN.{length, take, drop, length-append}
use lib.Seq.{length-take-le}
use Rattle.names.specs.Maps.{NameMap}
use Rattle.names.specs.Names.{Bytes}
use Rattle.names.specs.Segments.{At, SameOutside, Filled}
use Rattle.names.specs.declared.Refusal.{Refusal}
use Rattle.names.proofs.Frames.{same_then, same_wider, at_below, copied_at}
use Rattle.names.proofs.Parts.{into}
use Rattle.names.proofs.Places.{at_left, at_right, at_place, at_join}
use Rattle.records.specs.StepAnswer.{gives, Gives}
use Rattle.records.specs.Records.{Sexp, sexp_bytes}
use Rattle.records.specs.declared.Step.{Step}
use Rattle.walk.specs.Arena.{MapAt, outcome}
use Rattle.walk.specs.FormWalks.{RestOf, rest_bytes, both_by, with_args, FineRenewed, RenewedReady, WalksRenewed, BothRestReady, WalksBothRest, ComesOut}
use Rattle.walk.specs.NewNames.{ArgsReady, ArgsDrawn, DrawsArgs}
use Rattle.walk.specs.RenameInCons.{rename_in_cons}
use Rattle.walk.specs.Room.{room}
use Rattle.walk.specs.Steps.{M, ◌>>=◌, ret, step}
use Rattle.walk.specs.Walking.{Finishes}
use Rattle.walk.specs.declared.Drawn.{Drawn}
use Rattle.walk.specs.declared.Piece.{Piece}
use Rattle.walk.specs.declared.Rest.{Rest}
use Rattle.walk.specs.declared.Task.{Task}
use Rattle.walk.proofs.DoneLaws.{then_done, then_stops, outcome_done, outcome_stops}
use Rattle.walk.proofs.ComesLaws.{Came, came_as, stayed_as}
use Rattle.walk.proofs.MapLaws.{map_of_part}
use Rattle.walk.proofs.NewNameLaws.{args_then, args_go_on, ArgsGot, args_got, args_halted}
use Rattle.walk.proofs.OnParts.{from, rejoin}
use Rattle.walk.proofs.PartMaps.{map_back}
use Rattle.walk.proofs.RestLaws.{unique_rest}
use Rattle.walk.proofs.Results.{room_down, counter_least, invent_draws}
use Rattle.walk.proofs.Unique.{Unique, same_pair, unique_first, unique_sexp, tells_of}
use Rattle.walk.proofs.Views.{least_sexp}
use Rattle.walk.proofs.Wholes.{from_length, whole_frame, whole_at, finished_as, refused_as}
use Rattle.std.specs.declared.result.Result.{Result}
use Rattle.std.specs.declared.result.Result.TheVariants.{Err}
use Rattle.walk.specs.RuleAnswers.{drawn_of}
use Rattle.walk.specs.RuleAnswers.{piece_of}

-- one pair of args and a rest at most stands behind a head
unique_renewed : (k : Rest) (head : Bytes) (F d : ℕ) → Unique (with_args k head) (FineRenewed k head F d)
unique_renewed k head F d xs a b p q x y =
    let u = at_right head (sexp_bytes a.0 ++ rest_bytes k a.1) x in
    let v = at_right head (sexp_bytes b.0 ++ rest_bytes k b.1) y in
    let s = unique_first sexp_bytes unique_sexp a.0 b.0 (rest_bytes k a.1) (rest_bytes k b.1) p.args q.args u v in
    same_pair s.0 (unique_rest k F (d - 1) _ a.1 b.1 p.fine q.fine (into s.1) (into s.2))

module _ {k : Rest} {old : Bytes} {args : ℕ} {t : Task} (p : RenewedReady k old args t) where
  abbrev free : ℕ
  free = t.free

  abbrev F : ℕ
  F = t.f

  -- what is kept
  abbrev head : Bytes
  head = take args old

  -- its args and its rest
  abbrev tree : Sexp × RestOf k
  tree = p.ready.tree

  -- its args
  abbrev a : Sexp
  a = tree.0

  -- and the rest behind them
  abbrev e : RestOf k
  e = tree.1

  head_length : length head ≡ args
  head_length = length-take-le args old p.within

  -- the bytes of all three
  all_length : (q : Sexp × RestOf k) → length (with_args k head q) ≡ args + length (sexp_bytes q.0) + length (rest_bytes k q.1)
  all_length q = omega (arith, length-append head (sexp_bytes q.0 ++ rest_bytes k q.1), length-append (sexp_bytes q.0) (rest_bytes k q.1), head_length)

  -- all of it is below free and at most F long, and F is not 0
  places : (args + length (sexp_bytes a) + length (rest_bytes k e) ≤ free) × (args + length (sexp_bytes a) + length (rest_bytes k e) ≤ F) × (1 ≤ F)
  places =
      let n = all_length tree in
      (omega (arith, p.ready.below), omega (arith, p.ready.good.short), omega (arith, p.ready.good.short, least_sexp a p.ready.good.args.0))

  -- the room of its level, and of the one below
  renewed_room : free + (8 * F + room F (t.depth - 1)) ≤ length old
  renewed_room = omega (arith, p.ready.room, room_down F t.depth p.ready.good.levels)

  -- its head can be copied
  pub renewed_copies : (args ≤ free) × (free + args ≤ length old)
  renewed_copies = (omega (arith, places.0), omega (arith, places.1, renewed_room))

  -- the head stands at the start
  head_there : At old 0 head
  head_there = at_left head (sexp_bytes a ++ rest_bytes k e) p.ready.there

  -- the args and the rest stand behind it
  behind : At old args (sexp_bytes a ++ rest_bytes k e)
  behind = at_place args (omega (arith, head_length)) (at_right head (sexp_bytes a ++ rest_bytes k e) p.ready.there)

  module _ {one : Bytes} (cp : Filled old one free (drop 0 old) args) where
    -- the args are still there
    args_there : At (from one args) 0 (sexp_bytes a)
    args_there = into (at_below cp.frame (at_left (sexp_bytes a) (rest_bytes k e) behind) (omega (arith, places.0)))

    -- new names for the args
    pub renewed_args : ArgsReady (from one args) free F t.counter
    renewed_args =
        let l = from_length one args (omega (arith, cp.frame.size, p.within)) in
        record {
          s = a;
          valid = p.ready.good.args;
          there = args_there;
          below = omega (arith, places.0);
          room = omega (arith, cp.frame.size, places.1, renewed_room);
          counts = counter_least t.counter (length (sexp_bytes a)) (omega (arith, p.ready.counts)) (omega (arith, places.1, p.ready.longest));
        }

    module _ {y : Bytes} {r : Result Drawn Refusal} (d : DrawsArgs (from one args) y free true F t.counter r) where
      -- memory after them
      abbrev two : Bytes
      two = rejoin one args y

      -- they change only what is free of their part
      own_frame : SameOutside (from one args) y free (length (from one args) - 0)
      own_frame = same_wider free (length (from one args) - 0) (omega arith) (omega arith) d.frame

      -- and, of the whole, only what is behind the copy
      drawn_frame : SameOutside one two (args + free) (length old)
      drawn_frame = same_wider (args + free) (length old) (omega arith) (omega (arith, cp.frame.size)) (whole_frame one args free 0 (omega (arith, cp.frame.size, renewed_copies.1)) own_frame)

      -- with the copy, only what is free
      two_frame : SameOutside old two free (length old)
      two_frame = same_then free (length old) (omega arith) (omega arith) (omega (arith, renewed_copies.1)) (omega arith) cp.frame drawn_frame

      -- what is answered of them
      answer : ArgsDrawn true a y free F t.counter r
      answer = d.says a p.ready.good.args args_there

      -- what follows the args
      abbrev then_rest : NameMap → Sexp → M (Sexp × RestOf k)
      then_rest m a' = both_by F k (t.depth - 1) m e >>= λ r. ret (a', r)

      -- all of it
      abbrev run : M (Sexp × RestOf k)
      run = args_then F true a then_rest

      -- what is given of the record that is known is the answer
      renewed_tells : {new : Bytes} {z : Result Step Refusal} → SameOutside old new free (length old)
          → Gives (with_args k head) new free (length (with_args k head tree)) (outcome (step F (λ v. length (with_args k head v)) run t.counter 0)) z → WalksRenewed k old new args t z
      renewed_tells f g = tells_of (unique_renewed k head F t.depth) p.ready (same_wider free (length old - t.map) (omega arith) (omega (arith, p.ready.lone refl)) f) g

      -- the args are refused
      pub renewed_stopped : (q : Refusal) → r ≡ Err q → WalksRenewed k old two args t (Err q)
      renewed_stopped q z = renewed_tells two_frame (refused_as (with_args k head) F run t.counter (args_halted F 0 then_rest q (omega arith) z answer) refl)

      -- they are drawn for
      module _ (i w len c' : ℕ) (g : r ≡ drawn_of i w len c') where
        got : ArgsGot true a y free F t.counter i w len c'
        got = args_got i w len c' g answer

        -- where the rest starts
        abbrev q : ℕ
        q = args + i

        -- what both rules of the rest have to do
        abbrev rest_task : Task
        rest_task = record { free = free + args + w - q; map = len; f = F; depth = t.depth - 1; counter = c' }

        -- where things stand
        pub renewed_places : (q + length (rest_bytes k e) ≤ free) × (q ≤ free + args + w) × (free + args + w + (1 + F + (1 + F + room F (t.depth - 1))) + len ≤ length old)
        renewed_places = (
          omega (arith, got.read, places.0),
          omega (arith, got.read, places.0),
          omega (arith, got.short, got.small, places.1, places.2, renewed_room),
        )

        -- the args by their new names
        abbrev new_args : Sexp
        new_args = rename_in_cons true got.m a

        -- they stand behind the copy
        args_out : At two (free + args) (sexp_bytes new_args)
        args_out = whole_at one args free 0 (omega (arith, cp.frame.size, renewed_copies.1)) own_frame (free + args) (omega arith) got.out

        -- their map stands at the end
        map_two : MapAt two len got.m
        map_two = map_back one args (omega (arith, cp.frame.size, p.within)) d.frame.size got.map

        -- also in the part from the rest on
        map_there : MapAt (from two q) len got.m
        map_there = map_of_part q (omega (arith, two_frame.size, renewed_places.1, renewed_places.2)) map_two

        -- the rest is still there
        rest_there : At (from two q) 0 (rest_bytes k e)
        rest_there = into (at_below two_frame (at_place q (omega (arith, got.read)) (at_right (sexp_bytes a) (rest_bytes k e) behind)) renewed_places.0)

        -- what both rules are asked
        pub renewed_both : BothRestReady k (from two q) w rest_task
        renewed_both =
            let size = two_frame.size in
            let l = from_length two q (omega (arith, renewed_places.0, renewed_room)) in
            record {
              ready = record {
                tree = e;
                good = p.ready.good.fine;
                there = rest_there;
                below = omega (arith, renewed_places.0);
                m = got.m;
                map = map_there;
                lone = λ z. let z : ◌≡◌ {A = ℕ} 0 1 = cc in absurd (omega arith);
                room = omega (arith, renewed_places.1, renewed_places.2);
                counts = omega (arith, invent_draws [] a t.counter 0 got.runs, p.ready.counts);
                longest = p.ready.longest;
              };
              held = got.short;
            }

        module _ {x : Bytes} {o : Result Piece Refusal} (b : WalksBothRest k (from two q) x w rest_task o) where
          -- memory after both rules
          abbrev three : Bytes
          three = rejoin two q x

          -- they change only what is behind the args
          over_frame : SameOutside two three (q + rest_task.free) (length two - len)
          over_frame = whole_frame two q rest_task.free len (omega (arith, two_frame.size, renewed_places.1, renewed_places.2)) b.frame

          -- and all of it, only what is free
          three_frame : SameOutside old three free (length old)
          three_frame = same_then free (length old) (omega arith) (omega (arith, renewed_places.1)) (omega arith) (omega (arith, two_frame.size)) two_frame over_frame

          -- both rules of the rest
          abbrev rest_run : M (RestOf k)
          rest_run = both_by F k (t.depth - 1) got.m e

          -- what both rules answered
          comes : ComesOut (rest_bytes k) F x rest_task.free (length (rest_bytes k e)) rest_run c' w o
          comes = b.says got.m map_there e rest_there (omega (arith, renewed_places.0)) p.ready.good.fine

          -- the run goes on to the rest
          goes_on : outcome (run t.counter 0) ≡ outcome (then_rest got.m new_args c' w)
          goes_on =
              let n : 0 + length (sexp_bytes new_args) ≡ w = omega (arith, got.wrote) in
              args_go_on F true a t.counter 0 then_rest got.runs (omega (arith, got.short)) ∙ ap (λ (z : ℕ). outcome (then_rest got.m new_args c' z)) n

          -- the rest is refused
          pub renewed_halted : (j : Refusal) → o ≡ Err j → WalksRenewed k old three args t (Err j)
          renewed_halted j z =
              renewed_tells three_frame
              (refused_as (with_args k head) F run t.counter (goes_on ∙ outcome_stops (then_stops rest_run (λ r. ret (new_args, r)) (stayed_as j z comes))) refl)

          -- all of it is written
          module _ (j u s n : ℕ) (z : o ≡ piece_of j u s n) where
            done : Came (rest_bytes k) F x rest_task.free (length (rest_bytes k e)) rest_run c' w j u s n
            done = came_as j u s n z comes

            -- what the args and the rest became
            abbrev made : Sexp × RestOf k
            made = (new_args, done.u)

            made_length : length (with_args k head made) ≡ args + w + u
            made_length = omega (arith, all_length made, got.wrote, done.wrote)

            -- the rest stands behind the args
            rest_out : At three (free + args + w) (rest_bytes k done.u)
            rest_out =
                whole_at two q rest_task.free len (omega (arith, two_frame.size, renewed_places.1, renewed_places.2)) b.frame (free + args + w) (omega (arith, renewed_places.1)) done.out

            -- and with the copy it is the record
            made_out : At three free (with_args k head made)
            made_out =
                let h = copied_at 0 free cp renewed_copies.1 head_there (omega arith) (omega (arith, head_length)) (omega arith) in
                let head₃ = at_below over_frame (at_below drawn_frame h (omega (arith, head_length))) (omega (arith, head_length, renewed_places.1)) in
                let args₃ = at_below over_frame args_out (omega (arith, got.wrote, renewed_places.1)) in
                let rest₃ = at_place (free + args + length (sexp_bytes new_args)) (omega (arith, got.wrote)) rest_out in
                at_join head (sexp_bytes new_args ++ rest_bytes k done.u) head₃
                (at_place (free + length head) (omega (arith, head_length)) (at_join (sexp_bytes new_args) (rest_bytes k done.u) args₃ rest₃))

            -- the run gives it
            gives_made : outcome (run t.counter 0) ≡ gives made n
            unfolding ret
            gives_made = goes_on ∙ outcome_done (then_done rest_run (λ r. ret (new_args, r)) done.run_done ([], refl))

            -- what was read and written
            pub renewed_sums : (q + j ≤ free) × (free + (args + w + u) ≤ length old)
            renewed_sums = (omega (arith, done.read, renewed_places.0), omega (arith, rest_out.fits, done.wrote, three_frame.size))

            -- the record is finished
            pub renewed_finished : {z : Result Step Refusal} → Finishes (q + j) (args + w + u) F n z → WalksRenewed k old three args t z
            renewed_finished f =
                renewed_tells three_frame (finished_as (with_args k head) run t.counter f gives_made (omega (arith, done.read, got.read, all_length tree)) (omega (arith, made_length)) made_out)
