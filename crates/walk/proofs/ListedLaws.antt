-- A count and so many helpers: the count is kept, and the helpers stand behind it. Assumes nothing.
use mathlib.Core.Path.{◌≡◌, refl, sym, subst, ◌∙◌}
use mathlib.Core.List.{[], ◌∷◌}
use native.Mathlib.Omega.{arith}
use Prim.Native.Nat.{ℕ, ◌+◌, ◌-◌, ◌≤◌}
use lib.ListN.{length, get_or, set}
use Rattle.names.specs.Names.{Bytes}
use Rattle.names.specs.Segments.{At, SameOutside}
use Rattle.names.specs.declared.Refusal.{Refusal}
use Rattle.names.proofs.Frames.{same_then, same_set, at_below, filled_set, filled_at}
use Rattle.names.proofs.Parts.{into}
use Rattle.names.proofs.Places.{at_place, at_get, at_right, at_join, at_whole}
use Rattle.records.specs.Records.{Helpers, helpers_bytes, helpers_count}
use Rattle.walk.specs.Arena.{MapAt}
use Rattle.walk.specs.FormWalks.{FineHelpers, helpers_by, ComesOut, came, stayed, HelpersReady, WalksHelpers, RestReady, WalksRest}
use Rattle.walk.specs.declared.Piece.{Piece}
use Rattle.walk.specs.declared.Rest.TheVariants.{Listed}
use Rattle.walk.specs.declared.Task.{Task}
use Rattle.walk.specs.declared.Way.{Way}
use Rattle.walk.proofs.ComesLaws.{whole_comes, Came, came_as, stayed_as}
use Rattle.walk.proofs.OnParts.{from, rejoin}
use Rattle.walk.proofs.RestLaws.{unique_rest, HelpersMade, helpers_made}
use Rattle.walk.proofs.Unique.{tells_of}
use Rattle.walk.proofs.Wholes.{from_length, whole_frame, map_from, took_is}
use Rattle.std.specs.declared.result.Result.{Result}
use Rattle.std.specs.declared.result.Result.TheVariants.{Err}
use Rattle.walk.specs.RuleAnswers.{piece_of}

module _ {way : Way} {mem : Bytes} {sum : ℕ} {t : Task} (p : RestReady Listed way mem sum t) where
  -- the helpers
  abbrev hs : Helpers
  hs = p.ready.tree

  -- the first byte
  abbrev count : ℕ
  count = get_or mem 0 0

  -- there is room for the count
  pub byte_fits : t.free + 1 + t.map ≤ length mem
  byte_fits = omega (arith, p.ready.room)

  -- the first byte says how many there are
  many : helpers_count hs ≡ count
  many = sym (at_get p.ready.there 0 (omega arith))

  -- memory with the count kept
  abbrev counted : Bytes
  counted = set mem t.free count

  -- the count is all that changes
  count_frame : SameOutside mem counted t.free (t.free + 1)
  count_frame = same_set mem t.free count t.free (t.free + 1) (omega arith) (omega arith)

  -- it stands at free
  count_at : At counted t.free (count ∷ [])
  count_at = filled_at t.free (filled_set mem t.free count (omega (arith, byte_fits))) (omega (arith, byte_fits)) (at_whole (count ∷ [])) (omega arith) (omega arith)

  -- the helpers behind it
  fine : FineHelpers t.f t.depth count hs
  fine = record { each = p.ready.good.each; many = many }

  -- they stand behind the count
  here : At counted 1 (helpers_bytes hs)
  here = at_below count_frame (at_right (helpers_count hs ∷ []) (helpers_bytes hs) p.ready.there) (omega (arith, p.ready.below))

  -- the map in the part behind the count
  part_map : MapAt (from counted 1) t.map p.ready.m
  part_map = map_from 1 count_frame (omega (arith, byte_fits)) (omega (arith, byte_fits)) p.ready.map

  -- what they are asked
  pub helpers_ready : HelpersReady way (from counted 1) count sum t
  helpers_ready =
      let l = from_length counted 1 (omega (arith, byte_fits, count_frame.size)) in
      record {
        ready = record {
          tree = hs;
          good = fine;
          there = into here;
          below = omega (arith, p.ready.below);
          m = p.ready.m;
          map = part_map;
          lone = p.ready.lone;
          room = omega (arith, p.ready.room, count_frame.size);
          counts = p.ready.counts;
          longest = p.ready.longest;
        };
        held = p.held;
        taken = p.taken;
      }

  module _ {y : Bytes} {r : Result Piece Refusal} (s : WalksHelpers way (from counted 1) y count sum t r) where
    -- memory after them
    abbrev end : Bytes
    end = rejoin counted 1 y

    -- the part has room for the map
    fits : 1 + t.free + t.map ≤ length counted
    fits = omega (arith, byte_fits, count_frame.size)

    -- they change only what is behind the count
    behind_frame : SameOutside counted end (1 + t.free) (length counted - t.map)
    behind_frame = whole_frame counted 1 t.free t.map fits s.frame

    -- and all of it changes only what is free
    all_frame : SameOutside mem end t.free (length mem - t.map)
    all_frame =
        let z = count_frame.size in
        same_then t.free (length mem - t.map) (omega arith) (omega arith) (omega (arith, byte_fits)) (omega arith) count_frame behind_frame

    -- what they answered, said of the whole
    told : ComesOut helpers_bytes t.f end (1 + t.free) (length (helpers_bytes hs)) (helpers_by t.f way t.depth p.ready.m hs) t.counter sum r
    told = whole_comes counted 1 t.free t.map fits s.frame (1 + t.free) refl (s.says p.ready.m part_map hs (into here) (omega (arith, p.ready.below)) fine)

    -- one is refused
    pub listed_refused : (q : Refusal) → r ≡ Err q → WalksRest Listed way mem end sum t (Err q)
    listed_refused q e = tells_of (unique_rest Listed t.f t.depth) p.ready all_frame (stayed q (stayed_as q e told) refl)

    module _ (i w x c : ℕ) (e : r ≡ piece_of i w x c) where
      -- they are done
      got : Came helpers_bytes t.f end (1 + t.free) (length (helpers_bytes hs)) (helpers_by t.f way t.depth p.ready.m hs) t.counter sum i w x c
      got = came_as i w x c e told

      -- what they became
      known : HelpersMade t.f t.depth way hs t.counter sum got.u c x
      known = helpers_made t.f t.depth way p.ready.m hs t.counter sum got.u c x p.ready.map.limited p.ready.good.each got.run_done

      -- what was read and written
      pub listed_sums : (1 + i ≤ t.free) × (t.free + 1 + w ≤ length mem)
      listed_sums = (omega (arith, got.read, p.ready.below), omega (arith, got.wrote, got.out.fits, all_frame.size))

      -- all are made
      pub listed_done : WalksRest Listed way mem end sum t (piece_of (1 + i) (1 + w) x c)
      listed_done =
          let us = got.u in
          let tag = subst (λ (n : ℕ). At end t.free (n ∷ [])) (sym many ∙ sym known.many) (at_below behind_frame count_at (omega arith)) in
          tells_of (unique_rest Listed t.f t.depth) p.ready all_frame
          (came us c x got.run_done got.within (took_is (omega (arith, got.read)) (omega (arith, got.wrote)) refl refl)
          (at_join (helpers_count us ∷ []) (helpers_bytes us) tag (at_place (t.free + 1) (omega arith) got.out)))
