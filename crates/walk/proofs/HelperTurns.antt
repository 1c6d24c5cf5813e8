-- Helpers, one after the other: what holds at each turn, and what each way out of the loop answers. Assumes nothing.
use mathlib.Core.Path.{◌≡◌, refl, sym, ap, subst, ◌∙◌}
use mathlib.Core.List.{[], ◌++◌, append_assoc, append-nil}
use native.Mathlib.Omega.{arith}
use Prim.Native.Nat.{ℕ, ◌+◌, ◌-◌, ◌≤◌, ◌<◌}
use lib.ListN.{length, length-append}
use Rattle.names.specs.Maps.{NameMap}
use Rattle.names.specs.Names.{Bytes}
use Rattle.names.specs.Segments.{At, SameOutside}
use Rattle.names.specs.declared.Refusal.{Refusal}
use Rattle.names.proofs.Frames.{same_refl, same_wider, same_then, at_below}
use Rattle.names.proofs.Parts.{into}
use Rattle.names.proofs.Places.{at_place, at_left, at_right, at_join}
use Rattle.records.specs.Records.{Helper, helper_bytes, Helpers, []ʰ, ◌∷ʰ◌, helpers_bytes, helpers_count}
use Rattle.walk.specs.Arena.{MapAt}
use Rattle.walk.specs.Draws.{helper_atoms, helpers_atoms, dbl}
use Rattle.walk.specs.FormWalks.{FineHelper, EachFineHelper, FineHelpers, helpers_room, by_args, helpers_by, child_by, ComesOut, came, stayed, ChildReady, WalksChild, HelpersReady, WalksHelpers}
use Rattle.walk.specs.Room.{room}
use Rattle.walk.specs.Steps.{M, DoneWith, RefusedWith, ◌>>=◌, ret}
use Rattle.walk.specs.Walking.{Ready}
use Rattle.walk.specs.declared.Child.TheVariants.{Helperform}
use Rattle.walk.specs.declared.Piece.{Piece}
use Rattle.walk.specs.declared.Task.{Task}
use Rattle.walk.specs.declared.Way.{Way}
use Rattle.walk.specs.declared.Way.TheVariants.{Further}
use Rattle.walk.proofs.ComesLaws.{whole_comes, Came, came_as, stayed_as}
use Rattle.walk.proofs.DoneLaws.{then_done, then_stops, then_stops_later}
use Rattle.walk.proofs.OnParts.{from, rejoin}
use Rattle.walk.proofs.RestLaws.{unique_helpers, helpers_cons, helpers_none}
use Rattle.walk.proofs.Sizes.{dbl_add}
use Rattle.walk.proofs.TreeLaws.{ChildMade, child_made}
use Rattle.walk.proofs.Unique.{tells_of}
use Rattle.walk.proofs.WayLaws.{sum_holds, sum_holds_left}
use Rattle.walk.proofs.Wholes.{from_length, whole_frame, map_from, took_is}
use Rattle.std.specs.declared.result.Result.{Result}
use Rattle.std.specs.declared.result.Result.TheVariants.{Err}
use Rattle.walk.specs.RuleAnswers.{piece_of}

-- the runs of helpers: none, and the first of them before the others
module _ (F : ℕ) (way : Way) (d : ℕ) (m : NameMap) (c x : ℕ) where
  none_done : DoneWith (helpers_by F way d m []ʰ c x) []ʰ c x
  unfolding ret
  none_done = subst (λ (run : M Helpers). DoneWith (run c x) []ʰ c x) (sym (helpers_none F way d m)) ([], refl)

  module _ (h : Helper) (hs : Helpers) where
    -- what follows the first
    abbrev others : Helper → M Helpers
    others h' = helpers_by F way d m hs >>= λ hs'. ret (h' ∷ʰ hs')

    -- the first is done, and the others
    first_done : {v : Helper} {c₁ x₁ : ℕ} {vs : Helpers} {c₂ x₂ : ℕ} → DoneWith (child_by F Helperform way d m h c x) v c₁ x₁ → DoneWith (helpers_by F way d m hs c₁ x₁) vs c₂ x₂
        → DoneWith (helpers_by F way d m (h ∷ʰ hs) c x) (v ∷ʰ vs) c₂ x₂
    unfolding ret
    first_done {v} {vs = vs} {c₂} {x₂} p q =
        subst (λ (run : M Helpers). DoneWith (run c x) (v ∷ʰ vs) c₂ x₂) (sym (helpers_cons F way d m h hs))
        (then_done (child_by F Helperform way d m h) others p (then_done (helpers_by F way d m hs) (λ hs'. ret (v ∷ʰ hs')) q ([], refl)))

    -- the first is refused
    first_stops : {r : Refusal} → RefusedWith (child_by F Helperform way d m h c x) r → RefusedWith (helpers_by F way d m (h ∷ʰ hs) c x) r
    first_stops {r} p =
        subst (λ (run : M Helpers). RefusedWith (run c x) r) (sym (helpers_cons F way d m h hs)) (then_stops (child_by F Helperform way d m h) others p)

    -- the first is done, and one of the others is refused
    others_stop : {v : Helper} {c₁ x₁ : ℕ} {r : Refusal} → DoneWith (child_by F Helperform way d m h c x) v c₁ x₁ → RefusedWith (helpers_by F way d m hs c₁ x₁) r
        → RefusedWith (helpers_by F way d m (h ∷ʰ hs) c x) r
    others_stop {v} {r = r} p q =
        subst (λ (run : M Helpers). RefusedWith (run c x) r) (sym (helpers_cons F way d m h hs))
        (then_stops_later (child_by F Helperform way d m h) others p (then_stops (helpers_by F way d m hs) (λ hs'. ret (v ∷ʰ hs')) q))

-- the loop's invariant: the frame, the sum held, the helpers that are left, how the results so far stand before what those become, and the rest of the run
pub record Turning (way : Way) (count sum : ℕ) (t : Task) (old mem : Bytes) (at to held c i : ℕ) : Type 0 where
  pub asked : HelpersReady way old count sum t
  pub frame : SameOutside old mem t.free (length old - t.map)
  pub within : held ≤ t.f
  pub left : Helpers
  pub many : i + helpers_count left ≡ count
  pub fine : EachFineHelper t.f t.depth left
  pub there : At mem at (helpers_bytes left)
  pub read : at + length (helpers_bytes left) ≡ length (helpers_bytes asked.ready.tree)
  pub wrap : Helpers → Helpers
  pub made : Bytes
  pub bytes : (us : Helpers) → helpers_bytes (wrap us) ≡ made ++ helpers_bytes us
  pub place : to ≡ t.free + length made
  pub out : At mem t.free made
  pub counted : length made ≤ held
  pub taken : way ≡ Further → length made + length (helpers_bytes left) ≤ held
  pub draws : c + dbl t.depth (helpers_atoms left) ≤ t.counter + dbl t.depth (helpers_atoms asked.ready.tree)
  pub gives : (us : Helpers) (c' x' : ℕ) → DoneWith (helpers_by t.f way t.depth asked.ready.m left c held) us c' x'
      → DoneWith (helpers_by t.f way t.depth asked.ready.m asked.ready.tree t.counter sum) (wrap us) c' x'
  pub stops : (q : Refusal) → RefusedWith (helpers_by t.f way t.depth asked.ready.m left c held) q
      → RefusedWith (helpers_by t.f way t.depth asked.ready.m asked.ready.tree t.counter sum) q

-- before the first turn
pub turns_start : {way : Way} {count sum : ℕ} {t : Task} {old : Bytes} → HelpersReady way old count sum t → Turning way count sum t old old 0 t.free sum t.counter 0
turns_start {t = t} p =
    record {
      asked = p;
      frame = same_refl;
      within = p.held;
      left = p.ready.tree;
      many = omega (arith, p.ready.good.many);
      fine = p.ready.good.each;
      there = p.ready.there;
      read = omega arith;
      wrap = λ us. us;
      made = [];
      bytes = λ us. refl;
      place = omega arith;
      out = record { fits = omega (arith, p.ready.room); there = refl };
      counted = omega arith;
      taken = λ e. omega (arith, p.taken e);
      draws = omega arith;
      gives = λ us c' x' d. d;
      stops = λ q d. d;
    }

-- after the last
pub turns_end : {way : Way} {count sum : ℕ} {t : Task} {old mem : Bytes} {at to held c i : ℕ} → Turning way count sum t old mem at to held c i → count ≤ i
    → WalksHelpers way old mem count sum t (piece_of at (to - t.free) held c)
unfolding helpers_count helpers_bytes
turns_end {way} {count} {sum} {t} {old} {mem} {at} {to} {held} {c} {i} x le =
    tells_of (unique_helpers t.f t.depth count) x.asked.ready x.frame (end x.left refl (omega (arith, x.many)))
  where
    end : (left : Helpers) → x.left ≡ left → helpers_count left ≡ 0
        → ComesOut helpers_bytes t.f mem t.free (length (helpers_bytes x.asked.ready.tree)) (helpers_by t.f way t.depth x.asked.ready.m x.asked.ready.tree) t.counter sum
        (piece_of at (to - t.free) held c)
    end []ʰ e z =
        let b = x.bytes []ʰ ∙ append-nil x.made in
        let r = ap (λ (y : Helpers). length (helpers_bytes y)) e in
        came (x.wrap []ʰ) c held
        (x.gives []ʰ c held
        (subst (λ (y : Helpers). DoneWith (helpers_by t.f way t.depth x.asked.ready.m y c held) []ʰ c held) (sym e) (none_done t.f way t.depth x.asked.ready.m c held)))
        x.within (took_is (omega (arith, x.read)) (omega (arith, x.place, ap length b)) refl refl) (subst (At mem t.free) (sym b) x.out)
    end (h ∷ʰ r) e z = absurd (omega arith)

-- the first of those that are left
record Next (F d : ℕ) (mem : Bytes) (at : ℕ) (left : Helpers) : Type 0 where
  pub h : Helper
  pub more : Helpers
  pub is : left ≡ h ∷ʰ more
  pub fine : FineHelper F d h
  pub others : EachFineHelper F d more
  pub here : At mem at (helper_bytes h)
  pub after : At mem (at + length (helper_bytes h)) (helpers_bytes more)
  pub size : length (helpers_bytes left) ≡ length (helper_bytes h) + length (helpers_bytes more)
  pub count : helpers_count left ≡ 1 + helpers_count more
  pub atoms_of : helpers_atoms left ≡ helper_atoms h + helpers_atoms more

-- when there is one
next : {F d : ℕ} {mem : Bytes} {at : ℕ} (left : Helpers) → 0 < helpers_count left → EachFineHelper F d left → At mem at (helpers_bytes left) → Next F d mem at left
unfolding helpers_count helpers_bytes EachFineHelper helpers_atoms
next []ʰ some f a = absurd (omega arith)
next (h ∷ʰ hs) some f a =
    record {
      h = h;
      more = hs;
      is = refl;
      fine = f.0;
      others = f.1;
      here = at_left (helper_bytes h) (helpers_bytes hs) a;
      after = at_right (helper_bytes h) (helpers_bytes hs) a;
      size = length-append (helper_bytes h) (helpers_bytes hs);
      count = omega arith;
      atoms_of = refl;
    }

-- some helper needs the results so far and its room
some_room : (F d : ℕ) (hs : Helpers) → 0 < helpers_count hs → helpers_room F d hs ≡ F + room F d
unfolding helpers_count helpers_room
some_room F d []ʰ some = absurd (omega arith)
some_room F d (h ∷ʰ hs) some = refl

-- one turn
module _ {way : Way} {count sum : ℕ} {t : Task} {old mem : Bytes} {at to held c i : ℕ} (x : Turning way count sum t old mem at to held c i) (lt : i < count) where
  abbrev p : Ready (by_args way) helpers_bytes (FineHelpers t.f t.depth count) (helpers_room t.f t.depth) (λ hs. dbl t.depth (helpers_atoms hs)) old t
  p = x.asked.ready

  -- what its rule has to do
  abbrev task : Task
  task = record { free = to - at; map = t.map; f = t.f; depth = t.depth; counter = c }

  -- the helper of the turn
  one : Next t.f t.depth mem at x.left
  one = next x.left (omega (arith, x.many)) x.fine x.there

  -- it and the others stand below free
  low : at + (length (helper_bytes one.h) + length (helpers_bytes one.more)) ≤ t.free
  low = omega (arith, one.size, x.read, p.below)

  -- results stand behind what is read
  pub turn_low : at ≤ to
  turn_low = omega (arith, low, x.place)

  -- there is room for one more
  pub wide : to + room t.f t.depth + t.map ≤ length mem
  wide = omega (arith, x.frame.size, x.within, x.counted, x.place, p.room, some_room t.f t.depth p.tree (omega (arith, p.good.many)))

  -- the map in the part from it on
  part_map : MapAt (from mem at) t.map p.m
  part_map = let w = wide in map_from at x.frame (omega (arith, x.frame.size)) (omega (arith, turn_low, x.frame.size)) p.map

  -- what the next is asked
  pub turn_ready : ChildReady Helperform way (from mem at) held task
  turn_ready =
      let w = wide in
      let l = from_length mem at (omega (arith, turn_low)) in
      record {
        ready = record {
          tree = one.h;
          good = one.fine;
          there = into one.here;
          below = omega (arith, low, x.place);
          m = p.m;
          map = part_map;
          lone = p.lone;
          room = omega (arith, turn_low);
          counts = omega (arith, p.counts, x.draws, ap (dbl t.depth) one.atoms_of, dbl_add t.depth (helper_atoms one.h) (helpers_atoms one.more));
          longest = p.longest;
        };
        held = x.within;
        taken = λ e. omega (arith, x.taken e, one.size);
      }

  module _ {y : Bytes} {r : Result Piece Refusal} (s : WalksChild Helperform way (from mem at) y held task r) where
    -- memory after the turn
    abbrev end : Bytes
    end = rejoin mem at y

    -- the part has room for the map
    fits : at + (to - at) + t.map ≤ length mem
    fits = omega (arith, turn_low, wide)

    -- the turn changes only what is free
    turn_frame : SameOutside mem end to (length mem - t.map)
    turn_frame = same_wider to (length mem - t.map) (omega (arith, turn_low)) (omega arith) (whole_frame mem at (to - at) t.map fits s.frame)

    -- and so have the turns so far
    all_frame : SameOutside old end t.free (length old - t.map)
    all_frame = same_then t.free (length old - t.map) (omega arith) (omega (arith, x.place)) (omega arith) (omega (arith, x.frame.size)) x.frame turn_frame

    -- the run of the turn
    abbrev run : M Helper
    run = child_by t.f Helperform way t.depth p.m one.h

    -- what it answered, said of the whole
    told : ComesOut helper_bytes t.f end to (length (helper_bytes one.h)) run c held r
    told = whole_comes mem at (to - at) t.map fits s.frame to (omega (arith, turn_low)) (s.says p.m part_map one.h (into one.here) (omega (arith, low, x.place)) one.fine)

    -- it is refused
    pub turn_refused : (q : Refusal) → r ≡ Err q → WalksHelpers way old end count sum t (Err q)
    turn_refused q e =
        let f = first_stops t.f way t.depth p.m c held one.h one.more (stayed_as q e told) in
        tells_of (unique_helpers t.f t.depth count) p all_frame
        (stayed q (x.stops q (subst (λ (l : Helpers). RefusedWith (helpers_by t.f way t.depth p.m l c held) q) (sym one.is) f)) refl)

    module _ (j w z d : ℕ) (e : r ≡ piece_of j w z d) where
      -- it is done
      got : Came helper_bytes t.f end to (length (helper_bytes one.h)) run c held j w z d
      got = came_as j w z d e told

      -- what it became
      known : ChildMade Helperform t.f t.depth way one.h c held got.u d z
      known = child_made Helperform t.f t.depth way p.m one.h c held got.u d z p.map.limited one.fine got.run_done

      -- a turn is done
      pub turn_on : Turning way count sum t old end (at + j) (to + w) z d (i + 1)
      unfolding helpers_bytes
      turn_on =
          let u = got.u in
          let fits = got.out.fits in
          record {
            asked = x.asked;
            frame = all_frame;
            within = got.within;
            left = one.more;
            many = omega (arith, x.many, one.count);
            fine = one.others;
            there = at_place (at + j) (omega (arith, got.read)) (at_below turn_frame one.after (omega (arith, low, x.place)));
            read = omega (arith, x.read, one.size, got.read);
            wrap = λ us. x.wrap (u ∷ʰ us);
            made = x.made ++ helper_bytes u;
            bytes = λ us. x.bytes (u ∷ʰ us) ∙ sym (append_assoc x.made (helper_bytes u) (helpers_bytes us));
            place = omega (arith, x.place, got.wrote, length-append x.made (helper_bytes u));
            out = at_join x.made (helper_bytes u) (at_below turn_frame x.out (omega (arith, x.place))) (at_place (t.free + length x.made) (omega (arith, x.place)) got.out);
            counted =
                omega (
                  arith,
                  known.sum,
                  length-append x.made (helper_bytes u),
                  sum_holds way held (length x.made) (length (helper_bytes one.h)) (length (helper_bytes u)) x.counted (λ f. omega (arith, x.taken f, one.size)),
                );
            taken = λ f.
                omega (
                  arith,
                  known.sum,
                  length-append x.made (helper_bytes u),
                  sum_holds_left way held (length x.made) (length (helper_bytes one.h)) (length (helper_bytes u)) (length (helpers_bytes one.more)) (omega (arith, x.taken f, one.size)) f,
                );
            draws =
                omega (arith, x.draws, ap (dbl t.depth) one.atoms_of, dbl_add t.depth (helper_atoms one.h) (helpers_atoms one.more), known.made.counter);
            gives = λ us c' x' q.
                x.gives (u ∷ʰ us) c' x'
                (subst (λ (l : Helpers). DoneWith (helpers_by t.f way t.depth p.m l c held) (u ∷ʰ us) c' x') (sym one.is)
                (first_done t.f way t.depth p.m c held one.h one.more got.run_done q));
            stops = λ k q.
                x.stops k
                (subst (λ (l : Helpers). RefusedWith (helpers_by t.f way t.depth p.m l c held) k) (sym one.is)
                (others_stop t.f way t.depth p.m c held one.h one.more got.run_done q));
          }
