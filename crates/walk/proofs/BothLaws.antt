-- Own of a body in memory cut at the map, then In-body of its result, which is moved down over it. Assumes nothing.
use mathlib.Core.Logic.{inr}
use mathlib.Core.Path.{◌≡◌, refl, ap, subst, ◌∙◌}
use mathlib.Core.Bool.{true, false}
use mathlib.Core.List.{[]}
use native.Mathlib.Omega.{arith}
use Prim.Native.Nat.{ℕ, ◌+◌, ◌-◌, ◌≤◌, ◌<◌}
use lib.ListN.{length, drop}
use Rattle.names.specs.Maps.{NameMap}
use Rattle.names.specs.Names.{Bytes}
use Rattle.names.specs.Segments.{At, SameOutside, Filled, Movable}
use Rattle.names.specs.declared.Refusal.{Refusal}
use Rattle.names.proofs.Frames.{same_wider, same_then, copied_at}
use Rattle.names.proofs.Parts.{part, back, part_length, at_part, into}
use Rattle.records.specs.StepAnswer.{Gives}
use Rattle.records.specs.Records.{Body, body_bytes}
use Rattle.records.specs.declared.Step.{Step}
use Rattle.records.proofs.StepAnswers.{Made, made, unmade}
use Rattle.walk.specs.Arena.{outcome}
use Rattle.walk.specs.Bodyforms.{args_then_in, walk}
use Rattle.walk.specs.Draws.{atoms}
use Rattle.walk.specs.Room.{room}
use Rattle.walk.specs.Steps.{M, ◌>>=◌, over_long, child, further, body_size}
use Rattle.walk.specs.Walking.{rule, AnyBody, BodyReady, Walks, Leads, led, stopped, BothReady, WalksBoth, OverReady, GoesOver}
use Rattle.walk.specs.declared.Piece.{Piece}
use Rattle.walk.specs.declared.Task.{Task}
use Rattle.walk.proofs.DoneLaws.{child_gives, child_over, child_refuses, further_gives, further_over, further_refuses}
use Rattle.walk.proofs.MapLaws.{no_map, map_of_part, map_after}
use Rattle.walk.proofs.OnParts.{from, rejoin}
use Rattle.walk.proofs.Results.{rule_draws, rule_short, rule_fine, some_level, least_room}
use Rattle.walk.proofs.RunLaws.{neutral_rule, then_then}
use Rattle.walk.proofs.Sizes.{dbl_mono}
use Rattle.walk.proofs.Unique.{unique_fine, same_map, tells_of}
use Rattle.walk.proofs.Wholes.{from_length, cut_frame, cut_gives, whole_frame, whole_gives, took_is}
use Rattle.std.specs.declared.result.Result.{Result}
use Rattle.std.specs.declared.result.Result.TheVariants.{Err}
use Rattle.walk.specs.RuleAnswers.{piece_of}
use Rattle.records.specs.StepAnswer.{step_of}

-- In-body of what stands at free
module _ {mem : Bytes} {w sum : ℕ} {t : Task} (read : ℕ) (p : OverReady mem w sum t) where
  abbrev Answers : Bytes → NameMap → Body → Result Piece Refusal → Type 0
  Answers new m u r = Leads body_bytes AnyBody t.f new t.free read (further t.f body_size u (rule t.f false t.depth m)) t.counter (sum + w) r

  -- what is answered of the body and the map that are known is answered of every one
  over_of : {new : Bytes} {r : Result Piece Refusal} → SameOutside mem new t.free (length mem - t.map) → Answers new p.m p.tree r → GoesOver mem new read w sum t r
  over_of {new} {r} f x =
      record {
        frame = f;
        says = λ m k u a e g.
            subst (λ (n : NameMap). Answers new n u r) (same_map p.map k)
            (subst (λ (b : Body). Answers new p.m b r) (unique_fine (from mem t.free) p.tree u p.good g (into p.there) (into a)) x);
      }

  abbrev over_task : Task
  over_task = record { free = w; map = t.map; f = t.f; depth = t.depth; counter = t.counter }

  over_low : t.free + w + t.map ≤ length mem
  over_low = omega (arith, p.room)

  pub over_ready : BodyReady AnyBody false (from mem t.free) over_task
  over_ready =
      let l = from_length mem t.free (omega (arith, over_low)) in
      record {
        tree = p.tree;
        good = p.good;
        there = into p.there;
        below = omega (arith, p.wrote);
        m = p.m;
        map = map_of_part t.free (omega (arith, over_low)) p.map;
        lone = λ e. let z : ◌≡◌ {A = ℕ} 0 1 = cc in absurd (omega arith);
        room = omega (arith, p.room);
        counts = p.counts;
        longest = p.longest;
      }

  module _ {y : Bytes} {r : Result Step Refusal} (s : Walks AnyBody false (from mem t.free) y over_task r) where
    abbrev end : Bytes
    end = rejoin mem t.free y

    over_frame : SameOutside mem end (t.free + w) (length mem - t.map)
    over_frame = whole_frame mem t.free w t.map over_low s.frame

    told : Gives body_bytes end (t.free + w) (length (body_bytes p.tree)) (outcome (rule t.f false t.depth p.m p.tree t.counter 0)) r
    told =
        whole_gives mem t.free w t.map over_low s.frame (t.free + w) refl
        (s.says p.m (map_of_part t.free (omega (arith, over_low)) p.map) p.tree (into p.there) (omega (arith, p.wrote)) p.good)

    frame_all : SameOutside mem end t.free (length mem - t.map)
    frame_all = same_wider t.free (length mem - t.map) (omega arith) (omega arith) over_frame

    pub over_refused : (q : Refusal) → r ≡ Err q → GoesOver mem end read w sum t (Err q)
    over_refused q e =
        over_of frame_all
        (stopped q (λ k. further_refuses t.f body_size k (rule t.f false t.depth p.m) p.tree (neutral_rule t.f false t.depth p.m p.tree) t.counter (sum + w) (unmade q e told)) refl)

    module _ (i x d : ℕ) (e : r ≡ step_of i x d) where
      known : Made body_bytes end (t.free + w) (length (body_bytes p.tree)) (outcome (rule t.f false t.depth p.m p.tree t.counter 0)) i x d
      known = made i x d e told

      pub over_short : x ≤ t.f
      over_short = omega (arith, known.wrote, rule_short t.f false t.depth p.m p.tree t.counter known.is)

      over_room : t.free + w + x + t.map ≤ length mem
      over_room = omega (arith, p.room, over_short, least_room t.f t.depth (some_level p.good))

      pub over_moves : Movable end (t.free + w) t.free x
      over_moves = record { source = omega (arith, over_room, over_frame.size); target = omega (arith, over_room, over_frame.size); safe = inr (omega arith) }

      pub over_too_long : (q : Refusal) → q ≡ over_long → t.f < sum + x → GoesOver mem end read w sum t (Err q)
      unfolding body_size
      over_too_long q o lt =
          over_of frame_all
          (stopped over_long (λ k. further_over t.f body_size k (rule t.f false t.depth p.m) p.tree (neutral_rule t.f false t.depth p.m p.tree) t.counter (sum + w) known.is (omega (arith, known.wrote, p.wrote))) (ap Err o))

      pub over_done : {new : Bytes} → sum + x ≤ t.f → Filled end new t.free (drop (t.free + w) end) x → GoesOver mem new read w sum t (piece_of read x (sum + x) d)
      unfolding body_size
      over_done {new} le v =
          let z = over_frame.size in
          let n : sum + w - length (body_bytes p.tree) + length (body_bytes known.u) ≡ sum + x = omega (arith, known.wrote, p.wrote) in
          over_of (same_then t.free (length mem - t.map) (omega arith) (omega arith) (omega arith) (omega (arith, over_room)) frame_all v.frame)
          (led known.u d (sum + x) tt le
          (λ k.
          further_gives t.f body_size k (rule t.f false t.depth p.m) p.tree (neutral_rule t.f false t.depth p.m p.tree) t.counter (sum + w) known.is (omega (arith, le))
          ∙ ap (λ (j : ℕ). outcome (k known.u d j)) n)
          (took_is refl known.wrote refl refl)
          (copied_at (t.free + w) t.free v (omega (arith, over_room)) known.out (omega arith) (omega (arith, known.wrote)) (omega arith)))

-- Own in memory cut at the map
module _ {mem : Bytes} {sum : ℕ} {t : Task} (p : BothReady mem sum t) where
  abbrev top : ℕ
  top = length mem - t.map

  abbrev cut : Bytes
  cut = part mem 0 top

  abbrev own_task : Task
  own_task = record { free = t.free; map = 0; f = t.f; depth = t.depth; counter = t.counter }

  abbrev b : Body
  b = p.ready.tree

  wide : t.free + t.f + room t.f t.depth + t.map ≤ length mem
  wide = omega (arith, p.ready.room)

  pub cut_length : length cut ≡ top
  cut_length = part_length mem 0 top (omega arith)

  there : At cut 0 (body_bytes b)
  there = at_part 0 top p.ready.there (omega arith) (omega (arith, p.ready.below, wide))

  pub own_ready : BodyReady AnyBody true cut own_task
  own_ready =
      let l = cut_length in
      record {
        tree = b;
        good = p.ready.good;
        there = there;
        below = p.ready.below;
        m = [];
        map = no_map;
        lone = λ e. refl;
        room = omega (arith, wide);
        counts = omega (arith, p.ready.counts);
        longest = p.ready.longest;
      }

  module _ {y : Bytes} {r : Result Step Refusal} (s : Walks AnyBody true cut y own_task r) where
    abbrev half : Bytes
    half = back mem 0 top y

    own_frame : SameOutside mem half t.free (length mem - t.map)
    own_frame = same_wider t.free (length mem - t.map) (omega arith) (omega arith) (cut_frame mem 0 top (omega arith) t.free 0 (omega (arith, wide)) s.frame)

    own_told : Gives body_bytes half t.free (length (body_bytes b)) (outcome (rule t.f true t.depth p.ready.m b t.counter 0)) r
    own_told = cut_gives mem 0 top (omega arith) t.free 0 (omega (arith, wide)) s.frame t.free (omega arith) (s.says [] no_map b there p.ready.below p.ready.good)

    abbrev after_own : (Body → M Body) → Body → M Body
    after_own k u = further t.f body_size u (rule t.f false t.depth p.ready.m) >>= k

    -- what runs first in Own followed by In-body
    opened : (k : Body → M Body) → outcome ((args_then_in t.f (walk t.f t.depth) p.ready.m b >>= k) t.counter sum)
        ≡ outcome ((child t.f body_size (rule t.f true t.depth p.ready.m b) >>= after_own k) t.counter sum)
    unfolding args_then_in
    opened k = then_then (child t.f body_size (rule t.f true t.depth p.ready.m b)) (λ u. further t.f body_size u (rule t.f false t.depth p.ready.m)) k t.counter sum

    pub own_refused : (q : Refusal) → r ≡ Err q → WalksBoth mem half sum t (Err q)
    own_refused q e =
        tells_of unique_fine p.ready own_frame
        (stopped q (λ k. opened k ∙ child_refuses t.f body_size (after_own k) (neutral_rule t.f true t.depth p.ready.m b) t.counter sum (unmade q e own_told)) refl)

    module _ (i w d : ℕ) (e : r ≡ step_of i w d) where
      own_made : Made body_bytes half t.free (length (body_bytes b)) (outcome (rule t.f true t.depth p.ready.m b t.counter 0)) i w d
      own_made = made i w d e own_told

      pub own_short : w ≤ t.f
      own_short = omega (arith, own_made.wrote, rule_short t.f true t.depth p.ready.m b t.counter own_made.is)

      pub own_too_long : (q : Refusal) → q ≡ over_long → t.f < sum + w → WalksBoth mem half sum t (Err q)
      unfolding body_size
      own_too_long q o lt =
          tells_of unique_fine p.ready own_frame
          (stopped over_long (λ k. opened k ∙ child_over t.f body_size (after_own k) (neutral_rule t.f true t.depth p.ready.m b) t.counter sum own_made.is (omega (arith, own_made.wrote))) (ap Err o))

      module _ (le : sum + w ≤ t.f) where
        abbrev then_task : Task
        then_task = record { free = t.free; map = t.map; f = t.f; depth = t.depth; counter = d }

        pub then_ready : OverReady half w sum then_task
        then_ready =
            record {
              tree = own_made.u;
              good = rule_fine true p.ready.m t.counter p.ready.map.limited p.ready.good own_made.is;
              there = own_made.out;
              wrote = own_made.wrote;
              m = p.ready.m;
              map = map_after own_frame (omega (arith, wide)) p.ready.map;
              room = omega (arith, wide, own_short, own_frame.size);
              held = le;
              counts =
                  let q = rule_draws t.f t.depth b true p.ready.m t.counter p.ready.good.deep own_made.is in
                  omega (arith, p.ready.counts, q.counter, dbl_mono t.depth (atoms own_made.u) (atoms b) q.few);
              longest = p.ready.longest;
            }

        pub both_over : {new : Bytes} {r₂ : Result Piece Refusal} → GoesOver half new i w sum then_task r₂ → WalksBoth mem new sum t r₂
        unfolding body_size then_ready
        both_over {new} {r₂} v =
            let z = own_frame.size in
            tells_of unique_fine p.ready (same_then t.free (length mem - t.map) (omega arith) (omega arith) (omega arith) (omega arith) own_frame v.frame)
            (go (v.says p.ready.m then_ready.map own_made.u own_made.out own_made.wrote then_ready.good))
          where
            first : (k : Body → M Body) → outcome ((args_then_in t.f (walk t.f t.depth) p.ready.m b >>= k) t.counter sum) ≡ outcome (after_own k own_made.u d (sum + w))
            first k =
                let n : sum + length (body_bytes own_made.u) ≡ sum + w = omega (arith, own_made.wrote) in
                opened k ∙ child_gives t.f body_size (after_own k) (neutral_rule t.f true t.depth p.ready.m b) t.counter sum own_made.is (omega (arith, own_made.wrote))
                ∙ ap (λ (j : ℕ). outcome (after_own k own_made.u d j)) n

            go : Leads body_bytes AnyBody t.f new t.free i (further t.f body_size own_made.u (rule t.f false t.depth p.ready.m)) d (sum + w) r₂
                → Leads body_bytes AnyBody t.f new t.free (length (body_bytes b)) (args_then_in t.f (walk t.f t.depth) p.ready.m b) t.counter sum r₂
            go (led u c x h l g o a) = led u c x h l (λ k. first k ∙ g k) (o ∙ took_is own_made.read refl refl refl) a
            go (stopped q g o) = stopped q (λ k. first k ∙ g k) o
