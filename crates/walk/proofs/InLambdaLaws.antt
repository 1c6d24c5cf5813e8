-- In-body of a BF up to its captures: the head is copied, the captures are made behind the room for capture args, and what follows answers for the BF. Assumes nothing.
use mathlib.Core.Path.{◌≡◌, refl, sym, ap, subst, ◌∙◌}
use mathlib.Core.Bool.{false}
use native.Mathlib.Omega.{arith}
use Prim.Native.Nat.{ℕ, ◌+◌, ◌*◌, ◌-◌, ◌≤◌}
use lib.ListN.{length, drop}
use Rattle.names.specs.Maps.{NameMap}
use Rattle.names.specs.Names.{Bytes}
use Rattle.names.specs.Segments.{At, SameOutside, Filled, Movable}
use Rattle.names.specs.declared.Refusal.{Refusal}
use Rattle.names.proofs.Frames.{same_then, at_below, copied_at, movable_up}
use Rattle.names.proofs.Parts.{into}
use Rattle.names.proofs.Places.{at_place}
use Rattle.records.specs.StepAnswer.{Outcome, gives, refuses, Gives, refused}
use Rattle.records.specs.Limits.{most_longest}
use Rattle.records.specs.Records.{Loc, Sexp, Body, BL, BQ, BV, BC, BM, BF, sexp_bytes, body_bytes}
use Rattle.records.specs.Views.{SeesLambda, LambdaParted, lambda_head}
use Rattle.records.specs.declared.LambdaView.{LambdaView}
use Rattle.records.specs.declared.Step.{Step}
use Rattle.records.proofs.StepAnswers.{Made, made, unmade}
use Rattle.walk.specs.Arena.{MapAt, outcome}
use Rattle.walk.specs.Bodyforms.{walk, rename_in_bodyform}
use Rattle.walk.specs.Draws.{sexp_atoms, atoms, dbl, counter_most}
use Rattle.walk.specs.LambdaWalks.{Captured, lambda_of, lambda_bytes, after_captures, CapturedReady, WalksCaptured}
use Rattle.walk.specs.Room.{room}
use Rattle.walk.specs.Steps.{step, body_size}
use Rattle.walk.specs.Walking.{from_sum, rule, AnyBody, IsLambda, Fine, BodyReady, Walks}
use Rattle.walk.specs.declared.Task.{Task}
use Rattle.walk.proofs.DoneLaws.{child_gives, child_refuses}
use Rattle.walk.proofs.LambdaParts.{lambda_size, PartsAt, parts_at, FineParts, fine_parts, lambda_draws}
use Rattle.walk.proofs.MapLaws.{map_after}
use Rattle.walk.proofs.OnParts.{from, rejoin}
use Rattle.walk.proofs.Results.{rule_draws, rule_short, room_down}
use Rattle.walk.proofs.RunLaws.{neutral_rule, step_refuses, in_step, step_same}
use Rattle.walk.proofs.Unique.{tells_of, unique_fine}
use Rattle.walk.proofs.Wholes.{from_length, whole_frame, whole_gives, map_from}
use Rattle.std.specs.declared.result.Result.{Result}
use Rattle.std.specs.declared.result.Result.TheVariants.{Err}
use Rattle.records.specs.StepAnswer.{step_of}

-- In-body of a BF: the captures first
module _ (F d : ℕ) (ld : 1 ≤ d) (m : NameMap) (k : Captured) (c : ℕ) where
  in_refuses : {q : Refusal} → outcome (rule F false (d - 1) m k.captures c 0) ≡ refuses q → outcome (rule F false d m (lambda_of k) c 0) ≡ refuses q
  unfolding rename_in_bodyform
  in_refuses e = in_step F d m (lambda_of k) c ld ∙ step_refuses F body_size _ c 0 (child_refuses F body_size _ (neutral_rule F false (d - 1) m k.captures) c 0 e)

  in_gives : (c₁ x : ℕ) → outcome (rule F false (d - 1) m k.captures c 0) ≡ gives k.made c₁ → x ≡ length (body_bytes k.made) → x ≤ F
      → outcome (rule F false d m (lambda_of k) c 0) ≡ outcome (step F body_size (from_sum x (after_captures F (walk F (d - 1)) m k)) c₁ 0)
  unfolding rename_in_bodyform after_captures body_size
  in_gives c₁ x e w le =
      let s : 0 + length (body_bytes k.made) ≡ x = omega arith in
      in_step F d m (lambda_of k) c ld
      ∙ step_same F body_size (rename_in_bodyform F (walk F (d - 1)) m (lambda_of k)) (from_sum x (after_captures F (walk F (d - 1)) m k)) c c₁ 0 0
      (child_gives F body_size _ (neutral_rule F false (d - 1) m k.captures) c 0 e (omega arith) ∙ ap (λ (y : ℕ). outcome (after_captures F (walk F (d - 1)) m k c₁ y)) s)

-- a BF that stands in memory, its parts and its map
pub record Seen (mem : Bytes) (v : LambdaView) (t : Task) (b : Body) (m : NameMap) : Type 0 where
  l : Loc
  w : Bytes
  ca : Sexp
  c : Body
  a : Sexp
  e : Body
  is : BF l w ca c a e ≡ b
  fine : Fine IsLambda t.f t.depth (BF l w ca c a e)
  there : At mem 0 (body_bytes (BF l w ca c a e))
  below : length (body_bytes (BF l w ca c a e)) ≤ t.free
  map : MapAt mem t.map m
  fits : t.free + room t.f t.depth + t.map ≤ length mem
  counts : t.counter + dbl t.depth (atoms c + (sexp_atoms a + atoms e)) ≤ counter_most
  longest : t.f ≤ most_longest
  parted : LambdaParted v l w ca c a

-- a body that is a BF is one
see : {mem : Bytes} {v : LambdaView} {t : Task} {m : NameMap} → SeesLambda mem v → (b : Body) → Fine IsLambda t.f t.depth b → At mem 0 (body_bytes b) → length (body_bytes b) ≤ t.free
    → MapAt mem t.map m → t.free + room t.f t.depth + t.map ≤ length mem → t.counter + dbl t.depth (atoms b) ≤ counter_most → t.f ≤ most_longest → Seen mem v t b m
unfolding IsLambda atoms
see s (BL k l w h bs b) f at le map fits counts longest = absurd f.only
see s (BQ x) f at le map fits counts longest = absurd f.only
see s (BV x) f at le map fits counts longest = absurd f.only
see s (BC l bs x) f at le map fits counts longest = absurd f.only
see s (BM l x) f at le map fits counts longest = absurd f.only
see s (BF l w ca c a b) f at le map fits counts longest =
    record {
      l = l;
      w = w;
      ca = ca;
      c = c;
      a = a;
      e = b;
      is = refl;
      fine = f;
      there = at;
      below = le;
      map = map;
      fits = fits;
      counts = counts;
      longest = longest;
      parted = s.parts l w ca c a b f.valid at;
    }

-- what is asked, as that
pub seen : {mem : Bytes} {v : LambdaView} {t : Task} (p : BodyReady IsLambda false mem t) → SeesLambda mem v → Seen mem v t p.tree p.m
seen p s = see s p.tree p.good p.there p.below p.map p.room p.counts p.longest

-- the tasks of the captures, and of what follows them
abbrev pub captures_task : Task → LambdaView → Task
captures_task t v = record { free = t.free + v.capture_args + t.f - v.captures; map = t.map; f = t.f; depth = t.depth - 1; counter = t.counter }

abbrev pub captured_task : Task → ℕ → Task
captured_task t c = record { free = t.free; map = t.map; f = t.f; depth = t.depth; counter = c }

module _ {mem : Bytes} {v : LambdaView} {t : Task} (p : BodyReady IsLambda false mem t) (s : SeesLambda mem v) where
  abbrev h : Seen mem v t p.tree p.m
  h = seen p s

  stand : PartsAt mem 0 h.l h.w h.ca h.c h.a h.e
  stand = parts_at h.there

  fine : FineParts t.f t.depth h.ca h.c h.a h.e
  fine = fine_parts h.fine

  -- places and lengths
  pub record Widths : Type 0 where
    pub capture_args : v.capture_args ≡ length (lambda_head h.l h.w)
    pub captures : v.captures ≡ v.capture_args + length (sexp_bytes h.ca)
    pub short : v.captures + length (body_bytes h.c) ≤ t.f
    pub below : v.captures + length (body_bytes h.c) ≤ t.free
    pub room : t.free + (8 * t.f + room t.f (t.depth - 1)) + t.map ≤ length mem
    pub levels : 2 ≤ t.depth

  -- as they follow from what stands there
  pub widths : Widths
  widths =
      let z = lambda_size h.l h.w h.ca h.c h.a h.e in
      let b = h.parted.parted.capture_args_at in
      let q = h.parted.captures_at in
      record {
        capture_args = b;
        captures = q;
        short = omega (arith, h.fine.short);
        below = omega (arith, h.below);
        room = omega (arith, h.fits, room_down t.f t.depth fine.levels);
        levels = fine.levels;
      }

  -- the head can be copied
  pub head_moves : Movable mem 0 t.free v.capture_args
  head_moves = let z = widths in movable_up (omega (arith, z.captures, z.below)) (omega (arith, z.captures, z.short, z.room))

  draws : dbl (t.depth - 1) (atoms h.c) + (sexp_atoms h.a + (dbl (t.depth - 1) (atoms h.e) + dbl (t.depth - 1) (atoms h.e))) ≤ dbl t.depth (atoms h.c + (sexp_atoms h.a + atoms h.e))
  draws = lambda_draws t.depth h.c h.a h.e (omega (arith, widths.levels))

  -- the head stands at free
  module _ {o : Bytes} (f : Filled mem o t.free (drop 0 mem) v.capture_args) where
    captures_here : At o v.captures (body_bytes h.c)
    captures_here =
        let z = widths in
        at_below f.frame (at_place v.captures (omega (arith, z.capture_args, z.captures)) stand.captures) (omega (arith, z.below))

    map_here : MapAt (from o v.captures) t.map p.m
    map_here = let z = widths in map_from v.captures f.frame (omega (arith, z.captures, z.short, z.room)) (omega (arith, z.below, z.room)) h.map

    -- what In-body of the captures is asked
    pub captures_ready : BodyReady AnyBody false (from o v.captures) (captures_task t v)
    captures_ready =
        let z = widths in
        let l = from_length o v.captures (omega (arith, f.frame.size, z.below, z.room)) in
        record {
          tree = h.c;
          good = fine.captures;
          there = into captures_here;
          below = omega (arith, z.below);
          m = p.m;
          map = map_here;
          lone = λ e. let q : ◌≡◌ {A = ℕ} 0 1 = cc in absurd (omega arith);
          room = omega (arith, f.frame.size, z.captures, z.below, z.short, z.room);
          counts = omega (arith, h.counts, draws);
          longest = h.longest;
        }

    -- the captures are made
    module _ {y : Bytes} {r : Result Step Refusal} (g : Walks AnyBody false (from o v.captures) y (captures_task t v) r) where
      abbrev one : Bytes
      one = rejoin o v.captures y

      abbrev behind : ℕ
      behind = t.free + v.capture_args + t.f

      fit_one : v.captures + (behind - v.captures) + t.map ≤ length o
      fit_one = let z = widths in omega (arith, f.frame.size, z.captures, z.below, z.short, z.room)

      one_frame : SameOutside o one (v.captures + (behind - v.captures)) (length o - t.map)
      one_frame = whole_frame o v.captures (behind - v.captures) t.map fit_one g.frame

      both_frame : SameOutside mem one t.free (length mem - t.map)
      both_frame =
          let z = widths in
          let l = f.frame.size in
          same_then t.free (length mem - t.map) (omega arith) (omega (arith, z.below)) (omega (arith, z.captures, z.short, z.room)) (omega arith) f.frame one_frame

      captures_give : Gives body_bytes one behind (length (body_bytes h.c)) (outcome (rule t.f false (t.depth - 1) p.m h.c t.counter 0)) r
      captures_give =
          let z = widths in
          whole_gives o v.captures (behind - v.captures) t.map fit_one g.frame behind (omega (arith, z.below))
          (g.says p.m map_here h.c (into captures_here) (omega (arith, z.below)) fine.captures)

      -- the BF with captures u
      abbrev with_captures : Body → Captured
      with_captures u = record { loc = h.l; keyword = h.w; capture_args = h.ca; captures = h.c; args = h.a; body = h.e; made = u }

      -- they are refused
      pub lambda_refused : (q : Refusal) → r ≡ Err q → Walks IsLambda false mem one t (Err q)
      lambda_refused q e =
          let n : 1 ≤ t.depth = omega (arith, widths.levels) in
          let i = in_refuses t.f t.depth n p.m (with_captures h.c) t.counter (unmade q e captures_give) in
          tells_of unique_fine p both_frame (refused q (subst (λ (b : Body). outcome (rule t.f false t.depth p.m b t.counter 0) ≡ refuses q) h.is i) refl)

      -- or made
      module _ (i x c₁ : ℕ) (e : r ≡ step_of i x c₁) where
        captures_made : Made body_bytes one behind (length (body_bytes h.c)) (outcome (rule t.f false (t.depth - 1) p.m h.c t.counter 0)) i x c₁
        captures_made = made i x c₁ e captures_give

        abbrev captured : Captured
        captured = with_captures captures_made.u

        made_short : x ≤ t.f
        made_short = omega (arith, captures_made.wrote, rule_short t.f false (t.depth - 1) p.m h.c t.counter captures_made.is)

        -- what follows them is asked this
        pub captured_ready : CapturedReady one v.capture_args v.args v.body x (captured_task t c₁)
        captured_ready =
            let z = widths in
            let b = z.capture_args in
            let q = z.captures in
            let w = z.below in
            record {
              tree = captured;
              good =
                  record {
                    fine = h.fine;
                    parted = h.parted.parted;
                    head = at_below one_frame (copied_at 0 t.free f head_moves.target stand.head (omega arith) (omega arith) (omega arith)) (omega arith);
                    out = captures_made.out;
                    wrote = captures_made.wrote;
                    held = made_short;
                  };
              there = at_below one_frame (at_below f.frame h.there (omega (arith, h.below))) (omega (arith, h.below));
              below = h.below;
              m = p.m;
              map = map_after_both;
              lone = λ e. let q : ◌≡◌ {A = ℕ} 0 1 = cc in absurd (omega arith);
              room = omega (arith, h.fits, both_frame.size);
              counts = omega (arith, h.counts, draws, (rule_draws t.f (t.depth - 1) h.c false p.m t.counter fine.captures.deep captures_made.is).counter);
              longest = h.longest;
            }
          where
            map_after_both : MapAt one t.map p.m
            map_after_both = let z = widths in map_after both_frame (omega (arith, z.room)) h.map

        -- and its answer is that of the BF
        pub lambda_answers : {new : Bytes} {a : Result Step Refusal} → WalksCaptured one new v.capture_args v.args v.body x (captured_task t c₁) a → Walks IsLambda false mem new t a
        unfolding captured_ready
        lambda_answers {new} {a} k =
            let n : 1 ≤ t.depth = omega (arith, widths.levels) in
            let l = both_frame.size in
            let d = in_gives t.f t.depth n p.m captured t.counter c₁ x captures_made.is captures_made.wrote made_short in
            let u = captured_ready in
            let z = k.says p.m u.map captured u.there u.below u.good in
            tells_of unique_fine p (same_then t.free (length mem - t.map) (omega arith) (omega arith) (omega arith) (omega arith) both_frame k.frame)
            (subst (λ (b : Body). Gives body_bytes new t.free (length (body_bytes b)) (outcome (rule t.f false t.depth p.m b t.counter 0)) a) h.is
            (subst (λ (j : Outcome Body). Gives body_bytes new t.free (length (lambda_bytes captured)) j a) (sym d) z))
