-- A BC: its head copied, its elements, its tail, and what each way out answers. Assumes nothing.
use mathlib.Core.Path.{◌≡◌, refl, sym, ap, subst, ◌∙◌}
use mathlib.Core.Bool.{Bool, true, false}
use mathlib.Core.List.{[], ◌++◌, flatten, append_assoc, append-nil}
use native.Mathlib.Omega.{arith}
use Prim.Native.Nat.{ℕ, zero, suc, ◌+◌, ◌-◌, ◌≤◌}
use lib.ListN.{length, drop, length-append}
use Rattle.names.specs.Maps.{NameMap}
use Rattle.names.specs.Names.{Bytes, ascii}
use Rattle.names.specs.Segments.{At, SameOutside, Filled, Movable}
use Rattle.names.specs.declared.Refusal.{Refusal}
use Rattle.names.proofs.Frames.{same_wider, same_then, at_below, copied_at, movable_up}
use Rattle.names.proofs.Parts.{into}
use Rattle.names.proofs.Places.{at_place, at_left, at_right, at_join}
use Rattle.records.specs.StepAnswer.{Outcome, gives, refuses, Gives, refused}
use Rattle.records.specs.Depth.{depth, bodies_depth, tail_depth}
use Rattle.records.specs.Limits.{level_limit, lambda_limit}
use Rattle.records.specs.Records.{Loc, byte, record_bytes, Body, BL, BQ, BV, BC, BM, BF, body_bytes, Bodies, []ᵇ, ◌∷ᵇ◌, bodies_bytes, bodies_count, Tail, no_tail, tail, tail_bytes}
use Rattle.records.specs.Valid.{BodyFields, BodiesFields, TailFields, lambda_depth, bodies_lambda_depth, tail_lambda_depth, NoMod, BodiesNoMod, TailNoMod}
use Rattle.records.specs.Views.{SeesCall}
use Rattle.records.specs.declared.CallView.{CallView}
use Rattle.records.specs.declared.Step.{Step}
use Rattle.records.specs.declared.Zone.{Zone}
use Rattle.walk.specs.Arena.{MapAt, outcome}
use Rattle.walk.specs.Bodyforms.{call_tail, walk}
use Rattle.walk.specs.CallWalks.{every, EachFine, FineTail, bodies_room, tail_room, ElementsReady, MadeBodies, WalksElements, TailReady, MadeTail, WalksTail}
use Rattle.walk.specs.Draws.{atoms, bodies_atoms, tail_atoms, dbl}
use Rattle.walk.specs.Room.{room}
use Rattle.walk.specs.Steps.{M, ◌>>=◌, ret, step, body_size}
use Rattle.walk.specs.Walking.{rule, IsCall, Fine, BodyReady, Walks, Leads, Finishes}
use Rattle.walk.specs.declared.Piece.{Piece}
use Rattle.walk.specs.declared.Task.{Task}
use Rattle.walk.proofs.CallRuns.{tail_then, call_rule}
use Rattle.walk.proofs.Limits.{runs_each_body, runs_in_elements, runs_walk}
use Rattle.walk.proofs.OnParts.{from, rejoin}
use Rattle.walk.proofs.Results.{some_level, least_room, room_down, dbl_down, led_counter, rule_bounded}
use Rattle.walk.proofs.RunLaws.{step_refuses}
use Rattle.walk.proofs.Sizes.{positive, dbl_add}
use Rattle.walk.proofs.TailLaws.{tail_some, tail_needs}
use Rattle.walk.proofs.Unique.{unique_fine, tells_of}
use Rattle.walk.proofs.Wholes.{from_length, whole_frame, whole_leads, map_from, Led, took, halted, finished_gives}
use Rattle.std.specs.declared.result.Result.{Result}
use Rattle.std.specs.declared.result.Result.TheVariants.{Err}
use Rattle.walk.specs.RuleAnswers.{piece_of}

-- elements and tail one level down
each_fine : (F d : ℕ) (z : Zone) (bs : Bodies) → BodiesNoMod z bs → BodiesFields bs → bodies_depth bs ≤ level_limit → bodies_lambda_depth bs ≤ lambda_limit → bodies_depth bs ≤ d → length (bodies_bytes bs) ≤ F → EachFine F d bs
unfolding BodiesNoMod BodiesFields bodies_depth bodies_lambda_depth bodies_bytes EachFine
each_fine F d z []ᵇ n f l m e s = tt
each_fine F d z (b ∷ᵇ bs) n f l m e s =
    let k = length-append (body_bytes b) (bodies_bytes bs) in (
      record { valid = (f.0, omega arith, omega arith); zone = z; clear = n.0; only = tt; deep = omega arith; short = omega arith },
      each_fine F d z bs n.1 f.1 (omega arith) (omega arith) (omega arith) (omega arith),
    )

tail_fine : (F d : ℕ) (z : Zone) (u : Tail) → TailNoMod z u → TailFields u → tail_depth u ≤ level_limit → tail_lambda_depth u ≤ lambda_limit → tail_depth u ≤ d → length (tail_bytes u) ≤ F → FineTail F d u
unfolding TailNoMod TailFields tail_depth tail_lambda_depth tail_bytes FineTail
tail_fine F d z no_tail n f l m e s = tt
tail_fine F d z (tail b) n f l m e s = record { valid = (f, omega arith, omega arith); zone = z; clear = n; only = tt; deep = omega arith; short = omega arith }

-- a level has the room of elements and tail
elements_need : (F d first : ℕ) (bs : Bodies) → bodies_depth bs ≤ d - 1 → 1 ≤ d → first ≤ F → first + bodies_room F (d - 1) bs ≤ room F d
unfolding bodies_room bodies_depth
elements_need F d first []ᵇ e le s = omega (arith, least_room F d le)
elements_need F d first (b ∷ᵇ bs) e le s = omega (arith, positive b, room_down F d (omega (arith, positive b)))

tail_need : (F d first w : ℕ) (u : Tail) → tail_depth u ≤ d - 1 → 1 ≤ d → first + 1 ≤ F → w ≤ F → (d ≡ 1 → w ≡ 0) → first + w + tail_room F (d - 1) u ≤ room F d
unfolding tail_room tail_depth
tail_need F zero first w no_tail e le s l z = absurd (omega arith)
tail_need F (suc zero) first w no_tail e le s l z = omega (arith, least_room F 1 (omega arith), z refl)
tail_need F (suc (suc d)) first w no_tail e le s l z = omega (arith, room_down F (suc (suc d)) (omega arith))
tail_need F d first w (tail b) e le s l z = omega (arith, positive b, room_down F d (omega (arith, positive b)))

-- a call of one level has no elements
none_empty : (us : Bodies) → bodies_count us ≡ 0 → length (bodies_bytes us) ≡ 0
unfolding bodies_count bodies_bytes
none_empty []ᵇ e = refl
none_empty (b ∷ᵇ us) e = absurd (omega arith)

no_depth : (bs : Bodies) → bodies_depth bs ≤ 0 → bodies_count bs ≡ 0
unfolding bodies_count bodies_depth
no_depth []ᵇ e = refl
no_depth (b ∷ᵇ bs) e = absurd (omega (arith, positive b))

twice : (d n k : ℕ) → 1 ≤ d → dbl (d - 1) n + dbl (d - 1) k ≤ dbl d (n + k)
twice d n k le = omega (arith, dbl_down d (n + k) le, dbl_add (d - 1) n k)

-- how far the counter comes over elements
every_counter : (F d : ℕ) (owning : Bool) (m : NameMap) (bs us : Bodies) (c e x : ℕ) → bodies_depth bs ≤ d → ((k : Bodies → M Body) → outcome ((every F owning d m 0 bs >>= k) c 0) ≡ outcome (k us e x))
    → e ≤ c + dbl d (bodies_atoms bs)
every_counter F d true m bs us c e x le h = led_counter (runs_each_body F d (rule_bounded F true d m) bs le) c 0 e x us h
every_counter F d false m bs us c e x le h = led_counter (runs_in_elements F d (walk F d) (runs_walk F d) m bs le) c 0 e x us h

-- the bytes of a BC
abbrev head_of : Loc → ℕ → Bytes
head_of l n = ascii "BC" ++ (l ++ byte n)

call_bytes : (l : Loc) (us : Bodies) (w : Tail) → body_bytes (BC l us w) ≡ head_of l (bodies_count us) ++ (bodies_bytes us ++ tail_bytes w)
unfolding body_bytes record_bytes flatten
call_bytes l us w = simp (append_assoc, append-nil)

-- a BC and where its parts stand
pub record Call (F d : ℕ) (mem : Bytes) (v : CallView) (b : Body) : Type 0 where
  pub l : Loc
  pub bs : Bodies
  pub u : Tail
  pub is : b ≡ BC l bs u
  pub width : length (head_of l (bodies_count bs)) ≡ v.first
  pub head : At mem 0 (head_of l (bodies_count bs))
  pub elements : At mem v.first (bodies_bytes bs)
  pub last : At mem (v.first + length (bodies_bytes bs)) (tail_bytes u)
  pub size : length (body_bytes b) ≡ v.first + (length (bodies_bytes bs) + length (tail_bytes u))
  pub many : bodies_count bs ≡ v.count
  pub each : EachFine F (d - 1) bs
  pub fine : FineTail F (d - 1) u
  pub deep_elements : bodies_depth bs ≤ d - 1
  pub deep_tail : tail_depth u ≤ d - 1
  pub draws : dbl (d - 1) (bodies_atoms bs) + dbl (d - 1) (tail_atoms u) ≤ dbl d (atoms b)

call_at : {F d : ℕ} {mem : Bytes} {v : CallView} → SeesCall mem v → (b : Body) → Fine IsCall F d b → At mem 0 (body_bytes b) → Call F d mem v b
unfolding IsCall BodyFields depth lambda_depth NoMod flatten atoms
call_at {F} {d} {mem} {v} x b f a = go b f.only f a
  where
    go : (b : Body) → IsCall b → Fine IsCall F d b → At mem 0 (body_bytes b) → Call F d mem v b
    go (BL k l w h bs b) o f a = absurd o
    go (BQ s) o f a = absurd o
    go (BV s) o f a = absurd o
    go (BC l bs u) o f a =
        let h = head_of l (bodies_count bs) in
        let c = x.closes l bs u f.valid a in
        let e = call_bytes l bs u in
        let n = ap length e ∙ length-append h (bodies_bytes bs ++ tail_bytes u) in
        let n₂ = length-append (bodies_bytes bs) (tail_bytes u) in
        let n₃ = length-append (bodies_bytes bs) (tail_bytes u ++ []) in
        let n₄ = length-append (tail_bytes u) [] in
        let w : length h ≡ v.first = omega (arith, c.whole) in
        let a₂ = subst (At mem 0) e a in
        let r = at_place v.first (omega arith) (at_right h (bodies_bytes bs ++ tail_bytes u) a₂) in
        let fs = f.valid.0 in
        let d₁ = f.valid.1 in
        let d₂ = f.valid.2 in
        let d₃ = f.deep in
        let s = f.short in
        record {
          l = l;
          bs = bs;
          u = u;
          is = refl;
          width = w;
          head = at_left h (bodies_bytes bs ++ tail_bytes u) a₂;
          elements = at_left (bodies_bytes bs) (tail_bytes u) r;
          last = at_right (bodies_bytes bs) (tail_bytes u) r;
          size = omega arith;
          many = sym (x.sees l bs u f.valid a).count;
          each = each_fine F (d - 1) f.zone bs f.clear.0 fs.2 (omega arith) (omega arith) (omega arith) (omega arith);
          fine = tail_fine F (d - 1) f.zone u f.clear.1 fs.3 (omega arith) (omega arith) (omega arith) (omega arith);
          deep_elements = omega arith;
          deep_tail = omega arith;
          draws = twice d (bodies_atoms bs) (tail_atoms u) (omega (arith, positive (BC l bs u)));
        }
    go (BM l g) o f a = absurd o
    go (BF l w ca c a' b) o f a = absurd o

module _ {mem : Bytes} {t : Task} {v : CallView} {owning : Bool} (x : SeesCall mem v) (p : BodyReady IsCall owning mem t) where
  here : Call t.f t.depth mem v p.tree
  here = call_at x p.tree p.good p.there

  pub levels : 1 ≤ t.depth
  levels = some_level p.good

  first_short : v.first + 1 ≤ t.f
  first_short = omega (arith, here.size, tail_some here.u, p.good.short)

  wide : t.free + room t.f t.depth + t.map ≤ length mem
  wide = p.room

  first_low : v.first ≤ t.free
  first_low = omega (arith, here.size, p.below)

  pub first_wide : t.free + v.first + t.map ≤ length mem
  first_wide = omega (arith, wide, first_short, least_room t.f t.depth levels)

  pub head_moves : Movable mem 0 t.free v.first
  head_moves = movable_up (omega (arith, first_low)) (omega (arith, first_wide))

  -- the head is copied
  module _ {a : Bytes} (w : Filled mem a t.free (drop 0 mem) v.first) where
    abbrev task : Task
    task = record { free = t.free; map = t.map; f = t.f; depth = t.depth - 1; counter = t.counter }

    size : length a ≡ length mem
    size = w.frame.size

    elements_start : At (from a v.first) 0 (bodies_bytes here.bs)
    elements_start = into (at_below w.frame here.elements (omega (arith, here.size, p.below)))

    part_map : MapAt (from a v.first) t.map p.m
    part_map = map_from v.first w.frame (omega (arith, first_wide)) (omega (arith, first_wide)) p.map

    pub elements_ready : ElementsReady owning (from a v.first) v.count task
    elements_ready =
        let z = size in
        let l = from_length a v.first (omega (arith, first_wide)) in
        record {
          tree = here.bs;
          good = record { each = here.each; many = here.many };
          there = elements_start;
          below = omega (arith, here.size, p.below);
          m = p.m;
          map = part_map;
          lone = p.lone;
          room = omega (arith, wide, first_wide, elements_need t.f t.depth v.first here.bs here.deep_elements levels (omega (arith, first_short)));
          counts = omega (arith, p.counts, here.draws);
          longest = p.longest;
        }

    -- the elements are answered
    module _ {y : Bytes} {r : Result Piece Refusal} (s : WalksElements owning (from a v.first) y v.count task r) where
      abbrev middle : Bytes
      middle = rejoin a v.first y

      fits : v.first + t.free + t.map ≤ length a
      fits = omega (arith, first_wide, size)

      part_frame : SameOutside a middle (v.first + t.free) (length a - t.map)
      part_frame = whole_frame a v.first t.free t.map fits s.frame

      pub middle_frame : SameOutside mem middle t.free (length mem - t.map)
      middle_frame = let z = size in same_then t.free (length mem - t.map) (omega arith) (omega arith) (omega (arith, first_wide)) (omega arith) w.frame part_frame

      told : Leads bodies_bytes (MadeBodies t.f v.count) t.f middle (t.free + v.first) (length (bodies_bytes here.bs)) (every t.f owning (t.depth - 1) p.m 0 here.bs) t.counter 0 r
      told =
          whole_leads a v.first t.free t.map fits s.frame (t.free + v.first) (omega arith)
          (s.says p.m part_map here.bs elements_start (omega (arith, here.size, p.below)) (record { each = here.each; many = here.many }))

      abbrev after_elements : Bodies → M Body
      after_elements = tail_then t.f owning (t.depth - 1) p.m here.l here.u

      abbrev run : M Body
      run = every t.f owning (t.depth - 1) p.m 0 here.bs >>= after_elements

      -- the rule is the step of this run
      as_rule : outcome (rule t.f owning t.depth p.m p.tree t.counter 0) ≡ outcome (step t.f body_size run t.counter 0)
      as_rule =
          ap (λ (b : Body). outcome (rule t.f owning t.depth p.m b t.counter 0)) here.is
          ∙ call_rule t.f owning t.depth p.m here.l here.bs here.u t.counter levels

      stops : {new : Bytes} (q : Refusal) → SameOutside mem new t.free (length mem - t.map) → outcome (run t.counter 0) ≡ refuses q → Walks IsCall owning mem new t (Err q)
      stops q f e = tells_of unique_fine p f (refused q (as_rule ∙ step_refuses t.f body_size run t.counter 0 e) refl)

      pub elements_refused : (q : Refusal) → r ≡ Err q → Walks IsCall owning mem middle t (Err q)
      elements_refused q e = stops q middle_frame (halted q e told after_elements)

      module _ (i j n c : ℕ) (e : r ≡ piece_of i j n c) where
        half : Led bodies_bytes (MadeBodies t.f v.count) t.f middle (t.free + v.first) (length (bodies_bytes here.bs)) (every t.f owning (t.depth - 1) p.m 0 here.bs) t.counter 0 i j n c
        half = took i j n c e told

        pub call_short : (v.first ≤ t.f) × (j ≤ t.f)
        call_short = (omega (arith, first_short), omega (arith, half.wrote, half.has.short))

        abbrev task₂ : Task
        task₂ = record { free = t.free + (v.first + j) - (v.first + i); map = t.map; f = t.f; depth = t.depth - 1; counter = c }

        tail_wide : t.free + v.first + j + tail_room t.f (t.depth - 1) here.u + t.map ≤ length mem
        tail_wide =
            let none : t.depth ≡ 1 → j ≡ 0 = λ q. omega (arith, half.wrote, none_empty half.u (half.has.many ∙ sym here.many ∙ no_depth here.bs (omega (arith, here.deep_elements)))) in
            omega (arith, wide, tail_need t.f t.depth v.first j here.u here.deep_tail levels first_short call_short.1 none)

        tail_low : v.first + i + length (tail_bytes here.u) ≤ t.free
        tail_low = omega (arith, here.size, p.below, half.read)

        pub tail_starts : v.first + i + 1 ≤ t.free
        tail_starts = omega (arith, tail_low, tail_some here.u)

        pub some_wide : t.free + v.first + j + 1 + t.map ≤ length mem
        some_wide = omega (arith, tail_wide, tail_needs t.f (t.depth - 1) here.u)

        tail_map : MapAt (from middle (v.first + i)) t.map p.m
        tail_map = map_from (v.first + i) middle_frame (omega (arith, first_wide)) (omega (arith, tail_starts, first_wide)) p.map

        last : At middle (v.first + i) (tail_bytes here.u)
        last = at_place (v.first + i) (omega (arith, half.read)) (at_below middle_frame here.last (omega (arith, here.size, p.below)))

        come : c ≤ t.counter + dbl (t.depth - 1) (bodies_atoms here.bs)
        come = every_counter t.f (t.depth - 1) owning p.m here.bs half.u t.counter c n here.deep_elements half.goes_on

        pub tail_ready : TailReady owning (from middle (v.first + i)) n task₂
        tail_ready =
            let z = middle_frame.size in
            let l = from_length middle (v.first + i) (omega (arith, tail_starts, first_wide)) in
            record {
              ready =
                  record {
                    tree = here.u;
                    good = here.fine;
                    there = into last;
                    below = omega (arith, tail_low);
                    m = p.m;
                    map = tail_map;
                    lone = p.lone;
                    room = omega (arith, tail_wide, tail_starts);
                    counts = omega (arith, p.counts, here.draws, come);
                    longest = p.longest;
                  };
              held = half.within;
            }

        module _ {z : Bytes} {r₂ : Result Piece Refusal} (s₂ : WalksTail owning (from middle (v.first + i)) z n task₂ r₂) where
          abbrev end : Bytes
          end = rejoin middle (v.first + i) z

          tail_fits : v.first + i + task₂.free + t.map ≤ length middle
          tail_fits = omega (arith, tail_starts, some_wide, middle_frame.size)

          tail_frame : SameOutside middle end (t.free + v.first + j) (length middle - t.map)
          tail_frame =
              same_wider (t.free + v.first + j) (length middle - t.map) (omega (arith, tail_starts)) (omega arith)
              (whole_frame middle (v.first + i) task₂.free t.map tail_fits s₂.frame)

          end_frame : SameOutside mem end t.free (length mem - t.map)
          end_frame = let q = middle_frame.size in same_then t.free (length mem - t.map) (omega arith) (omega arith) (omega arith) (omega arith) middle_frame tail_frame

          tail_told : Leads tail_bytes (MadeTail t.f) t.f end (t.free + v.first + j) (length (tail_bytes here.u)) (call_tail t.f (rule t.f owning (t.depth - 1) p.m) here.u) c n r₂
          tail_told =
              whole_leads middle (v.first + i) task₂.free t.map tail_fits s₂.frame (t.free + v.first + j) (omega (arith, tail_starts))
              (s₂.says p.m tail_map here.u (into last) (omega (arith, tail_low)) here.fine)

          abbrev as_call : Tail → M Body
          as_call u = ret (BC here.l half.u u)

          pub tail_refused : (q : Refusal) → r₂ ≡ Err q → Walks IsCall owning mem end t (Err q)
          tail_refused q e₂ = stops q end_frame (half.goes_on after_elements ∙ halted q e₂ tail_told as_call)

          module _ (g h o d : ℕ) (e₂ : r₂ ≡ piece_of g h o d) where
            rest : Led tail_bytes (MadeTail t.f) t.f end (t.free + v.first + j) (length (tail_bytes here.u)) (call_tail t.f (rule t.f owning (t.depth - 1) p.m) here.u) c n g h o d
            rest = took g h o d e₂ tail_told

            -- what was read is the record, and what was written
            pub call_sums : (v.first + i + g ≤ t.f) × (h ≤ 1 + t.f)
            call_sums = (omega (arith, here.size, half.read, rest.read, p.good.short), omega (arith, rest.wrote, rest.has))

            abbrev made_call : Body
            made_call = BC here.l half.u rest.u

            abbrev head_bytes : Bytes
            head_bytes = head_of here.l (bodies_count here.bs)

            bytes : body_bytes made_call ≡ head_bytes ++ (bodies_bytes half.u ++ tail_bytes rest.u)
            bytes =
                call_bytes here.l half.u rest.u
                ∙ ap (λ (k : ℕ). head_of here.l k ++ (bodies_bytes half.u ++ tail_bytes rest.u)) (half.has.many ∙ sym here.many)

            long : length (body_bytes made_call) ≡ v.first + j + h
            long =
                ap length bytes ∙ omega (
                  arith,
                  length-append head_bytes (bodies_bytes half.u ++ tail_bytes rest.u),
                  length-append (bodies_bytes half.u) (tail_bytes rest.u),
                  here.width,
                  half.wrote,
                  rest.wrote,
                )

            ran : outcome (run t.counter 0) ≡ gives made_call d
            unfolding ret outcome
            ran = half.goes_on after_elements ∙ rest.goes_on as_call

            there : At end t.free (body_bytes made_call)
            there =
                let wd = here.width in
                let head = at_below part_frame (copied_at 0 t.free w (omega (arith, first_wide)) here.head (omega arith) (omega arith) (omega arith)) (omega arith) in
                let a₁ = at_below tail_frame head (omega arith) in
                let a₂ = at_below tail_frame half.out (omega (arith, half.wrote)) in
                let a₃ = at_place (t.free + v.first + length (bodies_bytes half.u)) (omega (arith, half.wrote)) rest.out in
                let a₄ = at_place (t.free + length head_bytes) (omega arith) (at_join (bodies_bytes half.u) (tail_bytes rest.u) a₂ a₃) in
                subst (At end t.free) (sym bytes) (at_join head_bytes (bodies_bytes half.u ++ tail_bytes rest.u) a₁ a₄)

            pub call_finished : {r₃ : Result Step Refusal} → Finishes (v.first + i + g) (v.first + j + h) t.f d r₃ → Walks IsCall owning mem end t r₃
            call_finished {r₃} fin =
                tells_of unique_fine p end_frame
                (subst (λ (a : Outcome Body). Gives body_bytes end t.free (length (body_bytes p.tree)) a r₃) (sym as_rule)
                (finished_gives run t.counter fin ran (omega (arith, here.size, half.read, rest.read)) (sym long) there))
