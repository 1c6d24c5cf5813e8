-- In-body of a let: its head copied, its bindings, its body, and what each way out answers. Assumes nothing.
use mathlib.Core.Path.{◌≡◌, refl, sym, ap, subst, ◌∙◌}
use mathlib.Core.Bool.{false}
use mathlib.Core.List.{List, ◌++◌}
use native.Mathlib.Omega.{arith}
use Prim.Native.Nat.{ℕ, ◌+◌, ◌*◌, ◌-◌, ◌≤◌, ◌<◌}
use lib.ListN.{length, drop, length-append}
use Rattle.names.specs.Maps.{NameMap}
use Rattle.names.specs.Names.{Bytes}
use Rattle.names.specs.Segments.{At, SameOutside, Filled, Movable}
use Rattle.names.specs.declared.Refusal.{Refusal}
use Rattle.names.proofs.Frames.{same_wider, same_then, at_below, movable_up}
use Rattle.names.proofs.Parts.{into}
use Rattle.names.proofs.Places.{at_place, at_join}
use Rattle.records.specs.StepAnswer.{Outcome, Gives}
use Rattle.records.specs.Lists.{joined}
use Rattle.records.specs.Records.{Loc, pattern_field, Body, BL, body_bytes, Binding, binding_bytes, to_bindings, list_of}
use Rattle.records.specs.declared.Kind.{Kind}
use Rattle.records.specs.Views.{SeesLet}
use Rattle.records.specs.declared.LetView.{LetView}
use Rattle.records.specs.declared.Step.{Step}
use Rattle.records.proofs.StepAnswers.{Made as Given, made as was_made, unmade}
use Rattle.walk.specs.Arena.{outcome}
use Rattle.walk.specs.Bodyforms.{each_binding_body, rename_in_bodyform}
use Rattle.walk.specs.Draws.{atoms, inside_of, dbl}
use Rattle.walk.specs.LetWalks.{head_bytes, own_patterns, heads, AllReady, BindsAll, MadeBindings}
use Rattle.walk.specs.Room.{room}
use Rattle.walk.specs.Steps.{M, ◌>>=◌, ret, child, step, body_size, over_long}
use Rattle.walk.specs.Walking.{rule, AnyBody, IsBinder, BodyReady, Walks, Leads, Finishes}
use Rattle.walk.specs.declared.Piece.{Piece}
use Rattle.walk.specs.declared.Task.{Task}
use Rattle.walk.proofs.DoneLaws.{child_gives, child_over, child_refuses}
use Rattle.walk.proofs.LetLaws.{Let, Seen, seen, let_head, let_made, own_same, own_many, own_valid, heads_short, heads_are, half_frame, half_head, half_out, half_last}
use Rattle.walk.proofs.LetRuns.{each_counter}
use Rattle.walk.proofs.OnParts.{from, rejoin}
use Rattle.walk.proofs.Results.{room_down}
use Rattle.walk.proofs.RunLaws.{in_step, neutral_rule}
use Rattle.walk.proofs.Unique.{tells_of, unique_fine}
use Rattle.walk.proofs.Wholes.{from_length, whole_frame, whole_gives, map_from, Led, took, halted, finished_gives, refused_gives}
use Rattle.std.specs.declared.result.Result.{Result}
use Rattle.std.specs.declared.result.Result.TheVariants.{Err}
use Rattle.walk.specs.RuleAnswers.{piece_of}
use Rattle.records.specs.StepAnswer.{step_of}

-- the bindings of a let by In-body, and then its body
unfoldable in_let_run : ℕ → ℕ → NameMap → Kind → Loc → Bytes → Bytes → List Binding → Body → M Body
in_let_run F d m k l w h bs b = each_binding_body F (rule F false d m) bs >>= λ bs'. child F body_size (rule F false d m b) >>= λ b'. ret (BL k l w h (to_bindings bs') b')

-- In-body of a let is a step of that
in_let_step : (F d : ℕ) (m : NameMap) {mem : Bytes} {first count : ℕ} (tree : Body) (x : Seen F d mem first count tree) (c : ℕ)
    → outcome (rule F false d m tree c 0) ≡ outcome (step F body_size (in_let_run F (d - 1) m x.k x.l x.w x.h (list_of x.bs) x.b) c 0)
unfolding rename_in_bodyform in_let_run
in_let_step F d m tree x c =
    ap (λ (b : Body). outcome (rule F false d m b c 0)) x.is ∙ in_step F d m (BL x.k x.l x.w x.h x.bs x.b) c (omega (arith, x.parts.level))

module _ {t : Task} {mem : Bytes} {v : LetView} (x : SeesLet mem v) (p : BodyReady IsBinder false mem t) where
  -- the let
  pub here : Seen t.f t.depth mem v.first v.count p.tree
  here = seen x p.tree p.good.only p.good p.there

  -- its parts
  abbrev z : Let t.f t.depth mem v.first v.count here.k here.l here.w here.h here.bs here.b
  z = here.parts

  -- its bindings
  abbrev bs : List Binding
  bs = list_of here.bs

  -- what is read lies below free, and from there on is room
  pub low : v.first + (length (joined binding_bytes bs) + length (body_bytes here.b)) ≤ t.free
  low = omega (arith, z.size, p.below, ap (λ (b : Body). length (body_bytes b)) here.is)

  pub wide : t.free + 8 * t.f + room t.f (t.depth - 1) + t.map ≤ length mem
  wide = omega (arith, p.room, room_down t.f t.depth z.level)

  -- it has a level
  pub deep : 1 ≤ t.depth
  deep = omega (arith, z.level)

  -- its head can be copied
  pub copy_moves : Movable mem 0 t.free v.first
  copy_moves = movable_up (omega (arith, low)) (omega (arith, wide, z.short))

  -- the heads of its bindings
  head_all : heads (own_patterns bs) bs ≤ length (joined binding_bytes bs)
  head_all = omega (arith, ap (λ (y : List Binding). length (joined head_bytes y)) (own_same bs), heads_short bs)

  -- and their patterns
  patterns_all : length (joined pattern_field (own_patterns bs)) ≤ length (joined binding_bytes bs)
  patterns_all = omega (arith, head_all, heads_are t.f (t.depth - 1) (own_patterns bs) bs (own_many bs) z.each)

  -- the head is copied
  module _ {mid : Bytes} (f : Filled mem mid t.free (drop 0 mem) v.first) where
    -- what the bindings are given
    abbrev all_task : Task
    all_task = record { free = t.free; map = t.map; f = t.f; depth = t.depth - 1; counter = t.counter }

    -- how much memory is lent
    lent : length (from mid v.first) ≡ length mem - v.first
    lent = from_length mid v.first (omega (arith, wide, low, f.frame.size)) ∙ omega (arith, f.frame.size)

    -- what the bindings ask
    pub all_ready : AllReady (from mid v.first) v.count 0 0 all_task false
    all_ready =
        let n = lent in
        let n₂ = head_all in
        record {
          bs = bs;
          ps = own_patterns bs;
          many = z.many;
          good = z.each;
          chosen = record { many = own_many bs; valid = own_valid t.f (t.depth - 1) bs z.each; drawn = λ e. let y : ◌≡◌ {A = ℕ} 0 1 = cc in absurd (omega arith); kept = λ e. refl; fits = omega (arith, patterns_all, wide, low) };
          there = into (at_below f.frame z.bindings (omega (arith, low)));
          below = omega (arith, low);
          m = p.m;
          map = map_from v.first f.frame (omega (arith, wide, z.short)) (omega (arith, wide, low)) p.map;
          top = length (from mid v.first) - t.map;
          ends = record { own = λ e. let y : ◌≡◌ {A = ℕ} 0 1 = cc in absurd (omega arith); inside = λ e. refl; lone = λ e. let y : ◌≡◌ {A = ℕ} 0 1 = cc in absurd (omega arith); within = omega (arith, wide, low) };
          held_within = omega arith;
          room = omega (arith, wide, low, z.short);
          counts = omega (arith, p.counts, z.draws, ap (λ (b : Body). dbl t.depth (atoms b)) here.is);
          longest = p.longest;
        }

    -- the bindings are done
    module _ {y : Bytes} {r : Result Piece Refusal} (g : BindsAll (from mid v.first) y v.count 0 0 all_task false r) where
      -- memory then
      abbrev then : Bytes
      then = rejoin mid v.first y

      -- where the map starts
      abbrev top : ℕ
      top = length (from mid v.first) - t.map

      -- what they changed
      bound_frame : SameOutside (from mid v.first) y t.free top
      unfolding all_ready
      bound_frame = (g all_ready).frame

      -- what they lead to
      leads : Leads (joined binding_bytes) (MadeBindings v.count 0 (heads (own_patterns bs) bs) t.f) t.f y t.free (length (joined binding_bytes bs)) (each_binding_body t.f (rule t.f false (t.depth - 1) p.m) bs) t.counter 0 r
      unfolding all_ready
      leads =
          subst (λ (l : List Binding). Leads (joined binding_bytes) (MadeBindings v.count 0 (heads (own_patterns bs) bs) t.f) t.f y t.free (length (joined binding_bytes bs)) (each_binding_body t.f (rule t.f false (t.depth - 1) p.m) l) t.counter 0 r)
          (own_same bs) (g all_ready).leads

      -- the lent memory ends with the whole
      far : v.first + top ≤ length mem
      far = omega (arith, lent, wide, low)

      -- their results have room
      wide_top : t.free ≤ top
      wide_top = omega (arith, lent, wide, z.short)

      -- what has changed
      then_frame : SameOutside mem then t.free (length mem - t.map)
      then_frame = same_wider t.free (length mem - t.map) (omega arith) (omega (arith, lent, wide, low)) (half_frame z low f top far wide_top bound_frame)

      -- a binding is refused
      pub bindings_refused : (q : Refusal) → r ≡ Err q → Walks IsBinder false mem then t (Err q)
      unfolding in_let_run
      bindings_refused q e =
          tells_of unique_fine p then_frame
          (subst (λ (o : Outcome Body). Gives body_bytes then t.free (length (body_bytes p.tree)) o (Err q)) (sym (in_let_step t.f t.depth p.m p.tree here t.counter))
          (refused_gives t.f (in_let_run t.f (t.depth - 1) p.m here.k here.l here.w here.h bs here.b) t.counter (halted q e leads _) refl))

      -- what they became
      module _ (i w s c : ℕ) (e : r ≡ piece_of i w s c) where
        -- their result
        half : Led (joined binding_bytes) (MadeBindings v.count 0 (heads (own_patterns bs) bs) t.f) t.f y t.free (length (joined binding_bytes bs)) (each_binding_body t.f (rule t.f false (t.depth - 1) p.m) bs) t.counter 0 i w s c
        half = took i w s c e leads

        -- where the body stands
        abbrev q : ℕ
        q = v.first + i

        -- the body lies below free
        pub past : q + length (body_bytes here.b) ≤ t.free
        past = omega (arith, half.read, low)

        -- how much is written
        pub written : v.first + w ≤ 2 * t.f
        written = omega (arith, half.wrote, half.has.long, head_all, z.short)

        -- the sum
        pub summed : s ≤ t.f
        summed = half.within

        -- how much is read
        pub reads : q ≤ length mem
        reads = omega (arith, past, wide)

        -- what the body is given
        abbrev body_task : Task
        body_task = record { free = t.free + (v.first + w) - q; map = t.map; f = t.f; depth = t.depth - 1; counter = c }

        -- how far the counter has come
        counter_bound : c ≤ t.counter + dbl (t.depth - 1) (inside_of bs)
        counter_bound = each_counter t.f false (t.depth - 1) p.m bs z.deep t.counter 0 c s half.u half.goes_on

        -- what the body asks
        pub body_ready : BodyReady AnyBody false (from then q) body_task
        body_ready =
            let n = from_length then q (omega (arith, reads, then_frame.size)) in
            record {
              tree = here.b;
              good = z.fine;
              there = into (at_place q (omega (arith, half.read)) (half_last z low f top far wide_top bound_frame));
              below = omega (arith, past);
              m = p.m;
              map = map_from q then_frame (omega (arith, p.map.within)) (omega (arith, past, wide)) p.map;
              lone = λ e. let y : ◌≡◌ {A = ℕ} 0 1 = cc in absurd (omega arith);
              room = omega (arith, past, written, wide, then_frame.size);
              counts = omega (arith, p.counts, counter_bound, z.draws, ap (λ (b : Body). dbl t.depth (atoms b)) here.is);
              longest = p.longest;
            }

        -- its body is done
        module _ {y₂ : Bytes} {r₂ : Result Step Refusal} (g₂ : Walks AnyBody false (from then q) y₂ body_task r₂) where
          -- memory then
          abbrev end : Bytes
          end = rejoin then q y₂

          -- the result of the body has room
          fit₂ : q + body_task.free + t.map ≤ length then
          fit₂ = omega (arith, past, written, wide, then_frame.size)

          -- what the body changed
          body_frame : SameOutside then end (t.free + v.first + w) (length then - t.map)
          body_frame = same_wider (t.free + v.first + w) (length then - t.map) (omega (arith, past)) (omega arith) (whole_frame then q body_task.free t.map fit₂ g₂.frame)

          -- what has changed
          pub end_frame : SameOutside mem end t.free (length mem - t.map)
          end_frame = same_then t.free (length mem - t.map) (omega arith) (omega arith) (omega arith) (omega (arith, then_frame.size)) then_frame body_frame

          -- what the body gave
          body_gives : Gives body_bytes end (t.free + v.first + w) (length (body_bytes here.b)) (outcome (rule t.f false (t.depth - 1) p.m here.b c 0)) r₂
          unfolding body_ready
          body_gives =
              let k = body_ready in
              whole_gives then q body_task.free t.map fit₂ g₂.frame (t.free + v.first + w) (omega (arith, past)) (g₂.says k.m k.map k.tree k.there k.below k.good)

          -- the run
          abbrev run : M Body
          run = in_let_run t.f (t.depth - 1) p.m here.k here.l here.w here.h bs here.b

          -- how it ends
          abbrev last : Body → M Body
          last b' = ret (BL here.k here.l here.w here.h (to_bindings half.u) b')

          -- the run from the body on
          run_is : outcome (run t.counter 0) ≡ outcome ((child t.f body_size (rule t.f false (t.depth - 1) p.m here.b) >>= last) c s)
          unfolding in_let_run
          run_is = half.goes_on (λ bs'. child t.f body_size (rule t.f false (t.depth - 1) p.m here.b) >>= λ b'. ret (BL here.k here.l here.w here.h (to_bindings bs') b'))

          -- what is answered
          answers : {o : Result Step Refusal} → Gives body_bytes end t.free (length (body_bytes p.tree)) (outcome (step t.f body_size run t.counter 0)) o → Walks IsBinder false mem end t o
          answers {o} h = tells_of unique_fine p end_frame (subst (λ (a : Outcome Body). Gives body_bytes end t.free (length (body_bytes p.tree)) a o) (sym (in_let_step t.f t.depth p.m p.tree here t.counter)) h)

          -- the body is refused
          pub body_refused : (n : Refusal) → r₂ ≡ Err n → Walks IsBinder false mem end t (Err n)
          body_refused n e =
              answers (refused_gives t.f run t.counter (run_is ∙ child_refuses t.f body_size last (neutral_rule t.f false (t.depth - 1) p.m here.b) c s (unmade n e body_gives)) refl)

          module _ (j a d : ℕ) (e₂ : r₂ ≡ step_of j a d) where
            -- its result
            given : Given body_bytes end (t.free + v.first + w) (length (body_bytes here.b)) (outcome (rule t.f false (t.depth - 1) p.m here.b c 0)) j a d
            given = was_made j a d e₂ body_gives

            -- how much is read and written
            pub body_sizes : (q + j ≤ t.free) × (t.free + v.first + w + a ≤ length mem)
            body_sizes = (omega (arith, given.read, past), omega (arith, given.wrote, given.out.fits, end_frame.size))

            -- the sum is too long
            pub body_over : {o : Result Step Refusal} → t.f < s + a → o ≡ Err over_long → Walks IsBinder false mem end t o
            unfolding body_size
            body_over {o} lt q =
                answers (refused_gives t.f run t.counter (run_is ∙ child_over t.f body_size last (neutral_rule t.f false (t.depth - 1) p.m here.b) c s given.is (omega (arith, given.wrote))) q)

            -- the let is finished
            pub let_finished : {o : Result Step Refusal} → s + a ≤ t.f → Finishes (q + j) (v.first + w + a) t.f d o → Walks IsBinder false mem end t o
            unfolding body_size outcome ret
            let_finished {o} le fin =
                let us = half.u in
                let u = given.u in
                let made = BL here.k here.l here.w here.h (to_bindings us) u in
                let bytes : body_bytes made ≡ let_head here.k here.l here.w here.h v.count ++ (joined binding_bytes us ++ body_bytes u) =
                let_made here.k here.l here.w here.h us u ∙ ap (λ (n : ℕ). let_head here.k here.l here.w here.h n ++ (joined binding_bytes us ++ body_bytes u)) half.has.many in
                let hd = let_head here.k here.l here.w here.h v.count in
                let len = ap length bytes ∙ length-append hd (joined binding_bytes us ++ body_bytes u) in
                let len₂ = length-append (joined binding_bytes us) (body_bytes u) in
                let first : At end t.free hd = at_below body_frame (half_head z low f top far wide_top bound_frame) (omega (arith, z.width)) in
                let second : At end (t.free + v.first) (joined binding_bytes us) = at_below body_frame (half_out z low f top far wide_top bound_frame half.out) (omega (arith, half.wrote)) in
                let both = at_join (joined binding_bytes us) (body_bytes u) second (at_place (t.free + v.first + length (joined binding_bytes us)) (omega (arith, half.wrote)) given.out) in
                answers
                (finished_gives run t.counter fin
                (run_is ∙ child_gives t.f body_size last (neutral_rule t.f false (t.depth - 1) p.m here.b) c s given.is (omega (arith, given.wrote)))
                (omega (arith, given.read, half.read, z.size, ap (λ (b : Body). length (body_bytes b)) here.is))
                (omega (arith, z.width, half.wrote, given.wrote))
                (subst (At end t.free) (sym bytes) (at_join hd (joined binding_bytes us ++ body_bytes u) first (at_place (t.free + length hd) (omega (arith, z.width)) both))))
