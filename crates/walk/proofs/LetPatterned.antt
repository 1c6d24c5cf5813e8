-- Own of a parallel let whose patterns are drawn: its head copied, its bindings, its body by both rules, and what each way out answers. Assumes nothing.
use mathlib.Core.Path.{◌≡◌, refl, sym, ap, subst, ◌∙◌}
use mathlib.Core.Bool.{true}
use mathlib.Core.List.{List, [], ◌∷◌, ◌++◌}
use native.Mathlib.Omega.{arith}
use Prim.Native.Nat.{ℕ, ◌+◌, ◌*◌, ◌-◌, ◌≤◌, max}
use lib.ListN.{length, drop, length-append}
use Rattle.names.specs.Names.{Bytes}
use Rattle.names.specs.Segments.{At, SameOutside, Filled, Movable}
use Rattle.names.specs.declared.Refusal.{Refusal}
use Rattle.names.proofs.Frames.{same_wider, same_then, at_below, at_above, movable_up}
use Rattle.names.proofs.Parts.{into, at_part}
use Rattle.names.proofs.Places.{at_place, at_join}
use Rattle.records.specs.Depth.{binding_depth, list_depth}
use Rattle.records.specs.Lists.{joined}
use Rattle.records.specs.Records.{Pattern, pattern_field, Body, BL, body_bytes, Binding, BB, binding_bytes, to_bindings, list_of}
use Rattle.records.specs.declared.Kind.TheVariants.{Parallel}
use Rattle.records.specs.declared.Step.{Step}
use Rattle.walk.specs.Arena.{outcome}
use Rattle.walk.specs.Bodyforms.{each_binding_body, args_then_in, walk}
use Rattle.walk.specs.Draws.{atoms, inside_of, dbl}
use Rattle.walk.specs.LetWalks.{heads, AllReady, BindsAll, MadeBindings, PatternedReady, Patterned, patterned_run}
use Rattle.walk.specs.Room.{room}
use Rattle.walk.specs.Scopes.{with_pattern, with_patterns}
use Rattle.walk.specs.Steps.{M, ◌>>=◌, ret}
use Rattle.walk.specs.Walking.{AnyBody, Leads, BothReady, WalksBoth, Finishes}
use Rattle.walk.specs.declared.Piece.{Piece}
use Rattle.walk.specs.declared.Task.{Task}
use Rattle.walk.proofs.LetLaws.{Let, let_parts, let_head, let_made, heads_are, tens_short, half_frame, half_head, half_out, half_last}
use Rattle.walk.proofs.LetRuns.{each_counter}
use Rattle.walk.proofs.MapLaws.{no_map}
use Rattle.walk.proofs.OnParts.{from, rejoin}
use Rattle.walk.proofs.Wholes.{from_length, whole_frame, whole_leads, map_from, Led, took, halted, finished_gives, refused_gives}
use Rattle.std.specs.declared.result.Result.{Result}
use Rattle.std.specs.declared.result.Result.TheVariants.{Err}
use Rattle.walk.specs.RuleAnswers.{piece_of}

-- other patterns change neither depth nor the atoms of the bodies
with_inside : (ps : List Pattern) (bs : List Binding) → length ps ≡ length bs → inside_of (with_patterns ps bs) ≡ inside_of bs
unfolding with_patterns with_pattern inside_of
with_inside [] [] e = refl
with_inside [] (x ∷ xs) e = absurd (omega arith)
with_inside (p ∷ ps) [] e = absurd (omega arith)
with_inside (p ∷ ps) (BB l nl q b ∷ xs) e = ap (λ (n : ℕ). atoms b + n) (with_inside ps xs (omega arith))

with_depth : (ps : List Pattern) (bs : List Binding) → length ps ≡ length bs → list_depth (with_patterns ps bs) ≡ list_depth bs
unfolding with_patterns with_pattern list_depth binding_depth
with_depth [] [] e = refl
with_depth [] (x ∷ xs) e = absurd (omega arith)
with_depth (p ∷ ps) [] e = absurd (omega arith)
with_depth (p ∷ ps) (BB l nl q b ∷ xs) e = ap (λ (n : ℕ). max (binding_depth (BB l nl q b)) n) (with_depth ps xs (omega arith))

module _ {mem : Bytes} {first count aside sum : ℕ} {t : Task} (p : PatternedReady mem first count aside sum t) where
  -- the let
  pub parts : Let t.f t.depth mem first count Parallel p.l p.k p.h p.bs p.b
  parts = let_parts Parallel p.l p.k p.h p.bs p.b p.good p.there p.starts p.many

  -- its bindings
  abbrev bs : List Binding
  bs = list_of p.bs

  -- and with their new patterns
  abbrev all : List Binding
  all = with_patterns p.ps bs

  -- what is read lies below free, and from there on is room
  pub low : first + (length (joined binding_bytes bs) + length (body_bytes p.b)) ≤ t.free
  low = omega (arith, p.starts, p.below)

  -- it has a level
  pub deep : 1 ≤ t.depth
  deep = omega (arith, parts.level)

  -- it is at most F long
  pub short : first + (length (joined binding_bytes bs) + length (body_bytes p.b)) ≤ t.f
  short = parts.short

  -- patterns and map lie within memory
  pub aside_end : aside + (length (joined pattern_field p.ps) + t.map) ≤ length mem
  aside_end = omega (arith, p.beside, p.all)

  -- its head can be copied
  pub copy_moves : Movable mem 0 t.free first
  copy_moves = movable_up (omega (arith, low)) (omega (arith, p.room, aside_end, short))

  -- how long the new heads are
  heads_is : heads p.ps bs ≡ 10 * length bs + length (joined pattern_field p.ps)
  heads_is = heads_are t.f (t.depth - 1) p.ps bs p.chosen.many parts.each

  -- ten bytes of each
  tens : 10 * length bs ≤ length (joined binding_bytes bs)
  tens = tens_short t.f (t.depth - 1) bs parts.each

  -- the head is copied
  module _ {mid : Bytes} (f : Filled mem mid t.free (drop 0 mem) first) where
    -- what the bindings are given
    abbrev all_task : Task
    all_task = record { free = t.free; map = 0; f = t.f; depth = t.depth - 1; counter = t.counter }

    -- how much memory is lent
    lent : length (from mid first) ≡ length mem - first
    lent = from_length mid first (omega (arith, p.room, aside_end, low, f.frame.size)) ∙ omega (arith, f.frame.size)

    -- what the bindings ask
    pub all_ready : AllReady (from mid first) count (aside - first) sum all_task true
    all_ready =
        let n = lent in
        record {
          bs = bs;
          ps = p.ps;
          many = p.many;
          good = parts.each;
          chosen = record {
            many = p.chosen.many;
            valid = p.chosen.valid;
            drawn = λ e. at_part first (length mid - first) (at_above f.frame (p.chosen.drawn refl) (omega (arith, p.room, short))) (omega (arith, p.room, low)) (omega (arith, aside_end, p.room, low, f.frame.size));
            kept = λ e. let y : ◌≡◌ {A = ℕ} 0 1 = cc in absurd (omega arith);
            fits = omega (arith, aside_end, p.room, low);
          };
          there = into (at_below f.frame parts.bindings (omega (arith, low)));
          below = omega (arith, low);
          m = [];
          map = no_map;
          top = aside - first;
          ends = record { own = λ e. refl; inside = λ e. let y : ◌≡◌ {A = ℕ} 0 1 = cc in absurd (omega arith); lone = λ e. refl; within = omega (arith, aside_end) };
          held_within = p.held;
          room = omega (arith, p.room, p.long, p.held, heads_is, tens, short);
          counts = omega (arith, p.counts);
          longest = p.longest;
        }

    -- the bindings are done
    module _ {y : Bytes} {r : Result Piece Refusal} (g : BindsAll (from mid first) y count (aside - first) sum all_task true r) where
      -- memory then
      abbrev then : Bytes
      then = rejoin mid first y

      -- what they changed
      bound_frame : SameOutside (from mid first) y t.free (aside - first)
      unfolding all_ready
      bound_frame = (g all_ready).frame

      -- what they lead to
      leads : Leads (joined binding_bytes) (MadeBindings count sum (heads p.ps bs) t.f) t.f y t.free (length (joined binding_bytes bs)) (each_binding_body t.f (walk t.f (t.depth - 1)).args_bodyform all) t.counter sum r
      unfolding all_ready
      leads = (g all_ready).leads

      -- the lent memory ends with the patterns
      far : first + (aside - first) ≤ length mem
      far = omega (arith, aside_end, p.room, low)

      -- their results have room
      wide_top : t.free ≤ aside - first
      wide_top = omega (arith, p.room, short)

      -- what has changed
      then_frame : SameOutside mem then t.free aside
      then_frame = same_wider t.free aside (omega arith) (omega (arith, p.room, low)) (half_frame parts low f (aside - first) far wide_top bound_frame)

      -- a binding is refused
      pub bindings_refused : (q : Refusal) → r ≡ Err q → Patterned mem then first count aside sum t p (Err q)
      unfolding patterned_run
      bindings_refused q e =
          record {
            frame = same_wider t.free (length mem) (omega arith) (omega (arith, aside_end)) then_frame;
            gives = λ run c h. refused_gives t.f run c (h ∙ halted q e leads _) refl;
          }

      -- what they became
      module _ (i w s c : ℕ) (e : r ≡ piece_of i w s c) where
        -- their result
        half : Led (joined binding_bytes) (MadeBindings count sum (heads p.ps bs) t.f) t.f y t.free (length (joined binding_bytes bs)) (each_binding_body t.f (walk t.f (t.depth - 1)).args_bodyform all) t.counter sum i w s c
        half = took i w s c e leads

        -- where the body stands
        abbrev q : ℕ
        q = first + i

        -- the body lies below free
        pub past : q + length (body_bytes p.b) ≤ t.free
        past = omega (arith, half.read, low)

        -- what is written has room, and the body too
        pub written : t.free + first + w + t.f + room t.f (t.depth - 1) + t.map ≤ length mem
        written = omega (arith, half.wrote, half.has.long, heads_is, tens, short, p.room, aside_end, p.beside, p.all)

        -- how much is read
        pub reads : q ≤ length mem
        reads = omega (arith, past, written)

        -- what the body is given
        abbrev body_task : Task
        body_task = record { free = t.free + (first + w) - q; map = t.map; f = t.f; depth = t.depth - 1; counter = c }

        -- how far the counter has come
        counter_bound : c ≤ t.counter + dbl (t.depth - 1) (inside_of bs)
        counter_bound =
            let b = each_counter t.f true (t.depth - 1) [] all (omega (arith, with_depth p.ps bs p.chosen.many, parts.deep)) t.counter sum c s half.u half.goes_on in
            omega (arith, b, ap (dbl (t.depth - 1)) (with_inside p.ps bs p.chosen.many))

        -- what the body asks
        pub both_ready : BothReady (from then q) s body_task
        both_ready =
            let n = from_length then q (omega (arith, reads, then_frame.size)) in
            record {
              ready = record {
                tree = p.b;
                good = parts.fine;
                there = into (at_place q (omega (arith, half.read)) (half_last parts low f (aside - first) far wide_top bound_frame));
                below = omega (arith, past);
                m = p.m;
                map = map_from q then_frame (omega (arith, aside_end)) (omega (arith, past, written)) p.map;
                lone = λ e. let y : ◌≡◌ {A = ℕ} 0 1 = cc in absurd (omega arith);
                room = omega (arith, past, written, then_frame.size);
                counts = omega (arith, p.counts, counter_bound);
                longest = p.longest;
              };
              held = half.within;
            }

        -- its body is done
        module _ {y₂ : Bytes} {r₂ : Result Piece Refusal} (g₂ : WalksBoth (from then q) y₂ s body_task r₂) where
          -- memory then
          abbrev end : Bytes
          end = rejoin then q y₂

          -- the result of the body has room
          fit₂ : q + body_task.free + t.map ≤ length then
          fit₂ = omega (arith, past, written, then_frame.size)

          -- what the body changed
          body_frame : SameOutside then end (t.free + first + w) (length then - t.map)
          body_frame = same_wider (t.free + first + w) (length then - t.map) (omega (arith, past)) (omega arith) (whole_frame then q body_task.free t.map fit₂ g₂.frame)

          -- what has changed
          pub end_frame : SameOutside mem end t.free (length mem)
          end_frame = same_then t.free (length mem) (omega arith) (omega arith) (omega (arith, aside_end)) (omega (arith, then_frame.size)) then_frame body_frame

          -- what the body leads to
          body_leads : Leads body_bytes AnyBody t.f end (t.free + first + w) (length (body_bytes p.b)) (args_then_in t.f (walk t.f (t.depth - 1)) p.m p.b) c s r₂
          unfolding both_ready
          body_leads =
              let k = both_ready.ready in
              whole_leads then q body_task.free t.map fit₂ g₂.frame (t.free + first + w) (omega (arith, past)) (g₂.says k.m k.map k.tree k.there k.below k.good)

          -- how the run ends
          abbrev last : Body → M Body
          last b' = ret (BL Parallel p.l p.k p.h (to_bindings half.u) b')

          -- the run from the body on
          run_is : outcome (patterned_run t.f (t.depth - 1) p.l p.k p.h all p.m p.b t.counter sum) ≡ outcome ((args_then_in t.f (walk t.f (t.depth - 1)) p.m p.b >>= last) c s)
          unfolding patterned_run
          run_is = half.goes_on (λ bs'. args_then_in t.f (walk t.f (t.depth - 1)) p.m p.b >>= λ b'. ret (BL Parallel p.l p.k p.h (to_bindings bs') b'))

          -- the body is refused
          pub body_refused : (n : Refusal) → r₂ ≡ Err n → Patterned mem end first count aside sum t p (Err n)
          body_refused n e = record { frame = end_frame; gives = λ run c₀ h. refused_gives t.f run c₀ (h ∙ run_is ∙ halted n e body_leads last) refl }

          module _ (j a x d : ℕ) (e₂ : r₂ ≡ piece_of j a x d) where
            -- its result
            given : Led body_bytes AnyBody t.f end (t.free + first + w) (length (body_bytes p.b)) (args_then_in t.f (walk t.f (t.depth - 1)) p.m p.b) c s j a x d
            given = took j a x d e₂ body_leads

            -- how much is read and written
            pub body_sizes : (q + j ≤ t.free) × (t.free + first + w + a ≤ length mem)
            body_sizes = (omega (arith, given.read, past), omega (arith, given.wrote, given.out.fits, end_frame.size))

            -- the let is finished
            pub let_finished : {o : Result Step Refusal} → Finishes (q + j) (first + w + a) t.f d o → Patterned mem end first count aside sum t p o
            unfolding outcome ret
            let_finished {o} fin =
                let us = half.u in
                let u = given.u in
                let hd = let_head Parallel p.l p.k p.h count in
                let made = BL Parallel p.l p.k p.h (to_bindings us) u in
                let bytes : body_bytes made ≡ hd ++ (joined binding_bytes us ++ body_bytes u) =
                let_made Parallel p.l p.k p.h us u ∙ ap (λ (n : ℕ). let_head Parallel p.l p.k p.h n ++ (joined binding_bytes us ++ body_bytes u)) half.has.many in
                let len = ap length bytes ∙ length-append hd (joined binding_bytes us ++ body_bytes u) in
                let len₂ = length-append (joined binding_bytes us) (body_bytes u) in
                let one : At end t.free hd = at_below body_frame (half_head parts low f (aside - first) far wide_top bound_frame) (omega (arith, parts.width)) in
                let two : At end (t.free + first) (joined binding_bytes us) = at_below body_frame (half_out parts low f (aside - first) far wide_top bound_frame half.out) (omega (arith, half.wrote)) in
                let both = at_join (joined binding_bytes us) (body_bytes u) two (at_place (t.free + first + length (joined binding_bytes us)) (omega (arith, half.wrote)) given.out) in
                record {
                  frame = end_frame;
                  gives = λ run c₀ h.
                      finished_gives run c₀ fin (h ∙ run_is ∙ given.goes_on last) (omega (arith, given.read, half.read, p.starts)) (omega (arith, parts.width, half.wrote, given.wrote))
                      (subst (At end t.free) (sym bytes) (at_join hd (joined binding_bytes us ++ body_bytes u) one (at_place (t.free + length hd) (omega (arith, parts.width)) both)));
                }
