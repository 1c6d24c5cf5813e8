-- A Complex pattern by its map and In-body of its body (`redo`): what each part is asked, and what it answers. Assumes nothing.
use mathlib.Core.Path.{◌≡◌, refl, sym, ap, subst, ◌∙◌}
use mathlib.Core.Bool.{false}
use mathlib.Core.List.{◌++◌}
use native.Mathlib.Omega.{arith}
use Prim.Native.Nat.{ℕ, ◌+◌, ◌-◌, ◌≤◌, ◌<◌}
use lib.ListN.{length, drop, length-append}
use Rattle.names.specs.Maps.{NameMap}
use Rattle.names.specs.Names.{Bytes}
use Rattle.names.specs.Segments.{At, SameOutside, Filled}
use Rattle.names.specs.declared.Refusal.{Refusal}
use Rattle.names.proofs.Frames.{same_then, same_wider, at_below, copied_at}
use Rattle.names.proofs.Parts.{into}
use Rattle.names.proofs.Places.{at_place, at_join}
use Rattle.records.specs.StepAnswer.{refuses, Gives}
use Rattle.records.specs.Limits.{cons_limit}
use Rattle.records.specs.Records.{Loc, Sexp, sexp_bytes, Complex, Body, body_bytes, Binding, BB}
use Rattle.records.specs.declared.Step.{Step}
use Rattle.records.proofs.StepAnswers.{Made as GotOf, made as got_of, unmade}
use Rattle.walk.specs.Arena.{Asks, Held, Substitutes, fitting, outcome}
use Rattle.walk.specs.AssignWalks.{made, stopped, MakesParts, inner, remaking, RemakeReady, Remakes}
use Rattle.walk.specs.Bodyforms.{walk}
use Rattle.walk.specs.RenameInCons.{rename_in_cons}
use Rattle.walk.specs.Invent.{rename_in_cons_step}
use Rattle.walk.specs.Steps.{M, over_long, ◌>>=◌, ret, child, further, sexp_size, body_size}
use Rattle.walk.specs.Walking.{rule, AnyBody, BodyReady, Walks}
use Rattle.walk.specs.declared.Made.{Made}
use Rattle.walk.specs.declared.Task.{Task}
use Rattle.walk.proofs.DoneLaws.{further_gives, further_over, further_refuses}
use Rattle.walk.proofs.Fits.{Given, given, refused_long}
use Rattle.walk.proofs.MapLaws.{map_after}
use Rattle.walk.proofs.OnParts.{from, rejoin}
use Rattle.walk.proofs.Results.{some_level, least_room, rule_short}
use Rattle.walk.proofs.RunLaws.{then_then, ret_then, neutral_rule}
use Rattle.walk.proofs.StepLaws.{substitute_gives, substitute_over}
use Rattle.walk.proofs.Unique.{unique_sexp, unique_body, same_map}
use Rattle.walk.proofs.Wholes.{from_length, whole_frame, whole_gives, map_from}
use Rattle.std.specs.declared.result.Result.{Result}
use Rattle.std.specs.declared.result.Result.TheVariants.{Err}
use Rattle.walk.specs.RuleAnswers.{made_with}
use Rattle.records.specs.StepAnswer.{step_of}

module _ {mem : Bytes} {w sum : ℕ} {t : Task} (p : RemakeReady mem w sum t) where
  -- the pattern is asked behind what Own gave
  abbrev pub pattern_task : Task
  pattern_task = record { free = t.free + w; map = t.map; f = t.f - sum; depth = cons_limit; counter = t.counter }

  pub pattern_asks : Asks sexp_bytes (Held cons_limit) mem pattern_task
  pattern_asks = record {
    tree = p.p;
    good = record { fields = p.valid.0; conses = p.valid.1 };
    there = p.pattern;
    below = omega (arith, p.below);
    m = p.m;
    map = p.map;
    room = omega (arith, p.room, p.has, p.held);
  }

  abbrev made_run : Loc → Loc → M (NameMap × Binding)
  made_run l nl = remaking t.f (walk t.f t.depth) l nl p.m p.p p.o

  -- what is answered of the trees that are known to stand there is answered of all
  remakes : {new : Bytes} {r : Result Made Refusal} → SameOutside mem new t.free (length mem - t.map) → ((l nl : Loc) → MakesParts l nl t.f t.map w new t.free (made_run l nl) t.counter sum r)
      → Remakes mem new w sum t r
  remakes {new} {r} f x = record {
    frame = f;
    says = λ m k q v a o g b l nl.
        let run : NameMap → Sexp → Body → M (NameMap × Binding) = remaking t.f (walk t.f t.depth) l nl in
        subst (λ (i : NameMap). MakesParts l nl t.f t.map w new t.free (run i q o) t.counter sum r) (same_map p.map k)
        (subst (λ (i : Sexp). MakesParts l nl t.f t.map w new t.free (run p.m i o) t.counter sum r) (unique_sexp mem p.p q p.valid v p.pattern a)
        (subst (λ (i : Body). MakesParts l nl t.f t.map w new t.free (run p.m p.p i) t.counter sum r)
        (unique_body _ p.o o p.good.valid g.valid (into p.there) (into b)) (x l nl)));
  }

  -- the pattern by the map
  abbrev pattern' : Sexp
  pattern' = rename_in_cons false p.m p.p

  -- what follows it
  abbrev then_body : Loc → Loc → Sexp → M (NameMap × Binding)
  then_body l nl q = further t.f body_size p.o ((walk t.f t.depth).in_bodyform p.m) >>= λ b. ret (p.m, BB l nl (Complex q) b)

  opened : (l nl : Loc) (k : NameMap × Binding → M Body)
      → outcome ((made_run l nl >>= k) t.counter sum) ≡ outcome ((child t.f sexp_size (rename_in_cons_step t.f false p.m p.p) >>= λ q. then_body l nl q >>= k) t.counter sum)
  opened l nl k = then_then (child t.f sexp_size (rename_in_cons_step t.f false p.m p.p)) (then_body l nl) k t.counter sum

  module _ {a : Bytes} {r : Result Step Refusal} (s : Substitutes (rename_in_cons false) mem a pattern_task r) where
    said : Gives sexp_bytes a (t.free + w) (length (sexp_bytes p.p)) (fitting sexp_bytes (t.f - sum) t.counter pattern') r
    said = s.says p.m p.map p.p p.pattern (omega (arith, p.below)) p.valid.0

    pattern_frame : SameOutside mem a t.free (length mem - t.map)
    pattern_frame = same_wider t.free (length mem - t.map) (omega arith) (omega (arith, p.room, p.has, p.held)) s.frame

    -- a pattern that is too long
    pub pattern_refused : (k : Refusal) → r ≡ Err k → Remakes mem a w sum t (Err k)
    pattern_refused k e =
        let n = refused_long sexp_bytes (t.f - sum) t.counter pattern' k (unmade k e said) in
        remakes pattern_frame λ l nl.
        stopped k (λ j. opened l nl j ∙ substitute_over t.f false p.m p.p (λ q. then_body l nl q >>= j) t.counter sum (omega (arith, p.held, n.long)) ∙ ap refuses (sym n.is)) refl

    module _ {i x d : ℕ} (e : r ≡ step_of i x d) where
      got : Given sexp_bytes a (t.free + w) (length (sexp_bytes p.p)) (t.f - sum) t.counter pattern' i x d
      got = given (t.f - sum) t.counter pattern' i x d e said

      pub pattern_fits : sum + x ≤ t.f
      pattern_fits = omega (arith, got.wrote, got.short, p.held)

      abbrev pub in_task : Task
      in_task = record { free = w + x; map = t.map; f = t.f; depth = t.depth; counter = t.counter }

      pub in_fit : t.free + (w + x) + t.map ≤ length a
      in_fit = omega (arith, s.frame.size, p.room, p.has, pattern_fits)

      old_there : At a t.free (body_bytes p.o)
      old_there = at_below s.frame p.there (omega (arith, p.wrote))

      pub in_ready : BodyReady AnyBody false (from a t.free) in_task
      in_ready = record {
        tree = p.o;
        good = p.good;
        there = into old_there;
        below = omega (arith, p.wrote);
        m = p.m;
        map = map_from t.free pattern_frame (omega (arith, p.room)) (omega (arith, p.room)) p.map;
        lone = λ z. let y : ◌≡◌ {A = ℕ} 0 1 = cc in absurd (omega arith);
        room = omega (arith, from_length a t.free (omega (arith, in_fit)), s.frame.size, p.room, p.has, pattern_fits);
        counts = p.counts;
        longest = p.longest;
      }

      go_on : (l nl : Loc) (k : NameMap × Binding → M Body) → outcome ((made_run l nl >>= k) t.counter sum)
          ≡ outcome ((further t.f body_size p.o ((walk t.f t.depth).in_bodyform p.m) >>= λ b. ret (p.m, BB l nl (Complex pattern') b) >>= k) t.counter (sum + length (sexp_bytes pattern')))
      go_on l nl k =
          opened l nl k ∙ substitute_gives t.f false p.m p.p (λ q. then_body l nl q >>= k) t.counter sum (omega (arith, p.held, got.short))
          ∙ then_then (further t.f body_size p.o ((walk t.f t.depth).in_bodyform p.m)) (λ b. ret (p.m, BB l nl (Complex pattern') b)) k t.counter (sum + length (sexp_bytes pattern'))

      module _ {y : Bytes} {q : Result Step Refusal} (h : Walks AnyBody false (from a t.free) y in_task q) where
        abbrev pub remade : Bytes
        remade = rejoin a t.free y

        in_frame : SameOutside a remade (t.free + (w + x)) (length a - t.map)
        in_frame = whole_frame a t.free (w + x) t.map in_fit h.frame

        pub both_frame : SameOutside mem remade t.free (length mem - t.map)
        both_frame = same_then t.free (length mem - t.map) (omega arith) (omega arith) (omega arith) (omega (arith, s.frame.size)) pattern_frame in_frame

        gave_in : Gives body_bytes remade (t.free + (w + x)) (length (body_bytes p.o)) (outcome (rule t.f false t.depth p.m p.o t.counter 0)) q
        unfolding in_ready
        gave_in =
            let z = in_ready in
            whole_gives a t.free (w + x) t.map in_fit h.frame (t.free + (w + x)) refl (h.says p.m z.map p.o z.there z.below p.good)

        pub in_refused : (k : Refusal) → q ≡ Err k → Remakes mem remade w sum t (Err k)
        in_refused k f =
            remakes both_frame λ l nl.
            stopped k (λ j. go_on l nl j ∙ further_refuses t.f body_size (λ b. ret (p.m, BB l nl (Complex pattern') b) >>= j) ((walk t.f t.depth).in_bodyform p.m) p.o
            (neutral_rule t.f false t.depth p.m p.o) t.counter _ (unmade k f gave_in)) refl

        module _ {v z c : ℕ} (f : q ≡ step_of v z c) where
          got_in : GotOf body_bytes remade (t.free + (w + x)) (length (body_bytes p.o)) (outcome (rule t.f false t.depth p.m p.o t.counter 0)) v z c
          got_in = got_of v z c f gave_in

          pub in_short : z ≤ t.f
          in_short = omega (arith, got_in.wrote, rule_short t.f false t.depth p.m p.o t.counter got_in.is)

          -- the sum with the new body
          new_sum : sum + length (sexp_bytes pattern') - body_size p.o + body_size got_in.u ≡ sum + x - w + z
          unfolding body_size
          new_sum = omega (arith, got.wrote, p.wrote, got_in.wrote)

          pub in_over : {k : Refusal} → k ≡ over_long → t.f < sum + x - w + z → Remakes mem remade w sum t (Err k)
          in_over {k} is lt =
              remakes both_frame λ l nl.
              stopped k (λ j. go_on l nl j ∙ further_over t.f body_size (λ b. ret (p.m, BB l nl (Complex pattern') b) >>= j) ((walk t.f t.depth).in_bodyform p.m) p.o
              (neutral_rule t.f false t.depth p.m p.o) t.counter _ got_in.is (omega (arith, new_sum)) ∙ ap refuses (sym is)) refl

          pub move_fits : t.free + w + (x + z) + t.map ≤ length remade
          move_fits = omega (arith, both_frame.size, p.room, p.has, pattern_fits, in_short, least_room t.f t.depth (some_level p.good))

          -- both moved down over what Own gave
          module _ {end : Bytes} (g : Filled remade end t.free (drop (t.free + w) remade) (x + z)) (le : sum + x - w + z ≤ t.f) where
            abbrev result : Loc → Loc → NameMap × Binding
            result l nl = (p.m, BB l nl (Complex pattern') got_in.u)

            all_frame : SameOutside mem end t.free (length mem - t.map)
            all_frame = same_then t.free (length mem - t.map) (omega arith) (omega arith) (omega arith) (omega (arith, move_fits, both_frame.size)) both_frame g.frame

            stands : At end t.free (sexp_bytes pattern' ++ body_bytes got_in.u)
            stands =
                let n = at_below in_frame got.out (omega (arith, got.wrote)) in
                let both = at_join (sexp_bytes pattern') (body_bytes got_in.u) n (at_place _ (omega (arith, got.wrote)) got_in.out) in
                let l = length-append (sexp_bytes pattern') (body_bytes got_in.u) in
                copied_at (t.free + w) t.free g (omega (arith, move_fits)) both (omega arith) (omega (arith, got.wrote, got_in.wrote)) (omega arith)

            runs : (l nl : Loc) (k : NameMap × Binding → M Body) → outcome ((made_run l nl >>= k) t.counter sum) ≡ outcome (k (result l nl) c (sum + x - w + z))
            runs l nl k =
                go_on l nl k ∙ further_gives t.f body_size (λ b. ret (p.m, BB l nl (Complex pattern') b) >>= k) ((walk t.f t.depth).in_bodyform p.m) p.o
                (neutral_rule t.f false t.depth p.m p.o) t.counter _ got_in.is (omega (arith, new_sum))
                ∙ ret_then k (result l nl) c _ ∙ ap (λ (i : ℕ). outcome (k (result l nl) c i)) new_sum

            pub remake_done : Remakes mem end w sum t (made_with (x + z) (sum + x - w + z) t.map c)
            unfolding inner
            remake_done =
                let n = length-append (sexp_bytes pattern') (body_bytes got_in.u) in
                let l : x + z ≡ length (sexp_bytes pattern' ++ body_bytes got_in.u) = omega (arith, got.wrote, got_in.wrote) in
                remakes all_frame λ i j.
                made (result i j) t.map c (sum + x - w + z) (pattern', got_in.u, refl) (runs i j) (ap (λ (k : ℕ). made_with k (sum + x - w + z) t.map c) l) stands
                (map_after all_frame (omega (arith, p.room)) p.map) (record { map = omega arith; sum = le; long = omega (arith, l, p.has) })
