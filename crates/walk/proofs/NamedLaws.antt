-- A Complex pattern and the body behind it (`complex`, `named`): its names drawn, Own of the body in memory cut where the map starts, and what both are asked and
-- answer. Assumes nothing.
use mathlib.Core.Path.{◌≡◌, refl, sym, ap, subst, ◌∙◌}
use mathlib.Core.Bool.{true}
use mathlib.Core.List.{[]}
use native.Mathlib.Omega.{arith}
use Prim.Native.Nat.{ℕ, ◌+◌, ◌*◌, ◌-◌, ◌≤◌, ◌<◌}
use lib.ListN.{length, length-append}
use Rattle.names.specs.Maps.{NameMap}
use Rattle.names.specs.Names.{Bytes}
use Rattle.names.specs.Segments.{At, SameOutside}
use Rattle.names.specs.declared.Refusal.{Refusal}
use Rattle.names.proofs.Frames.{same_then, same_wider, at_below}
use Rattle.names.proofs.Parts.{part, back, part_length, at_part, into}
use Rattle.names.proofs.Places.{at_place, at_left, at_right}
use Rattle.records.specs.StepAnswer.{refuses, Gives}
use Rattle.records.specs.Limits.{cons_limit}
use Rattle.records.specs.Records.{Loc, Sexp, sexp_bytes, Complex, Body, body_bytes, Binding, BB}
use Rattle.records.specs.declared.Step.{Step}
use Rattle.records.proofs.StepAnswers.{Made as GotOf, made as got_of, unmade}
use Rattle.walk.specs.Arena.{outcome}
use Rattle.walk.specs.AssignWalks.{stopped, MakesParts, parts_bytes, FineParts, remaking, naming, RemakeReady, Remakes, NamedReady, MakesNamed, ComplexReady, MakesComplex}
use Rattle.walk.specs.Bodyforms.{walk, rename_assign_binding}
use Rattle.walk.specs.Draws.{atoms, sexp_atoms}
use Rattle.walk.specs.Invent.{invent_new_names_sexp}
use Rattle.walk.specs.DrawnMaps.{map_growth, Roomy, Drawable, Grown, Grew, Draws, Drew, TooLong, InventsFrom, InventsSexp}
use Rattle.walk.specs.Steps.{M, over_long, ◌>>=◌, child, body_size}
use Rattle.walk.specs.Walking.{rule, AnyBody, BodyReady, Walks}
use Rattle.walk.specs.declared.Growth.{Growth}
use Rattle.walk.specs.declared.Made.{Made}
use Rattle.walk.specs.declared.Task.{Task}
use Rattle.walk.proofs.DoneLaws.{then_gives, then_refuses, child_gives, child_over, child_refuses}
use Rattle.walk.proofs.MakesLaws.{makes_from}
use Rattle.walk.proofs.MapLaws.{no_map, map_after}
use Rattle.walk.proofs.Results.{rule_short, rule_draws, rule_fine, counter_least, invent_draws}
use Rattle.walk.proofs.RunLaws.{then_then, neutral_rule, neutral_invent}
use Rattle.walk.proofs.Sizes.{dbl_add, dbl_mono, dbl_least, dbl_twice}
use Rattle.walk.proofs.Unique.{Unique, same_pair, unique_first, unique_sexp, unique_body, tells_of}
use Rattle.walk.proofs.Wholes.{cut_frame, cut_gives}
use Rattle.std.specs.declared.result.Result.{Result}
use Rattle.std.specs.declared.result.Result.TheVariants.{Ok, Err}
use Rattle.records.specs.StepAnswer.{step_of}

-- one pattern with its body at most stands at the start
unique_parts : {F d : ℕ} → Unique parts_bytes (FineParts F d)
unique_parts xs (a, b) (a₁, b₁) p q x y =
    let s = unique_first sexp_bytes unique_sexp a a₁ (body_bytes b) (body_bytes b₁) p.valid q.valid x y in
    same_pair s.0 (unique_body _ b b₁ p.body.valid q.body.valid (into s.1) (into s.2))

-- the body of a pattern whose names are drawn
module _ {mem : Bytes} {body sum : ℕ} {t : Task} (p : NamedReady mem body sum t) where
  abbrev pattern : Sexp
  pattern = p.ready.tree.0

  abbrev inside : Body
  inside = p.ready.tree.1

  sizes : length (parts_bytes p.ready.tree) ≡ body + length (body_bytes inside)
  sizes = omega (arith, length-append (sexp_bytes pattern) (body_bytes inside), p.behind)

  body_there : At mem body (body_bytes inside)
  body_there = at_place body (omega (arith, p.behind)) (at_right (sexp_bytes pattern) (body_bytes inside) p.ready.there)

  pub own_low : body ≤ t.free
  own_low = omega (arith, sizes, p.ready.below)

  pub own_cut : t.free + t.map ≤ length mem
  own_cut = omega (arith, p.ready.room)

  -- Own has the memory between
  abbrev pub own_task : Task
  own_task = record { free = t.free - body; map = 0; f = t.f; depth = t.depth; counter = t.counter }

  abbrev pub width : ℕ
  width = length mem - t.map - body

  fit : body + width ≤ length mem
  fit = omega (arith, own_low, own_cut)

  pub own_ready : BodyReady AnyBody true (part mem body width) own_task
  own_ready =
      let l = part_length mem body width fit in
      record {
        tree = inside;
        good = p.ready.good.body;
        there = at_part body width body_there (omega arith) (omega (arith, sizes, p.ready.below, own_cut));
        below = omega (arith, sizes, p.ready.below);
        m = [];
        map = no_map;
        lone = λ e. refl;
        room = omega (arith, l, own_low, p.ready.room);
        counts = omega (arith, p.ready.counts);
        longest = p.ready.longest;
      }

  -- what is answered of the pattern and the body that are known to stand there
  names : {new : Bytes} {r : Result Made Refusal} → SameOutside mem new t.free (length mem - t.map)
      → ((l nl : Loc) → MakesParts l nl t.f t.map 0 new t.free (naming t.f (walk t.f t.depth) l nl p.ready.m pattern inside) t.counter sum r) → MakesNamed mem new sum t r
  names f x = tells_of unique_parts p.ready f x

  opened : (l nl : Loc) (k : NameMap × Binding → M Body) → outcome ((naming t.f (walk t.f t.depth) l nl p.ready.m pattern inside >>= k) t.counter sum)
      ≡ outcome ((child t.f body_size ((walk t.f t.depth).args_bodyform inside) >>= λ o. remaking t.f (walk t.f t.depth) l nl p.ready.m pattern o >>= k) t.counter sum)
  opened l nl k = then_then (child t.f body_size ((walk t.f t.depth).args_bodyform inside)) (remaking t.f (walk t.f t.depth) l nl p.ready.m pattern) k t.counter sum

  module _ {y : Bytes} {r : Result Step Refusal} (s : Walks AnyBody true (part mem body width) y own_task r) where
    abbrev pub owned : Bytes
    owned = back mem body width y

    pub own_frame : SameOutside mem owned t.free (length mem - t.map)
    own_frame = same_wider t.free (length mem - t.map) (omega (arith, own_low)) (omega (arith, own_low, own_cut)) (cut_frame mem body width fit (t.free - body) 0 (omega (arith, own_low, own_cut)) s.frame)

    gave_own : Gives body_bytes owned t.free (length (body_bytes inside)) (outcome (rule t.f true t.depth [] inside t.counter 0)) r
    unfolding own_ready
    gave_own =
        let z = own_ready in
        cut_gives mem body width fit (t.free - body) 0 (omega (arith, own_low, own_cut)) s.frame t.free (omega (arith, own_low)) (s.says [] z.map inside z.there z.below z.good)

    pub own_refused : (k : Refusal) → r ≡ Err k → MakesNamed mem owned sum t (Err k)
    own_refused k e =
        names own_frame λ l nl.
        stopped k (λ j. opened l nl j ∙ child_refuses t.f body_size (λ o. remaking t.f (walk t.f t.depth) l nl p.ready.m pattern o >>= j)
        (neutral_rule t.f true t.depth [] inside) t.counter sum (unmade k e gave_own)) refl

    module _ {i w d : ℕ} (e : r ≡ step_of i w d) where
      got : GotOf body_bytes owned t.free (length (body_bytes inside)) (outcome (rule t.f true t.depth [] inside t.counter 0)) i w d
      got = got_of i w d e gave_own

      pub own_short : w ≤ t.f
      own_short = omega (arith, got.wrote, rule_short t.f true t.depth [] inside t.counter got.is)

      pub own_over : {k : Refusal} → k ≡ over_long → t.f < sum + w → MakesNamed mem owned sum t (Err k)
      unfolding body_size
      own_over {k} is lt =
          names own_frame λ l nl.
          stopped k (λ j. opened l nl j ∙ child_over t.f body_size (λ o. remaking t.f (walk t.f t.depth) l nl p.ready.m pattern o >>= j)
          (neutral_rule t.f true t.depth [] inside) t.counter sum got.is (omega (arith, got.wrote)) ∙ ap refuses (sym is)) refl

      module _ (le : sum + w ≤ t.f) where
        abbrev pub remake_task : Task
        remake_task = record { free = t.free; map = t.map; f = t.f; depth = t.depth; counter = d }

        pub remake_ready : RemakeReady owned w (sum + w) remake_task
        remake_ready =
            let z = rule_draws t.f t.depth inside true [] t.counter p.ready.good.body.deep got.is in
            let q = p.ready in
            record {
              p = pattern;
              valid = q.good.valid;
              pattern = at_below own_frame (at_left (sexp_bytes pattern) (body_bytes inside) q.there) (omega (arith, own_low, p.behind));
              below = omega (arith, own_low, p.behind);
              o = got.u;
              good = rule_fine true [] t.counter (no_map {mem = mem}).limited q.good.body got.is;
              there = got.out;
              wrote = got.wrote;
              m = q.m;
              map = map_after own_frame (omega (arith, own_cut)) q.map;
              room = omega (arith, own_frame.size, q.room);
              has = omega arith;
              held = le;
              counts = omega (arith, z.counter, q.counts, dbl_mono t.depth (atoms got.u) (atoms inside) z.few);
              longest = q.longest;
            }

        pub named_done : {end : Bytes} {q : Result Made Refusal} → Remakes owned end w (sum + w) remake_task q → MakesNamed mem end sum t q
        unfolding remake_ready body_size
        named_done h =
            let z = remake_ready in
            names (same_then t.free (length mem - t.map) (omega arith) (omega arith) (omega arith) (omega (arith, own_frame.size)) own_frame h.frame) λ l nl.
            makes_from
            (λ j. opened l nl j ∙ child_gives t.f body_size (λ o. remaking t.f (walk t.f t.depth) l nl p.ready.m pattern o >>= j)
            (neutral_rule t.f true t.depth [] inside) t.counter sum got.is (omega (arith, got.wrote))
            ∙ ap (λ (i : ℕ). outcome ((remaking t.f (walk t.f t.depth) l nl p.ready.m pattern got.u >>= j) d (sum + i))) (sym got.wrote))
            (omega arith) (omega arith) (h.says z.m z.map pattern z.valid z.pattern got.u z.good z.there l nl)

-- a pattern and its body
module _ {mem : Bytes} {sum : ℕ} {t : Task} (p : ComplexReady mem sum t) where
  abbrev complex_pattern : Sexp
  complex_pattern = p.ready.tree.0

  abbrev complex_body : Body
  complex_body = p.ready.tree.1

  complex_sizes : length (parts_bytes p.ready.tree) ≡ length (sexp_bytes complex_pattern) + length (body_bytes complex_body)
  complex_sizes = length-append (sexp_bytes complex_pattern) (body_bytes complex_body)

  roomy : Roomy complex_pattern mem 0 t.map t.counter
  roomy = record {
    fields = p.ready.good.valid.0;
    there = at_left (sexp_bytes complex_pattern) (body_bytes complex_body) p.ready.there;
    fits = omega (arith, complex_sizes, p.ready.below, p.ready.room);
    counts = counter_least t.counter (length (sexp_bytes complex_pattern)) (omega (arith, p.ready.counts)) (omega (arith, complex_sizes, p.ready.good.short, p.ready.longest));
  }

  pub drawable : Drawable mem t.map t.counter cons_limit
  drawable = record { t = complex_pattern; room = roomy; deep = p.ready.good.valid.1; m = p.ready.m; map_at = p.ready.map }

  makes : {new : Bytes} {r : Result Made Refusal} → SameOutside mem new t.free (length mem - t.map)
      → ((l nl : Loc) → MakesParts l nl t.f (t.map + map_growth * length (sexp_bytes complex_pattern)) 0 new t.free
      (rename_assign_binding t.f (walk t.f t.depth) p.ready.m (BB l nl (Complex complex_pattern) complex_body)) t.counter sum r) → MakesComplex mem new sum t r
  makes f x = tells_of unique_parts p.ready f x

  complex_opened : (l nl : Loc) (k : NameMap × Binding → M Body)
      → outcome ((rename_assign_binding t.f (walk t.f t.depth) p.ready.m (BB l nl (Complex complex_pattern) complex_body) >>= k) t.counter sum)
      ≡ outcome ((invent_new_names_sexp p.ready.m complex_pattern >>= λ m. naming t.f (walk t.f t.depth) l nl m complex_pattern complex_body >>= k) t.counter sum)
  unfolding rename_assign_binding
  complex_opened l nl k =
      then_then (invent_new_names_sexp p.ready.m complex_pattern) (λ m. naming t.f (walk t.f t.depth) l nl m complex_pattern complex_body) k t.counter sum

  module _ {a : Bytes} {r : Result Growth Refusal} (s : InventsSexp mem a 0 t.map t.counter r) where
    said : InventsFrom mem a 0 t.map t.counter complex_pattern p.ready.m r
    said = s complex_pattern roomy p.ready.m p.ready.map

    -- a made name is too long
    pub invent_refused : (k : Refusal) → r ≡ Err k → MakesComplex mem a sum t (Err k)
    invent_refused k e =
        let f : SameOutside mem a (length mem - (t.map + map_growth * length (sexp_bytes complex_pattern))) (length mem - t.map) =
        subst (Grown mem a t.map (map_growth * length (sexp_bytes complex_pattern))) e said.grown in
        let z : TooLong (invent_new_names_sexp p.ready.m complex_pattern t.counter) k =
        subst (Draws (invent_new_names_sexp p.ready.m complex_pattern t.counter) (λ m. m) a t.map t.counter (length (sexp_bytes complex_pattern)) (0 + length (sexp_bytes complex_pattern))) e said.draws in
        makes (same_wider t.free (length mem - t.map) (omega (arith, p.ready.room)) (omega arith) f) λ l nl.
        stopped k (λ j. complex_opened l nl j ∙ then_refuses (λ m. naming t.f (walk t.f t.depth) l nl m complex_pattern complex_body >>= j)
        (neutral_invent p.ready.m complex_pattern) t.counter sum (z.runs 0) ∙ ap refuses (sym z.is)) refl

    module _ {g : Growth} (e : r ≡ Ok g) where
      grew : Grew mem a t.map g
      grew = subst (Grown mem a t.map (map_growth * length (sexp_bytes complex_pattern))) e said.grown

      drew : Drew (invent_new_names_sexp p.ready.m complex_pattern t.counter) (λ m. m) a t.map t.counter (length (sexp_bytes complex_pattern)) (0 + length (sexp_bytes complex_pattern)) g
      drew = subst (Draws (invent_new_names_sexp p.ready.m complex_pattern t.counter) (λ m. m) a t.map t.counter (length (sexp_bytes complex_pattern)) (0 + length (sexp_bytes complex_pattern))) e said.draws

      abbrev pub named_task : Task
      named_task = record { free = t.free; map = g.len; f = t.f; depth = t.depth; counter = g.counter }

      grown_frame : SameOutside mem a t.free (length mem - t.map)
      grown_frame = same_wider t.free (length mem - t.map) (omega (arith, p.ready.room, drew.at_most)) (omega arith) grew.frame

      pub named_ready : NamedReady a g.end sum named_task
      named_ready =
          let q = p.ready in
          let n = dbl_twice t.depth (sexp_atoms complex_pattern + atoms complex_body) in
          record {
            ready = record {
              tree = q.tree;
              good = q.good;
              there = at_below grew.frame q.there (omega (arith, q.below, q.room, drew.at_most));
              below = q.below;
              m = drew.value;
              map = drew.map_at;
              lone = λ z. let y : ◌≡◌ {A = ℕ} 0 1 = cc in absurd (omega arith);
              room = omega (arith, q.room, drew.at_most, grew.frame.size);
              counts = omega (
                arith,
                q.counts,
                n,
                dbl_add t.depth (sexp_atoms complex_pattern) (atoms complex_body),
                dbl_least t.depth (sexp_atoms complex_pattern),
                invent_draws q.m complex_pattern t.counter 0 (drew.runs 0),
              );
              longest = q.longest;
            };
            behind = omega (arith, drew.next);
            held = p.held;
          }

      pub complex_done : {end : Bytes} {q : Result Made Refusal} → MakesNamed a end sum named_task q → MakesComplex mem end sum t q
      unfolding named_ready
      complex_done h =
          let z = named_ready.ready in
          makes (same_then t.free (length mem - t.map) (omega arith) (omega arith) (omega arith) (omega (arith, grew.longer, grown_frame.size)) grown_frame h.frame) λ l nl.
          makes_from
          (λ j. complex_opened l nl j ∙ then_gives (λ m. naming t.f (walk t.f t.depth) l nl m complex_pattern complex_body >>= j) (neutral_invent p.ready.m complex_pattern) t.counter sum (drew.runs 0))
          (omega (arith, drew.at_most)) (omega arith) (h.says z.m z.map z.tree z.there z.below z.good l nl)
