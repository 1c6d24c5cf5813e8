-- One turn of the loop over the bindings of a let, and what each way out of the loop answers. Assumes nothing.
use mathlib.Core.Path.{◌≡◌, refl, sym, ap, subst, ◌∙◌}
use mathlib.Core.Bool.{Bool, true}
use mathlib.Core.List.{List, [], ◌∷◌, ◌++◌, append_assoc}
use native.Mathlib.Omega.{arith}
use Prim.Native.Nat.{ℕ, ◌+◌, ◌-◌, ◌≤◌, ◌<◌}
use lib.ListN.{length, length-append}
use Rattle.names.specs.Names.{Bytes}
use Rattle.names.specs.Segments.{At, SameOutside}
use Rattle.names.specs.declared.Refusal.{Refusal}
use Rattle.names.proofs.Frames.{same_then, same_wider, at_below, at_above}
use Rattle.names.proofs.Places.{at_place, at_left, at_right, at_join}
use Rattle.records.specs.StepAnswer.{refuses, Gives}
use Rattle.records.proofs.StepAnswers.{Made as Given, made as was_made, unmade}
use Rattle.records.specs.Lists.{joined, Each}
use Rattle.records.specs.Parts.{Past, pattern_part}
use Rattle.records.specs.Records.{pattern_field, Body, body_bytes, Binding, BB, binding_bytes}
use Rattle.records.specs.Valid.{ValidPattern, BindingFields}
use Rattle.records.specs.declared.Step.{Step}
use Rattle.walk.specs.Arena.{outcome}
use Rattle.walk.specs.Bodyforms.{each_binding_body}
use Rattle.walk.specs.Draws.{atoms, inside_of, dbl}
use Rattle.walk.specs.LetWalks.{head_bytes, binding_pattern, binding_body, own_patterns, heads, FineBinding, HeadReady, Wrote, PutsHead, BindReady, BodyBound, Binds, AllReady, AllBound}
use Rattle.walk.specs.Room.{room}
use Rattle.walk.specs.Scopes.{with_pattern, with_patterns}
use Rattle.walk.specs.Steps.{M, ◌>>=◌, over_long}
use Rattle.walk.specs.Walking.{rule, stopped}
use Rattle.walk.specs.declared.Task.{Task}
use Rattle.walk.proofs.Joined.{joined_more}
use Rattle.walk.proofs.LetHeads.{locs, locs_length, head_own, head_length, own_length, binding_is}
use Rattle.walk.proofs.LetRuns.{remade, remade_bytes, each_refuses, each_over, each_gives}
use Rattle.walk.proofs.MapLaws.{map_after}
use Rattle.walk.proofs.Results.{rule_draws, rule_short}
use Rattle.walk.proofs.RunLaws.{then_same}
use Rattle.walk.proofs.Sizes.{dbl_add}
use Rattle.walk.proofs.LetMiddle.{Looping, Mid, Turn}
use Rattle.std.specs.declared.result.Result.{Result}
use Rattle.std.specs.declared.result.Result.TheVariants.{Err}
use Rattle.records.specs.StepAnswer.{step_of}

-- one turn
module _ {old : Bytes} {count aside held : ℕ} {t : Task} {owning : Bool} {p : AllReady old count aside held t owning} {mem : Bytes} {at to pattern sum c i : ℕ}
    (u : Turn p mem at to pattern sum c i) where
  -- what holds at this turn
  abbrev m : Mid p (u.x ∷ u.more) (u.q ∷ u.qs) mem at to pattern sum c i
  m = u.mid

  -- its body
  abbrev b : Body
  b = binding_body u.x

  -- the head that it gets
  abbrev head : Bytes
  head = head_bytes (with_pattern u.q u.x)

  -- it is fine
  pub fine : FineBinding t.f t.depth u.x
  unfolding Each
  fine = m.good.0

  -- its parts
  parts : At mem at (head_bytes u.x ++ body_bytes b) × At mem (at + length (binding_bytes u.x)) (joined binding_bytes u.more)
  unfolding joined
  parts =
      (subst (At mem at) (binding_is u.x) (at_left (binding_bytes u.x) (joined binding_bytes u.more) m.there), at_right (binding_bytes u.x) (joined binding_bytes u.more) m.there)

  -- its head
  pub own_head : At mem at (head_bytes u.x)
  own_head = at_left (head_bytes u.x) (body_bytes b) parts.0

  -- its body
  pub own_body : At mem (at + length (head_bytes u.x)) (body_bytes b)
  own_body = at_right (head_bytes u.x) (body_bytes b) parts.0

  -- how long it is
  pub one_size : length (binding_bytes u.x) ≡ length (head_bytes u.x) + length (body_bytes b)
  one_size = ap length (binding_is u.x) ∙ length-append (head_bytes u.x) (body_bytes b)

  -- and with those behind it
  pub size : length (joined binding_bytes (u.x ∷ u.more)) ≡ length (binding_bytes u.x) + length (joined binding_bytes u.more)
  unfolding joined
  size = length-append (binding_bytes u.x) (joined binding_bytes u.more)

  -- how long its new head is
  pub head_size : length head ≡ 10 + length (pattern_field u.q)
  head_size = head_length u.q u.x fine.fields

  -- and with those behind it
  pub heads_size : heads (u.q ∷ u.qs) (u.x ∷ u.more) ≡ length head + heads u.qs u.more
  unfolding joined with_patterns
  heads_size = length-append head (joined head_bytes (with_patterns u.qs u.more))

  -- what was read lies below the results, which have their room
  pub low : at + length (binding_bytes u.x) ≤ t.free
  low = omega (arith, m.read, size, p.below)

  pub wide : to + length head + room t.f t.depth + (t.f - sum) ≤ p.top
  wide = omega (arith, p.room, m.writes, m.sums, m.within, heads_size, p.held_within)

  -- results stand from free on
  pub low_to : t.free ≤ to
  low_to = omega (arith, m.writes)

  -- the map stands above
  pub ends : p.top + t.map ≤ length mem
  ends = omega (arith, p.ends.within, m.frame.size)

  -- where its pattern stands, and where its body starts
  pub pattern_at : At mem (at + 10) (pattern_field (binding_pattern u.x))
  pattern_at =
      let l = locs_length u.x fine.fields in
      at_place (at + 10) (omega arith) (at_right (locs u.x) (pattern_field (binding_pattern u.x)) (subst (At mem at) (head_own u.x) own_head))

  -- its pattern is valid
  own_valid : (x : Binding) → BindingFields x → ValidPattern (binding_pattern x)
  unfolding BindingFields binding_pattern
  own_valid (BB l nl q b) f = f.2

  module _ {body : ℕ} (past : Past pattern_part mem (at + 10) body) where
    -- where its body starts
    pub body_is : body ≡ at + length (head_bytes u.x)
    body_is = past.past (binding_pattern u.x) (own_valid u.x fine.fields) pattern_at ∙ omega (arith, own_length u.x fine.fields)

    -- the pattern that it gets
    new_valid : ValidPattern u.q
    unfolding Each
    new_valid = m.chosen.valid.0

    -- where it stands, and where those behind it stand
    new_at : owning ≡ true → At mem pattern (pattern_field u.q) × At mem (pattern + length (pattern_field u.q)) (joined pattern_field u.qs)
    unfolding joined
    new_at e =
        (at_left (pattern_field u.q) (joined pattern_field u.qs) (m.chosen.drawn e), at_right (pattern_field u.q) (joined pattern_field u.qs) (m.chosen.drawn e))

    -- what writing its head asks
    pub head_ready : HeadReady mem at body to pattern owning
    unfolding own_patterns
    head_ready =
        record {
          x = u.x;
          new = u.q;
          fields = fine.fields;
          valid = new_valid;
          there = own_head;
          ends = body_is;
          low = omega (arith, body_is, one_size, low, low_to);
          room = omega (arith, wide, ends);
          drawn = λ e. (new_at e).0;
          before = λ e. omega (arith, wide, p.ends.own e, m.onward);
          kept = λ e. let z = m.chosen.kept e in let y : u.q ≡ binding_pattern u.x = cc in y;
        }

    -- its head is written
    module _ {mid : Bytes} {n : ℕ} (puts : PutsHead mem mid at body to pattern owning n) where
      -- what was written
      pub w : Wrote mem mid to head n
      unfolding head_ready
      w = puts head_ready

      -- how many bytes that were
      pub head_wrote : n ≡ 10 + length (pattern_field u.q)
      head_wrote = w.size ∙ head_size

      -- the patterns that are left lie within memory
      pub patterns_fit : pattern + (n - 10) + length (joined pattern_field u.qs) ≤ length mem
      unfolding joined
      patterns_fit = omega (arith, head_wrote, m.chosen.fits, length-append (pattern_field u.q) (joined pattern_field u.qs))

      -- its body lies below its result
      pub place : body + length (body_bytes b) ≤ to + n
      place = omega (arith, body_is, one_size, low, low_to)

      -- what its body is given
      abbrev pub task : Task
      task = record { free = to + n - body; map = t.map; f = t.f; depth = t.depth; counter = c }

      -- what has changed
      head_frame : SameOutside old mid t.free p.top
      head_frame = same_then t.free p.top (omega arith) low_to (omega arith) (omega (arith, wide)) m.frame w.frame

      -- the atoms of the bodies that are left
      inside_is : inside_of (u.x ∷ u.more) ≡ atoms b + inside_of u.more
      unfolding inside_of binding_body
      inside_is = split u.x
        where
          split : (x : Binding) → inside_of (x ∷ u.more) ≡ atoms (binding_body x) + inside_of u.more
          split (BB l nl q b) = refl

      -- and what they draw
      draws_is : dbl t.depth (inside_of (u.x ∷ u.more)) ≡ dbl t.depth (atoms b) + dbl t.depth (inside_of u.more)
      draws_is = ap (dbl t.depth) inside_is ∙ dbl_add t.depth (atoms b) (inside_of u.more)

      -- what its body asks
      pub bind_ready : BindReady mid body aside task owning
      bind_ready =
          let h = head_frame.size in
          record {
            tree = b;
            good = fine.body;
            there = at_below w.frame (at_place body (sym body_is) own_body) (omega (arith, body_is, one_size, low, low_to));
            below = omega (arith, place);
            m = p.m;
            map = map_after head_frame p.ends.within p.map;
            top = p.top;
            ends = record { own = p.ends.own; inside = λ e. omega (arith, p.ends.inside e); lone = p.ends.lone; within = omega (arith, p.ends.within) };
            room = omega (arith, wide, place, w.size);
            counts = omega (arith, p.counts, m.draws, draws_is);
            longest = p.longest;
          }

      -- its body is done
      module _ {new : Bytes} {r : Result Step Refusal} (binds : Binds mid new body aside task owning r) where
        -- what its body answers
        abbrev s : BodyBound mid new body aside task owning bind_ready r
        s = binds bind_ready

        -- what its body changed
        end_frame : SameOutside mid new (to + n) p.top
        unfolding bind_ready
        end_frame = same_wider (to + n) p.top (omega (arith, place)) (omega arith) s.frame

        -- what has changed
        pub all_frame : SameOutside old new t.free p.top
        all_frame = same_then t.free p.top (omega arith) (omega (arith, low_to)) (omega arith) (omega arith) head_frame end_frame

        -- what its body gave
        one_gives : Gives body_bytes new (to + n) (length (body_bytes b)) (outcome (rule t.f owning t.depth p.m b c 0)) r
        unfolding bind_ready
        one_gives = let e : body + (to + n - body) ≡ to + n = omega (arith, place) in subst (λ (z : ℕ). Gives body_bytes new z (length (body_bytes b)) (outcome (rule t.f owning t.depth p.m b c 0)) r) e s.gives

        -- the run from here on
        run_is : (k : List Binding → M Body) → outcome ((each_binding_body t.f (rule t.f owning t.depth p.m) (with_patterns p.ps p.bs) >>= k) t.counter held)
            ≡ outcome ((each_binding_body t.f (rule t.f owning t.depth p.m) (with_pattern u.q u.x ∷ with_patterns u.qs u.more) >>= λ us. k (m.made ++ us)) c sum)
        unfolding with_patterns
        run_is k = m.runs k

        -- its body is refused
        pub turn_refused : (z : Refusal) → r ≡ Err z → AllBound old new count aside held t owning p (Err z)
        turn_refused z e =
            let g = unmade z e one_gives in
            record {
              frame = all_frame;
              leads = stopped z (λ k. run_is k ∙ each_refuses t.f owning t.depth p.m u.x u.q (with_patterns u.qs u.more) (λ us. k (m.made ++ us)) c sum g) refl;
            }

        module _ (j w' d : ℕ) (e : r ≡ step_of j w' d) where
          -- its result
          given : Given body_bytes new (to + n) (length (body_bytes b)) (outcome (rule t.f owning t.depth p.m b c 0)) j w' d
          given = was_made j w' d e one_gives

          -- where the next binding starts
          pub turn_read : body + j ≡ at + length (binding_bytes u.x)
          turn_read = omega (arith, body_is, one_size, given.read)

          -- its result lies within memory
          pub turn_wrote : to + n + w' ≤ length mem
          turn_wrote = omega (arith, given.wrote, given.out.fits, end_frame.size, w.frame.size)

          -- and is at most F long
          pub turn_short : w' ≤ t.f
          turn_short = let g = given in omega (arith, g.wrote, rule_short t.f owning t.depth p.m b c g.is)

          -- the sum is too long
          pub turn_over : (z : Refusal) → z ≡ over_long → t.f < sum + w' → AllBound old new count aside held t owning p (Err z)
          turn_over z q lt =
              let g = given in
              record {
                frame = all_frame;
                leads = stopped z (λ k. run_is k ∙ each_over t.f owning t.depth p.m u.x u.q (with_patterns u.qs u.more) (λ us. k (m.made ++ us)) c sum g.is (omega (arith, g.wrote)) ∙ ap refuses (sym q)) refl;
              }

          -- the next turn
          pub turn_done : sum + w' ≤ t.f → Looping p new (body + j) (to + n + w') (pattern + (n - 10)) (sum + w') d (i + 1)
          unfolding Each own_patterns
          turn_done le =
              let g = given in
              let v = g.u in
              let y = remade u.x u.q v in
              let is = m.made ++ y ∷ [] in
              let bytes : joined binding_bytes is ≡ joined binding_bytes m.made ++ (head ++ body_bytes v) = joined_more binding_bytes m.made y ∙ ap (λ (z : Bytes). joined binding_bytes m.made ++ z) (remade_bytes u.x u.q v) in
              let len : length (joined binding_bytes is) ≡ length (joined binding_bytes m.made) + (length head + length (body_bytes v)) = ap length bytes ∙ omega (arith, length-append (joined binding_bytes m.made) (head ++ body_bytes v), length-append head (body_bytes v)) in
              let first : At new t.free (joined binding_bytes m.made) = at_below end_frame (at_below w.frame m.out (omega (arith, m.writes))) (omega (arith, m.writes)) in
              let second : At new to head = at_below end_frame w.out (omega (arith, w.size)) in
              let both : At new to (head ++ body_bytes v) = at_join head (body_bytes v) second (at_place (to + length head) (omega (arith, w.size)) g.out) in
              let draws = rule_draws t.f t.depth b owning p.m c fine.body.deep g.is in
              record {
                rest = u.more;
                patterns = u.qs;
                mid = record {
                  made = is;
                  many = omega (arith, m.many);
                  count_made = omega (arith, m.count_made, length-append m.made (y ∷ []));
                  good = m.good.1;
                  chosen = record {
                    many = omega (arith, m.chosen.many);
                    valid = m.chosen.valid.1;
                    drawn = λ o. let far = p.ends.own o in
                        at_above end_frame (at_above w.frame (at_place (pattern + (n - 10)) (omega (arith, head_wrote)) (new_at o).1) (omega (arith, wide, m.onward, head_wrote))) (omega (arith, wide, m.onward));
                    kept = λ o. let z = m.chosen.kept o in let y : u.qs ≡ own_patterns u.more = cc in y;
                    fits = omega (arith, patterns_fit, end_frame.size, w.frame.size);
                  };
                  onward = omega (arith, m.onward);
                  there = at_below end_frame (at_below w.frame (at_place (body + j) (sym turn_read) parts.1) (omega (arith, turn_read, m.read, size, p.below, low_to))) (omega (arith, turn_read, m.read, size, p.below, low_to));
                  read = omega (arith, turn_read, m.read, size);
                  out = subst (At new t.free) (sym bytes) (at_join (joined binding_bytes m.made) (head ++ body_bytes v) first (at_place (t.free + length (joined binding_bytes m.made)) m.writes both));
                  writes = omega (arith, len, m.writes, g.wrote, w.size);
                  sums = omega (arith, len, m.sums, heads_size, g.wrote);
                  within = le;
                  frame = all_frame;
                  draws = omega (arith, m.draws, draws.counter, draws_is);
                  runs = λ k.
                      run_is k ∙ each_gives t.f owning t.depth p.m u.x u.q (with_patterns u.qs u.more) (λ us. k (m.made ++ us)) c sum g.is (omega (arith, g.wrote))
                      ∙ ap (λ (z : ℕ). outcome ((each_binding_body t.f (rule t.f owning t.depth p.m) (with_patterns u.qs u.more) >>= λ us. k (m.made ++ y ∷ us)) d (sum + z))) (sym g.wrote)
                      ∙ then_same (each_binding_body t.f (rule t.f owning t.depth p.m) (with_patterns u.qs u.more)) (λ us. k (m.made ++ y ∷ us)) (λ us. k (is ++ us))
                      (λ us c x. ap (λ (z : List Binding). outcome (k z c x)) (sym (append_assoc m.made (y ∷ []) us))) d (sum + w');
                };
              }
