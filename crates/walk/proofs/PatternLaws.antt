-- New patterns, in memory and as runs: a Name draws a number, the S record of a Complex one goes by names drawn for it. Assumes nothing.
use mathlib.Core.Path.{◌≡◌, refl, sym, ap, subst, ◌∙◌}
use mathlib.Core.Bool.{Bool, true, false}
use mathlib.Core.List.{[], ◌∷◌, ◌++◌, append-nil}
use mathlib.Core.Logic.{inr}
use native.Mathlib.Omega.{arith}
use Prim.Native.Nat.{ℕ, ◌+◌, ◌*◌, ◌-◌, ◌≤◌, ◌<◌}
use lib.Dec.{leb}
use lib.ListN.{length, take, drop, get_or, set, length-append}
use Rattle.names.specs.Maps.{NameMap, map_bytes, Limited}
use Rattle.names.specs.Names.{Bytes, name_field, name_limit, name_width, number_field, number_of, gensym}
use Rattle.names.specs.Segments.{At, SameOutside, Filled, Movable}
use Rattle.names.specs.declared.Refusal.{Refusal}
use Rattle.names.proofs.Fields.{name_field_length, number_field_length}
use Rattle.names.proofs.Frames.{same_then, same_wider, same_set, at_below, at_above, filled_set, filled_at, copied_at}
use Rattle.names.proofs.Numbers.{number_at}
use Rattle.names.proofs.Parts.{into}
use Rattle.names.proofs.Places.{at_whole, at_left, at_right, at_place, at_join, at_get}
use Rattle.records.specs.StepAnswer.{gives, refuses}
use Rattle.records.specs.Records.{Sexp, sexp_bytes, Pattern, Name, Complex, pattern_field, Body}
use Rattle.records.specs.Valid.{ValidSexp, ValidPattern}
use Rattle.walk.specs.Arena.{MapAt, outcome}
use Rattle.walk.specs.Draws.{pattern_atoms}
use Rattle.walk.specs.Invent.{name_too_long, draw, invent_new_names_sexp, rename_in_cons_step}
use Rattle.walk.specs.DrawnMaps.{counter_limit, NameRoom, NameFrom, Grown, Grew, Draws, Drew, Pushes, atom_size, map_growth}
use Rattle.walk.specs.NewNames.{ArgsReady, ArgsDrawn, DrawsArgs, pattern_own, pattern_sum, pattern_adds, pattern_drawn, pattern_needs, PatternReady, NameReady, PatternGrows, PatternDrawn, drew, stopped, DrawsPattern, DrawsName}
use Rattle.walk.specs.Patterns.{make_binding_unique}
use Rattle.walk.specs.RenameInCons.{rename_in_cons}
use Rattle.walk.specs.Steps.{M, Out, made, done, refused, ◌>>=◌, ret, child, sexp_size}
use Rattle.walk.specs.declared.Drawn.{Drawn as Answer}
use Rattle.walk.specs.declared.Growth.{Growth}
use Rattle.walk.proofs.DoneLaws.{then_gives, then_refuses}
use Rattle.walk.proofs.MapLaws.{no_map, map_after}
use Rattle.walk.proofs.NewNameLaws.{args_then, args_go_on, args_valid, ArgsGot, args_got, args_halted}
use Rattle.walk.proofs.OnParts.{from, rejoin}
use Rattle.walk.proofs.PartMaps.{map_length, map_stands, map_back}
use Rattle.walk.proofs.Results.{invent_draws}
use Rattle.walk.proofs.RunLaws.{then_then, ret_then, neutral_draw, then_same}
use Rattle.walk.proofs.Unique.{unique_pattern}
use Rattle.walk.proofs.Wholes.{from_length, whole_frame, whole_at}
use Rattle.std.specs.declared.result.Result.{Result}
use Rattle.std.specs.declared.result.Result.TheVariants.{Ok, Err}
use Rattle.walk.specs.RuleAnswers.{drawn_of}

-- a drawn name
pub record DrawnName (n : Bytes) (c : ℕ) (v : Bytes) (d : ℕ) : Type 0 where
  pub is : v ≡ gensym n c
  pub next : d ≡ c + 1

pub drawn_name : (n : Bytes) (c : ℕ) {v : Bytes} {d : ℕ} → outcome (draw n c 0) ≡ gives v d → DrawnName n c v d
unfolding draw outcome
drawn_name n c {v} {d} e = go (leb (length (gensym n c)) name_limit) e
  where
    go : (b : Bool) → outcome {A = Bytes} (elim b as (λ _. Out Bytes) [ true ↦ done (made n (gensym n c) ∷ []) (gensym n c) (c + 1) 0 | false ↦ refused [] name_too_long ]) ≡ gives v d → DrawnName n c v d
    go true q = record { is = cc; next = cc }
    go false q = let z : ◌≡◌ {A = ℕ} 0 1 = cc in absurd (omega arith)

-- a pattern's bytes
pub field_some : (u : Pattern) → 1 ≤ length (pattern_field u)
unfolding pattern_field
field_some (Name n) = omega arith
field_some (Complex s) = omega arith

pub name_pattern_length : (n : Bytes) → length (pattern_field (Name n)) ≡ 2 + length n
unfolding pattern_field
name_pattern_length n = omega (arith, name_field_length n)

-- the answer for the pattern that is known to stand there is the answer for every one
pub pattern_tells : {old new : Bytes} {free f c : ℕ} {r : Result Answer Refusal} (p : Pattern) → ValidPattern p → At old 0 (pattern_field p) → SameOutside old new free (length old) → PatternDrawn p new free f c r
    → DrawsPattern old new free f c r
pattern_tells {old} {new} {free} {f} {c} {r} p v at w a =
    record { frame = w; says = λ q u here. subst (λ (x : Pattern). PatternDrawn x new free f c r) (unique_pattern old p q v u at here) a }

-- a Name
module _ {old : Bytes} {free c : ℕ} (p : NameReady old free c) where
  valid_name : ValidPattern (Name p.n)
  unfolding ValidPattern
  valid_name = p.valid

  field_there : At old 1 (name_field p.n)
  unfolding pattern_field
  field_there = at_place 1 (omega arith) (at_right (0 ∷ []) (name_field p.n) p.there)

  -- its length stands behind the first byte
  pub name_size : number_of (take name_width (drop 1 old)) ≡ length p.n
  unfolding name_field
  name_size = number_at name_width (length p.n) (omega (arith, p.valid)) (at_left (number_field name_width (length p.n)) p.n field_there)

  bytes_there : At old 2 p.n
  unfolding name_field
  bytes_there = at_place 2 (omega (arith, number_field_length name_width (length p.n))) (at_right (number_field name_width (length p.n)) p.n field_there)

  -- where things stand
  name_room : (2 + length p.n ≤ free) × (free + (1 + length (name_field (gensym p.n c))) + map_growth * atom_size (length p.n) ≤ length old)
  unfolding pattern_own pattern_adds pattern_drawn
  name_room = (omega (arith, p.below, name_pattern_length p.n), omega (arith, p.room))

  pub name_starts : 2 ≤ length old
  name_starts = omega (arith, name_room.0, name_room.1)

  module _ {k : ℕ} (e : k ≡ number_of (take name_width (drop 1 old))) where
    size_is : k ≡ length p.n
    size_is = e ∙ name_size

    pub name_asked : NameRoom old 2 (2 + k) 0 c
    name_asked = record { forward = omega arith; short = omega (arith, size_is, p.valid); fits = omega (arith, size_is, name_room.0, name_room.1); counts = p.counts }

    from_there : NameFrom old 2 (2 + k) p.n
    from_there = record { there = bytes_there; ends = omega (arith, size_is) }

    module _ (mid : Bytes) (o : Result Growth Refusal) (grown : Grown old mid 0 0 o) (pushes : Pushes old mid 2 (2 + k) 0 c o) where
      -- the made name is too long
      pub name_stopped : (q : Refusal) → o ≡ Err q → DrawsName old mid free c (Err q)
      unfolding make_binding_unique
      name_stopped q is f =
          let g = subst (λ (x : Result Growth Refusal). Grown old mid 0 0 x) is grown in
          let d = subst (λ (x : Result Growth Refusal). Draws (draw p.n c) (λ n'. (p.n, n') ∷ []) mid 0 c (atom_size (length p.n)) (2 + k) x) is (pushes p.n from_there [] no_map) in
          let runs : outcome (draw p.n c 0) ≡ refuses q = d.runs 0 ∙ ap refuses (sym d.is) in
          pattern_tells (Name p.n) valid_name p.there (same_wider free (length old) (omega (arith, name_room.1)) (omega arith) g)
          (stopped q (λ F x fits next. then_then (draw p.n) (λ n'. ret ((p.n, n') ∷ [], Name n')) next c x ∙ then_refuses (λ n'. ret ((p.n, n') ∷ [], Name n') >>= next) (neutral_draw p.n) c x runs) refl)

      -- it is made
      module _ (g : Growth) (is : o ≡ Ok g) where
        name_grew : Grew old mid 0 g
        name_grew = subst (λ (x : Result Growth Refusal). Grown old mid 0 0 x) is grown

        name_drew : Drew (draw p.n c) (λ n'. (p.n, n') ∷ []) mid 0 c (atom_size (length p.n)) (2 + k) g
        name_drew = subst (λ (x : Result Growth Refusal). Draws (draw p.n c) (λ n'. (p.n, n') ∷ []) mid 0 c (atom_size (length p.n)) (2 + k) x) is (pushes p.n from_there [] no_map)

        abbrev new_name : Bytes
        new_name = name_drew.value

        drawn : DrawnName p.n c new_name g.counter
        drawn = drawn_name p.n c (name_drew.runs 0)

        map_is : map_bytes ((p.n, new_name) ∷ []) ≡ name_field p.n ++ name_field new_name
        unfolding map_bytes
        map_is = simp append-nil

        map_size : g.len ≡ length (name_field p.n) + length (name_field new_name)
        map_size = omega (arith, map_length name_drew.map_at, ap length map_is, length-append (name_field p.n) (name_field new_name))

        made_size : length (name_field new_name) ≡ length (name_field (gensym p.n c))
        made_size = ap (λ (x : Bytes). length (name_field x)) drawn.is

        abbrev made_length : ℕ
        made_length = g.len - (2 + k - 1)

        made_is : made_length ≡ length (name_field new_name)
        made_is = omega (arith, map_size, name_field_length p.n, size_is)

        -- where it goes, and where its map ends
        pub name_places : (2 + k - 1 ≤ g.len) × (g.len ≤ length mid) × (free + 1 + made_length + g.len ≤ length mid) × (length mid ≡ length old)
        name_places = (
          omega (arith, map_size, name_field_length p.n, size_is),
          omega (arith, name_drew.map_at.within),
          omega (arith, made_is, made_size, name_grew.frame.size, name_drew.at_most, name_room.1),
          name_grew.frame.size,
        )

        abbrev marked : Bytes
        marked = set mid free 0

        mark_frame : SameOutside mid marked free (free + 1)
        mark_frame = same_set mid free 0 free (free + 1) (omega arith) (omega arith)

        pub name_moves : Movable marked (length mid - made_length) (free + 1) made_length
        name_moves = record { source = omega (arith, mark_frame.size, name_places.1, name_places.2); target = omega (arith, mark_frame.size, name_places.2); safe = inr (omega (arith, mark_frame.size, name_places.2)) }

        module _ {new : Bytes} (cp : Filled marked new (free + 1) (drop (length mid - made_length) marked) made_length) where
          name_out : At new free (pattern_field (Name new_name))
          unfolding pattern_field
          name_out =
              let one = filled_at free (filled_set mid free 0 (omega (arith, name_places.2))) (omega (arith, name_places.2)) (at_whole (0 ∷ [])) (omega arith) (omega arith) in
              let both = subst (At mid (length mid - g.len)) map_is (map_stands name_drew.map_at) in
              let last = at_right (name_field p.n) (name_field new_name) both in
              let here = at_above mark_frame last (omega (arith, name_places.2)) in
              let name = copied_at (length mid - made_length) (free + 1) cp (omega (arith, mark_frame.size, name_places.2)) here (omega (arith, mark_frame.size, made_is, map_size, name_places.1)) (omega (arith, mark_frame.size, made_is, map_size, name_places.1)) (omega (arith, mark_frame.size, made_is, map_size, name_places.1)) in
              at_join (0 ∷ []) (name_field new_name) (at_below cp.frame one (omega arith)) name

          name_frame : SameOutside old new free (length old)
          name_frame =
              same_then free (length old) (omega (arith, name_places.2, name_places.3)) (omega arith) (omega arith) (omega (arith, name_places.2, name_places.3)) name_grew.frame
              (same_then free (free + 1 + made_length) (omega arith) (omega arith) (omega arith) (omega arith) mark_frame cp.frame)

          name_map : MapAt new g.len ((p.n, new_name) ∷ [])
          name_map = map_after cp.frame (omega (arith, mark_frame.size, name_places.2)) (map_after mark_frame (omega (arith, name_places.2)) name_drew.map_at)

          name_grows : (f : ℕ) → PatternGrows f c (Name p.n) (Name new_name) g.len g.counter
          unfolding ValidPattern pattern_field pattern_own pattern_sum pattern_adds pattern_drawn pattern_atoms Limited
          name_grows f =
              record { valid = name_map.limited.1; long = omega (arith, made_size); sum = omega arith; adds = refl; map = omega (arith, name_drew.at_most); drawn = omega (arith, drawn.next) }

          name_runs : (F x : ℕ) (next : NameMap × Pattern → M Body) → outcome ((make_binding_unique F (Name p.n) >>= next) c x) ≡ outcome (next ((p.n, new_name) ∷ [], Name new_name) g.counter (x + pattern_sum (Name new_name)))
          unfolding make_binding_unique pattern_sum
          name_runs F x next =
              let z : x ≡ x + 0 = omega arith in
              then_then (draw p.n) (λ n'. ret ((p.n, n') ∷ [], Name n')) next c x
              ∙ then_gives (λ n'. ret ((p.n, n') ∷ [], Name n') >>= next) (neutral_draw p.n) c x (name_drew.runs 0)
              ∙ ret_then next ((p.n, new_name) ∷ [], Name new_name) g.counter x
              ∙ ap (λ (y : ℕ). outcome (next ((p.n, new_name) ∷ [], Name new_name) g.counter y)) z

          pub name_made : DrawsName old new free c (drawn_of (2 + k) (1 + made_length) g.len g.counter)
          unfolding pattern_field
          name_made f =
              let read : 2 + k ≡ length (pattern_field (Name p.n)) = omega (arith, name_field_length p.n, size_is) in
              let wrote : 1 + made_length ≡ length (pattern_field (Name new_name)) = omega (arith, made_is) in
              pattern_tells (Name p.n) valid_name p.there name_frame
              (drew ((p.n, new_name) ∷ []) (Name new_name) g.len g.counter (name_grows f) (λ F x fits next. name_runs F x next) name_map name_out (cc (read, wrote)))

-- a pattern at the start, by its first byte
pub record ComplexHere (old : Bytes) (free f c : ℕ) (p : Pattern) : Type 0 where
  pub s : Sexp
  pub is : p ≡ Complex s
  pub valid : ValidSexp s
  pub there : At old 1 (sexp_bytes s)
  pub below : 1 + length (sexp_bytes s) ≤ free
  pub room : free + (1 + f + map_growth * length (sexp_bytes s)) ≤ length old
  pub counts : c + length (sexp_bytes s) < counter_limit

module _ {old : Bytes} {free f c : ℕ} (p : PatternReady old free f c) where
  own_some : (u : Pattern) → 1 ≤ pattern_own c u
  unfolding pattern_own
  own_some (Name n) = omega arith
  own_some (Complex s) = omega arith

  -- there is a first byte, and one at free
  pub pattern_starts : (0 < length old) × (free < length old)
  pattern_starts = (omega (arith, field_some p.p, p.below, p.room), omega (arith, own_some p.p, p.room))

  kind_byte : (u : Pattern) → At old 0 (pattern_field u) → get_or old 0 0 ≡ get_or (pattern_field u) 0 0
  kind_byte u at = at_get at 0 (field_some u)

  pub name_ready : get_or old 0 0 ≡ 0 → NameReady old free c
  unfolding ValidPattern pattern_field pattern_own pattern_adds pattern_drawn
  name_ready e = go p.p p.valid p.there p.below p.room
    where
      go : (u : Pattern) → ValidPattern u → At old 0 (pattern_field u) → length (pattern_field u) ≤ free → free + pattern_needs f c u ≤ length old → NameReady old free c
      go (Name n) v at le room = record { n = n; valid = v; there = at; below = le; room = room; counts = omega (arith, field_some p.p, p.counts) }
      go (Complex s) v at le room = absurd (omega (arith, kind_byte (Complex s) at))

  pub complex_here : (get_or old 0 0 ≡ 0 → ⊥) → ComplexHere old free f c p.p
  unfolding ValidPattern pattern_field pattern_own pattern_adds pattern_drawn
  complex_here other = go p.p p.valid p.there p.below p.room p.counts
    where
      go : (u : Pattern) → ValidPattern u → At old 0 (pattern_field u) → length (pattern_field u) ≤ free → free + pattern_needs f c u ≤ length old → c + length (pattern_field u) < counter_limit → ComplexHere old free f c u
      go (Name n) v at le room more = absurd (other (kind_byte (Name n) at))
      go (Complex s) v at le room more = record { s = s; is = refl; valid = v; there = at_place 1 (omega arith) (at_right (1 ∷ []) (sexp_bytes s) at); below = omega arith; room = omega arith; counts = omega arith }

  module _ (h : ComplexHere old free f c p.p) where
    abbrev one : Bytes
    one = set old free 1

    mark : SameOutside old one free (free + 1)
    mark = same_set old free 1 free (free + 1) (omega arith) (omega arith)

    there_one : At one 1 (sexp_bytes h.s)
    there_one = at_below mark h.there (omega (arith, h.below))

    pub complex_args : ArgsReady (from one 1) free f c
    complex_args =
        let l = from_length one 1 (omega (arith, mark.size, pattern_starts.0)) in
        record { s = h.s; valid = h.valid; there = into there_one; below = omega (arith, h.below); room = omega (arith, mark.size, h.room); counts = h.counts }

    module _ {y : Bytes} {r : Result Answer Refusal} (d : DrawsArgs (from one 1) y free false f c r) where
      abbrev two : Bytes
      two = rejoin one 1 y

      part_two : SameOutside one two (1 + free) (length old)
      part_two =
          same_wider (1 + free) (length old) (omega arith) (omega (arith, mark.size))
          (whole_frame one 1 free 0 (omega (arith, mark.size, h.room)) (same_wider free (length (from one 1) - 0) (omega arith) (omega arith) d.frame))

      frame_two : SameOutside old two free (length old)
      frame_two = same_then free (length old) (omega arith) (omega arith) (omega (arith, pattern_starts.1)) (omega arith) mark part_two

      args_two : ArgsDrawn false h.s y free f c r
      args_two = d.says h.s h.valid (into there_one)

      -- what comes after the args
      abbrev paired : NameMap → Sexp → M (NameMap × Pattern)
      paired m s' = ret (m, Complex s')

      run_two : (F x : ℕ) (next : NameMap × Pattern → M Body) → outcome ((make_binding_unique F p.p >>= next) c x) ≡ outcome (args_then F false h.s (λ m s'. paired m s' >>= next) c x)
      unfolding make_binding_unique
      run_two F x next =
          ap (λ (u : Pattern). outcome ((make_binding_unique F u >>= next) c x)) h.is
          ∙ then_then (invent_new_names_sexp [] h.s) (λ m. child F sexp_size (rename_in_cons_step F false m h.s) >>= paired m) next c x
          ∙ then_same (invent_new_names_sexp [] h.s) _ _ (λ m d y. then_then (child F sexp_size (rename_in_cons_step F false m h.s)) (paired m) next d y) c x

      pub complex_stopped : (q : Refusal) → r ≡ Err q → DrawsPattern old two free f c (Err q)
      complex_stopped q e =
          pattern_tells p.p p.valid p.there frame_two
          (stopped q (λ F x fits next. run_two F x next ∙ args_halted F x (λ m s'. paired m s' >>= next) q fits e args_two) refl)

      module _ (i w len d' : ℕ) (e : r ≡ drawn_of i w len d') where
        got_two : ArgsGot false h.s y free f c i w len d'
        got_two = args_got i w len d' e args_two

        abbrev new_sexp : Sexp
        new_sexp = rename_in_cons false got_two.m h.s

        complex_out : At two free (pattern_field (Complex new_sexp))
        unfolding pattern_field
        complex_out =
            let first = filled_at free (filled_set old free 1 pattern_starts.1) (omega (arith, pattern_starts.1)) (at_whole (1 ∷ [])) (omega arith) (omega arith) in
            let rest = whole_at one 1 free 0 (omega (arith, mark.size, h.room)) (same_wider free (length (from one 1) - 0) (omega arith) (omega arith) d.frame) (free + 1) (omega arith) got_two.out in
            at_join (1 ∷ []) (sexp_bytes new_sexp) (at_below part_two first (omega arith)) rest

        complex_map : MapAt two len got_two.m
        complex_map = map_back one 1 (omega (arith, mark.size, pattern_starts.0)) d.frame.size got_two.map

        complex_grows : PatternGrows f c (Complex h.s) (Complex new_sexp) len d'
        unfolding ValidPattern pattern_field pattern_own pattern_sum pattern_adds pattern_drawn pattern_atoms
        complex_grows =
            record {
              valid = args_valid false h.s h.valid got_two.map;
              long = omega arith;
              sum = omega (arith, got_two.short, got_two.wrote);
              adds = omega arith;
              map = omega (arith, got_two.small);
              drawn = omega (arith, invent_draws [] h.s c 0 got_two.runs);
            }

        complex_runs : (F x : ℕ) → x + f ≡ F → (next : NameMap × Pattern → M Body) → outcome ((make_binding_unique F p.p >>= next) c x) ≡ outcome (next (got_two.m, Complex new_sexp) d' (x + pattern_sum (Complex new_sexp)))
        unfolding pattern_sum
        complex_runs F x fits next =
            run_two F x next ∙ args_go_on F false h.s c x (λ m s'. paired m s' >>= next) got_two.runs (omega (arith, got_two.short, got_two.wrote))
            ∙ ret_then next (got_two.m, Complex new_sexp) d' (x + length (sexp_bytes new_sexp))

        -- what was read and written
        pub complex_sums : (1 + i ≤ free) × (free + (1 + w) ≤ length old)
        complex_sums = (omega (arith, got_two.read, h.below), omega (arith, got_two.short, h.room))

        pub complex_drawn : DrawsPattern old two free f c (drawn_of (1 + i) (1 + w) len d')
        unfolding pattern_field
        complex_drawn =
            let read : 1 + i ≡ length (pattern_field (Complex h.s)) = omega (arith, got_two.read) in
            let wrote : 1 + w ≡ length (pattern_field (Complex new_sexp)) = omega (arith, got_two.wrote) in
            pattern_tells p.p p.valid p.there frame_two
            (drew got_two.m (Complex new_sexp) len d' (subst (λ (u : Pattern). PatternGrows f c u (Complex new_sexp) len d') (sym h.is) complex_grows) complex_runs complex_map complex_out
            (cc (read, wrote, ap (λ (u : Pattern). length (pattern_field u)) h.is)))
