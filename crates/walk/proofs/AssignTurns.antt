-- The bindings of an assign, one after the other by their indices (`rename_assign_bindings`): what holds at each turn, and what each way out of the loop answers.
-- Assumes nothing.
use mathlib.Core.Path.{◌≡◌, refl, sym, ap, subst, ◌∙◌}
use mathlib.Core.List.{List, [], ◌∷◌}
use native.Mathlib.Omega.{arith}
use Prim.Native.Nat.{ℕ, suc, ◌+◌, ◌*◌, ◌-◌, ◌≤◌, ◌<◌}
use lib.ListN.{length, take, drop, get_or, length-append}
use lib.Seq.{drop-cons, drop-length}
use Rattle.names.specs.Maps.{NameMap}
use Rattle.names.specs.Names.{Bytes}
use Rattle.names.specs.Segments.{At, SameOutside, Filled}
use Rattle.names.specs.declared.Refusal.{Refusal}
use Rattle.names.proofs.Frames.{same_refl, same_then, same_wider, at_below, at_above, copied_at}
use Rattle.names.proofs.Parts.{into}
use Rattle.names.proofs.Places.{at_place, at_join}
use Rattle.records.specs.Lists.{joined, Each}
use Rattle.records.specs.Parts.{ValidBinding}
use Rattle.records.specs.Records.{Body, Binding, binding_bytes}
use Rattle.walk.specs.Arena.{MapAt, outcome}
use Rattle.walk.specs.AssignWalks.{MakesRun, made, stopped, AnyMade, AssignBinding, BindingReady, MakesBinding, at_all, binding_size, BindingsReady, MakesBindings}
use Rattle.walk.specs.Bodyforms.{Rules, walk, no_binding, rename_assign_binding, rename_assign_bindings}
use Rattle.walk.specs.Draws.{binding_atoms, dbl}
use Rattle.walk.specs.DrawnMaps.{map_growth}
use Rattle.walk.specs.Steps.{M, ◌>>=◌}
use Rattle.walk.specs.declared.Made.{Made}
use Rattle.walk.specs.declared.Task.{Task}
use Rattle.walk.proofs.Joined.{each_at, piece_at, piece_within, piece_size}
use Rattle.walk.proofs.Limits.{runs_walk, runs_rename_assign_binding}
use Rattle.walk.proofs.MakesLaws.{MadeOf, made_of, unmade_of}
use Rattle.walk.proofs.MapLaws.{no_map, map_of_part, map_after}
use Rattle.walk.proofs.OnParts.{from, rejoin}
use Rattle.walk.proofs.PartMaps.{map_back}
use Rattle.walk.proofs.Results.{led_counter}
use Rattle.walk.proofs.RunLaws.{then_then, ret_then}
use Rattle.walk.proofs.Sizes.{dbl_add}
use Rattle.walk.proofs.Unique.{unique_bindings}
use Rattle.walk.proofs.Wholes.{from_length, whole_frame, whole_at}
use Rattle.std.specs.declared.result.Result.{Result}
use Rattle.std.specs.declared.result.Result.TheVariants.{Err}
use Rattle.walk.specs.RuleAnswers.{made_with}

-- fine bindings are valid
pub each_valid : (F d : ℕ) (bs : List Binding) → Each (AssignBinding F d) bs → Each ValidBinding bs
unfolding Each
each_valid F d [] f = tt
each_valid F d (b ∷ bs) f = (f.0.valid, each_valid F d bs f.1)

module _ {old : Bytes} {row starts : List ℕ} {t : Task} (p : BindingsReady old row starts t) where
  abbrev rules : Rules
  rules = walk t.f t.depth

  abbrev all_run : List ℕ → NameMap → List Binding → M (NameMap × List Binding)
  all_run is m us = rename_assign_bindings t.f rules p.bs is m us

  -- the loop's invariant: what is made stands from `top` up to free, its map at the end; and the run goes on with the indices that are left
  pub record Looping (mem : Bytes) (top sum map c j : ℕ) : Type 0 where
    pub upto : j ≤ length row
    pub frame : SameOutside old mem (t.free - 2 * t.f) (length old)
    pub us : List Binding
    pub many : length us ≡ j
    pub out : At mem top (joined binding_bytes us)
    pub size : top + length (joined binding_bytes us) ≡ t.free
    pub m : NameMap
    pub names : MapAt mem map m
    pub grown : map + map_growth * at_all binding_size p.bs (drop j row) ≤ map_growth * at_all binding_size p.bs row
    pub held : sum ≤ t.f
    pub long : length (joined binding_bytes us) + at_all binding_size p.bs (drop j row) ≤ at_all binding_size p.bs row + sum
    pub draws : c + dbl (suc t.depth) (at_all binding_atoms p.bs (drop j row)) ≤ t.counter + dbl (suc t.depth) (at_all binding_atoms p.bs row)
    pub runs : (k : NameMap × List Binding → M Body) → outcome ((all_run row [] [] >>= k) t.counter 0) ≡ outcome ((all_run (drop j row) m us >>= k) c sum)

  -- before the first turn
  pub loop_starts : Looping old t.free 0 0 t.counter 0
  unfolding joined
  loop_starts = record {
    upto = omega arith;
    frame = same_refl;
    us = [];
    many = refl;
    out = record { fits = omega (arith, p.room); there = refl };
    size = omega arith;
    m = [];
    names = no_map;
    grown = omega arith;
    held = omega arith;
    long = omega arith;
    draws = omega arith;
    runs = λ k. refl;
  }

  -- what is answered of the bindings that are known to stand there
  makes : {new : Bytes} {r : Result Made Refusal} → SameOutside old new (t.free - 2 * t.f) (length old)
      → MakesRun (λ u. joined binding_bytes u.1) (λ u. length u.1 ≡ length row) t.f (map_growth * t.f) (at_all binding_size p.bs row) new (λ n. t.free - n) (all_run row [] []) t.counter 0 r
      → MakesBindings old new row starts t r
  makes {new} {r} f x = record {
    frame = f;
    says = λ bs g b.
        let e = unique_bindings p.bs bs (each_valid t.f t.depth p.bs p.fine) (each_valid t.f t.depth bs g) (omega (arith, p.stand.many, b.many)) p.stand.there b.there in
        subst
        (λ (cs : List Binding). MakesRun (λ u. joined binding_bytes u.1) (λ u. length u.1 ≡ length row) t.f (map_growth * t.f) (at_all binding_size cs row) new (λ n. t.free - n)
        (rename_assign_bindings t.f rules cs row [] []) t.counter 0 r) e x;
  }

  -- after the last turn
  pub loop_ends : {mem : Bytes} {top sum map c j : ℕ} → Looping mem top sum map c j → length row ≤ j → MakesBindings old mem row starts t (made_with (t.free - top) sum map c)
  unfolding rename_assign_bindings at_all
  loop_ends {mem} {top} {sum} {map} {c} {j} l le =
      let none : drop j row ≡ [] = (let e : j ≡ length row = omega (arith, l.upto) in ap (λ (n : ℕ). drop n row) e ∙ drop-length row) in
      let rest = ap (at_all binding_size p.bs) none in
      let n : t.free - top ≡ length (joined binding_bytes l.us) = omega (arith, l.size) in
      makes l.frame
      (made (l.m, l.us) map c sum (omega (arith, l.many, l.upto)) (λ k. l.runs k ∙ ap (λ (is : List ℕ). outcome ((all_run is l.m l.us >>= k) c sum)) none ∙ ret_then k (l.m, l.us) c sum)
      (ap (λ (i : ℕ). made_with i sum map c) n) (at_place (t.free - length (joined binding_bytes l.us)) (omega (arith, l.size)) l.out) l.names
      (record { map = omega (arith, l.grown, p.short); sum = l.held; long = omega (arith, l.long) }))

  pub top_low : {mem : Bytes} {top sum map c j : ℕ} → Looping mem top sum map c j → top ≤ t.free
  top_low l = omega (arith, l.size)

  -- a turn
  module _ {mem : Bytes} {top sum map c j : ℕ} (l : Looping mem top sum map c j) (lt : j < length row) where
    abbrev pub index : ℕ
    index = get_or row j 0

    abbrev pub next : Binding
    next = get_or p.bs index no_binding

    abbrev pub at : ℕ
    at = get_or starts index 0

    pub index_low : index < length p.bs
    index_low = p.rows j lt

    rest : drop j row ≡ index ∷ drop (suc j) row
    rest = drop-cons row j 0 lt

    at_is : at ≡ get_or starts 0 0 + length (joined binding_bytes (take index p.bs))
    at_is = p.stand.starts_at index (omega (arith, index_low))

    pub end_is : get_or starts (index + 1) 0 ≡ at + length (binding_bytes next)
    end_is =
        let e : index + 1 ≡ suc index = omega arith in
        let n = p.stand.starts_at (suc index) index_low in
        omega (arith, ap (λ (i : ℕ). get_or starts i 0) e, n, at_is, piece_size p.bs index index_low)

    pub next_below : at + length (binding_bytes next) + 2 * t.f ≤ t.free
    next_below =
        omega (arith, at_is, piece_size p.bs index index_low, piece_within p.bs (suc index) index_low, p.below)

    pub old_size : length mem ≡ length old
    old_size = l.frame.size

    pub next_room : t.free + (5 * t.f) ≤ length mem
    next_room = omega (arith, old_size, p.room)

    next_there : At mem at (binding_bytes next)
    next_there = at_place at (sym at_is) (at_below l.frame (piece_at p.bs index index_low p.stand.there) (omega (arith, at_is, next_below)))

    left_size : at_all binding_size p.bs (drop j row) ≡ length (binding_bytes next) + at_all binding_size p.bs (drop (suc j) row)
    unfolding at_all binding_size
    left_size = ap (at_all binding_size p.bs) rest

    left_atoms : at_all binding_atoms p.bs (drop j row) ≡ binding_atoms next + at_all binding_atoms p.bs (drop (suc j) row)
    unfolding at_all
    left_atoms = ap (at_all binding_atoms p.bs) rest

    -- what is drawn for the next and for those after it
    drawn_after : dbl (suc t.depth) (at_all binding_atoms p.bs (drop j row)) ≡ dbl (suc t.depth) (binding_atoms next) + dbl (suc t.depth) (at_all binding_atoms p.bs (drop (suc j) row))
    drawn_after = ap (dbl (suc t.depth)) left_atoms ∙ dbl_add (suc t.depth) (binding_atoms next) (at_all binding_atoms p.bs (drop (suc j) row))

    fine : AssignBinding t.f t.depth next
    fine = each_at (AssignBinding t.f t.depth) p.bs index index_low p.fine

    abbrev pub next_task : Task
    next_task = record { free = t.free - at; map = map; f = t.f; depth = t.depth; counter = c }

    map_short : map + map_growth * length (binding_bytes next) ≤ map_growth * t.f
    map_short = omega (arith, l.grown, left_size, p.short)

    pub next_ready : BindingReady (from mem at) (get_or starts (index + 1) 0 - at) sum next_task
    next_ready =
        let n = from_length mem at (omega (arith, next_room, next_below)) in
        record {
          ready = record {
            tree = next;
            good = fine;
            there = into next_there;
            below = omega (arith, next_below);
            m = l.m;
            map = map_of_part at (omega (arith, next_room, next_below, map_short)) l.names;
            lone = λ y. let v : ◌≡◌ {A = ℕ} 0 1 = cc in absurd (omega arith);
            room = omega (arith, n, old_size, next_below, map_short, p.room);
            counts = omega (arith, l.draws, drawn_after, p.counts);
            longest = p.longest;
          };
          size = omega (arith, end_is);
          held = l.held;
        }

    module _ {y : Bytes} {r : Result Made Refusal} (s : MakesBinding (from mem at) y sum next_task r) where
      abbrev pub turned : Bytes
      turned = rejoin mem at y

      fit : at + (t.free - at) + map ≤ length mem
      fit = omega (arith, next_room, next_below, map_short)

      next_frame : SameOutside mem turned t.free (length mem - map)
      next_frame = same_wider t.free (length mem - map) (omega (arith, next_below)) (omega arith) (whole_frame mem at (t.free - at) map fit s.frame)

      pub turn_frame : SameOutside old turned (t.free - 2 * t.f) (length old)
      turn_frame = same_then (t.free - 2 * t.f) (length old) (omega arith) (omega arith) (omega arith) (omega (arith, old_size)) l.frame next_frame

      abbrev next_run : M (NameMap × Binding)
      next_run = rename_assign_binding t.f rules l.m next

      said : MakesRun (λ u. binding_bytes u.1) AnyMade t.f (map + map_growth * length (binding_bytes next)) (length (binding_bytes next)) y (λ n. t.free - at) next_run c sum r
      unfolding next_ready
      said = let q = next_ready.ready in s.says l.m q.map next q.there q.below fine

      -- this binding, and those after it
      opened : (k : NameMap × List Binding → M Body) → outcome ((all_run row [] [] >>= k) t.counter 0)
          ≡ outcome ((next_run >>= λ u. all_run (drop (suc j) row) u.0 (u.1 ∷ l.us) >>= k) c sum)
      unfolding rename_assign_bindings
      opened k =
          l.runs k ∙ ap (λ (is : List ℕ). outcome ((all_run is l.m l.us >>= k) c sum)) rest
          ∙ then_then next_run (λ u. all_run (drop (suc j) row) u.0 (u.1 ∷ l.us)) k c sum

      pub turn_refused : (k : Refusal) → r ≡ Err k → MakesBindings old turned row starts t (Err k)
      turn_refused k e = makes turn_frame (stopped k (λ i. opened i ∙ unmade_of k e said (λ u. all_run (drop (suc j) row) u.0 (u.1 ∷ l.us) >>= i)) refl)

      module _ {w x len d : ℕ} (e : r ≡ made_with w x len d) where
        got : MadeOf (λ u. binding_bytes u.1) AnyMade t.f (map + map_growth * length (binding_bytes next)) (length (binding_bytes next)) y (λ n. t.free - at) next_run c sum w x len d
        got = made_of w x len d e said

        -- what is made so far
        pub made_low : length (joined binding_bytes l.us) + w ≤ 2 * t.f
        made_low = omega (arith, l.long, left_size, got.within.long, got.within.sum, p.short)

        pub top_room : w ≤ top
        top_room = omega (arith, made_low, l.size, next_below)

        pub move_fits : t.free + w + len ≤ length turned
        move_fits = omega (arith, turn_frame.size, old_size, next_room, made_low, got.within.map, map_short)

        module _ {end : Bytes} (f : Filled turned end (top - w) (drop t.free turned) w) where
          moved_out : At end (top - w) (joined binding_bytes (got.u.1 ∷ l.us))
          unfolding joined
          moved_out =
              let b = binding_bytes got.u.1 in
              let z = whole_at mem at (t.free - at) map fit s.frame t.free (omega (arith, next_below)) got.out in
              let new = copied_at t.free (top - w) f (omega (arith, move_fits, top_room, l.size)) z (omega arith) (omega (arith, got.wrote)) (omega arith) in
              let others = at_above f.frame (at_below next_frame l.out (omega (arith, l.size))) (omega (arith, top_room)) in
              at_join b (joined binding_bytes l.us) new (at_place (top - w + length b) (omega (arith, got.wrote, top_room)) others)

          pub turn_done : Looping end (top - w) x len d (j + 1)
          unfolding joined
          turn_done =
              let e₁ : j + 1 ≡ suc j = omega arith in
              let n : length (joined binding_bytes (got.u.1 ∷ l.us)) ≡ w + length (joined binding_bytes l.us) = joined_size in
              let size = turn_frame.size in
              rw e₁ (record {
                upto = omega (arith, lt);
                frame = same_then (t.free - 2 * t.f) (length old) (omega arith) (omega (arith, made_low, l.size)) (omega arith) (omega (arith, top_room, move_fits, l.size)) turn_frame f.frame;
                us = got.u.1 ∷ l.us;
                many = ap suc l.many;
                out = moved_out;
                size = omega (arith, n, l.size, top_room);
                m = got.u.0;
                names = map_after f.frame (omega (arith, move_fits, l.size, top_room)) (map_back mem at (omega (arith, fit)) s.frame.size got.map);
                grown = omega (arith, got.within.map, l.grown, left_size);
                held = got.within.sum;
                long = omega (arith, n, l.long, left_size, got.within.long);
                draws = omega (arith, l.draws, drawn_after, led_counter (runs_rename_assign_binding t.f t.depth rules (runs_walk t.f t.depth) l.m next fine.deep) c sum d x got.u got.goes_on);
                runs = λ k. opened k ∙ got.goes_on (λ u. all_run (drop (suc j) row) u.0 (u.1 ∷ l.us) >>= k);
              })
            where
              joined_size : length (joined binding_bytes (got.u.1 ∷ l.us)) ≡ w + length (joined binding_bytes l.us)
              joined_size = length-append (binding_bytes got.u.1) (joined binding_bytes l.us) ∙ omega (arith, got.wrote)
