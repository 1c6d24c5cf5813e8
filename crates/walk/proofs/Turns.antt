-- The elements of a call, one after the other: what holds at each turn, and what each way out of the loop answers. Assumes nothing.
use mathlib.Core.Path.{◌≡◌, refl, sym, ap, subst, ◌∙◌}
use mathlib.Core.Bool.{Bool, true, false}
use mathlib.Core.List.{[], ◌++◌, append_assoc, append-nil}
use native.Mathlib.Omega.{arith}
use native.Mathlib.Numerals.{add-one}
use Prim.Native.Nat.{ℕ, zero, suc, ◌+◌, ◌-◌, ◌≤◌, ◌<◌}
use lib.ListN.{length, length-append}
use Rattle.names.specs.Names.{Bytes}
use Rattle.names.specs.Segments.{At, SameOutside}
use Rattle.names.specs.declared.Refusal.{Refusal}
use Rattle.names.proofs.Frames.{same_refl, same_wider, same_then, at_below, copied_at, movable_up}
use Rattle.names.proofs.Parts.{into}
use Rattle.names.proofs.Places.{at_place, at_left, at_right, at_join}
use Rattle.records.specs.StepAnswer.{Gives}
use Rattle.records.specs.Records.{Body, body_bytes, Bodies, []ᵇ, ◌∷ᵇ◌, bodies_bytes, bodies_count}
use Rattle.records.specs.declared.Step.{Step}
use Rattle.records.proofs.StepAnswers.{Made, made, unmade}
use Rattle.walk.specs.Arena.{MapAt, outcome}
use Rattle.walk.specs.CallWalks.{every, EachFine, bodies_room, ElementsReady, MadeBodies, WalksElements, backs, BackRoom, PutsBack}
use Rattle.walk.specs.Draws.{atoms, bodies_atoms, dbl}
use Rattle.walk.specs.Room.{room}
use Rattle.walk.specs.Steps.{M, ◌>>=◌, over_long, body_size}
use Rattle.walk.specs.Walking.{rule, AnyBody, Fine, BodyReady, Walks, Leads, led, stopped}
use Rattle.walk.specs.declared.Task.{Task}
use Rattle.walk.proofs.CallRuns.{stays, none_left, first_refuses, first_over, first_gives}
use Rattle.walk.proofs.OnParts.{from, rejoin}
use Rattle.walk.proofs.Results.{rule_draws, rule_short, some_level, least_room}
use Rattle.walk.proofs.Sizes.{dbl_add}
use Rattle.walk.proofs.Unique.{tells_of, unique_bodies}
use Rattle.walk.proofs.Wholes.{from_length, whole_frame, whole_gives, map_from, took_is}
use Rattle.std.specs.declared.result.Result.{Result}
use Rattle.std.specs.declared.result.Result.TheVariants.{Err}
use Rattle.walk.specs.RuleAnswers.{piece_of}
use Rattle.records.specs.StepAnswer.{step_of}

-- the loop's invariant: the frame, the sum held, the elements that are left, how the results so far stand before what those become, and the rest of the run
pub record Looping (owning : Bool) (count : ℕ) (t : Task) (old mem : Bytes) (at sum c i : ℕ) : Type 0 where
  pub asked : ElementsReady owning old count t
  pub frame : SameOutside old mem t.free (length old - t.map)
  pub held : sum ≤ t.f
  pub start : i ≡ 0 → sum ≡ 0
  pub rest : Bodies
  pub many : i + bodies_count rest ≡ count
  pub fine : EachFine t.f t.depth rest
  pub there : At mem at (bodies_bytes rest)
  pub read : at + length (bodies_bytes rest) ≡ length (bodies_bytes asked.tree)
  pub wrap : Bodies → Bodies
  pub made : Bytes
  pub bytes : (us : Bodies) → bodies_bytes (wrap us) ≡ made ++ bodies_bytes us
  pub counts : (us : Bodies) → bodies_count (wrap us) ≡ i + bodies_count us
  pub size : length made ≡ sum
  pub out : At mem t.free made
  pub draws : c + dbl t.depth (bodies_atoms rest) ≤ t.counter + dbl t.depth (bodies_atoms asked.tree)
  pub runs : (k : Bodies → M Body) → outcome ((every t.f owning t.depth asked.m 0 asked.tree >>= k) t.counter 0)
      ≡ outcome ((every t.f owning t.depth asked.m i rest >>= λ us. k (wrap us)) c sum)

-- before the first turn
pub loop_starts : {owning : Bool} {count : ℕ} {t : Task} {old : Bytes} → ElementsReady owning old count t → Looping owning count t old old 0 0 t.counter 0
loop_starts {owning} {count} {t} {old} p =
    record {
      asked = p;
      frame = same_refl;
      held = omega arith;
      start = λ z. refl;
      rest = p.tree;
      many = omega (arith, p.good.many);
      fine = p.good.each;
      there = p.there;
      read = omega arith;
      wrap = λ us. us;
      made = [];
      bytes = λ us. refl;
      counts = λ us. omega arith;
      size = refl;
      out = record { fits = omega (arith, p.room); there = refl };
      draws = omega arith;
      runs = λ k. refl;
    }

-- after the last
pub loop_ends : {owning : Bool} {count : ℕ} {t : Task} {old mem : Bytes} {at sum c i : ℕ} → Looping owning count t old mem at sum c i → count ≤ i
    → WalksElements owning old mem count t (piece_of at sum sum c)
unfolding bodies_count bodies_bytes
loop_ends {owning} {count} {t} {old} {mem} {at} {sum} {c} {i} x le = tells_of unique_bodies x.asked x.frame (end x.rest refl (omega (arith, x.many)))
  where
    end : (rest : Bodies) → x.rest ≡ rest → bodies_count rest ≡ 0
        → Leads bodies_bytes (MadeBodies t.f count) t.f mem t.free (length (bodies_bytes x.asked.tree)) (every t.f owning t.depth x.asked.m 0 x.asked.tree) t.counter 0 (piece_of at sum sum c)
    end []ᵇ e z =
        let w = x.wrap []ᵇ in
        let b = x.bytes []ᵇ ∙ append-nil x.made in
        let s : length (bodies_bytes w) ≡ sum = ap length b ∙ x.size in
        let r = ap (λ (y : Bodies). length (bodies_bytes y)) e in
        led w c sum (record { many = x.counts []ᵇ ∙ omega (arith, x.many, ap bodies_count e); short = omega (arith, x.held) }) x.held
        (λ k.
        x.runs k ∙ ap (λ (r : Bodies). outcome ((every t.f owning t.depth x.asked.m i r >>= λ us. k (x.wrap us)) c sum)) e
        ∙ none_left t.f t.depth x.asked.m owning i (λ us. k (x.wrap us)) c sum)
        (took_is (omega (arith, x.read)) (sym s) refl refl) (subst (At mem t.free) (sym b) x.out)
    end (b ∷ᵇ r) e z = absurd (omega arith)

-- the first of those that are left
record Next (F d : ℕ) (mem : Bytes) (at : ℕ) (rest : Bodies) : Type 0 where
  pub b : Body
  pub more : Bodies
  pub is : rest ≡ b ∷ᵇ more
  pub fine : Fine AnyBody F d b
  pub others : EachFine F d more
  pub here : At mem at (body_bytes b)
  pub after : At mem (at + length (body_bytes b)) (bodies_bytes more)
  pub size : length (bodies_bytes rest) ≡ length (body_bytes b) + length (bodies_bytes more)
  pub count : bodies_count rest ≡ 1 + bodies_count more
  pub atoms_of : bodies_atoms rest ≡ atoms b + bodies_atoms more

next : {F d : ℕ} {mem : Bytes} {at : ℕ} (rest : Bodies) → 0 < bodies_count rest → EachFine F d rest → At mem at (bodies_bytes rest) → Next F d mem at rest
unfolding bodies_count bodies_bytes EachFine bodies_atoms
next []ᵇ some f a = absurd (omega arith)
next (b ∷ᵇ bs) some f a =
    record {
      b = b;
      more = bs;
      is = refl;
      fine = f.0;
      others = f.1;
      here = at_left (body_bytes b) (bodies_bytes bs) a;
      after = at_right (body_bytes b) (bodies_bytes bs) a;
      size = length-append (body_bytes b) (bodies_bytes bs);
      count = omega arith;
      atoms_of = refl;
    }

some_room : (F d : ℕ) (bs : Bodies) → 0 < bodies_count bs → bodies_room F d bs ≡ F + room F d
unfolding bodies_count bodies_room
some_room F d []ᵇ some = absurd (omega arith)
some_room F d (b ∷ᵇ bs) some = refl

-- what is put at a place, with or without going back
put_at : {mem new : Bytes} {at to r w z : ℕ} (b u : Body) (bk : Bool) → PutsBack mem new at to r w bk z → At mem at (body_bytes b) → r ≡ length (body_bytes b)
    → At mem to (body_bytes u) → w ≡ length (body_bytes u) → at + r ≤ to → to + r ≤ length mem
    → At new to (body_bytes (stays bk b u)) × (z ≡ length (body_bytes (stays bk b u))) × SameOutside mem new to (to + r)
put_at {at = at} {to} b u true p a e o f l k =
    let q = p.copied refl in
    (copied_at at to q.0 (omega arith) a (omega arith) (omega arith) (omega arith), q.1 ∙ e, q.0.frame)
put_at {mem} {new} {to = to} {r = r} b u false p a e o f l k =
    let q = p.stayed refl in
    (subst (λ (y : Bytes). At y to (body_bytes u)) (sym q.0) o, q.1 ∙ f, subst (λ (y : Bytes). SameOutside mem y to (to + r)) (sym q.0) same_refl)

-- the sum stays within F: element 0 is the first, and as it was
stays_short : (F sum : ℕ) (owning : Bool) (i : ℕ) (b u : Body) → (i ≡ 0 → sum ≡ 0) → sum + length (body_bytes u) ≤ F → length (body_bytes b) ≤ F → sum + length (body_bytes (stays (backs owning i) b u)) ≤ F
unfolding backs
stays_short F sum true i b u s l v = l
stays_short F sum false zero b u s l v = omega (arith, s refl)
stays_short F sum false (suc i) b u s l v = l

-- one turn
module _ {owning : Bool} {count : ℕ} {t : Task} {old mem : Bytes} {at sum c i : ℕ} (x : Looping owning count t old mem at sum c i) (lt : i < count) where
  abbrev p : ElementsReady owning old count t
  p = x.asked

  abbrev task : Task
  task = record { free = t.free + sum - at; map = t.map; f = t.f; depth = t.depth; counter = c }

  one : Next t.f t.depth mem at x.rest
  one = next x.rest (omega (arith, x.many)) x.fine x.there

  place : at + (length (body_bytes one.b) + length (bodies_bytes one.more)) ≤ t.free
  place = omega (arith, one.size, x.read, p.below)

  pub wide : t.free + sum + room t.f t.depth + t.map ≤ length mem
  wide = omega (arith, x.frame.size, x.held, p.room, some_room t.f t.depth p.tree (omega (arith, p.good.many)))

  pub turn_low : at ≤ t.free
  turn_low = omega (arith, place)

  part_map : MapAt (from mem at) t.map p.m
  part_map = map_from at x.frame (omega (arith, wide, x.frame.size)) (omega (arith, place, wide, x.frame.size)) p.map

  pub turn_ready : BodyReady AnyBody owning (from mem at) task
  turn_ready =
      let l = from_length mem at (omega (arith, place, wide)) in
      record {
        tree = one.b;
        good = one.fine;
        there = into one.here;
        below = omega (arith, place);
        m = p.m;
        map = part_map;
        lone = p.lone;
        room = omega (arith, place, wide);
        counts = omega (arith, p.counts, x.draws, ap (dbl t.depth) one.atoms_of, dbl_add t.depth (atoms one.b) (bodies_atoms one.more));
        longest = p.longest;
      }

  module _ {y : Bytes} {r : Result Step Refusal} (s : Walks AnyBody owning (from mem at) y task r) where
    abbrev end : Bytes
    end = rejoin mem at y

    fits : at + (t.free + sum - at) + t.map ≤ length mem
    fits = omega (arith, place, wide)

    turn_frame : SameOutside mem end (t.free + sum) (length mem - t.map)
    turn_frame = same_wider (t.free + sum) (length mem - t.map) (omega (arith, place)) (omega arith) (whole_frame mem at (t.free + sum - at) t.map fits s.frame)

    all_frame : SameOutside old end t.free (length old - t.map)
    all_frame = same_then t.free (length old - t.map) (omega arith) (omega arith) (omega arith) (omega (arith, x.frame.size)) x.frame turn_frame

    told : Gives body_bytes end (t.free + sum) (length (body_bytes one.b)) (outcome (rule t.f owning t.depth p.m one.b c 0)) r
    told = whole_gives mem at (t.free + sum - at) t.map fits s.frame (t.free + sum) (omega (arith, place)) (s.says p.m part_map one.b (into one.here) (omega (arith, place)) one.fine)

    abbrev after : (Bodies → M Body) → Bodies → M Body
    after k us = k (x.wrap us)

    split : (k : Bodies → M Body) → outcome ((every t.f owning t.depth p.m 0 p.tree >>= k) t.counter 0)
        ≡ outcome ((every t.f owning t.depth p.m i (one.b ∷ᵇ one.more) >>= after k) c sum)
    split k = x.runs k ∙ ap (λ (q : Bodies). outcome ((every t.f owning t.depth p.m i q >>= after k) c sum)) one.is

    pub turn_refused : (q : Refusal) → r ≡ Err q → WalksElements owning old end count t (Err q)
    turn_refused q e =
        tells_of unique_bodies p all_frame
        (stopped q (λ k. split k ∙ first_refuses t.f t.depth p.m one.b one.more (after k) c sum owning i q (unmade q e told)) refl)

    module _ (j w d : ℕ) (e : r ≡ step_of j w d) where
      got : Made body_bytes end (t.free + sum) (length (body_bytes one.b)) (outcome (rule t.f owning t.depth p.m one.b c 0)) j w d
      got = made j w d e told

      pub turn_short : w ≤ t.f
      turn_short = omega (arith, got.wrote, rule_short t.f owning t.depth p.m one.b c got.is)

      pub turn_read : at + j ≤ t.free
      turn_read = omega (arith, got.read, place)

      pub turn_too_long : (q : Refusal) → q ≡ over_long → t.f < sum + w → WalksElements owning old end count t (Err q)
      unfolding body_size
      turn_too_long q o over =
          tells_of unique_bodies p all_frame
          (stopped over_long (λ k. split k ∙ first_over t.f t.depth p.m one.b one.more (after k) c sum owning i got.is (omega (arith, got.wrote))) (ap Err o))

      behind : t.free + sum + j ≤ length end
      behind = omega (arith, got.read, one.fine.short, least_room t.f t.depth (some_level one.fine), wide, turn_frame.size)

      pub turn_back : (bk : Bool) → BackRoom end at (t.free + sum) j bk
      turn_back bk = record { room = λ b. movable_up (omega (arith, turn_read)) behind }

      module _ (new : Bytes) (z : ℕ) (fit : sum + w ≤ t.f) (put : PutsBack end new at (t.free + sum) j w (backs owning i) z) where
        abbrev v : Body
        v = stays (backs owning i) one.b got.u

        put_there : At new (t.free + sum) (body_bytes v) × (z ≡ length (body_bytes v)) × SameOutside end new (t.free + sum) (t.free + sum + j)
        put_there =
            put_at one.b got.u (backs owning i) put (at_below turn_frame one.here (omega (arith, place))) got.read got.out got.wrote (omega (arith, turn_read)) behind

        turn_held : sum + z ≤ t.f
        turn_held = omega (arith, put_there.1, stays_short t.f sum owning i one.b got.u x.start (omega (arith, got.wrote)) one.fine.short)

        runs_on : (k : Bodies → M Body) → outcome ((every t.f owning t.depth p.m 0 p.tree >>= k) t.counter 0)
            ≡ outcome ((every t.f owning t.depth p.m (i + 1) one.more >>= λ us. k (x.wrap (v ∷ᵇ us))) d (sum + z))
        unfolding body_size
        runs_on k =
            let q : sum + length (body_bytes v) ≡ sum + z = omega (arith, put_there.1) in
            split k
            ∙ first_gives t.f t.depth p.m one.b one.more (after k) c sum owning i got.is (omega (arith, got.wrote)) x.start one.fine.short
            ∙ ap (λ (n : ℕ). outcome ((every t.f owning t.depth p.m (suc i) one.more >>= λ us. k (x.wrap (v ∷ᵇ us))) d n)) q
            ∙ ap (λ (n : ℕ). outcome ((every t.f owning t.depth p.m n one.more >>= λ us. k (x.wrap (v ∷ᵇ us))) d (sum + z))) (sym (add-one i))

        turn_done : Looping owning count t old new (at + j) (sum + z) d (i + 1)
        unfolding bodies_bytes bodies_count
        turn_done =
            let o = put_there in
            let h = wide in
            let g = behind in
            let n = turn_frame.size in
            let short = one.fine.short in
            let later = at_below o.2 (at_below turn_frame one.after (omega (arith, place))) (omega (arith, place)) in
            let before = at_below o.2 (at_below turn_frame x.out (omega (arith, x.size))) (omega (arith, x.size)) in
            record {
              asked = p;
              frame =
                  same_then t.free (length old - t.map) (omega arith) (omega arith) (omega arith)
                  (omega (arith, got.read, least_room t.f t.depth (some_level one.fine), x.frame.size)) all_frame o.2;
              held = turn_held;
              start = λ e. absurd (omega arith);
              rest = one.more;
              many = omega (arith, x.many, one.count);
              fine = one.others;
              there = at_place (at + j) (omega (arith, got.read)) later;
              read = omega (arith, x.read, one.size, got.read);
              wrap = λ us. x.wrap (v ∷ᵇ us);
              made = x.made ++ body_bytes v;
              bytes = λ us. x.bytes (v ∷ᵇ us) ∙ sym (append_assoc x.made (body_bytes v) (bodies_bytes us));
              counts = λ us. x.counts (v ∷ᵇ us) ∙ omega arith;
              size = length-append x.made (body_bytes v) ∙ omega (arith, x.size, o.1);
              out = at_join x.made (body_bytes v) before (at_place (t.free + length x.made) (omega (arith, x.size)) o.0);
              draws =
                  omega (
                    arith,
                    x.draws,
                    ap (dbl t.depth) one.atoms_of,
                    dbl_add t.depth (atoms one.b) (bodies_atoms one.more),
                    (rule_draws t.f t.depth one.b owning p.m c one.fine.deep got.is).counter,
                  );
              runs = runs_on;
            }

      -- a turn is done
      pub turn_on : {new : Bytes} {z : ℕ} {bk : Bool} → sum + w ≤ t.f → bk ≡ backs owning i → PutsBack end new at (t.free + sum) j w bk z → Looping owning count t old new (at + j) (sum + z) d (i + 1)
      turn_on {new} {z} fit q put = turn_done new z fit (subst (λ (k : Bool). PutsBack end new at (t.free + sum) j w k z) q put)
