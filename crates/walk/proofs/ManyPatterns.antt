-- New patterns for the bindings of a parallel let, one after the other: what stands where while they are drawn, and what the runs give. Assumes nothing.
use mathlib.Core.Path.{◌≡◌, refl, sym, ap, subst, ◌∙◌}
use mathlib.Core.List.{List, [], ◌∷◌, ◌++◌, append_assoc, append-nil}
use native.Mathlib.Omega.{arith}
use Prim.Native.Nat.{ℕ, ◌+◌, ◌*◌, ◌-◌, ◌≤◌, ◌<◌}
use lib.ListN.{length, get_or, length-append}
use Rattle.names.specs.Maps.{NameMap}
use Rattle.names.specs.Names.{Bytes}
use Rattle.names.specs.Segments.{At, SameOutside}
use Rattle.names.specs.declared.Refusal.{Refusal}
use Rattle.names.proofs.Frames.{same_refl, same_then, same_wider, at_below}
use Rattle.names.proofs.Parts.{part, back, part_length, at_part, at_back, same_back}
use Rattle.names.proofs.Places.{at_left, at_right, at_place, at_join, at_get}
use Rattle.records.specs.StepAnswer.{refuses}
use Rattle.records.specs.Depth.{binding_depth}
use Rattle.records.specs.Lists.{joined, Each}
use Rattle.records.specs.Parts.{ValidBinding, Past, family_part}
use Rattle.records.specs.Records.{Loc, Pattern, Name, Complex, pattern_field, Body, body_bytes, Binding, BB, binding_bytes}
use Rattle.records.specs.Valid.{ValidPattern, ValidBody, BindingFields, binding_lambda_depth}
use Rattle.records.specs.declared.Family.TheVariants.{Body as a_Body}
use Rattle.walk.specs.Arena.{MapAt, outcome}
use Rattle.walk.specs.Draws.{pattern_atoms, patterns_of}
use Rattle.walk.specs.DrawnMaps.{map_growth}
use Rattle.walk.specs.NewNames.{added, pattern_own, pattern_sum, pattern_needs, PatternReady, PatternGrows, PatternDrawn, DrawsPattern}
use Rattle.walk.specs.NewNames.{drew as pattern_drew, stopped as pattern_stopped}
use Rattle.walk.specs.Patterns.{make_binding_unique, make_bindings_unique}
use Rattle.walk.specs.Scopes.{with_pattern, with_patterns, PatternsReady, PatternsDrawn, drew, stopped, DrawsPatterns}
use Rattle.walk.specs.Steps.{M, ◌>>=◌}
use Rattle.walk.specs.Walking.{let_aside}
use Rattle.walk.specs.declared.Drawn.{Drawn}
use Rattle.walk.specs.declared.Made.{Made}
use Rattle.walk.specs.declared.Task.{Task}
use Rattle.walk.proofs.Joined.{joined_more, joined_both, each_more, each_rest, none_joined}
use Rattle.walk.proofs.LetLaws.{aside_other}
use Rattle.walk.proofs.MapLaws.{no_map}
use Rattle.walk.proofs.PartMaps.{map_joined}
use Rattle.walk.proofs.PatternLaws.{field_some}
use Rattle.walk.proofs.Results.{counter_least}
use Rattle.walk.proofs.RunLaws.{ret_then, then_same}
use Rattle.walk.proofs.Unique.{unique_bindings}
use Rattle.walk.proofs.PatternRuns.{BindingHere, PatternTakes, aside_four, binding_here, bindings_step, bindings_stop, more_patterns, pattern_takes}
use Rattle.std.specs.declared.result.Result.{Result}
use Rattle.std.specs.declared.result.Result.TheVariants.{Err}
use Rattle.walk.specs.RuleAnswers.{drawn_of, made_with}
use Rattle.walk.proofs.RuleAnswers.{drawn_same}

-- so far: the bindings that are done, their new patterns from `aside` on up to `to`, and their joined map; the bindings that are left, from `at` on
pub record Drawing (old mem : Bytes) (first count aside : ℕ) (t : Task) (at to sum map c i : ℕ) : Type 0 where
  pub ready : PatternsReady old first count aside t
  pub ds : List Binding
  pub rest : List Binding
  pub split : ds ++ rest ≡ ready.bs
  pub done : length ds ≡ i
  pub ps : List Pattern
  pub many : length ps ≡ length ds
  pub valid : Each ValidPattern ps
  pub m : NameMap
  pub map_at : MapAt mem map m
  pub out : At mem aside (joined pattern_field ps)
  pub to_is : to ≡ aside + length (joined pattern_field ps)
  pub at_is : at ≡ first + length (joined binding_bytes ds)
  pub frame : SameOutside old mem aside (length old)
  pub within : sum ≤ t.f
  pub long : length (joined pattern_field ps) ≤ sum + length (joined binding_bytes ds)
  pub small : map ≤ map_growth * length (joined binding_bytes ds)
  pub fits : length (joined pattern_field ps) + map ≤ let_aside t.f count
  pub counted : c + patterns_of rest ≤ t.counter + patterns_of ready.bs
  pub goes_on : (k : NameMap × List Binding → M Body) → outcome ((make_bindings_unique t.f [] ready.bs >>= k) t.counter 0)
      ≡ outcome ((make_bindings_unique t.f m rest >>= λ v. k (v.0, with_patterns ps ds ++ v.1)) c sum)

-- before the first
pub drawing_starts : {old : Bytes} {first count aside : ℕ} {t : Task} → PatternsReady old first count aside t → Drawing old old first count aside t first aside 0 0 t.counter 0
unfolding joined Each with_patterns
drawing_starts {old} {first} {count} {aside} {t} r = record {
  ready = r;
  ds = [];
  rest = r.bs;
  split = refl;
  done = refl;
  ps = [];
  many = refl;
  valid = tt;
  m = [];
  map_at = no_map;
  out = record { fits = omega (arith, r.room); there = refl };
  to_is = omega arith;
  at_is = omega arith;
  frame = same_refl;
  within = omega arith;
  long = omega arith;
  small = omega arith;
  fits = omega arith;
  counted = omega arith;
  goes_on = λ k. refl;
}

module _ {old mem : Bytes} {first count aside : ℕ} {t : Task} {at to sum map c i : ℕ} (d : Drawing old mem first count aside t at to sum map c i) where
  abbrev F : ℕ
  F = t.f

  -- all bindings
  all_length : length d.ready.bs ≡ i + length d.rest
  all_length = omega (arith, ap length d.split, length-append d.ds d.rest, d.done)

  all_bytes : length (joined binding_bytes d.ready.bs) ≡ length (joined binding_bytes d.ds) + length (joined binding_bytes d.rest)
  all_bytes =
      omega (arith, ap (λ (x : List Binding). length (joined binding_bytes x)) d.split, ap length (joined_both binding_bytes d.ds d.rest), length-append (joined binding_bytes d.ds) (joined binding_bytes d.rest))

  -- what is answered at the end
  answers : {new : Bytes} {r : Result Made Refusal} → SameOutside old new aside (length old) → PatternsDrawn F d.ready.bs new aside count t.counter r → DrawsPatterns old new first count aside t r
  answers {new} {r} w a = record {
    frame = w;
    says = λ bs s. subst (λ (x : List Binding). PatternsDrawn F x new aside count t.counter r)
        (unique_bindings d.ready.bs bs d.ready.stand.valid s.valid (d.ready.stand.many ∙ sym s.many) d.ready.stand.there s.there) a;
  }

  -- no binding is left
  module _ (e : d.rest ≡ []) where
    all_done : d.ds ≡ d.ready.bs
    all_done = sym (append-nil d.ds) ∙ ap (λ (x : List Binding). d.ds ++ x) (sym e) ∙ d.split

    last_run : (k : NameMap × List Binding → M Body) → outcome ((make_bindings_unique F [] d.ready.bs >>= k) t.counter 0) ≡ outcome (k (d.m, with_patterns d.ps d.ready.bs) c sum)
    unfolding make_bindings_unique
    last_run k =
        let after : NameMap × List Binding → M Body = λ v. k (v.0, with_patterns d.ps d.ds ++ v.1) in
        d.goes_on k ∙ ap (λ (x : List Binding). outcome ((make_bindings_unique F d.m x >>= after) c sum)) e ∙ ret_then after (d.m, []) c sum
        ∙ ap (λ (x : List Binding). outcome (k (d.m, x) c sum)) (append-nil (with_patterns d.ps d.ds)) ∙ ap (λ (x : List Binding). outcome (k (d.m, with_patterns d.ps x) c sum)) all_done

    ended : DrawsPatterns old mem first count aside t (made_with (to - aside) sum map c)
    ended =
        let n : to - aside ≡ length (joined pattern_field d.ps) = omega (arith, d.to_is) in
        answers d.frame
        (drew d.m d.ps map c sum (d.many ∙ ap length all_done) d.valid last_run (ap (λ (x : ℕ). made_with x sum map c) n) d.map_at d.out d.within (omega (arith, d.long, all_bytes)) d.fits
        (omega (arith, d.counted)))

  pub drawing_ends : count ≤ i → DrawsPatterns old mem first count aside t (made_with (to - aside) sum map c)
  drawing_ends le = go d.rest refl
    where
      go : (rest : List Binding) → d.rest ≡ rest → DrawsPatterns old mem first count aside t (made_with (to - aside) sum map c)
      go [] e = ended e
      go (b ∷ bs) e = absurd (omega (arith, all_length, ap length e, d.ready.stand.many))

-- the binding that is next
pub record Next (mem : Bytes) (at : ℕ) (rest : List Binding) : Type 0 where
  pub l : Loc
  pub nl : Loc
  pub p : Pattern
  pub b : Body
  pub more : List Binding
  pub is : rest ≡ BB l nl p b ∷ more
  pub valid : ValidBinding (BB l nl p b)
  pub here : BindingHere mem at p b (length (binding_bytes (BB l nl p b)))
  pub bytes : length (joined binding_bytes rest) ≡ length (binding_bytes (BB l nl p b)) + length (joined binding_bytes more)
  pub atoms : patterns_of rest ≡ pattern_atoms p + patterns_of more

next_of : {old : Bytes} {at : ℕ} (rest : List Binding) → 0 < length rest → Each ValidBinding rest → At old at (joined binding_bytes rest) → Next old at rest
unfolding Each joined patterns_of
next_of [] lt v h = absurd (omega arith)
next_of {old} {at} (BB l nl p b ∷ more) lt v h = record {
  l = l;
  nl = nl;
  p = p;
  b = b;
  more = more;
  is = refl;
  valid = v.0;
  here = binding_here l nl p b v.0.0 (at_left (binding_bytes (BB l nl p b)) (joined binding_bytes more) h);
  bytes = length-append (binding_bytes (BB l nl p b)) (joined binding_bytes more);
  atoms = refl;
}

module _ {old mem : Bytes} {first count aside : ℕ} {t : Task} {at to sum map c i : ℕ} (d : Drawing old mem first count aside t at to sum map c i) where
  pub drawing_next : i < count → Next old at d.rest
  drawing_next lt =
      let stand = d.ready.stand in
      let whole = subst (At old first) (ap (joined binding_bytes) (sym d.split) ∙ joined_both binding_bytes d.ds d.rest) stand.there in
      let here = at_place at (sym d.at_is) (at_right (joined binding_bytes d.ds) (joined binding_bytes d.rest) whole) in
      next_of d.rest (omega (arith, all_length d, stand.many)) (each_rest ValidBinding d.ds d.rest (subst (Each ValidBinding) (sym d.split) stand.valid)) here

  module _ (n : Next old at d.rest) where
    abbrev size : ℕ
    size = length (binding_bytes (BB n.l n.nl n.p n.b))

    abbrev start : ℕ
    start = at + 10

    abbrev top : ℕ
    top = length mem - map

    abbrev left : ℕ
    left = t.f - sum

    takes : PatternTakes left c t.f n.p size
    takes = pattern_takes left c t.f n.l n.nl n.p n.b n.valid.0 (omega (arith, d.counted, d.ready.counts))

    -- bindings done, the next one, and where they stand
    bounds : (first + length (joined binding_bytes d.ds) + size ≤ aside) × (first + length (joined binding_bytes d.ds) + size ≤ t.f) × (1 ≤ first)
    bounds = (omega (arith, d.ready.stand.below, all_bytes d, n.bytes), omega (arith, d.ready.stand.short, all_bytes d, n.bytes), d.ready.stand.moved)

    -- there is room for the next pattern and its map
    holds : length (joined pattern_field d.ps) + map + pattern_needs left c n.p ≤ let_aside t.f count
    holds = go d.ds refl
      where
        go : (ds : List Binding) → d.ds ≡ ds → length (joined pattern_field d.ps) + map + pattern_needs left c n.p ≤ let_aside t.f count
        go [] e =
            let none = ap (λ (x : List Binding). length (joined binding_bytes x)) e in
            omega (arith, none_joined binding_bytes [] refl, none_joined pattern_field d.ps (d.many ∙ ap length e), d.small, takes.alone (omega (arith, bounds.1, bounds.2)) (omega arith), aside_four t.f count)
        go (b ∷ bs) e =
            omega (arith, aside_other t.f count (λ q. omega (arith, q, d.ready.stand.many, all_length d, d.done, ap length e, ap length n.is)), d.long, d.small, d.within, takes.own, takes.drawn, takes.adds, bounds.1)

    own_least : (u : Pattern) → 1 ≤ pattern_own c u
    unfolding pattern_own
    own_least (Name x) = omega arith
    own_least (Complex s) = omega arith

    -- where things stand
    pub next_places : (start + length (pattern_field n.p) + length (body_bytes n.b) ≤ aside) × (aside ≤ to) × (to + pattern_needs left c n.p + map ≤ length mem) × (to < top) × (map ≤ length mem) × (length mem ≡ length old)
    next_places = (
      omega (arith, bounds.0, n.here.whole, d.at_is),
      omega (arith, d.to_is),
      omega (arith, d.to_is, holds, d.ready.room, d.frame.size),
      omega (arith, d.to_is, holds, d.ready.room, d.frame.size, own_least n.p),
      omega (arith, d.map_at.within),
      d.frame.size,
    )

    abbrev lent : Bytes
    lent = part mem start (top - start)

    lent_length : length lent ≡ top - start
    lent_length = part_length mem start (top - start) (omega (arith, next_places.0, next_places.1, next_places.3))

    pattern_valid : ValidPattern n.p
    unfolding BindingFields
    pattern_valid = n.valid.0.2

    pattern_there : At mem start (pattern_field n.p)
    pattern_there = at_below d.frame n.here.pattern (omega (arith, next_places.0))

    lent_there : At lent 0 (pattern_field n.p)
    lent_there = at_part start (top - start) pattern_there (omega arith) (omega (arith, next_places.0, next_places.1, next_places.3))

    -- what is asked for the next pattern
    pub next_asked : PatternReady lent (to - start) left c
    next_asked = record {
      p = n.p;
      valid = pattern_valid;
      there = lent_there;
      below = omega (arith, next_places.0, next_places.1);
      room = omega (arith, lent_length, next_places.0, next_places.1, next_places.2);
      counts =
          counter_least c (length (pattern_field n.p)) (omega (arith, d.counted, d.ready.counts)) (omega (arith, bounds.1, n.here.whole, d.ready.longest));
    }

    -- it is drawn for, or refused
    module _ {y : Bytes} {r : Result Drawn Refusal} (q : DrawsPattern lent y (to - start) left c r) where
      abbrev new : Bytes
      new = back mem start (top - start) y

      new_frame : SameOutside mem new to top
      new_frame =
          same_wider to top (omega (arith, next_places.0, next_places.1)) (omega (arith, lent_length, next_places.0, next_places.1, next_places.3))
          (same_back mem start (top - start) (omega (arith, next_places.0, next_places.1, next_places.3)) q.frame (omega (arith, next_places.3)) (omega (arith, lent_length)))

      pub next_size : length new ≡ length mem
      next_size = new_frame.size

      old_frame : SameOutside old new aside (length old)
      old_frame = same_then aside (length old) (omega arith) (omega (arith, next_places.1)) (omega arith) (omega (arith, next_places.5)) d.frame new_frame

      answer : PatternDrawn n.p y (to - start) left c r
      answer = q.says n.p pattern_valid lent_there

      -- what follows
      abbrev onto : (NameMap × List Binding → M Body) → NameMap × List Binding → M Body
      onto k v = k (v.0, with_patterns d.ps d.ds ++ v.1)

      so_far : (k : NameMap × List Binding → M Body) → outcome ((make_bindings_unique t.f [] d.ready.bs >>= k) t.counter 0)
          ≡ outcome ((make_bindings_unique t.f d.m (BB n.l n.nl n.p n.b ∷ n.more) >>= onto k) c sum)
      so_far k = d.goes_on k ∙ ap (λ (x : List Binding). outcome ((make_bindings_unique t.f d.m x >>= onto k) c sum)) n.is

      pub next_stopped : (z : Refusal) → r ≡ Err z → DrawsPatterns old new first count aside t (Err z)
      next_stopped z e = answers d old_frame (stopped z (λ k. so_far k ∙ bindings_stop t.f d.m n.l n.nl n.p n.b n.more (onto k) z c sum (go answer)) refl)
        where
          go : PatternDrawn n.p y (to - start) left c r → (next : NameMap × Pattern → M Body) → outcome ((make_binding_unique t.f n.p >>= next) c sum) ≡ refuses z
          go (pattern_drew m u len c' g runs at out is) next = let x : ◌≡◌ {A = ℕ} 0 1 = cc in absurd (omega arith)
          go (pattern_stopped j runs is) next = let x : j ≡ z = cc in runs t.f sum (omega (arith, d.within)) next ∙ ap refuses x

      -- what an answer `Done a w len e` says
      record Got (a w len e : ℕ) : Type 0 where
        u : Pattern
        more_map : NameMap
        grows : PatternGrows left c n.p u len e
        runs : (next : NameMap × Pattern → M Body) → outcome ((make_binding_unique t.f n.p >>= next) c sum) ≡ outcome (next (more_map, u) e (sum + pattern_sum u))
        map_at : MapAt y len more_map
        out : At y (to - start) (pattern_field u)
        read : a ≡ length (pattern_field n.p)
        wrote : w ≡ length (pattern_field u)

      module _ (a w len e : ℕ) (is : r ≡ drawn_of a w len e) where
        got : Got a w len e
        got = go answer
          where
            go : PatternDrawn n.p y (to - start) left c r → Got a w len e
            go (pattern_drew m u len' c' g runs at out z) =
                let same = drawn_same (sym is ∙ z) in
                let x : len' ≡ len = sym same.2 in
                let v : c' ≡ e = sym same.3 in
                record {
                  u = u;
                  more_map = m;
                  grows = rw (x, v) at g;
                  runs = λ next. rw v at (runs t.f sum (omega (arith, d.within)) next);
                  map_at = rw x at at;
                  out = out;
                  read = same.0;
                  wrote = same.1;
                }
            go (pattern_stopped j runs z) = let x : ◌≡◌ {A = ℕ} 0 1 = cc in absurd (omega arith)

        -- something was written
        pub next_some : 1 ≤ w
        next_some = omega (arith, got.wrote, field_some got.u)

        -- the sum, and what was read and written
        module _ {kind s : ℕ} (first_byte : kind ≡ get_or mem start 0) (adds : s ≡ added kind w) where
          sum_is : s ≡ pattern_sum got.u
          sum_is =
              let z : start ≡ start + 0 = omega arith in
              let k : kind ≡ get_or (pattern_field n.p) 0 0 = first_byte ∙ ap (λ (x : ℕ). get_or mem x 0) z ∙ at_get pattern_there 0 (field_some n.p) in
              adds ∙ ap (λ (x : ℕ). added x w) k ∙ ap (added (get_or (pattern_field n.p) 0 0)) got.wrote ∙ got.grows.adds

          pub next_sums : (sum + s ≤ t.f) × (to + w + (map + len) ≤ length mem) × (start + a ≤ aside)
          next_sums = (
            omega (arith, sum_is, got.grows.sum, takes.adds, d.within),
            omega (arith, got.wrote, got.grows.long, got.grows.sum, got.grows.map, next_places.2),
            omega (arith, got.read, next_places.0),
          )

          -- the next round
          body_valid : ValidBody n.b
          unfolding BindingFields binding_depth binding_lambda_depth
          body_valid = (n.valid.0.3, n.valid.1, n.valid.2)

          body_there : At new (start + a) (body_bytes n.b)
          body_there =
              at_below new_frame (at_below d.frame (at_place (start + a) (omega (arith, got.read)) n.here.body) (omega (arith, got.read, next_places.0))) (omega (arith, got.read, next_places.0, next_places.1))

          next_map : MapAt new (map + len) (got.more_map ++ d.m)
          next_map =
              let z : len + map ≡ map + len = omega arith in
              subst (λ (x : ℕ). MapAt new x (got.more_map ++ d.m)) z
              (map_joined mem start (top - start) (omega (arith, next_places.0, next_places.1, next_places.3)) q.frame (omega (arith, next_places.3)) (omega (arith, lent_length)) got.map_at d.map_at)

          next_out : At new aside (joined pattern_field (d.ps ++ got.u ∷ []))
          next_out =
              let before = at_below new_frame d.out (omega (arith, d.to_is)) in
              let back_at = at_back mem start (top - start) (omega (arith, next_places.0, next_places.1, next_places.3)) y (q.frame.size ∙ lent_length) got.out in
              let this = at_place (aside + length (joined pattern_field d.ps)) (omega (arith, d.to_is, next_places.0, next_places.1)) back_at in
              subst (At new aside) (sym (joined_more pattern_field d.ps got.u)) (at_join (joined pattern_field d.ps) (pattern_field got.u) before this)

          next_run : (k : NameMap × List Binding → M Body) → outcome ((make_bindings_unique t.f [] d.ready.bs >>= k) t.counter 0)
              ≡ outcome ((make_bindings_unique t.f (got.more_map ++ d.m) n.more >>= λ v. k (v.0, with_patterns (d.ps ++ got.u ∷ []) (d.ds ++ BB n.l n.nl n.p n.b ∷ []) ++ v.1)) e (sum + s))
          unfolding with_pattern
          next_run k =
              let z : sum + pattern_sum got.u ≡ sum + s = omega (arith, sum_is) in
              let after : ℕ → _ = λ x. outcome ((make_bindings_unique t.f (got.more_map ++ d.m) n.more >>= λ v. onto k (v.0, BB n.l n.nl got.u n.b ∷ v.1)) e x) in
              so_far k ∙ bindings_step t.f d.m n.l n.nl n.p n.b n.more (onto k) got.more_map got.u c sum e (sum + pattern_sum got.u) got.runs ∙ ap after z
              ∙ then_same (make_bindings_unique t.f (got.more_map ++ d.m) n.more) _ _
              (λ v i x. ap (λ (l : List Binding). outcome (k (v.0, l) i x)) (sym (more_patterns d.ps d.ds v.1 got.u (BB n.l n.nl n.p n.b) d.many))) e (sum + s)

          pub next_drawing : {at' : ℕ} → Past (family_part a_Body) new (start + a) at' → Drawing old new first count aside t at' (to + w) (sum + s) (map + len) e (i + 1)
          next_drawing {at'} past =
              let b = BB n.l n.nl n.p n.b in
              let ends = past.past n.b body_valid body_there in
              let wrote = ap length (joined_more pattern_field d.ps got.u) ∙ length-append (joined pattern_field d.ps) (pattern_field got.u) in
              let read = ap length (joined_more binding_bytes d.ds b) ∙ length-append (joined binding_bytes d.ds) (binding_bytes b) in
              record {
                ready = d.ready;
                ds = d.ds ++ b ∷ [];
                rest = n.more;
                split = append_assoc d.ds (b ∷ []) n.more ∙ ap (λ (x : List Binding). d.ds ++ x) (sym n.is) ∙ d.split;
                done = omega (arith, length-append d.ds (b ∷ []), d.done);
                ps = d.ps ++ got.u ∷ [];
                many = omega (arith, length-append d.ds (b ∷ []), length-append d.ps (got.u ∷ []), d.many);
                valid = each_more ValidPattern d.ps got.u d.valid got.grows.valid;
                m = got.more_map ++ d.m;
                map_at = next_map;
                out = next_out;
                to_is = omega (arith, wrote, got.wrote, d.to_is);
                at_is = omega (arith, read, ends, got.read, n.here.whole, d.at_is);
                frame = old_frame;
                within = next_sums.0;
                long = omega (arith, wrote, read, d.long, got.grows.long, takes.own, sum_is);
                small = omega (arith, read, d.small, got.grows.map, takes.drawn);
                fits = omega (arith, wrote, holds, got.grows.long, got.grows.sum, got.grows.map);
                counted = omega (arith, d.counted, n.atoms, got.grows.drawn);
                goes_on = next_run;
              }
