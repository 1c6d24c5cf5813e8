-- Own of a parallel let: its patterns are drawn, and what each way out answers. Assumes nothing.
use mathlib.Core.Path.{◌≡◌, refl, sym, ap, subst, ◌∙◌}
use mathlib.Core.Bool.{true}
use mathlib.Core.List.{List, [], ◌∷◌}
use native.Mathlib.Omega.{arith}
use Prim.Native.Nat.{ℕ, ◌+◌, ◌*◌, ◌-◌, ◌≤◌}
use lib.ListN.{length}
use Rattle.names.specs.Maps.{NameMap}
use Rattle.names.specs.Names.{Bytes, ascii}
use Rattle.names.specs.Segments.{At, SameOutside}
use Rattle.names.specs.declared.Refusal.{Refusal}
use Rattle.names.proofs.Frames.{same_then, same_wider, at_below}
use Rattle.records.specs.StepAnswer.{Outcome, refuses, Gives}
use Rattle.records.specs.Depth.{binding_depth}
use Rattle.records.specs.Lists.{joined, Each}
use Rattle.records.specs.Parts.{ValidBinding}
use Rattle.records.specs.Records.{Pattern, pattern_field, Body, BL, body_bytes, Binding, BB, binding_bytes, list_of}
use Rattle.records.specs.declared.Kind.{Kind}
use Rattle.records.specs.declared.Kind.TheVariants.{Parallel}
use Rattle.records.specs.Valid.{ValidPattern, IsLet, binding_lambda_depth}
use Rattle.records.specs.Views.{SeesLet}
use Rattle.records.specs.declared.LetView.{LetView}
use Rattle.records.specs.declared.Step.{Step}
use Rattle.records.proofs.Lists.{list_count}
use Rattle.walk.specs.Arena.{MapAt, outcome}
use Rattle.walk.specs.Bodyforms.{rename_args_bodyform, rename_args_let, walk}
use Rattle.walk.specs.Draws.{atoms, inside_of, patterns_of, dbl}
use Rattle.walk.specs.LetWalks.{FineBinding, binding_body, PatternedReady, WalksPatterned, patterned_run}
use Rattle.walk.specs.Patterns.{make_bindings_unique}
use Rattle.walk.specs.Room.{room}
use Rattle.walk.specs.Scopes.{with_patterns, PatternsReady, PatternsDrawn, drew, stopped, DrawsPatterns, LetBindings}
use Rattle.walk.specs.Steps.{M, ◌>>=◌, step, body_size}
use Rattle.walk.specs.Walking.{rule, Fine, ParallelReady, Walks, let_aside, count_of}
use Rattle.walk.specs.declared.Made.{Made}
use Rattle.walk.specs.declared.Task.{Task}
use Rattle.walk.proofs.LetKinds.{needs_are, binder}
use Rattle.walk.proofs.LetLaws.{Let, Seen, seen}
use Rattle.walk.proofs.RunLaws.{own_step}
use Rattle.walk.proofs.Unique.{tells_of, unique_fine}
use Rattle.walk.proofs.Wholes.{refused_gives}
use Rattle.std.specs.declared.result.Result.{Result}
use Rattle.std.specs.declared.result.Result.TheVariants.{Err}
use Rattle.walk.specs.RuleAnswers.{made_with}
use Rattle.walk.proofs.RuleAnswers.{made_same}

-- fine bindings are valid
each_valid : (F d : ℕ) (bs : List Binding) → Each (FineBinding F d) bs → Each ValidBinding bs
unfolding Each binding_body binding_depth binding_lambda_depth
each_valid F d [] e = tt
each_valid F d (BB l nl q b ∷ bs) e = ((e.0.fields, e.0.body.valid.1, e.0.body.valid.2), each_valid F d bs e.1)

-- what the answer `Drew a s len c'` says
record Drawings (F : ℕ) (bs : List Binding) (new : Bytes) (aside count c s len c' : ℕ) : Type 0 where
  m : NameMap
  ps : List Pattern
  many : length ps ≡ length bs
  valid : Each ValidPattern ps
  goes_on : (k : NameMap × List Binding → M Body) → outcome ((make_bindings_unique F [] bs >>= k) c 0) ≡ outcome (k (m, with_patterns ps bs) c' s)
  map : MapAt new len m
  there : At new aside (joined pattern_field ps)
  within : s ≤ F
  long : length (joined pattern_field ps) ≤ s + length (joined binding_bytes bs)
  beside : length (joined pattern_field ps) + len ≤ let_aside F count
  counter : c' ≤ c + patterns_of bs

drawings : {F : ℕ} {bs : List Binding} {new : Bytes} {aside count c : ℕ} {r : Result Made Refusal} (a s len c' : ℕ) → r ≡ made_with a s len c' → PatternsDrawn F bs new aside count c r → Drawings F bs new aside count c s len c'
drawings a s len c' e (drew m ps n d x l v g q mp th xf lo be co) =
    let same = made_same (sym q ∙ e) in
    let e₁ : n ≡ len = same.2 in
    let e₂ : d ≡ c' = same.3 in
    let e₃ : x ≡ s = same.1 in
    record { m = m; ps = ps; many = l; valid = v; goes_on = λ k. rw (e₂, e₃) at (g k); map = rw e₁ at mp; there = th; within = omega arith; long = omega arith; beside = omega arith; counter = omega arith }
drawings a s len c' e (stopped z g q) = let y : ◌≡◌ {A = ℕ} 0 1 = cc in absurd (omega arith)

-- what a refusal says
undrawn : {F : ℕ} {bs : List Binding} {new : Bytes} {aside count c : ℕ} {r : Result Made Refusal} (z : Refusal) → r ≡ Err z → PatternsDrawn F bs new aside count c r
    → (k : NameMap × List Binding → M Body) → outcome ((make_bindings_unique F [] bs >>= k) c 0) ≡ refuses z
undrawn z e (drew m ps n d x l v g q mp th xf lo be co) k = let y : ◌≡◌ {A = ℕ} 0 1 = cc in absurd (omega arith)
undrawn z e (stopped y g q) k = let a : y ≡ z = cc in rw a at (g k)

module _ {t : Task} {mem : Bytes} {v : LetView} (x : SeesLet mem v) (p : ParallelReady mem t) {n : ℕ} (en : n ≡ let_aside t.f v.count) where
  -- the let
  here : Seen t.f t.depth mem v.first v.count p.tree
  here = seen x p.tree (binder Parallel p.tree p.good.only) p.good p.there

  -- its parts
  abbrev z : Let t.f t.depth mem v.first v.count here.k here.l here.w here.h here.bs here.b
  z = here.parts

  -- its bindings
  abbrev bs : List Binding
  bs = list_of here.bs

  -- the let as a parallel one
  abbrev tree : Body
  tree = BL Parallel here.l here.w here.h here.bs here.b

  -- its kind
  is_kind : here.k ≡ Parallel
  unfolding IsLet
  is_kind = subst (IsLet Parallel) here.is p.good.only

  -- it is that
  tree_is : p.tree ≡ tree
  tree_is = here.is ∙ ap (λ (k : Kind). BL k here.l here.w here.h here.bs here.b) is_kind

  -- how many bindings it has
  count_is : count_of p.tree ≡ v.count
  unfolding count_of
  count_is = ap count_of tree_is ∙ sym (list_count here.bs) ∙ z.many

  -- the room
  pub wide : t.free + 3 * t.f + room t.f (t.depth - 1) + n ≤ length mem
  wide = omega (arith, p.room, needs_are t.f t.depth p.tree (omega (arith, z.level)), ap (let_aside t.f) count_is, en)

  -- what it holds at the end lies within memory
  pub aside_short : n ≤ length mem
  aside_short = omega (arith, wide)

  -- how long it is
  low : length (body_bytes p.tree) ≡ v.first + (length (joined binding_bytes bs) + length (body_bytes here.b))
  low = omega (arith, z.size, ap (λ (b : Body). length (body_bytes b)) here.is)

  -- its bindings start behind its mark
  starts_behind : 1 ≤ v.first
  unfolding ascii
  starts_behind = omega (arith, z.width)

  -- where its bindings stand
  stand : LetBindings mem v.first v.count (length mem - n) t.f bs
  stand =
      record {
        many = z.many;
        valid = each_valid t.f (t.depth - 1) bs z.each;
        there = z.bindings;
        moved = starts_behind;
        below = omega (arith, low, p.below, wide);
        short = omega (arith, z.short);
      }

  -- what is drawn
  draws : patterns_of bs + (dbl (t.depth - 1) (inside_of bs) + (dbl (t.depth - 1) (atoms here.b) + dbl (t.depth - 1) (atoms here.b))) ≤ dbl t.depth (atoms p.tree)
  draws = omega (arith, z.draws, ap (λ (b : Body). dbl t.depth (atoms b)) here.is)

  -- what drawing its patterns asks
  pub patterns_ready : PatternsReady mem v.first v.count (length mem - n) t
  patterns_ready = record { bs = bs; stand = stand; room = omega (arith, en, wide); counts = omega (arith, p.counts, draws); longest = p.longest }

  -- the patterns are drawn
  module _ {mid : Bytes} {r : Result Made Refusal} (g : DrawsPatterns mem mid v.first v.count (length mem - n) t r) where
    -- the run
    abbrev run : M Body
    run = rename_args_let t.f (walk t.f (t.depth - 1)) here.l here.w here.h bs here.b

    -- Own is a step of that
    own_run : outcome (rule t.f true t.depth p.m p.tree t.counter 0) ≡ outcome (step t.f body_size run t.counter 0)
    unfolding rename_args_bodyform
    own_run =
        ap (λ (b : Body). outcome (rule t.f true t.depth p.m b t.counter 0)) tree_is ∙ own_step t.f t.depth p.m tree t.counter (omega (arith, z.level))

    -- what is answered
    answers : {end : Bytes} {o : Result Step Refusal} → SameOutside mem end t.free (length mem) → Gives body_bytes end t.free (length (body_bytes p.tree)) (outcome (step t.f body_size run t.counter 0)) o
        → Walks (IsLet Parallel) true mem end t o
    answers {end} {o} f h =
        tells_of unique_fine p (same_wider t.free (length mem - t.map) (omega arith) (omega (arith, p.lone refl)) f)
        (subst (λ (a : Outcome Body). Gives body_bytes end t.free (length (body_bytes p.tree)) a o) (sym own_run) h)

    -- a pattern is refused
    pub patterns_refused : (q : Refusal) → r ≡ Err q → Walks (IsLet Parallel) true mem mid t (Err q)
    unfolding rename_args_let
    patterns_refused q e =
        answers (same_wider t.free (length mem) (omega (arith, wide)) (omega arith) g.frame) (refused_gives t.f run t.counter (undrawn q e (g.says bs stand) _) refl)

    module _ (a s len c : ℕ) (e : r ≡ made_with a s len c) where
      -- what was drawn
      drawn : Drawings t.f bs mid (length mem - n) v.count t.counter s len c
      drawn = drawings a s len c e (g.says bs stand)

      -- what is given then
      abbrev task : Task
      task = record { free = t.free; map = len; f = t.f; depth = t.depth; counter = c }

      -- what is asked then
      pub patterned_ready : PatternedReady mid v.first v.count (length mem - n) s task
      patterned_ready =
          let sz = ap (λ (b : Body). length (body_bytes b)) tree_is in
          record {
            l = here.l;
            k = here.w;
            h = here.h;
            bs = here.bs;
            b = here.b;
            good = subst (Fine (IsLet Parallel) t.f t.depth) tree_is p.good;
            there = at_below g.frame (subst (λ (b : Body). At mem 0 (body_bytes b)) tree_is p.there) (omega (arith, p.below, wide));
            below = omega (arith, p.below);
            starts = omega (arith, low);
            many = z.many;
            ps = drawn.ps;
            chosen = record { many = drawn.many; valid = drawn.valid; drawn = λ e. drawn.there; kept = λ e. let y : ◌≡◌ {A = ℕ} 0 1 = cc in absurd (omega arith); fits = drawn.there.fits };
            m = drawn.m;
            map = drawn.map;
            held = drawn.within;
            long = drawn.long;
            beside = drawn.beside;
            room = omega (arith, wide);
            all = omega (arith, en, wide, g.frame.size);
            counts = omega (arith, p.counts, draws, drawn.counter);
            longest = p.longest;
          }

      -- what is answered then
      pub parallel_done : {end : Bytes} {o : Result Step Refusal} → WalksPatterned mid end v.first v.count (length mem - n) s task o → Walks (IsLet Parallel) true mem end t o
      unfolding patterned_ready rename_args_let patterned_run
      parallel_done {end} {o} h =
          let d = h patterned_ready in
          let sz = ap (λ (b : Body). length (body_bytes b)) tree_is in
          answers (same_then t.free (length mem) (omega (arith, wide)) (omega arith) (omega arith) (omega (arith, g.frame.size)) g.frame d.frame)
          (subst (λ (k : ℕ). Gives body_bytes end t.free k (outcome (step t.f body_size run t.counter 0)) o) (sym sz) (d.gives run t.counter (drawn.goes_on _)))
