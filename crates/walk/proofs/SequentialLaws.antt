-- Own of a sequential let: what it becomes is fine, and the result of what it became is the let's. Assumes nothing.
use mathlib.Core.Path.{◌≡◌, refl, sym, ap, subst, ◌∙◌}
use mathlib.Core.Bool.{true}
use mathlib.Core.Logic.{inr}
use mathlib.Core.List.{List, [], ◌∷◌}
use native.Mathlib.Omega.{arith}
use Prim.Native.Nat.{ℕ, zero, suc, ◌+◌, ◌*◌, ◌-◌, ◌≤◌, ◌<◌, max}
use lib.ListN.{length, drop}
use Rattle.names.specs.Maps.{NameMap}
use Rattle.names.specs.Names.{Bytes}
use Rattle.names.specs.Segments.{At, SameOutside, Filled, Movable}
use Rattle.names.specs.declared.Refusal.{Refusal}
use Rattle.names.proofs.Frames.{same_wider, same_then, copied_at}
use Rattle.names.proofs.Parts.{into}
use Rattle.records.specs.StepAnswer.{Outcome, gives, refuses, Gives, gave, refused}
use Rattle.records.specs.Depth.{levels, depth, list_depth}
use Rattle.records.specs.Read.{binding_zone}
use Rattle.records.specs.Records.{Body, BL, BQ, BV, BC, BM, BF, Binding, BB, list_of, body_bytes, bindings_count}
use Rattle.records.specs.declared.Kind.TheVariants.{Parallel, Sequential, Assign}
use Rattle.records.specs.Valid.{IsLet}
use Rattle.records.specs.Views.{SeesLet}
use Rattle.records.specs.declared.LetView.{LetView}
use Rattle.records.specs.declared.Step.{Step}
use Rattle.records.proofs.StepAnswers.{made, unmade}
use Rattle.walk.specs.Arena.{Asks, fitting, outcome}
use Rattle.walk.specs.Bodyforms.{desugar_sequential_let_bindings, rename_args_desugared, rename_args_sequential, rename_args_bodyform, walk}
use Rattle.walk.specs.Draws.{atoms, dbl}
use Rattle.walk.specs.Leaves.{Left, ValidKind, Desugars, desugared}
use Rattle.walk.specs.Room.{room}
use Rattle.walk.specs.SequentialWalks.{nested, nested_bytes, nested_level, FineNested, NestedReady, WalksNested}
use Rattle.walk.specs.Steps.{over_long, ◌>>=◌, ret, step, further, body_size}
use Rattle.walk.specs.Walking.{rule, Fine, BodyReady, Walks, count_of}
use Rattle.walk.specs.declared.Task.{Task}
use Rattle.records.proofs.Lists.{list_count}
use Rattle.walk.proofs.Atoms.{list_parts, atoms_list_of}
use Rattle.walk.proofs.DoneLaws.{child_over, child_gives, further_refuses, further_gives}
use Rattle.walk.proofs.Fits.{Given, given, refused_long, done_is}
use Rattle.walk.proofs.Kept.{let_parts, kept_desugar}
use Rattle.walk.proofs.LetKinds.{let_deep}
use Rattle.walk.proofs.MapLaws.{no_map}
use Rattle.walk.proofs.OnParts.{from, rejoin}
use Rattle.walk.proofs.Results.{room_down, rule_short, step_short}
use Rattle.walk.proofs.RunLaws.{Neutral, neutral_ret, neutral_rule, neutral_step, then_ret, step_refuses, step_gives, own_step}
use Rattle.walk.proofs.Sizes.{depth_desugar, depth_list_of, atoms_desugar}
use Rattle.walk.proofs.Unique.{tells_of, unique_fine}
use Rattle.walk.proofs.Wholes.{from_length, whole_frame, whole_gives}
use Rattle.std.specs.declared.result.Result.{Result}
use Rattle.std.specs.declared.result.Result.TheVariants.{Err}
use Rattle.records.specs.StepAnswer.{step_of}

-- the bindings and the body of a let
unfoldable pub left_of : Body → Left
left_of (BL k l w h bs b) = (list_of bs, b)
left_of (BQ s) = ([], BQ s)
left_of (BV s) = ([], BV s)
left_of (BC l bs t) = ([], BC l bs t)
left_of (BM l f) = ([], BM l f)
left_of (BF l w ca c a b) = ([], BF l w ca c a b)

-- nested as the desugaring says
nested_is : (b : Body) → desugared b ≡ nested (left_of b)
unfolding left_of desugared desugar_sequential_let_bindings
nested_is (BL k l w h bs b) = refl
nested_is (BQ s) = refl
nested_is (BV s) = refl
nested_is (BC l bs t) = refl
nested_is (BM l f) = refl
nested_is (BF l w ca c a b) = refl

-- a let has as many atoms nested
nested_atoms : (b : Body) → atoms (nested (left_of b)) ≡ atoms b
unfolding left_of atoms desugar_sequential_let_bindings
nested_atoms (BL k l w h bs b) = omega (arith, atoms_desugar (list_of bs) b, list_parts (list_of bs), atoms_list_of bs)
nested_atoms (BQ s) = refl
nested_atoms (BV s) = refl
nested_atoms (BC l bs t) = refl
nested_atoms (BM l f) = refl
nested_atoms (BF l w ca c a b) = refl

-- what a sequential let becomes is no deeper than it
nested_deep : (n d x y : ℕ) → x ≤ n + y → max n 1 + y ≤ d → x ≤ nested_level n d
nested_deep zero d x y le₁ le₂ = omega arith
nested_deep (suc n) d x y le₁ le₂ = omega arith

-- and fine
nested_fine : {F d : ℕ} (b : Body) → Fine (IsLet Sequential) F d b → length (nested_bytes (left_of b)) ≤ F → FineNested (count_of b) F d (left_of b)
unfolding IsLet left_of count_of depth levels binding_zone
nested_fine (BL Sequential l w h bs b) f le =
    let kept = let_parts {bs = bs} (record { fields = f.valid.0; lambdas = f.valid.2; clear = f.clear }) in
    let k = kept_desugar (list_of bs) kept.bindings kept.body in
    let deep = depth_desugar (list_of bs) b in
    let count = list_count bs in
    let same = depth_list_of bs in
    record {
      many = count;
      fine =
          record {
            valid = (k.fields, omega (arith, f.valid.1), k.lambdas);
            zone = f.zone;
            clear = k.clear;
            only = tt;
            deep = nested_deep (bindings_count bs) _ _ (max (list_depth (list_of bs)) (depth b)) (omega arith) (omega (arith, f.deep));
            short = le;
          };
    }
nested_fine (BL Parallel l w h bs b) f le = let z : ◌≡◌ {A = ℕ} 0 1 = cc f.only in absurd (omega arith)
nested_fine (BL Assign l w h bs b) f le = let z : ◌≡◌ {A = ℕ} 0 1 = cc f.only in absurd (omega arith)
nested_fine (BQ s) f le = absurd f.only
nested_fine (BV s) f le = absurd f.only
nested_fine (BC l bs t) f le = absurd f.only
nested_fine (BM l m) f le = absurd f.only
nested_fine (BF l w ca c a b) f le = absurd f.only

-- what runs for the nested lets neither sees nor changes the sum
neutral_nested : (F n : ℕ) (bs : List Binding) (b : Body) → Neutral (rename_args_desugared F (walk F n) bs b)
unfolding rename_args_desugared
neutral_nested F n [] b = neutral_rule F true n [] b
neutral_nested F n (BB l nl p e ∷ bs) b = neutral_step F body_size _

-- and gives at most F bytes
nested_short : (F n : ℕ) (bs : List Binding) (b : Body) (c : ℕ) {u : Body} {e : ℕ} → outcome (rename_args_desugared F (walk F n) bs b c 0) ≡ gives u e → length (body_bytes u) ≤ F
unfolding rename_args_desugared body_size
nested_short F n [] b c q = rule_short F true n [] b c q
nested_short F n (BB l nl p e ∷ bs) b c q = step_short F body_size _ c 0 q

-- what a sequential let gives
module _ (F n : ℕ) (bs : List Binding) (b : Body) (c : ℕ) where
  abbrev became : Body
  became = desugar_sequential_let_bindings bs b

  back : outcome (ret became c 0) ≡ gives became c
  unfolding ret outcome
  back = refl

  too_long : F < length (body_bytes became) → outcome (rename_args_sequential F (walk F n) bs b c 0) ≡ refuses over_long
  unfolding rename_args_sequential body_size
  too_long lt = child_over F body_size _ (neutral_ret became) c 0 back (omega arith)

  comes_back : length (body_bytes became) ≤ F
      → outcome (rename_args_sequential F (walk F n) bs b c 0) ≡ outcome ((further F body_size became (λ _. rename_args_desugared F (walk F n) bs b) >>= ret) c (0 + body_size became))
  unfolding rename_args_sequential body_size
  comes_back le =
      child_gives F body_size (λ d. further F body_size d (λ _. rename_args_desugared F (walk F n) bs b)) (neutral_ret became) c 0 back (omega arith)
      ∙ sym (then_ret (further F body_size became (λ _. rename_args_desugared F (walk F n) bs b)) c (0 + body_size became))

  refuses_so : {q : Refusal} → length (body_bytes became) ≤ F → outcome (rename_args_desugared F (walk F n) bs b c 0) ≡ refuses q → outcome (rename_args_sequential F (walk F n) bs b c 0) ≡ refuses q
  refuses_so le e = comes_back le ∙ further_refuses F body_size ret (λ _. rename_args_desugared F (walk F n) bs b) became (neutral_nested F n bs b) c (0 + body_size became) e

  gives_so : {u : Body} {d : ℕ} → length (body_bytes became) ≤ F → outcome (rename_args_desugared F (walk F n) bs b c 0) ≡ gives u d → outcome (rename_args_sequential F (walk F n) bs b c 0) ≡ gives u d
  unfolding ret outcome body_size
  gives_so {u} {d} le e =
      comes_back le
      ∙ further_gives F body_size ret (λ _. rename_args_desugared F (walk F n) bs b) became (neutral_nested F n bs b) c (0 + body_size became) e (omega (arith, nested_short F n bs b c e))

-- what Own gives of one
own_sequential : (F d : ℕ) (m : NameMap) (b : Body) (c : ℕ) → 1 ≤ d → IsLet Sequential b
    → outcome (rule F true d m b c 0) ≡ outcome (step F body_size (rename_args_sequential F (walk F (d - 1)) (left_of b).0 (left_of b).1) c 0)
unfolding IsLet left_of rename_args_bodyform
own_sequential F d m (BL Sequential l w h bs b) c le p = own_step F d m (BL Sequential l w h bs b) c le
own_sequential F d m (BL Parallel l w h bs b) c le p = let z : ◌≡◌ {A = ℕ} 0 1 = cc p in absurd (omega arith)
own_sequential F d m (BL Assign l w h bs b) c le p = let z : ◌≡◌ {A = ℕ} 0 1 = cc p in absurd (omega arith)
own_sequential F d m (BQ s) c le p = absurd p
own_sequential F d m (BV s) c le p = absurd p
own_sequential F d m (BC l bs t) c le p = absurd p
own_sequential F d m (BM l f) c le p = absurd p
own_sequential F d m (BF l w ca k a b) c le p = absurd p

module _ (F d : ℕ) (ld : 1 ≤ d) (m : NameMap) (b : Body) (c : ℕ) (only : IsLet Sequential b) where
  abbrev left : Left
  left = left_of b

  -- 7 where the nested lets are too long
  own_long : F < length (nested_bytes left) → outcome (rule F true d m b c 0) ≡ refuses over_long
  own_long lt = own_sequential F d m b c ld only ∙ step_refuses F body_size _ c 0 (too_long F (d - 1) left.0 left.1 c lt)

  -- else what they give
  module _ (le : length (nested_bytes left) ≤ F) where
    own_refuses : {q : Refusal} → outcome (rename_args_desugared F (walk F (d - 1)) left.0 left.1 c 0) ≡ refuses q → outcome (rule F true d m b c 0) ≡ refuses q
    own_refuses e = own_sequential F d m b c ld only ∙ step_refuses F body_size _ c 0 (refuses_so F (d - 1) left.0 left.1 c le e)

    own_gives : {u : Body} {k : ℕ} → outcome (rename_args_desugared F (walk F (d - 1)) left.0 left.1 c 0) ≡ gives u k → outcome (rule F true d m b c 0) ≡ gives u k
    unfolding body_size
    own_gives e = own_sequential F d m b c ld only ∙ step_gives F body_size _ c 0 (gives_so F (d - 1) left.0 left.1 c le e) (nested_short F (d - 1) left.0 left.1 c e)

-- the task of a step without a map
abbrev pub lone_task : Task → Task
lone_task t = record { free = t.free; map = 0; f = t.f; depth = t.depth; counter = t.counter }

-- the task of Own of w bytes at the start of memory
abbrev pub nested_task : Task → ℕ → ℕ → Task
nested_task t w c = record { free = w; map = 0; f = t.f; depth = t.depth; counter = c }

module _ {mem : Bytes} {t : Task} (p : BodyReady (IsLet Sequential) true mem t) where
  -- its levels and its room
  two : 2 ≤ t.depth
  two = let_deep Sequential p.good

  level : room t.f t.depth ≡ 8 * t.f + room t.f (t.depth - 1)
  level = room_down t.f t.depth (omega (arith, two))

  -- what desugaring is asked
  pub sequential_asks : Asks body_bytes (ValidKind (IsLet Sequential)) mem (lone_task t)
  sequential_asks =
      record {
        tree = p.tree;
        good = record { valid = p.good.valid; only = p.good.only };
        there = p.there;
        below = p.below;
        m = [];
        map = no_map;
        room = omega (arith, p.room, level);
      }

  -- the let is desugared
  module _ {a : Bytes} {r : Result Step Refusal} (s : Desugars mem a (lone_task t) r) where
    got : Gives body_bytes a t.free (length (body_bytes p.tree)) (fitting body_bytes t.f t.counter (nested (left_of p.tree))) r
    got =
        subst (λ (b : Body). Gives body_bytes a t.free (length (body_bytes p.tree)) (fitting body_bytes t.f t.counter b) r) (nested_is p.tree)
        (s.says [] no_map p.tree p.there p.below (record { valid = p.good.valid; only = p.good.only }))

    -- too long
    pub sequential_long : (k : Refusal) → r ≡ Err k → Walks (IsLet Sequential) true mem a t (Err k)
    sequential_long k e =
        let z = refused_long body_bytes t.f t.counter (nested (left_of p.tree)) k (unmade k e got) in
        tells_of unique_fine p (same_wider t.free (length mem - t.map) (omega arith) (omega (arith, p.room, p.lone refl, level)) s.frame)
        (refused k (own_long t.f t.depth (omega (arith, two)) p.m p.tree t.counter p.good.only z.long ∙ ap refuses (sym z.is)) refl)

    -- and fits
    module _ (i w c : ℕ) (e : r ≡ step_of i w c) {count : ℕ} (many : count ≡ count_of p.tree) where
      fine_left : length (nested_bytes (left_of p.tree)) ≤ t.f → FineNested count t.f t.depth (left_of p.tree)
      fine_left le = subst (λ (n : ℕ). FineNested n t.f t.depth (left_of p.tree)) (sym many) (nested_fine p.tree p.good le)

      stands : Given body_bytes a t.free (length (body_bytes p.tree)) t.f t.counter (nested (left_of p.tree)) i w c
      stands = given t.f t.counter (nested (left_of p.tree)) i w c e got

      -- what Own of it is asked
      pub nested_ready : NestedReady (from a t.free) count (nested_task t w c)
      nested_ready =
          let z = from_length a t.free (omega (arith, p.room, s.frame.size)) in
          record {
            tree = left_of p.tree;
            good = fine_left stands.short;
            there = into stands.out;
            below = omega (arith, stands.wrote);
            m = [];
            map = no_map;
            lone = λ _. refl;
            room = omega (arith, stands.wrote, stands.short, p.room, s.frame.size, level);
            counts = omega (arith, stands.counter, p.counts, ap (dbl t.depth) (nested_atoms p.tree));
            longest = p.longest;
          }

      -- Own of it
      module _ {y : Bytes} {q : Result Step Refusal} (z : WalksNested (from a t.free) y count (nested_task t w c) q) where
        abbrev end : Bytes
        end = rejoin a t.free y

        fit : t.free + w + 0 ≤ length a
        fit = omega (arith, stands.wrote, stands.short, p.room, s.frame.size, level)

        -- what it gives
        abbrev made_of : ℕ → Outcome Body
        made_of k = outcome (rename_args_desugared t.f (walk t.f (t.depth - 1)) (left_of p.tree).0 (left_of p.tree).1 k 0)

        nested_gives : Gives body_bytes end (t.free + w) (length (nested_bytes (left_of p.tree))) (made_of t.counter) q
        nested_gives =
            subst (λ (k : ℕ). Gives body_bytes end (t.free + w) (length (nested_bytes (left_of p.tree))) (made_of k) q) stands.counter
            (whole_gives a t.free w 0 fit z.frame (t.free + w) refl
            (z.says [] no_map (left_of p.tree) (into stands.out) (omega (arith, stands.wrote)) (fine_left stands.short)))

        nested_frame : SameOutside a end (t.free + w) (length a - 0)
        nested_frame = whole_frame a t.free w 0 fit z.frame

        framed : SameOutside mem end t.free (length mem - t.map)
        framed =
            let l = s.frame.size in
            let k = p.lone refl in
            same_then t.free (length mem - t.map) (omega arith) (omega arith) (omega (arith, p.room, level)) (omega arith) s.frame nested_frame

        -- it is refused
        pub sequential_refused : (k : Refusal) → q ≡ Err k → Walks (IsLet Sequential) true mem end t (Err k)
        sequential_refused k x =
            tells_of unique_fine p framed
            (refused k (own_refuses t.f t.depth (omega (arith, two)) p.m p.tree t.counter p.good.only stands.short (unmade k x nested_gives)) refl)

        -- its result can move down
        pub sequential_moves : (j v d : ℕ) → q ≡ step_of j v d → Movable end (t.free + w) t.free v
        sequential_moves j v d x =
            let g = made j v d x nested_gives in
            record { source = omega (arith, g.out.fits, g.wrote); target = omega (arith, g.out.fits, g.wrote); safe = inr (omega arith) }

        -- and is then the let's
        pub sequential_done : {zs : Bytes} (j v d : ℕ) → q ≡ step_of j v d → Filled end zs t.free (drop (t.free + w) end) v → Walks (IsLet Sequential) true mem zs t (step_of i v d)
        sequential_done {zs} j v d x f =
            let g = made j v d x nested_gives in
            let len = g.wrote in
            let fits = sequential_moves j v d x in
            let l = nested_frame.size in
            let k = framed.size in
            let m = p.lone refl in
            tells_of unique_fine p (same_then t.free (length mem - t.map) (omega arith) (omega arith) (omega arith) (omega (arith, fits.source)) framed f.frame)
            (gave g.u d (own_gives t.f t.depth (omega (arith, two)) p.m p.tree t.counter p.good.only stands.short g.is) (done_is stands.read len refl)
            (copied_at (t.free + w) t.free f (omega (arith, fits.target)) g.out (omega arith) (omega arith) (omega arith)))

-- how many bindings a view says
pub seen_count : {mem : Bytes} {F d : ℕ} {v : LetView} (b : Body) → Fine (IsLet Sequential) F d b → At mem 0 (body_bytes b) → SeesLet mem v → v.count ≡ count_of b
unfolding IsLet count_of
seen_count (BL k l w h bs b) f a s = (s.sees k l w h bs b f.valid a).count
seen_count (BQ s) f a v = absurd f.only
seen_count (BV s) f a v = absurd f.only
seen_count (BC l bs t) f a v = absurd f.only
seen_count (BM l m) f a v = absurd f.only
seen_count (BF l w ca c x b) f a v = absurd f.only
