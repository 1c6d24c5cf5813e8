-- Own of the nested lets that a sequential let became: with no binding, of its body; with some, of a parallel let of one. Assumes nothing.
use mathlib.Core.Path.{◌≡◌, refl, sym, ap, subst, ◌∙◌}
use mathlib.Core.Bool.{true}
use mathlib.Core.List.{List, [], ◌∷◌}
use native.Mathlib.Omega.{arith}
use Prim.Native.Nat.{ℕ, zero, suc, ◌+◌, ◌*◌, ◌-◌, ◌≤◌}
use lib.ListN.{length}
use Rattle.names.specs.Names.{Bytes}
use Rattle.names.specs.Segments.{SameOutside}
use Rattle.records.specs.StepAnswer.{Gives}
use Rattle.records.specs.Records.{Body, Binding, BB, list_of, body_bytes, bindings_count}
use Rattle.records.specs.declared.Kind.TheVariants.{Parallel}
use Rattle.records.specs.Valid.{IsLet}
use Rattle.records.specs.declared.Step.{Step}
use Rattle.walk.specs.Arena.{outcome}
use Rattle.walk.specs.Bodyforms.{Rules, desugar_sequential_let_bindings, log_assign, rename_args_desugared, rename_args_bodyform, body_rules, walk}
use Rattle.walk.specs.Draws.{atoms}
use Rattle.walk.specs.Room.{room}
use Rattle.walk.specs.SequentialWalks.{nested, nested_bytes, NestedReady, WalksNested}
use Rattle.walk.specs.Steps.{Out}
use Rattle.walk.specs.Walking.{AnyBody, BodyReady, Walks, count_of, let_needs, ParallelReady}
use Rattle.walk.specs.declared.Task.{Task}
use Rattle.walk.proofs.MapLaws.{no_map}
use Rattle.walk.proofs.Results.{some_level, level_above, dbl_down, fine_as}
use Rattle.std.specs.declared.result.Result.{Result}
use Rattle.names.specs.declared.Refusal.{Refusal}

-- what Own of a body alone is given
abbrev pub level_down : Task → Task
level_down t = record { free = t.free; map = 0; f = t.f; depth = t.depth - 1; counter = t.counter }

-- with no binding: the body
module _ {mem : Bytes} {t : Task} where
  pub none_ready : (count : ℕ) → count ≡ 0 → NestedReady mem count t → BodyReady AnyBody true mem (level_down t)
  none_ready zero e p =
      record {
        tree = nested p.tree;
        good = p.good.fine;
        there = p.there;
        below = p.below;
        m = [];
        map = no_map;
        lone = λ _. refl;
        room = omega (arith, p.room);
        counts = omega (arith, p.counts, dbl_down t.depth (atoms (nested p.tree)) (omega (arith, some_level p.good.fine)));
        longest = p.longest;
      }
  none_ready (suc n) e p = absurd (omega arith)

  -- it stands one level down
  pub none_level : (count : ℕ) → count ≡ 0 → NestedReady mem count t → 1 ≤ t.depth
  none_level zero e p = omega (arith, some_level p.good.fine)
  none_level (suc n) e p = absurd (omega arith)

-- what runs for it
own_none : (F : ℕ) (r : Rules) (bs : List Binding) (b : Body) (c x : ℕ) → length bs ≡ 0
    → rename_args_desugared F r bs b c x ≡ r.args_bodyform (desugar_sequential_let_bindings bs b) c x
unfolding rename_args_desugared desugar_sequential_let_bindings
own_none F r [] b c x e = refl
own_none F r (b ∷ bs) _ c x e = absurd (omega arith)

module _ {mem new : Bytes} {t : Task} {r : Result Step Refusal} where
  -- its answer
  pub none_walks : (count : ℕ) → count ≡ 0 → NestedReady mem count t → Walks AnyBody true mem new (level_down t) r → WalksNested mem new count t r
  none_walks zero e p s =
      let z = p.lone refl in
      let w : length mem - t.map ≡ length mem - 0 = omega arith in
      record {
        frame = subst (SameOutside mem new t.free) (sym w) s.frame;
        says = λ m map x there below good.
            subst (λ (o : Out Body). Gives body_bytes new t.free (length (nested_bytes x)) (outcome o) r) (sym (own_none t.f (walk t.f (t.depth - 1)) x.0 x.1 t.counter 0 good.many))
            (s.says [] no_map (nested x) there below good.fine);
      }
  none_walks (suc n) e p s = absurd (omega arith)

-- with bindings: a parallel let of one
some_let : (bs : List Binding) (b : Body) → 1 ≤ length bs → IsLet Parallel (desugar_sequential_let_bindings bs b)
unfolding desugar_sequential_let_bindings IsLet
some_let [] b le = absurd (omega arith)
some_let (BB l nl p e ∷ bs) b le = refl

-- its needs
some_fits : (F n : ℕ) (bs : List Binding) (b : Body) → 1 ≤ length bs → let_needs F (suc n) (desugar_sequential_let_bindings bs b) ≡ 7 * F + room F n
unfolding desugar_sequential_let_bindings let_needs count_of bindings_count
some_fits F n [] b le = absurd (omega arith)
some_fits F n (BB l nl p e ∷ bs) b le = omega arith

-- what runs for it
own_some : (F n : ℕ) (bs : List Binding) (b : Body) (c x : ℕ) → 1 ≤ length bs
    → rename_args_desugared F (walk F n) bs b c x ≡ (walk F (suc n)).args_bodyform (desugar_sequential_let_bindings bs b) c x
unfolding rename_args_desugared desugar_sequential_let_bindings list_of walk body_rules log_assign rename_args_bodyform
own_some F n [] b c x le = absurd (omega arith)
own_some F n (BB i j p e ∷ bs) b c x le = refl

-- the same at a level
module _ (F d : ℕ) (ld : 1 ≤ d) (bs : List Binding) (b : Body) (le : 1 ≤ length bs) where
  fits_at : let_needs F d (desugar_sequential_let_bindings bs b) ≡ 7 * F + room F (d - 1)
  fits_at = ap (λ (k : ℕ). let_needs F k (desugar_sequential_let_bindings bs b)) (sym (level_above d ld)) ∙ some_fits F (d - 1) bs b le

  own_at : (c x : ℕ) → rename_args_desugared F (walk F (d - 1)) bs b c x ≡ (walk F d).args_bodyform (desugar_sequential_let_bindings bs b) c x
  own_at c x = own_some F (d - 1) bs b c x le ∙ ap (λ (k : ℕ). (walk F k).args_bodyform (desugar_sequential_let_bindings bs b) c x) (level_above d ld)

module _ {mem : Bytes} {t : Task} where
  -- what Own of it is asked
  pub some_ready : (count : ℕ) → (count ≡ 0 → ⊥) → NestedReady mem count t → ParallelReady mem t
  some_ready zero e p = absurd (e refl)
  some_ready (suc n) e p =
      let x = p.tree in
      let many : 1 ≤ length x.0 = omega (arith, p.good.many) in
      record {
        tree = nested x;
        good = fine_as (some_let x.0 x.1 many) p.good.fine;
        there = p.there;
        below = p.below;
        m = p.m;
        map = p.map;
        lone = p.lone;
        room = omega (arith, p.room, fits_at t.f t.depth (some_level p.good.fine) x.0 x.1 many);
        counts = p.counts;
        longest = p.longest;
      }

module _ {mem new : Bytes} {t : Task} {r : Result Step Refusal} where
  -- its answer
  pub some_walks : (count : ℕ) → (count ≡ 0 → ⊥) → Walks (IsLet Parallel) true mem new t r → WalksNested mem new count t r
  some_walks zero e s = absurd (e refl)
  some_walks (suc n) e s =
      record {
        frame = s.frame;
        says = λ m map x there below good.
            let many : 1 ≤ length x.0 = omega (arith, good.many) in
            subst (λ (o : Out Body). Gives body_bytes new t.free (length (nested_bytes x)) (outcome o) r) (sym (own_at t.f t.depth (some_level good.fine) x.0 x.1 many t.counter 0))
            (s.says m map (nested x) there below (fine_as (some_let x.0 x.1 many) good.fine));
      }
