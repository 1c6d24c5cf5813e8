-- Own of an assign whose order is known (`ordered`), and of any assign (`assign`): its bindings one after the other, then the rest of it; or its deadlock.
-- Assumes nothing.
use mathlib.Core.Path.{◌≡◌, refl, sym, ap, subst, ◌∙◌}
use mathlib.Core.Bool.{true}
use mathlib.Core.List.{List, [], ◌++◌}
use native.Mathlib.Omega.{arith}
use Prim.Native.Nat.{ℕ, suc, ◌+◌, ◌*◌, ◌-◌, ◌≤◌}
use lib.ListN.{length, take, get_or, length-append}
use lib.Seq.{length-take-le, get_or-take, take_at, take-length}
use Rattle.names.specs.Maps.{NameMap}
use Rattle.names.specs.Names.{Bytes}
use Rattle.names.specs.Segments.{At, SameOutside}
use Rattle.names.specs.declared.Refusal.{Refusal}
use Rattle.names.proofs.Frames.{same_then, same_wider, at_below}
use Rattle.ordering.specs.Toposort.{Toposorted, ordered, deadlock}
use Rattle.ordering.specs.Words.{toposort_assign_bindings}
use Rattle.ordering.specs.declared.Order.{Order}
use Rattle.records.specs.StepAnswer.{Gives, refused}
use Rattle.records.specs.Depth.{levels, depth, bindings_depth, list_depth}
use Rattle.records.specs.Limits.{level_limit, lambda_limit}
use Rattle.records.specs.Lists.{joined, Each}
use Rattle.records.specs.Parts.{ValidBinding}
use Rattle.records.specs.Read.{binding_zone}
use Rattle.records.specs.Records.{Loc, Body, BL, body_bytes, Binding, binding_bytes, Bindings, []ᵍ, ◌∷ᵍ◌, bindings_bytes, list_of, to_bindings}
use Rattle.records.specs.declared.Kind.TheVariants.{Assign}
use Rattle.records.specs.Valid.{IsLet, BodyFields, BindingsFields, lambda_depth, bindings_lambda_depth, NoMod, BindingsNoMod}
use Rattle.records.specs.Views.{SeesLet}
use Rattle.records.specs.declared.LetView.{LetView}
use Rattle.records.specs.declared.Step.{Step}
use Rattle.records.specs.declared.Zone.{Zone}
use Rattle.records.proofs.Lists.{list_count, list_bytes}
use Rattle.walk.specs.Arena.{outcome}
use Rattle.walk.specs.AssignWalks.{MakesRun, AssignBinding, BindingStarts, at_all, binding_size, BindingsReady, MakesBindings, Placed, body_draws, let_bindings, turning, TurnedReady, Turns, OrderedReady}
use Rattle.walk.specs.Bodyforms.{Rules, walk, args_then_in, rename_assign_bindings, rename_args_ordered, rename_args_assign, rename_args_bodyform, deadlocked}
use Rattle.walk.specs.Draws.{atoms, binding_atoms, list_atoms, dbl}
use Rattle.walk.specs.DrawnMaps.{map_growth}
use Rattle.walk.specs.Room.{room}
use Rattle.walk.specs.Steps.{M, ◌>>=◌, ret, refuse, body_size, step}
use Rattle.walk.specs.Walking.{count_of, from_sum, rule, Fine, Walks}
use Rattle.walk.specs.declared.Made.{Made}
use Rattle.walk.specs.declared.Task.{Task}
use Rattle.walk.proofs.AssignSizes.{order_size, atoms_at, at_in}
use Rattle.walk.proofs.AssignTurns.{each_valid}
use Rattle.walk.proofs.Atoms.{atoms_list_of}
use Rattle.walk.proofs.LetKinds.{let_deep}
use Rattle.walk.proofs.LetLaws.{Let, let_parts, let_closes}
use Rattle.walk.proofs.Limits.{runs_walk, runs_rename_assign_bindings}
use Rattle.walk.proofs.MakesLaws.{MadeOf, made_of, unmade_of}
use Rattle.walk.proofs.Results.{room_down, led_counter}
use Rattle.walk.proofs.RunLaws.{own_step, step_refuses, step_same}
use Rattle.walk.proofs.Sizes.{dbl_add, dbl_mono, dbl_twice, order_below, order_sum}
use Rattle.walk.proofs.TurnedLaws.{AssignParts, assign_parts}
use Rattle.walk.proofs.Unique.{unique_fine, tells_of}
use Rattle.std.specs.declared.result.Result.{Result}
use Rattle.std.specs.declared.result.Result.TheVariants.{Err}
use Rattle.walk.specs.RuleAnswers.{made_with}

-- each binding of an assign that is fine
each_fine : (F d : ℕ) (z : Zone) (bs : Bindings) → BindingsFields bs → bindings_depth bs ≤ d → bindings_depth bs ≤ level_limit → bindings_lambda_depth bs ≤ lambda_limit → BindingsNoMod z bs
    → length (bindings_bytes bs) ≤ F → Each (AssignBinding F d) (list_of bs)
unfolding list_of Each BindingsFields bindings_depth bindings_lambda_depth BindingsNoMod bindings_bytes
each_fine F d z []ᵍ v e l k n s = tt
each_fine F d z (b ∷ᵍ bs) v e l k n s =
    let q = length-append (binding_bytes b) (bindings_bytes bs) in (
      record { valid = (v.0, omega arith, omega arith); zone = z; clear = n.0; deep = omega arith; short = omega arith },
      each_fine F d z bs v.1 (omega arith) (omega arith) (omega arith) n.1 (omega arith),
    )

-- an assign by its order, and at a deadlock
module _ (F : ℕ) (q : Rules) (l : Loc) (w h : Bytes) (bs : List Binding) (e : Body) where
  by_order : (is : List ℕ) → toposort_assign_bindings bs ≡ ordered is → rename_args_assign F q l w h bs e ≡ rename_args_ordered F q l w h bs e is
  unfolding rename_args_assign
  by_order is o = ap (λ (z : Toposorted). elim z as (λ _. M Body) [ deadlock _ ↦ refuse (deadlocked l) | ordered js ↦ rename_args_ordered F q l w h bs e js ]) o

  pub no_order : (left : List ℕ) → toposort_assign_bindings bs ≡ deadlock left → rename_args_assign F q l w h bs e ≡ refuse (deadlocked l)
  unfolding rename_args_assign
  no_order left o = ap (λ (z : Toposorted). elim z as (λ _. M Body) [ deadlock _ ↦ refuse (deadlocked l) | ordered js ↦ rename_args_ordered F q l w h bs e js ]) o

-- Own of an assign is a step one level up
pub own_assign : (F d : ℕ) (m : NameMap) (b : Body) (v : AssignParts b) (c : ℕ) → 1 ≤ d
    → outcome (rule F true d m b c 0) ≡ outcome (step F body_size (rename_args_assign F (walk F (d - 1)) v.l v.w v.h (list_of v.bs) v.e) c 0)
unfolding rename_args_bodyform
own_assign F d m b v c le =
    ap (λ (z : Body). outcome (rule F true d m z c 0)) v.is ∙ own_step F d m (BL Assign v.l v.w v.h v.bs v.e) c le

module _ {mem : Bytes} {o : Order} {t : Task} (p : OrderedReady mem o t) where
  view : AssignParts p.ready.tree
  view = assign_parts p.ready.tree p.ready.good.only

  abbrev bindings : List Binding
  bindings = list_of view.bs

  abbrev pub order : List ℕ
  order = take o.count o.row

  listed : let_bindings p.ready.tree ≡ bindings
  unfolding let_bindings
  listed = ap let_bindings view.is

  count_is : o.count ≡ length bindings
  count_is = p.count ∙ ap length listed

  pub row_size : length order ≡ o.count
  row_size = length-take-le o.count o.row (omega (arith, p.row, p.few))

  order_is : toposort_assign_bindings bindings ≡ ordered order
  order_is = ap toposort_assign_bindings (sym listed) ∙ p.order

  fine : Fine (IsLet Assign) t.f t.depth (BL Assign view.l view.w view.h view.bs view.e)
  fine = subst (Fine (IsLet Assign) t.f t.depth) view.is p.ready.good

  pub deep : 2 ≤ t.depth
  deep = let_deep Assign p.ready.good

  no_map_length : t.map ≡ 0
  no_map_length = p.ready.lone refl

  pub wide : t.free + (8 * t.f + room t.f (t.depth - 1)) ≤ length mem
  wide = omega (arith, p.ready.room, room_down t.f t.depth deep)

  -- the atoms of its bindings and of its body
  all_atoms : atoms p.ready.tree ≡ list_atoms bindings + atoms view.e
  unfolding atoms
  all_atoms = ap atoms view.is ∙ omega (arith, atoms_list_of view.bs)

  drawn : dbl t.depth (atoms p.ready.tree) ≡ dbl (suc (t.depth - 1)) (list_atoms bindings) + (dbl (t.depth - 1) (atoms view.e) + dbl (t.depth - 1) (atoms view.e))
  drawn =
      let e : t.depth ≡ suc (t.depth - 1) = omega (arith, deep) in
      ap (λ (n : ℕ). dbl n (atoms p.ready.tree)) e ∙ ap (dbl (suc (t.depth - 1))) all_atoms
      ∙ omega (arith, dbl_add (suc (t.depth - 1)) (list_atoms bindings) (atoms view.e), dbl_twice (t.depth - 1) (atoms view.e))

  drawn_first : dbl (suc (t.depth - 1)) (at_all binding_atoms bindings order) ≤ dbl (suc (t.depth - 1)) (list_atoms bindings)
  drawn_first = dbl_mono (suc (t.depth - 1)) (at_all binding_atoms bindings order) (list_atoms bindings) (omega (arith, atoms_at bindings order, order_sum bindings order order_is))

  own : outcome (rule t.f true t.depth [] p.ready.tree t.counter 0)
      ≡ outcome (step t.f body_size (rename_args_ordered t.f (walk t.f (t.depth - 1)) view.l view.w view.h bindings view.e order) t.counter 0)
  own =
      own_assign t.f t.depth [] p.ready.tree view t.counter (omega (arith, deep))
      ∙ ap (λ (m : M Body). outcome (step t.f body_size m t.counter 0)) (by_order t.f (walk t.f (t.depth - 1)) view.l view.w view.h bindings view.e order order_is)

  -- where its bindings start
  module _ {v : LetView} (s : SeesLet mem v) where
    parts : Let t.f t.depth mem v.first (length bindings) Assign view.l view.w view.h view.bs view.e
    parts =
        let a = subst (λ (b : Body). At mem 0 (body_bytes b)) view.is p.ready.there in
        let_parts Assign view.l view.w view.h view.bs view.e fine a (let_closes s Assign view.l view.w view.h view.bs view.e fine.valid a) refl

    closes : v.first + (length (joined binding_bytes bindings) + length (body_bytes view.e)) ≡ length (body_bytes p.ready.tree)
    closes = parts.size ∙ ap (λ (b : Body). length (body_bytes b)) (sym view.is)

    all_fine : Each (AssignBinding t.f (t.depth - 1)) bindings
    unfolding BodyFields depth levels lambda_depth NoMod
    all_fine =
        each_fine t.f (t.depth - 1) (binding_zone Assign fine.zone) view.bs fine.valid.0.4 (omega (arith, fine.deep)) (omega (arith, fine.valid.1)) (omega (arith, fine.valid.2)) fine.clear.0
        (omega (arith, parts.short, ap length (list_bytes view.bs)))

    -- the places of the bindings, in an array that is longer
    module _ (places rest : List ℕ) {n : ℕ} (many : n ≡ o.count + 1)
        (b : (bs : List Binding) → Each ValidBinding bs → At mem v.first (joined binding_bytes bs) → n ≡ suc (length bs) → (get_or places 0 0 ≡ v.first) × BindingStarts mem places bs) where
      abbrev array : List ℕ
      array = places ++ rest

      abbrev starts : List ℕ
      starts = take (o.count + 1) array

      abbrev body : ℕ
      body = get_or array o.count 0

      placed : (get_or places 0 0 ≡ v.first) × BindingStarts mem places bindings
      placed = b bindings (each_valid t.f (t.depth - 1) bindings all_fine) parts.bindings (omega (arith, many, count_is))

      starts_are : starts ≡ places
      starts_are = take_at places rest (o.count + 1) (omega (arith, placed.1.many, count_is))

      found : (get_or starts 0 0 ≡ v.first) × BindingStarts mem starts bindings
      found = subst (λ (z : List ℕ). (get_or z 0 0 ≡ v.first) × BindingStarts mem z bindings) (sym starts_are) placed

      body_is : body ≡ v.first + length (joined binding_bytes bindings)
      body_is =
          let e = get_or-take (o.count + 1) array o.count 0 (omega arith) in
          let k = found.1.starts_at o.count (omega (arith, count_is)) in
          let z = ap (λ (i : ℕ). length (joined binding_bytes (take i bindings))) count_is in
          let y = ap (λ (bs : List Binding). length (joined binding_bytes bs)) (take-length bindings) in
          omega (arith, e, k, found.0, z, y)

      abbrev pub bindings_task : Task
      bindings_task = record { free = t.free + 3 * t.f; map = 0; f = t.f; depth = t.depth - 1; counter = t.counter }

      pub bindings_ready : BindingsReady mem order starts bindings_task
      bindings_ready = record {
        bs = bindings;
        fine = all_fine;
        stand = found.1;
        below = omega (arith, found.0, closes, p.ready.below);
        rows = λ j lt. order_below bindings order order_is (get_or order j 0) (at_in order j lt);
        short = omega (arith, order_size bindings order order_is, closes, p.ready.good.short);
        lone = refl;
        room = omega (arith, wide);
        counts = omega (arith, p.ready.counts, drawn, drawn_first);
        longest = p.ready.longest;
      }

      module _ {a : Bytes} {r : Result Made Refusal} (h : MakesBindings mem a order starts bindings_task r) where
        frame : SameOutside mem a (t.free + t.f) (length mem)
        frame = same_wider (t.free + t.f) (length mem) (omega arith) (omega arith) h.frame

        abbrev run : M (NameMap × List Binding)
        run = rename_assign_bindings t.f (walk t.f (t.depth - 1)) bindings order [] []

        -- what follows the bindings
        abbrev then_body : NameMap × List Binding → M Body
        then_body u = args_then_in t.f (walk t.f (t.depth - 1)) u.0 view.e >>= λ e. ret (BL Assign view.l view.w view.h (to_bindings u.1) e)

        opened : rename_args_ordered t.f (walk t.f (t.depth - 1)) view.l view.w view.h bindings view.e order ≡ (run >>= then_body)
        unfolding rename_args_ordered
        opened = refl

        said : MakesRun (λ u. joined binding_bytes u.1) (λ u. length u.1 ≡ length order) t.f (map_growth * t.f) (at_all binding_size bindings order) a (λ k. t.free + 3 * t.f - k) run t.counter 0 r
        said = h.says bindings all_fine found.1

        pub bindings_refused : (k : Refusal) → r ≡ Err k → Walks (IsLet Assign) true mem a t (Err k)
        bindings_refused k e =
            tells_of unique_fine p.ready (same_wider t.free (length mem - t.map) (omega arith) (omega (arith, no_map_length)) frame)
            (refused k (own ∙ ap (λ (m : M Body). outcome (step t.f body_size m t.counter 0)) opened ∙ step_refuses t.f body_size (run >>= then_body) t.counter 0 (unmade_of k e said then_body)) refl)

        module _ {w x len d : ℕ} (e : r ≡ made_with w x len d) where
          got : MadeOf (λ u. joined binding_bytes u.1) (λ u. length u.1 ≡ length order) t.f (map_growth * t.f) (at_all binding_size bindings order) a (λ k. t.free + 3 * t.f - k) run t.counter 0 w x len d
          got = made_of w x len d e said

          abbrev pub turned_task : Task
          turned_task = record { free = t.free; map = len; f = t.f; depth = t.depth; counter = d }

          counter : d ≤ t.counter + dbl (suc (t.depth - 1)) (at_all binding_atoms bindings order)
          unfolding list_depth
          counter =
              let n = led_counter
              (runs_rename_assign_bindings t.f (t.depth - 1) (walk t.f (t.depth - 1)) (runs_walk t.f (t.depth - 1)) bindings order [] [] parts.deep (order_below bindings order order_is) (omega arith)) t.counter 0 d x got.u got.goes_on in
              omega (arith, n, ap (dbl (suc (t.depth - 1))) (atoms_at bindings order))

          is_placed : Placed p.ready.tree v.first body
          unfolding Placed
          is_placed =
              subst (λ (z : Body). Placed z v.first body) (sym view.is) (
                omega (arith, body_is, ap length (list_bytes view.bs)),
                omega (arith, body_is, closes, ap (λ (z : Body). length (body_bytes z)) view.is),
              )

          after : dbl (t.depth - 1) (atoms view.e) + dbl (t.depth - 1) (atoms view.e) ≡ body_draws (t.depth - 1) p.ready.tree
          unfolding body_draws
          after = sym (ap (body_draws (t.depth - 1)) view.is)

          pub turned_ready : TurnedReady a v.first body w x turned_task
          turned_ready =
              let q = p.ready in
              record {
                ready = record {
                  tree = q.tree;
                  good = q.good;
                  there = at_below frame q.there (omega (arith, q.below));
                  below = q.below;
                  m = got.u.0;
                  map = got.map;
                  lone = λ y. let z : ◌≡◌ {A = ℕ} 0 1 = cc in absurd (omega arith);
                  room = omega (arith, frame.size, wide, got.within.map);
                  counts = omega (arith, q.counts, counter, drawn, drawn_first, after);
                  longest = q.longest;
                };
                placed = is_placed;
                wrote = omega (arith, got.within.long, got.within.sum, order_size bindings order order_is, closes, q.good.short);
                held = got.within.sum;
              }

          -- the run goes on with the body
          runs : outcome (rename_args_ordered t.f (walk t.f (t.depth - 1)) view.l view.w view.h bindings view.e order t.counter 0)
              ≡ outcome (from_sum x (turning t.f (walk t.f (t.depth - 1)) got.u.0 got.u.1 p.ready.tree) d 0)
          unfolding turning
          runs =
              ap (λ (m : M Body). outcome (m t.counter 0)) opened ∙ got.goes_on then_body
              ∙ ap (λ (z : Body). outcome (turning t.f (walk t.f (t.depth - 1)) got.u.0 got.u.1 z d x)) (sym view.is)

          same_count : length got.u.1 ≡ count_of p.ready.tree
          unfolding count_of
          same_count = got.has ∙ row_size ∙ count_is ∙ list_count view.bs ∙ sym (ap count_of view.is)

          pub ordered_done : {end : Bytes} {q : Result Step Refusal} → Turns a end w x turned_task q → Walks (IsLet Assign) true mem end t q
          unfolding turned_ready
          ordered_done {end} {q} g =
              let z = turned_ready.ready in
              let n = g.says z.m z.map z.tree z.there z.below z.good got.u.1 got.out got.wrote same_count in
              tells_of unique_fine p.ready
              (same_then t.free (length mem - t.map) (omega arith) (omega arith) (omega (arith, no_map_length)) (omega (arith, no_map_length, frame.size)) frame g.frame)
              (subst (λ (k : _). Gives body_bytes end t.free (length (body_bytes p.ready.tree)) k q)
              (sym (own ∙ step_same t.f body_size _ (from_sum x (turning t.f (walk t.f (t.depth - 1)) got.u.0 got.u.1 p.ready.tree)) t.counter d 0 0 runs)) n)
