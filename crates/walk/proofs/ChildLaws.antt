-- A child by the rules of a way: the rule of its kind, and its result in the sum. Assumes nothing.
use mathlib.Core.Path.{◌≡◌, refl, sym, subst, ◌∙◌}
use mathlib.Core.Bool.{Bool, true, false}
use native.Mathlib.Omega.{arith}
use borrow.Author.Tests.{leb-true, leb-false}
use Prim.Native.Nat.{ℕ, ◌≤◌, ◌<◌}
use lib.Dec.{leb}
use lib.ListN.{length}
use Rattle.names.specs.Maps.{NameMap}
use Rattle.names.specs.Names.{Bytes}
use Rattle.names.specs.declared.Refusal.{Refusal}
use Rattle.records.specs.StepAnswer.{gives, refuses, Gives}
use Rattle.records.specs.declared.Step.{Step}
use Rattle.records.proofs.StepAnswers.{Made, made, unmade}
use Rattle.walk.specs.Arena.{outcome}
use Rattle.walk.specs.FormWalks.{TreeOf, tree_bytes, tree_size, tree_rule, TreeReady, WalksTree, by_args, child_by, ComesOut, came, stayed, new_sum, Sumable, AddsResult, ChildReady, WalksChild}
use Rattle.walk.specs.Steps.{DoneWith, RefusedWith, over_long}
use Rattle.walk.specs.declared.Child.{Child}
use Rattle.walk.specs.declared.Piece.{Piece}
use Rattle.walk.specs.declared.Task.{Task}
use Rattle.walk.specs.declared.Way.{Way}
use Rattle.walk.specs.declared.Way.TheVariants.{Own, In, Further}
use Rattle.walk.proofs.DoneLaws.{child_done, child_long, child_stops, further_done, further_long, further_stops}
use Rattle.walk.proofs.TreeLaws.{unique_tree, neutral_tree, tree_within, tree_length, tree_made}
use Rattle.walk.proofs.Unique.{tells_of}
use Rattle.walk.proofs.Wholes.{took_is}
use Rattle.std.specs.declared.result.Result.{Result}
use Rattle.std.specs.declared.result.Result.TheVariants.{Err}
use Rattle.records.specs.StepAnswer.{step_of}

-- a use of a rule, where its kind and which rule it is are known
module _ {k : Child} {owning : Bool} {old : Bytes} {t : Task} (j : Child) (b : Bool) where
  pub ready_at : k ≡ j → owning ≡ b → TreeReady k owning old t → TreeReady j b old t
  ready_at e f p = subst (λ (o : Bool). TreeReady j o old t) f (subst (λ (i : Child). TreeReady i owning old t) e p)

  -- and what is answered of it
  pub walks_at : {new : Bytes} {r : Result Step Refusal} → k ≡ j → owning ≡ b → WalksTree j b old new t r → WalksTree k owning old new t r
  walks_at {new} {r} e f s = subst (λ (i : Child). WalksTree i owning old new t r) (sym e) (subst (λ (o : Bool). WalksTree j o old new t r) (sym f) s)

-- the run of a child
module _ (F : ℕ) (k : Child) (d : ℕ) (m : NameMap) (u : TreeOf k) (c x : ℕ) where
  way_stops : (way : Way) {q : Refusal} → outcome (tree_rule F k (by_args way) d m u c 0) ≡ refuses q → RefusedWith (child_by F k way d m u c x) q
  way_stops Own e = child_stops F (tree_size k) (neutral_tree F k true d m u) c x e
  way_stops In e = child_stops F (tree_size k) (neutral_tree F k false d m u) c x e
  way_stops Further e = further_stops F (tree_size k) (tree_rule F k false d m) u (neutral_tree F k false d m u) c x e

  -- the sum after it
  abbrev sum_then : Way → TreeOf k → ℕ
  sum_then way v = new_sum way x (length (tree_bytes k u)) (length (tree_bytes k v))

  module _ {v : TreeOf k} {c' : ℕ} where
    -- it is done where its result fits
    way_done : (way : Way) → outcome (tree_rule F k (by_args way) d m u c 0) ≡ gives v c' → sum_then way v ≤ F → DoneWith (child_by F k way d m u c x) v c' (sum_then way v)
    way_done Own e le = rw (tree_length k v) at (child_done F (tree_size k) (neutral_tree F k true d m u) c x e (omega (arith, tree_length k v)))
    way_done In e le = rw (tree_length k v) at (child_done F (tree_size k) (neutral_tree F k false d m u) c x e (omega (arith, tree_length k v)))
    way_done Further e le =
        rw (tree_length k u, tree_length k v) at (further_done F (tree_size k) (tree_rule F k false d m) u (neutral_tree F k false d m u) c x e (omega (arith, tree_length k u, tree_length k v)))

    -- and refused with 7 where it does not
    way_long : (way : Way) → outcome (tree_rule F k (by_args way) d m u c 0) ≡ gives v c' → F < sum_then way v → RefusedWith (child_by F k way d m u c x) over_long
    way_long Own e lt = child_long F (tree_size k) (neutral_tree F k true d m u) c x e (omega (arith, tree_length k v))
    way_long In e lt = child_long F (tree_size k) (neutral_tree F k false d m u) c x e (omega (arith, tree_length k v))
    way_long Further e lt = further_long F (tree_size k) (tree_rule F k false d m) u (neutral_tree F k false d m u) c x e (omega (arith, tree_length k u, tree_length k v))

module _ {k : Child} {way : Way} {old : Bytes} {sum : ℕ} {t : Task} (p : ChildReady k way old sum t) {owning : Bool} (is : owning ≡ by_args way) where
  -- by the rule of the way
  pub child_asks : TreeReady k owning old t
  child_asks = subst (λ (o : Bool). TreeReady k o old t) (sym is) p.ready

  module _ {new : Bytes} {r : Result Step Refusal} (s : WalksTree k owning old new t r) where
    -- what its rule answers
    walked : WalksTree k (by_args way) old new t r
    walked = subst (λ (o : Bool). WalksTree k o old new t r) is s

    -- and of the tree that is known
    told : Gives (tree_bytes k) new t.free (length (tree_bytes k p.ready.tree)) (outcome (tree_rule t.f k (by_args way) t.depth p.ready.m p.ready.tree t.counter 0)) r
    told = walked.says p.ready.m p.ready.map p.ready.tree p.ready.there p.ready.below p.ready.good

    -- what comes of that tree is the child's answer
    tells : {z : Result Piece Refusal} → ComesOut (tree_bytes k) t.f new t.free (length (tree_bytes k p.ready.tree)) (child_by t.f k way t.depth p.ready.m p.ready.tree) t.counter sum z
        → WalksChild k way old new sum t z
    tells x = tells_of (unique_tree k t.f t.depth) p.ready walked.frame x

    -- its rule refuses
    pub child_refused : (q : Refusal) → r ≡ Err q → WalksChild k way old new sum t (Err q)
    child_refused q e = tells (stayed q (way_stops t.f k t.depth p.ready.m p.ready.tree t.counter sum way (unmade q e told)) refl)

    module _ (i w d : ℕ) (e : r ≡ step_of i w d) where
      -- what its rule gives
      known : Made (tree_bytes k) new t.free (length (tree_bytes k p.ready.tree)) (outcome (tree_rule t.f k (by_args way) t.depth p.ready.m p.ready.tree t.counter 0)) i w d
      known = made i w d e told

      -- its result is at most F long
      short : w ≤ t.f
      short =
          let f = tree_made k t.f t.depth p.ready.tree (by_args way) p.ready.m t.counter known.u d p.ready.map.limited p.ready.good known.is in
          omega (arith, known.wrote, tree_within k t.f t.depth known.u f.fine)

      -- so the numbers of the sum are small
      pub child_sumable : Sumable way sum i w
      child_sumable = record { taken = λ z. omega (arith, known.read, p.taken z); small = omega (arith, short, p.held, p.ready.longest) }

      -- its result in the sum
      pub child_counted : {z : Result Piece Refusal} → AddsResult way sum i w t.f d z → WalksChild k way old new sum t z
      child_counted {z} n = tells (go (leb (new_sum way sum i w) t.f) refl)
        where
          same : new_sum way sum (length (tree_bytes k p.ready.tree)) (length (tree_bytes k known.u)) ≡ new_sum way sum i w
          same = cc (known.read, known.wrote)

          go : (b : Bool) → leb (new_sum way sum i w) t.f ≡ b
              → ComesOut (tree_bytes k) t.f new t.free (length (tree_bytes k p.ready.tree)) (child_by t.f k way t.depth p.ready.m p.ready.tree) t.counter sum z
          go true h =
              let le : new_sum way sum i w ≤ t.f = leb-true _ _ h in
              came known.u d (new_sum way sum i w)
              (rw same at (way_done t.f k t.depth p.ready.m p.ready.tree t.counter sum way known.is (omega (arith, same)))) le
              (n.fits le ∙ took_is known.read known.wrote refl refl) known.out
          go false h =
              let lt : t.f < new_sum way sum i w = leb-false _ _ h in
              stayed over_long (way_long t.f k t.depth p.ready.m p.ready.tree t.counter sum way known.is (omega (arith, same))) (n.long lt)
