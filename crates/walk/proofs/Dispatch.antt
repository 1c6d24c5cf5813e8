-- Which B record stands at the start, by its mark; what a rule on the records of one kind asks and answers, said of a body that is one; and the records that go no
-- level down. Assumes nothing.
use mathlib.Core.Path.{◌≡◌, refl, sym, ap, subst, ◌∙◌}
use mathlib.Core.Bool.{Bool, true, false}
use native.Mathlib.Omega.{arith}
use Prim.Native.Nat.{ℕ, zero, suc, ◌+◌, ◌-◌, ◌≤◌}
use lib.ListN.{length, take}
use Rattle.names.specs.Maps.{NameMap}
use Rattle.names.specs.Names.{Bytes, ascii, same}
use Rattle.names.specs.Segments.{At}
use Rattle.names.proofs.Frames.{same_wider}
use Rattle.ordering.specs.Listing.{body_index}
use Rattle.records.specs.StepAnswer.{Outcome, Gives}
use Rattle.records.specs.Records.{mark_width, Body, BL, BQ, BV, BC, BM, BF, body_bytes}
use Rattle.records.specs.Scan.{mark_index, body_marks}
use Rattle.records.specs.Valid.{ValidBody}
use Rattle.records.specs.declared.Step.{Step}
use Rattle.records.proofs.AnySexp.{mark_of}
use Rattle.walk.specs.Arena.{Asks, Says, fitting, outcome}
use Rattle.walk.specs.Bodyforms.{walk}
use Rattle.walk.specs.Leaves.{IsQuoted, IsValue, IsKept, ValidKind, KeepsBody, InBody}
use Rattle.walk.specs.Walking.{rule, AnyBody, IsBinder, IsCall, IsLambda, BodyReady, Walks}
use Rattle.walk.specs.declared.Task.{Task}
use Rattle.walk.proofs.LeafLaws.{args_keeps, in_mod}
use Rattle.walk.proofs.Results.{some_level, least_room, fine_as}
use Rattle.walk.proofs.Unique.{unique_fine, tells_of}
use Rattle.std.specs.declared.result.Result.{Result}
use Rattle.names.specs.declared.Refusal.{Refusal}

-- the mark that stands at the start
abbrev pub mark : Bytes → ℕ
mark s = mark_index (take mark_width s) body_marks

index_of : {s : Bytes} (b : Body) → At s 0 (body_bytes b) → mark s ≡ body_index b
unfolding body_bytes ascii mark_index same
index_of (BL k l w h bs b) a = ap (λ (x : Bytes). mark_index x body_marks) (mark_of "BL" _ refl a)
index_of (BQ s) a = ap (λ (x : Bytes). mark_index x body_marks) (mark_of "BQ" _ refl a)
index_of (BV s) a = ap (λ (x : Bytes). mark_index x body_marks) (mark_of "BV" _ refl a)
index_of (BC l bs t) a = ap (λ (x : Bytes). mark_index x body_marks) (mark_of "BC" _ refl a)
index_of (BM l f) a = ap (λ (x : Bytes). mark_index x body_marks) (mark_of "BM" _ refl a)
index_of (BF l w ca c a' b) a = ap (λ (x : Bytes). mark_index x body_marks) (mark_of "BF" _ refl a)

-- a BM
unfoldable pub IsMod : Body → Type 0
IsMod (BL k l w h bs b) = ⊥
IsMod (BQ s) = ⊥
IsMod (BV s) = ⊥
IsMod (BC l bs t) = ⊥
IsMod (BM l f) = Unit {0}
IsMod (BF l w ca c a b) = ⊥

-- the kind of a body, by its mark
module _ {s : Bytes} {k : ℕ} (e : k ≡ mark s) (b : Body) (a : At s 0 (body_bytes b)) where
  marked : k ≡ body_index b
  marked = e ∙ index_of b a

  pub binder_marked : k ≡ 0 → IsBinder b
  unfolding IsBinder
  binder_marked z = go b (sym marked ∙ z)
    where
      go : (b : Body) → body_index b ≡ 0 → IsBinder b
      go (BL k l w h bs b) e = tt
      go (BQ s) e = absurd (omega arith)
      go (BV s) e = absurd (omega arith)
      go (BC l bs t) e = absurd (omega arith)
      go (BM l f) e = absurd (omega arith)
      go (BF l w ca c a b) e = absurd (omega arith)

  pub quoted_marked : k ≡ 1 → IsQuoted b
  unfolding IsQuoted
  quoted_marked z = go b (sym marked ∙ z)
    where
      go : (b : Body) → body_index b ≡ 1 → IsQuoted b
      go (BL k l w h bs b) e = absurd (omega arith)
      go (BQ s) e = tt
      go (BV s) e = absurd (omega arith)
      go (BC l bs t) e = absurd (omega arith)
      go (BM l f) e = absurd (omega arith)
      go (BF l w ca c a b) e = absurd (omega arith)

  pub call_marked : k ≡ 3 → IsCall b
  unfolding IsCall
  call_marked z = go b (sym marked ∙ z)
    where
      go : (b : Body) → body_index b ≡ 3 → IsCall b
      go (BL k l w h bs b) e = absurd (omega arith)
      go (BQ s) e = absurd (omega arith)
      go (BV s) e = absurd (omega arith)
      go (BC l bs t) e = tt
      go (BM l f) e = absurd (omega arith)
      go (BF l w ca c a b) e = absurd (omega arith)

  pub mod_marked : k ≡ 4 → IsMod b
  unfolding IsMod
  mod_marked z = go b (sym marked ∙ z)
    where
      go : (b : Body) → body_index b ≡ 4 → IsMod b
      go (BL k l w h bs b) e = absurd (omega arith)
      go (BQ s) e = absurd (omega arith)
      go (BV s) e = absurd (omega arith)
      go (BC l bs t) e = absurd (omega arith)
      go (BM l f) e = tt
      go (BF l w ca c a b) e = absurd (omega arith)

  pub lambda_marked : k ≡ 5 → IsLambda b
  unfolding IsLambda
  lambda_marked z = go b (sym marked ∙ z)
    where
      go : (b : Body) → body_index b ≡ 5 → IsLambda b
      go (BL k l w h bs b) e = absurd (omega arith)
      go (BQ s) e = absurd (omega arith)
      go (BV s) e = absurd (omega arith)
      go (BC l bs t) e = absurd (omega arith)
      go (BM l f) e = absurd (omega arith)
      go (BF l w ca c a b) e = tt

  -- the others: of Own, and of In-body
  pub kept_marked : (k ≡ 0 → ⊥) → (k ≡ 3 → ⊥) → (k ≡ 5 → ⊥) → IsKept b
  unfolding IsKept
  kept_marked n₀ n₃ n₅ = go b marked
    where
      go : (b : Body) → k ≡ body_index b → IsKept b
      go (BL k l w h bs b) e = absurd (n₀ e)
      go (BQ s) e = tt
      go (BV s) e = tt
      go (BC l bs t) e = absurd (n₃ e)
      go (BM l f) e = tt
      go (BF l w ca c a b) e = absurd (n₅ e)

  pub value_marked : (k ≡ 0 → ⊥) → (k ≡ 1 → ⊥) → (k ≡ 3 → ⊥) → (k ≡ 4 → ⊥) → (k ≡ 5 → ⊥) → IsValue b
  unfolding IsValue
  value_marked n₀ n₁ n₃ n₄ n₅ = go b marked
    where
      go : (b : Body) → k ≡ body_index b → IsValue b
      go (BL k l w h bs b) e = absurd (n₀ e)
      go (BQ s) e = absurd (n₁ e)
      go (BV s) e = tt
      go (BC l bs t) e = absurd (n₃ e)
      go (BM l f) e = absurd (n₄ e)
      go (BF l w ca c a b) e = absurd (n₅ e)

-- what the rules give of a record that goes no level down
own_kept : (F d : ℕ) (m : NameMap) (b : Body) (c : ℕ) → 1 ≤ d → IsKept b → outcome (rule F true d m b c 0) ≡ fitting body_bytes F c b
unfolding walk
own_kept F zero m b c le k = absurd (omega arith)
own_kept F (suc d) m b c le k = args_keeps F (walk F d) c 0 b k

in_kept : (F d : ℕ) (m : NameMap) (b : Body) (c : ℕ) → 1 ≤ d → IsMod b → outcome (rule F false d m b c 0) ≡ fitting body_bytes F c b
unfolding walk IsMod
in_kept F zero m b c le k = absurd (omega arith)
in_kept F (suc d) m (BL i l w h bs b) c le k = absurd k
in_kept F (suc d) m (BQ s) c le k = absurd k
in_kept F (suc d) m (BV s) c le k = absurd k
in_kept F (suc d) m (BC l bs t) c le k = absurd k
in_kept F (suc d) m (BM l f) c le k = in_mod F (walk F d) c 0 m l f
in_kept F (suc d) m (BF l w ca x a b) c le k = absurd k

module _ {owning : Bool} {mem : Bytes} {t : Task} (p : BodyReady AnyBody owning mem t) where
  -- the body is of a kind
  module _ {Only : Body → Type 0} (only : Only p.tree) where
    pub walks_as : {new : Bytes} {r : Result Step Refusal} → Walks Only owning mem new t r → Walks AnyBody owning mem new t r
    walks_as w = tells_of unique_fine p w.frame (w.says p.m p.map p.tree p.there p.below (fine_as only p.good))

  -- it goes no level down
  fits : t.free + t.f + t.map ≤ length mem
  fits = omega (arith, p.room, least_room t.f t.depth (some_level p.good))

  asks_with : {Good : Body → Type 0} → Good p.tree → Asks body_bytes Good mem t
  asks_with g = record { tree = p.tree; good = g; there = p.there; below = p.below; m = p.m; map = p.map; room = fits }

  pub asks_kept : Asks body_bytes ValidBody mem t
  asks_kept = asks_with p.good.valid

  pub asks_kind : {Only : Body → Type 0} → Only p.tree → Asks body_bytes (ValidKind Only) mem t
  asks_kind only = asks_with (record { valid = p.good.valid; only = only })

  -- such a step's answer is that of the rule
  leaf_walks : {Good : Body → Type 0} {f : NameMap → Body → Outcome Body} {new : Bytes} {r : Result Step Refusal} → Says body_bytes Good body_bytes f mem new t r → Good p.tree
      → f p.m p.tree ≡ outcome (rule t.f owning t.depth p.m p.tree t.counter 0) → Walks AnyBody owning mem new t r
  leaf_walks {new = new} {r} k g e =
      tells_of unique_fine p (same_wider t.free (length mem - t.map) (omega arith) (omega (arith, fits)) k.frame)
      (subst (λ (o : Outcome Body). Gives body_bytes new t.free (length (body_bytes p.tree)) o r) e (k.says p.m p.map p.tree p.there p.below g))

module _ {mem new : Bytes} {t : Task} {r : Result Step Refusal} where
  -- Own keeps a record
  pub own_keeps : (p : BodyReady AnyBody true mem t) → IsKept p.tree → KeepsBody mem new t r → Walks AnyBody true mem new t r
  own_keeps p only k = leaf_walks p k p.good.valid (sym (own_kept t.f t.depth p.m p.tree t.counter (some_level p.good) only))

  module _ (p : BodyReady AnyBody false mem t) where
    -- In-body keeps a BM
    pub in_keeps : IsMod p.tree → KeepsBody mem new t r → Walks AnyBody false mem new t r
    in_keeps only k = leaf_walks p k p.good.valid (sym (in_kept t.f t.depth p.m p.tree t.counter (some_level p.good) only))

    -- and has a BQ or a BV by the map
    pub in_renames : {Only : Body → Type 0} → Only p.tree → InBody Only mem new t r → Walks AnyBody false mem new t r
    unfolding walk
    in_renames {Only} only k = go t.depth (some_level p.good) refl
      where
        go : (d : ℕ) → 1 ≤ d → t.depth ≡ d → Walks AnyBody false mem new t r
        go zero le e = absurd (omega arith)
        go (suc d) le e =
            leaf_walks p (k (walk t.f d)) (record { valid = p.good.valid; only = only })
            (ap (λ (n : ℕ). outcome ((walk t.f n).in_bodyform p.m p.tree t.counter 0)) (sym e))

-- one of the two rules, by the flag
module _ {mem : Bytes} {t : Task} {owning : Bool} (flag : Bool) (e : owning ≡ flag) where
  pub ready_for : BodyReady AnyBody owning mem t → BodyReady AnyBody flag mem t
  ready_for p = subst (λ (o : Bool). BodyReady AnyBody o mem t) e p

  pub walks_for : {new : Bytes} {r : Result Step Refusal} → Walks AnyBody flag mem new t r → Walks AnyBody owning mem new t r
  walks_for {new} {r} w = subst (λ (o : Bool). Walks AnyBody o mem new t r) (sym e) w
