-- The kind of a let by its kind byte: its levels and its needs, what each kind is asked, and that its answer is that of the let. Assumes nothing.
use mathlib.Core.Path.{◌≡◌, refl, sym, ap, ◌∙◌}
use mathlib.Core.Bool.{true}
use mathlib.Core.List.{[], ◌∷◌, flatten}
use native.Mathlib.Omega.{arith}
use Prim.Native.Nat.{ℕ, zero, suc, ◌+◌, ◌*◌, ◌-◌, ◌≤◌, ◌<◌}
use lib.ListN.{length, get_or, length-append}
use Rattle.names.specs.Names.{Bytes, ascii}
use Rattle.names.specs.Segments.{At}
use Rattle.records.specs.Depth.{levels, depth}
use Rattle.records.specs.Read.{kind_of}
use Rattle.records.specs.Records.{mark_width, Body, BL, BQ, BV, BC, BM, BF, body_bytes, bindings_bytes, bindings_count, kind_field, byte, record_bytes}
use Rattle.records.specs.declared.Kind.{Kind}
use Rattle.records.specs.declared.Kind.TheVariants.{Parallel, Sequential, Assign}
use Rattle.records.specs.Valid.{IsLet}
use Rattle.records.specs.declared.Step.{Step}
use Rattle.records.proofs.Views.{opened, first_of, rest_of, kind_at, kind_length}
use Rattle.walk.specs.Room.{room}
use Rattle.walk.specs.Walking.{IsBinder, Fine, BodyReady, Walks, let_aside, count_of, let_needs, ParallelReady}
use Rattle.walk.specs.declared.Task.{Task}
use Rattle.walk.proofs.Results.{room_down, fine_as, ready_as}
use Rattle.walk.proofs.Sizes.{positive}
use Rattle.std.specs.declared.result.Result.{Result}
use Rattle.names.specs.declared.Refusal.{Refusal}

-- a let's kind stands behind its mark
pub let_kind : {mem : Bytes} {k : Kind} (b : Body) → IsBinder b → At mem 0 (body_bytes b) → kind_of (get_or mem mark_width 0) ≡ k → IsLet k b
unfolding IsBinder IsLet body_bytes ascii
let_kind (BL x l w h bs b) p a e = sym (kind_at refl x (first_of (rest_of (opened "BL" _ a)))) ∙ e
let_kind (BQ s) p a e = absurd p
let_kind (BV s) p a e = absurd p
let_kind (BC l bs t) p a e = absurd p
let_kind (BM l f) p a e = absurd p
let_kind (BF l w ca c a b) p at e = absurd p

-- a let is longer than its mark and its kind
pub let_long : (b : Body) → IsBinder b → mark_width < length (body_bytes b)
unfolding IsBinder body_bytes record_bytes ascii flatten
let_long (BL k l w h bs b) p = omega (arith, length-append (kind_field k) (flatten (l ∷ w ∷ h ∷ byte (bindings_count bs) ∷ bindings_bytes bs ∷ body_bytes b ∷ [])), kind_length k)
let_long (BQ s) p = absurd p
let_long (BV s) p = absurd p
let_long (BC l bs t) p = absurd p
let_long (BM l f) p = absurd p
let_long (BF l w ca c a b) p = absurd p

-- a let of a kind is a let
pub binder : (k : Kind) (b : Body) → IsLet k b → IsBinder b
unfolding IsLet IsBinder
binder k (BL j l w h bs b) o = tt
binder k (BQ s) o = absurd o
binder k (BV s) o = absurd o
binder k (BC l bs t) o = absurd o
binder k (BM l f) o = absurd o
binder k (BF l w ca c a b) o = absurd o

-- a let has two levels at least
two_levels : (b : Body) → IsBinder b → 2 ≤ depth b
unfolding IsBinder depth levels
two_levels (BL Parallel l w h bs b) p = omega (arith, positive b)
two_levels (BL Sequential l w h bs b) p = omega (arith, positive b)
two_levels (BL Assign l w h bs b) p = omega (arith, positive b)
two_levels (BQ s) p = absurd p
two_levels (BV s) p = absurd p
two_levels (BC l bs t) p = absurd p
two_levels (BM l f) p = absurd p
two_levels (BF l w ca c a b) p = absurd p

pub let_deep : {F d : ℕ} {b : Body} (k : Kind) → Fine (IsLet k) F d b → 2 ≤ d
let_deep {b = b} k f = omega (arith, two_levels b (binder k b f.only), f.deep)

-- what a parallel let holds at the end is at most five times F
aside_most : (F n : ℕ) → let_aside F n ≤ 5 * F
aside_most F zero = omega arith
aside_most F (suc zero) = omega arith
aside_most F (suc (suc n)) = omega arith

-- what Own of a parallel let needs
pub needs_are : (F d : ℕ) (b : Body) → 1 ≤ d → let_needs F d b ≡ 3 * F + let_aside F (count_of b) + room F (d - 1)
unfolding let_needs
needs_are F zero b le = absurd (omega arith)
needs_are F (suc d) b le = let e : suc d - 1 ≡ d = omega arith in ap (λ (n : ℕ). 3 * F + let_aside F (count_of b) + room F n) (sym e)

-- a level has the room that a parallel let needs
let_fits : (F d : ℕ) (b : Body) → 2 ≤ d → let_needs F d b ≤ room F d
let_fits F d b le = omega (arith, needs_are F d b (omega arith), aside_most F (count_of b), room_down F d le)

module _ {mem : Bytes} {t : Task} (p : BodyReady IsBinder true mem t) where
  -- there is a kind byte
  pub kind_there : mark_width < length mem
  kind_there = omega (arith, let_long p.tree p.good.only, p.there.fits)

  -- a let of this kind
  pub ready_kind : (k : Kind) → kind_of (get_or mem mark_width 0) ≡ k → BodyReady (IsLet k) true mem t
  ready_kind k e = ready_as p (let_kind p.tree p.good.only p.there e)

  -- a parallel one
  pub ready_parallel : kind_of (get_or mem mark_width 0) ≡ Parallel → ParallelReady mem t
  ready_parallel e =
      record {
        tree = p.tree;
        good = fine_as (let_kind p.tree p.good.only p.there e) p.good;
        there = p.there;
        below = p.below;
        m = p.m;
        map = p.map;
        lone = p.lone;
        room = omega (arith, p.room, let_fits t.f t.depth p.tree (omega (arith, two_levels p.tree p.good.only, p.good.deep)));
        counts = p.counts;
        longest = p.longest;
      }

-- what is answered of a let of this kind
pub walks_kind : {old new : Bytes} {t : Task} {r : Result Step Refusal} (k : Kind) → kind_of (get_or old mark_width 0) ≡ k → Walks (IsLet k) true old new t r → Walks IsBinder true old new t r
walks_kind k e s = record { frame = s.frame; says = λ m map b there below good. s.says m map b there below (fine_as (let_kind b good.only there e) good) }
