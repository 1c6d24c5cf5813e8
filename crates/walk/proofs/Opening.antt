-- A record seen as a head and its parts behind it: what is asked of the parts, and what their answer says of the record. Assumes nothing.
use mathlib.Core.Path.{◌≡◌, refl, sym, ap, subst, ◌∙◌}
use mathlib.Core.Bool.{Bool, true, false}
use mathlib.Core.List.{[], ◌++◌}
use native.Mathlib.Omega.{arith}
use Prim.Native.Nat.{ℕ, ◌+◌, ◌-◌, ◌≤◌}
use lib.ListN.{length, take, length-append}
use Rattle.names.specs.Maps.{NameMap}
use Rattle.names.specs.Names.{Bytes}
use Rattle.names.specs.Segments.{At}
use Rattle.names.proofs.Places.{at_left, at_is}
use Rattle.records.specs.StepAnswer.{Outcome, Gives, gave, refused}
use Rattle.records.specs.Records.{sexp_bytes}
use Rattle.records.specs.declared.Step.{Step}
use Rattle.walk.specs.Arena.{outcome}
use Rattle.walk.specs.Draws.{sexp_atoms, dbl}
use Rattle.walk.specs.FormWalks.{TreeOf, tree_bytes, tree_size, tree_atoms, tree_rule, FineTree, TreeReady, rest_bytes, rest_atoms, rest_by, FineAfter, FineRenewed, renewed_by}
use Rattle.walk.specs.Room.{room}
use Rattle.walk.specs.Steps.{M, Out, done, refused as halted, ◌>>=◌, ret, step}
use Rattle.walk.specs.Walking.{Ready, Tells}
use Rattle.walk.specs.declared.Child.{Child}
use Rattle.walk.specs.declared.Rest.{Rest}
use Rattle.walk.specs.declared.Task.{Task}
use Rattle.walk.specs.declared.Way.{Way}
use Rattle.walk.specs.declared.Way.TheVariants.{Own, In}
use Rattle.walk.proofs.Results.{dbl_down}
use Rattle.walk.proofs.RunLaws.{outcome_after, onward, bind_onward, mapped, step_mapped}
use Rattle.walk.proofs.Sizes.{dbl_add, dbl_mono, dbl_least}
use Rattle.walk.proofs.TreeLaws.{unique_tree, tree_length}
use Rattle.walk.proofs.Unique.{tells_of}
use Rattle.std.specs.declared.result.Result.{Result}
use Rattle.names.specs.declared.Refusal.{Refusal}
use Rattle.records.specs.StepAnswer.{step_of}

module _ {A B : Type 0} (g : A → B) where
  -- a run whose value is made into another
  then_mapped : (m : M A) (c x : ℕ) → outcome ((m >>= λ a. ret (g a)) c x) ≡ mapped g (outcome (m c x))
  unfolding onward ret outcome
  then_mapped m c x = ap outcome (bind_onward (λ a. ret (g a)) m c x) ∙ go (m c x)
    where
      go : (o : Out A) → outcome (onward (λ a. ret (g a)) o) ≡ mapped g (outcome o)
      go (done log a c x) = outcome_after log (done [] (g a) c x)
      go (halted log r) = refl

  -- what is answered of a value is answered of one with the same bytes
  gives_mapped : {bytes : A → Bytes} {made : B → Bytes} {new : Bytes} {free n : ℕ} {o : Outcome A} {r : Result Step Refusal} → ((a : A) → made (g a) ≡ bytes a) → Gives bytes new free n o r → Gives made new free n (mapped g o) r
  gives_mapped {new = new} {free} {n} e (gave u c q z a) = gave (g u) c (ap (mapped g) q) (z ∙ ap (λ (bs : Bytes). step_of n (length bs) c) (sym (e u))) (subst (At new free) (sym (e u)) a)
  gives_mapped e (refused k q z) = refused k (ap (mapped g) q) z

-- A record seen as a head of `at` bytes and its parts behind it: it is made again of any such parts; they are good, their draws are among its own; and what is
-- answered of it is what a step gives that has its run on the parts.
pub record Opens {B : Type 0} (k : Child) (behind : B → Bytes) (Good : Bytes → B → Type 0) (draws : B → ℕ) (run : NameMap → B → M B) (answer : NameMap → TreeOf k → Outcome (TreeOf k)) (t : Task) (at : ℕ) (u : TreeOf k) : Type 0 where
  pub head : Bytes
  pub parts : B
  pub again : B → TreeOf k
  pub is : again parts ≡ u
  pub bytes : (v : B) → tree_bytes k (again v) ≡ head ++ behind v
  pub place : length head ≡ at
  pub good : Good head parts
  pub few : draws parts ≤ dbl t.depth (tree_atoms k u)
  pub runs : (m : NameMap) → answer m u ≡ outcome (step t.f (tree_size k) (run m parts >>= λ v. ret (again v)) t.counter 0)

module _ {k : Child} {owning : Bool} {mem : Bytes} {t : Task} (p : TreeReady k owning mem t) {B : Type 0} {behind : B → Bytes} {Good : Bytes → B → Type 0} {draws : B → ℕ} {run : NameMap → B → M B} {answer : NameMap → TreeOf k → Outcome (TreeOf k)} {at : ℕ} (o : Opens k behind Good draws run answer t at p.tree) where
  -- the bytes of the record are its head and its parts
  whole : tree_bytes k p.tree ≡ o.head ++ behind o.parts
  whole = ap (tree_bytes k) (sym o.is) ∙ o.bytes o.parts

  -- they stand at the start
  stands : At mem 0 (o.head ++ behind o.parts)
  stands = subst (At mem 0) whole p.there

  -- the head is what stands up to the place
  front : take at mem ≡ o.head
  front = at_is 0 at refl (sym o.place) (at_left o.head (behind o.parts) stands)

  -- so the bytes of any such record
  same_bytes : (v : B) → tree_bytes k (o.again v) ≡ take at mem ++ behind v
  same_bytes v = o.bytes v ∙ ap (λ (h : Bytes). h ++ behind v) (sym front)

  -- the place is within memory
  pub opened_within : at ≤ length mem
  opened_within = omega (arith, stands.fits, length-append o.head (behind o.parts), o.place)

  same_whole : tree_bytes k p.tree ≡ take at mem ++ behind o.parts
  same_whole = ap (tree_bytes k) (sym o.is) ∙ same_bytes o.parts

  parts_good : Good (take at mem) o.parts
  parts_good = subst (λ (h : Bytes). Good h o.parts) (sym front) o.good

  parts_there : At mem 0 (take at mem ++ behind o.parts)
  parts_there = subst (At mem 0) same_whole p.there

  parts_below : length (take at mem ++ behind o.parts) ≤ t.free
  parts_below = subst (λ (bs : Bytes). length bs ≤ t.free) same_whole p.below

  -- what is asked of the parts
  pub opened : Ready owning (λ v. take at mem ++ behind v) (Good (take at mem)) (λ v. room t.f t.depth) draws mem t
  opened =
      record {
        tree = o.parts;
        good = parts_good;
        there = parts_there;
        below = parts_below;
        m = p.m;
        map = p.map;
        lone = p.lone;
        room = p.room;
        counts = omega (arith, p.counts, o.few);
        longest = p.longest;
      }

  -- what is answered of them, said of the record
  pub closed : {new : Bytes} {r : Result Step Refusal}
      → Tells (λ v. take at mem ++ behind v) (Good (take at mem))
      (λ m v. Gives (λ w. take at mem ++ behind w) new t.free (length (take at mem ++ behind v)) (outcome (step t.f (λ w. length (take at mem ++ behind w)) (run m v) t.counter 0)) r) mem new t
      → Tells (tree_bytes k) (FineTree k t.f t.depth) (λ m u. Gives (tree_bytes k) new t.free (length (tree_bytes k u)) (answer m u) r) mem new t
  closed {new} {r} w =
      let g = gives_mapped o.again {made = tree_bytes k} same_bytes (w.says p.m p.map o.parts parts_there parts_below parts_good) in
      let e = step_mapped t.f o.again (λ v. length (take at mem ++ behind v)) (tree_size k) (λ v. tree_length k (o.again v) ∙ ap length (same_bytes v))
      (run p.m o.parts >>= λ v. ret (o.again v)) (run p.m o.parts) t.counter t.counter 0 0 (then_mapped o.again (run p.m o.parts) t.counter 0) in
      tells_of (unique_tree k t.f t.depth) p w.frame
      (subst (λ (z : Outcome (TreeOf k)). Gives (tree_bytes k) new t.free (length (tree_bytes k p.tree)) z r) (sym (o.runs p.m ∙ e))
      (subst (λ (bs : Bytes). Gives (tree_bytes k) new t.free (length bs) (mapped o.again (outcome (step t.f (λ w. length (take at mem ++ behind w)) (run p.m o.parts) t.counter 0))) r) (sym same_whole) g))

-- the args-rules, or the in-rules
abbrev pub way_of : Bool → Way
way_of true = Own
way_of false = In

-- what a rule gives of a record
abbrev pub by_tree : (k : Child) → Bool → Task → NameMap → TreeOf k → Outcome (TreeOf k)
by_tree k owning t m u = outcome (tree_rule t.f k owning t.depth m u t.counter 0)

-- a record that is kept up to a place, and the rest by the rules of a way
abbrev pub Keeping : (k : Child) → Rest → Way → (NameMap → TreeOf k → Outcome (TreeOf k)) → Task → ℕ → TreeOf k → Type 0
Keeping k kind way answer t at u =
    Opens k (rest_bytes kind) (λ head. FineAfter kind head t.f t.depth) (λ r. dbl (t.depth - 1) (rest_atoms kind r)) (λ m r. rest_by t.f kind way (t.depth - 1) m r) answer t at u

-- a record whose args stand at a place and get new names
abbrev pub Renewing : (k : Child) → Rest → Task → ℕ → TreeOf k → Type 0
Renewing k kind t at u =
    Opens k (λ p. sexp_bytes p.0 ++ rest_bytes kind p.1) (λ head. FineRenewed kind head t.f t.depth)
    (λ p. sexp_atoms p.0 + (dbl (t.depth - 1) (rest_atoms kind p.1) + dbl (t.depth - 1) (rest_atoms kind p.1))) (λ m p. renewed_by t.f kind (t.depth - 1) p) (by_tree k true t) t at u

-- the draws of a rest, one level down
pub kept_draws : (d n k : ℕ) → 1 ≤ d → n ≤ k → dbl (d - 1) n ≤ dbl d k
kept_draws d n k le few = omega (arith, dbl_down d k le, dbl_mono (d - 1) n k few)

-- and of args with the draws of both rules
pub renewed_draws : (d a n k : ℕ) → 1 ≤ d → a + n ≤ k → a + (dbl (d - 1) n + dbl (d - 1) n) ≤ dbl d k
renewed_draws d a n k le few = omega (arith, dbl_down d n le, dbl_least d a, dbl_add d a n, dbl_mono d (a + n) k few)
