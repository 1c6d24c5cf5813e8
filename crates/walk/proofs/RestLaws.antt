-- What a rest becomes by the rules of a way: one tree alone stands at a place; what comes back is fine again, with no more atoms; how the sum goes on. Assumes
-- nothing.
use mathlib.Core.Path.{◌≡◌, refl, sym, ap, subst, ◌∙◌}
use mathlib.Core.List.{[], ◌∷◌}
use native.Mathlib.Omega.{arith}
use Prim.Native.Nat.{ℕ, suc, ◌+◌, ◌≤◌}
use lib.ListN.{length, length-append}
use Rattle.names.specs.Maps.{NameMap, Limited}
use Rattle.names.specs.Names.{Bytes}
use Rattle.names.specs.Segments.{At}
use Rattle.names.proofs.Parts.{into}
use Rattle.names.proofs.Places.{at_get, at_right}
use Rattle.records.specs.Records.{Body, body_bytes, Helper, helper_bytes, Helpers, []ʰ, ◌∷ʰ◌, helpers_bytes, helpers_count}
use Rattle.records.specs.Valid.{ValidCount}
use Rattle.walk.specs.Draws.{atoms, helper_atoms, helpers_atoms, dbl}
use Rattle.walk.specs.FormWalks.{EachFineHelper, FineHelpers, FineListed, listed_bytes, helpers_by, child_by, helpers_room, RestOf, rest_bytes, rest_records, rest_atoms, rest_room, FineRest, rest_by, new_sum}
use Rattle.walk.specs.Helperforms.{each_helper, further_helpers}
use Rattle.walk.specs.Room.{room}
use Rattle.walk.specs.Steps.{M, DoneWith, ◌>>=◌, ret}
use Rattle.walk.specs.declared.Child.TheVariants.{Bodyform, Helperform, Compileform}
use Rattle.walk.specs.declared.Rest.{Rest}
use Rattle.walk.specs.declared.Rest.TheVariants.{OneBody, OneForm, Listed, Parts}
use Rattle.walk.specs.declared.Way.{Way}
use Rattle.walk.specs.declared.Way.TheVariants.{Own, In, Further}
use Rattle.walk.proofs.DoneLaws.{both_done, ret_gave}
use Rattle.walk.proofs.Sizes.{dbl_add}
use Rattle.walk.proofs.TreeLaws.{unique_tree, ChildMade, child_made}
use Rattle.walk.proofs.Unique.{Unique, same_pair, unique_first, unique_fine}
use Rattle.walk.proofs.WayLaws.{sum_none, sum_on}

-- one list of so many helpers at most stands at a place
same_helpers : (F d : ℕ) (xs : Bytes) (p : ℕ) (cs bs : Helpers) → EachFineHelper F d cs → EachFineHelper F d bs → helpers_count cs ≡ helpers_count bs → At xs p (helpers_bytes cs)
    → At xs p (helpers_bytes bs) → cs ≡ bs
unfolding EachFineHelper helpers_bytes helpers_count
same_helpers F d xs p []ʰ []ʰ f g n x y = refl
same_helpers F d xs p []ʰ (b ∷ʰ bs) f g n x y = absurd (omega arith)
same_helpers F d xs p (a ∷ʰ cs) []ʰ f g n x y = absurd (omega arith)
same_helpers F d xs p (a ∷ʰ cs) (b ∷ʰ bs) f g n x y =
    let s = unique_first helper_bytes (unique_tree Helperform F d) a b (helpers_bytes cs) (helpers_bytes bs) f.0 g.0 x y in
    let e = s.0 in
    let r = same_helpers F d xs (p + length (helper_bytes a)) cs bs f.1 g.1 (omega arith) s.1 s.2 in
    cc

-- and so at the start
pub unique_helpers : (F d count : ℕ) → Unique helpers_bytes (FineHelpers F d count)
unique_helpers F d count xs cs bs f g x y = same_helpers F d xs 0 cs bs f.each g.each (f.many ∙ sym g.many) x y

-- and one after its count
unique_listed : (F d : ℕ) → Unique listed_bytes (FineListed F d)
unique_listed F d xs cs bs f g x y =
    same_helpers F d xs 1 cs bs f.each g.each (sym (at_get x 0 (omega arith)) ∙ at_get y 0 (omega arith)) (at_right (helpers_count cs ∷ []) (helpers_bytes cs) x)
    (at_right (helpers_count bs ∷ []) (helpers_bytes bs) y)

-- and one rest of each kind
pub unique_rest : (k : Rest) (F d : ℕ) → Unique (rest_bytes k) (FineRest k F d)
unique_rest OneBody F d = unique_fine
unique_rest OneForm F d = unique_tree Compileform F d
unique_rest Listed F d = unique_listed F d
unique_rest Parts F d = λ xs p q f g x y.
    let s = unique_first listed_bytes (unique_listed F d) p.0 q.0 (body_bytes p.1) (body_bytes q.1) f.0 g.0 x y in
    same_pair s.0 (unique_fine _ p.1 q.1 f.1 g.1 (into s.1) (into s.2))

-- helpers by the rules of a way: the first, and the others
pub helpers_cons : (F : ℕ) (way : Way) (d : ℕ) (m : NameMap) (h : Helper) (hs : Helpers)
    → helpers_by F way d m (h ∷ʰ hs) ≡ (child_by F Helperform way d m h >>= λ h'. helpers_by F way d m hs >>= λ hs'. ret (h' ∷ʰ hs'))
unfolding each_helper further_helpers
helpers_cons F Own d m h hs = refl
helpers_cons F In d m h hs = refl
helpers_cons F Further d m h hs = refl

-- and none
pub helpers_none : (F : ℕ) (way : Way) (d : ℕ) (m : NameMap) → helpers_by F way d m []ʰ ≡ ret []ʰ
unfolding each_helper further_helpers
helpers_none F Own d m = refl
helpers_none F In d m = refl
helpers_none F Further d m = refl

-- what helpers become
pub record HelpersMade (F d : ℕ) (way : Way) (hs : Helpers) (c x : ℕ) (us : Helpers) (c' x' : ℕ) : Type 0 where
  pub fine : EachFineHelper F d us
  pub many : helpers_count us ≡ helpers_count hs
  pub counter : c' ≤ c + dbl d (helpers_atoms hs)
  pub few : helpers_atoms us ≤ helpers_atoms hs
  pub sum : (way ≡ Further → length (helpers_bytes hs) ≤ x) → x' ≡ new_sum way x (length (helpers_bytes hs)) (length (helpers_bytes us))
  pub within : x ≤ F → x' ≤ F

module _ (F d : ℕ) (way : Way) (m : NameMap) where
  -- none
  none_made : (c x : ℕ) (us : Helpers) (c' x' : ℕ) → DoneWith (helpers_by F way d m []ʰ c x) us c' x' → HelpersMade F d way []ʰ c x us c' x'
  unfolding EachFineHelper helpers_bytes helpers_count helpers_atoms
  none_made c x us c' x' p =
      let e = ret_gave (subst (λ (run : M Helpers). DoneWith (run c x) us c' x') (helpers_none F way d m) p) in
      subst (λ (k : Helpers). HelpersMade F d way []ʰ c x k c' x') e.0
      (record { fine = tt; many = refl; counter = omega (arith, e.1); few = omega arith; sum = λ h. sym e.2 ∙ sum_none way x; within = λ h. omega (arith, e.2) })

  -- the first and the others
  module _ (h : Helper) (hs : Helpers) (c x : ℕ) {v : Helper} {c₁ x₁ : ℕ} {vs : Helpers} {c₂ x₂ : ℕ} (p : ChildMade Helperform F d way h c x v c₁ x₁) (q : HelpersMade F d way hs c₁ x₁ vs c₂ x₂) where
    both_made : HelpersMade F d way (h ∷ʰ hs) c x (v ∷ʰ vs) c₂ x₂
    unfolding EachFineHelper helpers_bytes helpers_count helpers_atoms
    both_made =
        let i = length-append (helper_bytes h) (helpers_bytes hs) in
        let j = length-append (helper_bytes v) (helpers_bytes vs) in
        record {
          fine = (p.made.fine, q.fine);
          many = ap suc q.many;
          counter = omega (arith, p.made.counter, q.counter, dbl_add d (helper_atoms h) (helpers_atoms hs));
          few = omega (arith, p.made.few, q.few);
          sum = λ g.
              sum_on way x (length (helper_bytes h)) (length (helpers_bytes hs)) (length (helper_bytes v)) (length (helpers_bytes vs)) x₁ x₂ (λ e. omega (arith, g e)) p.sum q.sum
              ∙ cc (i, j);
          within = λ g. q.within p.within;
        }

-- helpers by the rules of a way
pub helpers_made : (F d : ℕ) (way : Way) (m : NameMap) (hs : Helpers) (c x : ℕ) (us : Helpers) (c' x' : ℕ) → Limited m → EachFineHelper F d hs
    → DoneWith (helpers_by F way d m hs c x) us c' x' → HelpersMade F d way hs c x us c' x'
unfolding EachFineHelper
helpers_made F d way m []ʰ c x us c' x' l f p = none_made F d way m c x us c' x' p
helpers_made F d way m (h ∷ʰ hs) c x us c' x' l f p =
    let q = both_done (child_by F Helperform way d m h) (λ h'. helpers_by F way d m hs >>= λ hs'. ret (h' ∷ʰ hs')) (subst (λ (run : M Helpers). DoneWith (run c x) us c' x') (helpers_cons F way d m h hs) p) in
    let r = both_done (helpers_by F way d m hs) (λ hs'. ret (q.a ∷ʰ hs')) q.second in
    let e = ret_gave r.second in
    let v = child_made Helperform F d way m h c x q.a q.c₁ q.x₁ l f.0 q.first in
    let w = helpers_made F d way m hs q.c₁ q.x₁ r.a r.c₁ r.x₁ l f.1 r.first in
    rw (e.0, e.1, e.2) at (both_made F d way m h hs c x v w)

-- what a rest becomes
pub record RestMade (k : Rest) (F d : ℕ) (way : Way) (r : RestOf k) (c x : ℕ) (u : RestOf k) (c' x' : ℕ) : Type 0 where
  pub fine : FineRest k F d u
  pub counter : c' ≤ c + dbl d (rest_atoms k r)
  pub few : rest_atoms k u ≤ rest_atoms k r
  pub sum : (way ≡ Further → rest_records k r ≤ x) → x' ≡ new_sum way x (rest_records k r) (rest_records k u)
  pub within : x ≤ F → x' ≤ F

-- helpers and a body
parts_made : (F d : ℕ) (way : Way) (r : RestOf Parts) (c x : ℕ) {hs : Helpers} {c₁ x₁ : ℕ} {b : Body} {c₂ x₂ : ℕ} → ValidCount (helpers_count r.0) → HelpersMade F d way r.0 c x hs c₁ x₁
    → ChildMade Bodyform F d way r.1 c₁ x₁ b c₂ x₂ → RestMade Parts F d way r c x (hs, b) c₂ x₂
parts_made F d way r c x {hs} {c₁} {x₁} {b} {c₂} {x₂} n v w =
    record {
      fine = (record { each = v.fine; many = rw (sym v.many) at n }, w.made.fine);
      counter = omega (arith, v.counter, w.made.counter, dbl_add d (helpers_atoms r.0) (atoms r.1));
      few = omega (arith, v.few, w.made.few);
      sum = λ g.
          sum_on way x (length (helpers_bytes r.0)) (length (body_bytes r.1)) (length (helpers_bytes hs)) (length (body_bytes b)) x₁ x₂ g (v.sum (λ e. omega (arith, g e)))
          (λ z. w.sum);
      within = λ g. w.within;
    }

-- a rest by the rules of a way
pub rest_made : (k : Rest) (F d : ℕ) (way : Way) (m : NameMap) (r : RestOf k) (c x : ℕ) (u : RestOf k) (c' x' : ℕ) → Limited m → FineRest k F d r
    → DoneWith (rest_by F k way d m r c x) u c' x' → RestMade k F d way r c x u c' x'
rest_made OneBody F d way m r c x u c' x' l f p = of_child (child_made Bodyform F d way m r c x u c' x' l f p)
  where
    of_child : ChildMade Bodyform F d way r c x u c' x' → RestMade OneBody F d way r c x u c' x'
    of_child v = record { fine = v.made.fine; counter = v.made.counter; few = v.made.few; sum = λ g. v.sum; within = λ g. v.within }
rest_made OneForm F d way m r c x u c' x' l f p = of_child (child_made Compileform F d way m r c x u c' x' l f p)
  where
    of_child : ChildMade Compileform F d way r c x u c' x' → RestMade OneForm F d way r c x u c' x'
    of_child v = record { fine = v.made.fine; counter = v.made.counter; few = v.made.few; sum = λ g. v.sum; within = λ g. v.within }
rest_made Listed F d way m r c x u c' x' l f p =
    let v = helpers_made F d way m r c x u c' x' l f.each p in
    record { fine = record { each = v.fine; many = rw (sym v.many) at f.many }; counter = v.counter; few = v.few; sum = v.sum; within = v.within }
rest_made Parts F d way m r c x u c' x' l f p =
    let q = both_done (helpers_by F way d m r.0) (λ hs. child_by F Bodyform way d m r.1 >>= λ b. ret (hs, b)) p in
    let s = both_done (child_by F Bodyform way d m r.1) (λ b. ret (q.a, b)) q.second in
    let e = ret_gave s.second in
    let v = helpers_made F d way m r.0 c x q.a q.c₁ q.x₁ l f.0.each q.first in
    let w = child_made Bodyform F d way m r.1 q.c₁ q.x₁ s.a s.c₁ s.x₁ l f.1 s.first in
    rw (e.0, e.1, e.2) at (parts_made F d way r c x f.0.many v w)

-- its bytes are those of its records and at most one more
pub rest_long : (k : Rest) (r : RestOf k) → (rest_records k r ≤ length (rest_bytes k r)) × (length (rest_bytes k r) ≤ 1 + rest_records k r)
rest_long OneBody b = (omega arith, omega arith)
rest_long OneForm f = (omega arith, omega arith)
rest_long Listed hs = (omega arith, omega arith)
rest_long Parts p = let e = length-append (listed_bytes p.0) (body_bytes p.1) in (omega arith, omega arith)

-- what helpers need at most
helpers_room_most : (F d : ℕ) (hs : Helpers) → helpers_room F d hs ≤ F + room F d
unfolding helpers_room
helpers_room_most F d []ʰ = omega arith
helpers_room_most F d (h ∷ʰ hs) = omega arith

-- and what it needs is at most this
pub rest_room_most : (k : Rest) (F d : ℕ) (r : RestOf k) → rest_room k F d r ≤ 1 + F + room F d
rest_room_most OneBody F d b = omega arith
rest_room_most OneForm F d f = omega arith
rest_room_most Listed F d hs = omega (arith, helpers_room_most F d hs)
rest_room_most Parts F d p = omega arith
