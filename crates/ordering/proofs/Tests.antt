-- The tests of specs/ say what their names say.
-- Assumes nothing.
use Prim.Native.Nat.{ℕ, ◌<◌}
use native.Mathlib.Omega.{arith}
use mathlib.Core.List.Memᴰ
use mathlib.Core.List.{List}
use lib.Dec.{T}
use lib.ListN.{length, get_or-eq_default}
use native.Mathlib.Decide.{dec_lt}
use Rattle.names.specs.Names.{Bytes, same}
use Rattle.names.proofs.Same.{same→eq, same_refl}
use Rattle.ordering.specs.Items.{Item, ready, absent, item_at, any, gives, needed}
use Rattle.ordering.specs.Lawful.{◌is_in◌, Provides, Needs}
use Rattle.ordering.proofs.Lists.{in_at, at_in, any_intro, any_elim, all_intro, all_elim, in_keep, keep_in}

pub gives→in : (x : Bytes) (b : Item) → T (gives x b) → x is_in b.has
unfolding gives
gives→in x b t = let r = any_elim (same x) b.has t in Memᴰ.cast (same→eq x r.0 r.2) r.1

pub in→gives : (x : Bytes) (b : Item) → x is_in b.has → T (gives x b)
unfolding gives
in→gives x b m = any_intro (same x) m (same_refl x)

module _ (bs : List Item) where
  -- what is provided is provided by an index of the assign
  provides_lt : (i : ℕ) (x : Bytes) → Provides bs i x → i < length bs
  provides_lt i x m =
      elim (dec_lt i (length bs)) [
        | yes h ↦ h
        | no h ↦ absurd (Memᴰ.not-nil (rw (get_or-eq_default bs absent {n = i} (omega arith)) at m))
      ]

  pub some→provides : (x : Bytes) → T (any (gives x) bs) → (i : ℕ) × Provides bs i x
  some→provides x t =
      let r = any_elim (gives x) bs t in
      let p = in_at absent r.1 in
      (p.0, rw p.2 (gives→in x r.0 r.2))

  pub provides→some : (i : ℕ) (x : Bytes) → Provides bs i x → T (any (gives x) bs)
  provides→some i x m = any_intro (gives x) (at_in bs i absent (provides_lt i x m)) (in→gives x (item_at bs i) m)

  pub needed→Needs : (i : ℕ) (x : Bytes) → x is_in needed bs i → Needs bs i x
  unfolding needed
  needed→Needs i x m =
      let r = keep_in (λ y. any (gives y) bs) (item_at bs i).needs m in
      let s = some→provides x r.1 in
      record { mentioned = r.0; by = s.0; provided = s.1 }

  pub Needs→needed : (i : ℕ) (x : Bytes) → Needs bs i x → x is_in needed bs i
  unfolding needed
  Needs→needed i x h = in_keep (λ y. any (gives y) bs) h.mentioned (provides→some h.by x h.provided)

  pub ready_true : (done : List ℕ) (i : ℕ) → T (ready bs done i) → (x : Bytes) → Needs bs i x → (j : ℕ) × (j is_in done) × Provides bs j x
  unfolding ready
  ready_true done i t x h =
      let s = any_elim (λ j. gives x (item_at bs j)) done (all_elim (λ y. any (λ j. gives y (item_at bs j)) done) t (Needs→needed i x h)) in
      (s.0, s.1, gives→in x (item_at bs s.0) s.2)

  pub true_ready : (done : List ℕ) (i : ℕ) → ((x : Bytes) → Needs bs i x → (j : ℕ) × (j is_in done) × Provides bs j x) → T (ready bs done i)
  unfolding ready
  true_ready done i h =
      all_intro (λ y. any (λ j. gives y (item_at bs j)) done) (needed bs i)
      (λ x m. let s = h x (needed→Needs i x m) in any_intro (λ j. gives x (item_at bs j)) s.1 (in→gives x (item_at bs s.0) s.2))
