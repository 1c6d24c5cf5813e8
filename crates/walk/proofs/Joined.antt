-- Trees one after the other: their bytes with one more or with others behind them, and the tree of an index and its place. Assumes nothing.
use mathlib.Core.Path.{◌≡◌, refl, sym, ap, ◌∙◌}
use mathlib.Core.List.{List, [], ◌∷◌, ◌++◌, append_assoc, append-nil}
use native.Mathlib.Omega.{arith}
use native.Mathlib.Nat.{not-suc-le-zero, le_of_suc-le-suc}
use Prim.Native.Nat.{ℕ, zero, suc, ◌+◌, ◌≤◌, ◌<◌}
use lib.ListN.{length, take, get_or, length-append}
use Rattle.names.specs.Names.{Bytes}
use Rattle.names.specs.Segments.{At}
use Rattle.names.proofs.Places.{at_place, at_left, at_right}
use Rattle.records.specs.Lists.{joined, Each}
use Rattle.records.specs.Records.{Binding, binding_bytes}
use Rattle.walk.specs.Bodyforms.{no_binding}

-- trees one after the other, and one more
pub joined_more : {A : Type 0} (f : A → Bytes) (ys : List A) (a : A) → joined f (ys ++ a ∷ []) ≡ joined f ys ++ f a
unfolding joined
joined_more f [] a = append-nil (f a)
joined_more f (x ∷ ys) a = ap (λ (y : Bytes). f x ++ y) (joined_more f ys a) ∙ sym (append_assoc (f x) (joined f ys) (f a))

-- and others behind them
pub joined_both : {A : Type 0} (f : A → Bytes) (ys bs : List A) → joined f (ys ++ bs) ≡ joined f ys ++ joined f bs
unfolding joined
joined_both f [] bs = refl
joined_both f (x ∷ ys) bs = ap (λ (y : Bytes). f x ++ y) (joined_both f ys bs) ∙ sym (append_assoc (f x) (joined f ys) (joined f bs))

-- each of them, and one more
pub each_more : {A : Type 0} (P : A → Type 0) (ys : List A) (a : A) → Each P ys → P a → Each P (ys ++ a ∷ [])
unfolding Each
each_more P [] a h p = (p, tt)
each_more P (x ∷ ys) a h p = (h.0, each_more P ys a h.1 p)

-- each of the last ones
pub each_rest : {A : Type 0} (P : A → Type 0) (ys bs : List A) → Each P (ys ++ bs) → Each P bs
unfolding Each
each_rest P [] bs h = h
each_rest P (x ∷ ys) bs h = each_rest P ys bs h.1

-- none of them
pub none_joined : {A : Type 0} (f : A → Bytes) (ys : List A) → length ys ≡ 0 → length (joined f ys) ≡ 0
unfolding joined
none_joined f [] e = refl
none_joined f (x ∷ ys) e = absurd (omega arith)

-- the one of an index
pub each_at : (P : Binding → Type 0) (bs : List Binding) (i : ℕ) → i < length bs → Each P bs → P (get_or bs i no_binding)
unfolding Each
each_at P [] i h f = absurd (not-suc-le-zero h)
each_at P (b ∷ bs) zero h f = f.0
each_at P (b ∷ bs) (suc i) h f = each_at P bs i (le_of_suc-le-suc h) f.1

-- the bindings up to the next
pub piece_size : (bs : List Binding) (i : ℕ) → i < length bs
    → length (joined binding_bytes (take (suc i) bs)) ≡ length (joined binding_bytes (take i bs)) + length (binding_bytes (get_or bs i no_binding))
unfolding joined
piece_size [] i h = absurd (not-suc-le-zero h)
piece_size (b ∷ bs) zero h = omega (arith, length-append (binding_bytes b) [])
piece_size (b ∷ bs) (suc i) h =
    omega (arith, piece_size bs i (le_of_suc-le-suc h), length-append (binding_bytes b) (joined binding_bytes (take (suc i) bs)), length-append (binding_bytes b) (joined binding_bytes (take i bs)))

-- the binding of an index, and the bytes up to its end
pub piece_at : {xs : Bytes} {q : ℕ} (bs : List Binding) (i : ℕ) → i < length bs → At xs q (joined binding_bytes bs)
    → At xs (q + length (joined binding_bytes (take i bs))) (binding_bytes (get_or bs i no_binding))
unfolding joined
piece_at [] i h a = absurd (not-suc-le-zero h)
piece_at {q = q} (b ∷ bs) zero h a = at_place (q + 0) (omega arith) (at_left (binding_bytes b) (joined binding_bytes bs) a)
piece_at {q = q} (b ∷ bs) (suc i) h a =
    at_place (q + length (binding_bytes b ++ joined binding_bytes (take i bs))) (omega (arith, length-append (binding_bytes b) (joined binding_bytes (take i bs))))
    (piece_at {q = q + length (binding_bytes b)} bs i (le_of_suc-le-suc h) (at_right (binding_bytes b) (joined binding_bytes bs) a))

-- bindings up to one are no longer than all
pub piece_within : (bs : List Binding) (i : ℕ) → i ≤ length bs → length (joined binding_bytes (take i bs)) ≤ length (joined binding_bytes bs)
unfolding joined
piece_within [] zero h = omega arith
piece_within [] (suc i) h = absurd (not-suc-le-zero h)
piece_within (b ∷ bs) zero h = omega arith
piece_within (b ∷ bs) (suc i) h =
    omega (arith, piece_within bs i (le_of_suc-le-suc h), length-append (binding_bytes b) (joined binding_bytes (take i bs)), length-append (binding_bytes b) (joined binding_bytes bs))
