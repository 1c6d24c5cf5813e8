-- What stands at a place of a list of bytes. Assumes nothing.
use mathlib.Core.Path.{◌≡◌, sym, ap, subst, ◌∙◌}
use mathlib.Core.List.{[], ◌∷◌, ◌++◌}
use native.Mathlib.Nat.{suc-add, zero-add}
use native.Mathlib.Omega.{arith}
use Prim.Native.Nat.{ℕ, zero, suc, ◌+◌, ◌≤◌, ◌<◌}
use lib.ListN.{length, take, drop, get_or, length-append, length-drop, length-take, take-append-drop}
use lib.Seq.{drop-append_seam, drop-drop, get_or-drop, get_or-take, length-take-le, take-add, take_all, take-append_seam, take-length, take-nil, take-take}
use Rattle.names.specs.Names.{Bytes}
use Rattle.names.specs.Segments.{At}

-- a list in itself
pub at_whole : (xs : Bytes) → At xs 0 xs
at_whole xs = record { fits = omega arith; there = take-length xs }

-- the bytes of any place stand there
pub at_own : (xs : Bytes) (p n : ℕ) → p + n ≤ length xs → At xs p (take n (drop p xs))
at_own xs p n le =
    let l : length (take n (drop p xs)) ≡ n = length-take-le n (drop p xs) (omega (arith, length-drop p xs)) in
    record { fits = omega arith; there = ap (λ (k : ℕ). take k (drop p xs)) l }

-- the same place, told otherwise
pub at_place : {xs : Bytes} {p : ℕ} {bs : Bytes} (q : ℕ) → p ≡ q → At xs p bs → At xs q bs
at_place {xs} {p} {bs} q e h = subst (λ (k : ℕ). At xs k bs) e h

-- a segment as what is taken there
pub at_is : {xs : Bytes} {p : ℕ} {bs : Bytes} (q n : ℕ) → p ≡ q → n ≡ length bs → At xs p bs → take n (drop q xs) ≡ bs
at_is q n e l h = rw (l, ← e) h.there

-- a segment that ends with the list
pub at_end : {xs : Bytes} {p : ℕ} {bs : Bytes} → At xs p bs → p + length bs ≡ length xs → drop p xs ≡ bs
at_end {xs} {p} {bs} h e = sym (take_all (length bs) (drop p xs) (omega (arith, length-drop p xs))) ∙ h.there

-- a byte of a segment
pub at_get : {xs : Bytes} {p : ℕ} {bs : Bytes} → At xs p bs → (i : ℕ) → i < length bs → get_or xs (p + i) 0 ≡ get_or bs i 0
at_get {xs} {p} {bs} h i lt = sym (get_or-drop p xs i 0) ∙ sym (get_or-take (length bs) (drop p xs) i 0 lt) ∙ ap (λ (l : Bytes). get_or l i 0) h.there

-- two segments side by side are one
module _ {xs : Bytes} {p : ℕ} (a b : Bytes) where
  pub at_left : At xs p (a ++ b) → At xs p a
  at_left h =
      let l = length-append a b in
      record {
        fits = omega (arith, h.fits);
        there = sym (take-take (length a) (length (a ++ b)) (drop p xs) (omega arith)) ∙ ap (take (length a)) h.there ∙ take-append_seam a b;
      }

  pub at_right : At xs p (a ++ b) → At xs (p + length a) b
  at_right h =
      let l = length-append a b in
      let d = drop p xs in
      let x = take (length b) (drop (length a) d) in
      let e : a ++ x ≡ a ++ b = cc ((at_left h).there, take-add (length a) (length b) d, l, h.there) in
      record { fits = omega (arith, h.fits); there = rw (← drop-drop) (sym (drop-append_seam a x) ∙ ap (drop (length a)) e ∙ drop-append_seam a b) }

  pub at_join : At xs p a → At xs (p + length a) b → At xs p (a ++ b)
  at_join h k =
      let l = length-append a b in
      record { fits = omega (arith, k.fits); there = rw l (take-add (length a) (length b) (drop p xs) ∙ cc (h.there, k.there, drop-drop (length a) p xs)) }

-- the front of a segment and what stands after it
module _ {xs : Bytes} {p : ℕ} {bs : Bytes} (n : ℕ) (h : At xs p bs) where
  split : At xs p (take n bs ++ drop n bs)
  split = rw take-append-drop h

  pub at_front : At xs p (take n bs)
  at_front = at_left (take n bs) (drop n bs) split

  pub at_rest : n ≤ length bs → At xs (p + n) (drop n bs)
  at_rest le = at_place (p + n) (ap (λ (k : ℕ). p + k) (length-take-le n bs le)) (at_right (take n bs) (drop n bs) split)

-- the bytes of a place, taken first or dropped first
pub take_drop : (p n : ℕ) (xs : Bytes) → take n (drop p xs) ≡ drop p (take (p + n) xs)
take_drop zero n xs = ap (λ (k : ℕ). take k xs) (sym (zero-add n))
take_drop (suc p) n [] = take-nil n ∙ ap (drop (suc p)) (sym (take-nil (suc p + n)))
take_drop (suc p) n (x ∷ xs) = take_drop p n xs ∙ ap (λ (k : ℕ). drop (suc p) (take k (x ∷ xs))) (sym (suc-add p n))

pub take_drop_take : (p n k : ℕ) (xs : Bytes) → p + n ≤ k → take n (drop p (take k xs)) ≡ take n (drop p xs)
take_drop_take p n k xs le = rw (take_drop p n (take k xs), take-take (p + n) k xs le) (sym (take_drop p n xs))

-- a segment of what is left after n bytes, and of the first n bytes
module _ {xs : Bytes} {p : ℕ} {bs : Bytes} (n : ℕ) where
  pub at_into_drop : At xs (n + p) bs → At (drop n xs) p bs
  at_into_drop h = record { fits = omega (arith, h.fits, length-drop n xs); there = rw drop-drop h.there }

  pub at_from_drop : n ≤ length xs → At (drop n xs) p bs → At xs (n + p) bs
  at_from_drop le h = record { fits = omega (arith, h.fits, length-drop n xs); there = rw drop-drop at h.there }

  pub at_into_take : p + length bs ≤ n → At xs p bs → At (take n xs) p bs
  at_into_take le h = record { fits = omega (arith, h.fits, length-take n xs); there = take_drop_take p (length bs) n xs le ∙ h.there }

  pub at_from_take : At (take n xs) p bs → At xs p bs
  at_from_take h =
      let l = length-take n xs in
      record { fits = omega (arith, h.fits); there = sym (take_drop_take p (length bs) n xs (omega (arith, h.fits))) ∙ h.there }
