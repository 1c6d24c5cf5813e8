-- How many numbers one pass over a record may draw: one for each SA of a pattern and of args, and for each Name. Substitute adds none, and a
-- record has at least so many bytes. Assumes nothing.
use mathlib.Core.Path.{◌≡◌, refl, ap}
use mathlib.Core.Bool.{Bool, true, false, ◌&&◌}
use mathlib.Core.List.{List, [], ◌∷◌, flatten}
use mathlib.Core.Option.{Option, none, some}
use Prim.Native.Nat.{ℕ, ◌+◌, ◌≤◌}
use native.Mathlib.Omega.{arith}
use lib.ListN.{length, length-append}
use Rattle.names.specs.Names.{ascii, name_field}
use Rattle.names.specs.Maps.{NameMap}
use Rattle.records.specs.Records.{Loc, Sexp, SN, SC, SI, SQ, SA, Name, Complex, Body, BL, BQ, BV, BC, BM, BF, Bodies, []ᵇ, ◌∷ᵇ◌, Tail, no_tail, tail, Binding, BB, Bindings, []ᵍ, ◌∷ᵍ◌, Helper, HC, HM, HD, HN, HR, Helpers, []ʰ, ◌∷ʰ◌, Form, CF, to_bindings, list_of, record_bytes, byte, integer_field, pattern_field, sexp_bytes, body_bytes, bodies_bytes, tail_bytes, binding_bytes, bindings_bytes, helper_bytes, helpers_bytes, form_bytes}
use Rattle.records.specs.Sexps.{nilp, loc_of, is_atom, only}
use Rattle.walk.specs.RenameInCons.{requote, rename_in_cons, rename_in_qq, only_in_cons, only_in_qq}
use Rattle.walk.specs.Draws.{sexp_atoms, pattern_atoms, atoms, bodies_atoms, tail_atoms, binding_atoms, bindings_atoms, helper_atoms, helpers_atoms, form_atoms, patterns_of, inside_of, list_atoms}

pub list_parts : (bs : List Binding) → list_atoms bs ≡ patterns_of bs + inside_of bs
unfolding list_atoms patterns_of inside_of binding_atoms
list_parts [] = refl
list_parts (BB l nl p b ∷ bs) = omega (arith, list_parts bs)

pub atoms_to_bindings : (l : List Binding) → bindings_atoms (to_bindings l) ≡ list_atoms l
unfolding bindings_atoms to_bindings list_atoms
atoms_to_bindings [] = refl
atoms_to_bindings (b ∷ bs) = ap (λ (n : ℕ). binding_atoms b + n) (atoms_to_bindings bs)

pub atoms_list_of : (bs : Bindings) → bindings_atoms bs ≡ list_atoms (list_of bs)
unfolding bindings_atoms list_of list_atoms
atoms_list_of []ᵍ = refl
atoms_list_of (b ∷ᵍ bs) = ap (λ (n : ℕ). binding_atoms b + n) (atoms_list_of bs)

-- Substitute adds none
pub record Most (n : ℕ) (s : Sexp) : Type 0 where
  pub few : sexp_atoms s ≤ n

most_cond : {n : ℕ} {x y : Sexp} (b : Bool) → Most n x → Most n y → Most n (elim b [ true ↦ x | false ↦ y ])
most_cond true p q = p
most_cond false p q = q

most_only : {n : ℕ} {x y : Sexp} (b : Bool) → Most n x → Most n y → Most n (elim (elim b as (λ _. Option Sexp) [ true ↦ some x | false ↦ none ]) [ none ↦ y | some z ↦ z ])
most_only true p q = p
most_only false p q = q

most_requote : (l : Loc) (h t : Sexp) → Most (sexp_atoms h + sexp_atoms t) (requote l h t)
unfolding requote only sexp_atoms
most_requote l h (SN k) = record { few = omega arith }
most_requote l h (SC k x t) = go (nilp t)
  where
    go : (b : Bool)
        → Most (sexp_atoms h + (sexp_atoms x + sexp_atoms t)) (elim (elim b as (λ _. Option Sexp) [ true ↦ some x | false ↦ none ]) [ none ↦ SC l h (SC k x t) | some v ↦ SC l h (SC (loc_of v) v (SN (loc_of v))) ])
    go true = record { few = omega arith }
    go false = record { few = omega arith }
most_requote l h (SI k v) = record { few = omega arith }
most_requote l h (SQ k q n) = record { few = omega arith }
most_requote l h (SA k n) = record { few = omega arith }

module _ (qq : Bool) (m : NameMap) where
  mutual
    unfolding rename_in_cons sexp_atoms

    pub most_cons : (s : Sexp) → Most (sexp_atoms s) (rename_in_cons qq m s)
    most_cons (SN l) = record { few = omega arith }
    most_cons (SC l h t) =
        most_cond (is_atom "q" h) (record { few = omega arith })
        (most_cond (is_atom "quote" h) (most_requote l h t)
        (most_cond (is_atom "qq" h && qq)
        (most_only_in_qq t (SC l h t) (omega arith) (record { few = omega arith }))
        (record { few = omega (arith, (most_cons h).few, (most_cons t).few) })))
    most_cons (SI l v) = record { few = omega arith }
    most_cons (SQ l q n) = record { few = omega arith }
    most_cons (SA l n) = record { few = omega arith }

    most_qq : (s : Sexp) → Most (sexp_atoms s) (rename_in_qq qq m s)
    most_qq (SN l) = record { few = omega arith }
    most_qq (SC l h t) =
        most_cond (is_atom "unquote" h)
        (most_only_in_cons t (SC l (rename_in_qq qq m h) (rename_in_qq qq m t)) (omega arith) (record { few = omega (arith, (most_qq h).few, (most_qq t).few) }))
        (record { few = omega (arith, (most_qq h).few, (most_qq t).few) })
    most_qq (SI l v) = record { few = omega arith }
    most_qq (SQ l q n) = record { few = omega arith }
    most_qq (SA l n) = record { few = omega arith }

    most_only_in_cons : {n : ℕ} (s k : Sexp) → sexp_atoms s ≤ n → Most n k → Most n (elim (only_in_cons qq m s) [ none ↦ k | some x ↦ x ])
    most_only_in_cons (SN l) k p q = q
    most_only_in_cons (SC l x t) k p q = most_only (nilp t) (record { few = omega (arith, (most_cons x).few) }) q
    most_only_in_cons (SI l v) k p q = q
    most_only_in_cons (SQ l r n) k p q = q
    most_only_in_cons (SA l n) k p q = q

    most_only_in_qq : {n : ℕ} (s k : Sexp) → sexp_atoms s ≤ n → Most n k → Most n (elim (only_in_qq qq m s) [ none ↦ k | some x ↦ x ])
    most_only_in_qq (SN l) k p q = q
    most_only_in_qq (SC l x t) k p q = most_only (nilp t) (record { few = omega (arith, (most_qq x).few) }) q
    most_only_in_qq (SI l v) k p q = q
    most_only_in_qq (SQ l r n) k p q = q
    most_only_in_qq (SA l n) k p q = q

-- each has a byte of its own
pub few_sexp : (s : Sexp) → sexp_atoms s ≤ length (sexp_bytes s)
unfolding sexp_atoms sexp_bytes record_bytes flatten ascii name_field integer_field byte
few_sexp (SN l) = omega arith
few_sexp (SC l h t) = simp length-append (omega (arith, few_sexp h, few_sexp t))
few_sexp (SI l v) = omega arith
few_sexp (SQ l q n) = omega arith
few_sexp (SA l n) = simp length-append (omega arith)

mutual
  unfolding atoms pattern_atoms body_bytes record_bytes flatten ascii byte pattern_field

  pub few_body : (b : Body) → atoms b ≤ length (body_bytes b)
  few_body (BL k l w h bs b) = simp length-append (omega (arith, few_bindings bs, few_body b))
  few_body (BQ s) = omega arith
  few_body (BV s) = omega arith
  few_body (BC l bs t) = simp length-append (omega (arith, few_bodies bs, few_tail t))
  few_body (BM l f) = omega arith
  few_body (BF l w ca c a b) = simp length-append (omega (arith, few_body c, few_sexp a, few_body b))

  few_bodies : (bs : Bodies) → bodies_atoms bs ≤ length (bodies_bytes bs)
  few_bodies []ᵇ = omega arith
  few_bodies (b ∷ᵇ bs) = simp length-append (omega (arith, few_body b, few_bodies bs))

  few_tail : (t : Tail) → tail_atoms t ≤ length (tail_bytes t)
  few_tail no_tail = omega arith
  few_tail (tail b) = omega (arith, few_body b)

  few_binding : (b : Binding) → binding_atoms b ≤ length (binding_bytes b)
  few_binding (BB l nl (Name n) b) = simp length-append (omega (arith, few_body b))
  few_binding (BB l nl (Complex s) b) = simp length-append (omega (arith, few_sexp s, few_body b))

  few_bindings : (bs : Bindings) → bindings_atoms bs ≤ length (bindings_bytes bs)
  few_bindings []ᵍ = omega arith
  few_bindings (b ∷ᵍ bs) = simp length-append (omega (arith, few_binding b, few_bindings bs))

mutual
  unfolding helper_atoms helper_bytes record_bytes flatten ascii byte

  pub few_helper : (x : Helper) → helper_atoms x ≤ length (helper_bytes x)
  few_helper (HC l n x b) = simp length-append (omega (arith, few_body b))
  few_helper (HM l n x a f) = simp length-append (omega (arith, few_sexp a, few_form f))
  few_helper (HD l i n x a b) = simp length-append (omega (arith, few_sexp a, few_body b))
  few_helper (HN l n x hs) = simp length-append (omega (arith, few_helpers hs))
  few_helper (HR l n x) = omega arith

  few_helpers : (hs : Helpers) → helpers_atoms hs ≤ length (helpers_bytes hs)
  few_helpers []ʰ = omega arith
  few_helpers (h ∷ʰ hs) = simp length-append (omega (arith, few_helper h, few_helpers hs))

  pub few_form : (f : Form) → form_atoms f ≤ length (form_bytes f)
  few_form (CF l x a hs b) = simp length-append (omega (arith, few_sexp a, few_helpers hs, few_body b))
