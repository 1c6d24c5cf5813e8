-- What the view of an S record says of it: of a record that is no SC, and of an SA; and its L. Assumes nothing.
use mathlib.Core.Path.{◌≡◌, refl, sym, ap, subst, ◌∙◌}
use mathlib.Core.Bool.{Bool}
use mathlib.Core.List.{◌++◌, flatten, append_assoc, append-nil}
use mathlib.Core.Option.{none}
use native.Mathlib.Omega.{arith}
use Prim.Native.Nat.{ℕ, ◌≤◌}
use lib.ListN.{length, take, length-append}
use Rattle.names.specs.Maps.{NameMap}
use Rattle.names.specs.Names.{Bytes, ascii, name_field}
use Rattle.names.specs.Segments.{At}
use Rattle.names.proofs.Places.{at_is, at_left}
use Rattle.records.specs.Records.{head_width, Loc, Sexp, SN, SC, SI, SQ, SA, sexp_bytes, record_bytes}
use Rattle.records.specs.Sexps.{loc_of, only}
use Rattle.records.specs.Valid.{ValidLoc, ValidName, SexpFields}
use Rattle.records.specs.Views.{NameAt, SexpAt, nil_at, pair_at, integer_at, text_at, atom_at, SeesSexp}
use Rattle.records.specs.declared.NameView.{NameView}
use Rattle.records.specs.declared.SexpView.{SexpView}
use Rattle.records.specs.declared.SexpView.TheVariants.{Pair, Atom}
use Rattle.walk.specs.Arena.{named}
use Rattle.walk.specs.DrawnMaps.{atom_size}
use Rattle.walk.specs.RenameInCons.{rename_in_cons, rename_in_qq, rename_atom}
use Rattle.names.proofs.Fields.{name_field_length}

-- v is no view of an SC; of an SA
abbrev pub NoPair : SexpView → Type 0
NoPair v = (p : ℕ) → v ≡ Pair p → ⊥

abbrev pub NoAtom : SexpView → Type 0
NoAtom v = (n : NameView) → v ≡ Atom n → ⊥

-- a record that is no SC: both rules leave it, but for an atom outside `qq`
pub record Left (t : Sexp) : Type 0 where
  pub no_list : only t ≡ none
  pub in_qq : (qq : Bool) (m : NameMap) → rename_in_qq qq m t ≡ t
  pub in_cons : (qq : Bool) (m : NameMap) → rename_in_cons qq m t ≡ rename_atom m t

pub left : {s : Bytes} {v : SexpView} {t : Sexp} → NoPair v → SexpAt s v t → Left t
unfolding only rename_in_qq rename_in_cons rename_atom
left q (nil_at e) = record { no_list = refl; in_qq = λ qq m. refl; in_cons = λ qq m. refl }
left q (pair_at {p = p} k e) = absurd (q p refl)
left q (integer_at k) = record { no_list = refl; in_qq = λ qq m. refl; in_cons = λ qq m. refl }
left q (text_at k) = record { no_list = refl; in_qq = λ qq m. refl; in_cons = λ qq m. refl }
left q (atom_at k) = record { no_list = refl; in_qq = λ qq m. refl; in_cons = λ qq m. refl }

-- an SA whose name stands at v
pub record AtomAt (s : Bytes) (v : NameView) (t : Sexp) : Type 0 where
  pub l : Loc
  pub n : Bytes
  pub is : t ≡ SA l n
  pub valid : ValidName n
  pub name : NameAt s v n (length (sexp_bytes t))
  pub other : (z : Bytes) → sexp_bytes (SA l z) ≡ named s z
  pub size : (z : Bytes) → length (sexp_bytes (SA l z)) ≡ atom_size (length z)
  pub own_size : length (sexp_bytes t) ≡ atom_size (length n)

-- its bytes and their length
atom_bytes : (l : Loc) (z : Bytes) → sexp_bytes (SA l z) ≡ (ascii "SA" ++ l) ++ name_field z
unfolding sexp_bytes record_bytes flatten
atom_bytes l z = simp (append_assoc, append-nil)

head_length : (l : Loc) → ValidLoc l → length (ascii "SA" ++ l) ≡ head_width
unfolding ascii
head_length l w = omega arith

atom_length : (l : Loc) → ValidLoc l → (z : Bytes) → length (sexp_bytes (SA l z)) ≡ atom_size (length z)
atom_length l w z = omega (arith, ap length (atom_bytes l z), length-append (ascii "SA" ++ l) (name_field z), head_length l w, name_field_length z)

pub atom : {s : Bytes} {v : NameView} → SeesSexp s (Atom v) → (t : Sexp) → SexpFields t → At s 0 (sexp_bytes t) → AtomAt s v t
unfolding SexpFields
atom {s} {v} x t w a = go w a (x.sees t w a)
  where
    go : {t : Sexp} → SexpFields t → At s 0 (sexp_bytes t) → SexpAt s (Atom v) t → AtomAt s v t
    go w a (atom_at {l = l} {n = n} k) =
        let h = at_left (ascii "SA" ++ l) (name_field n) (subst (At s 0) (atom_bytes l n) a) in
        let e : take head_width s ≡ ascii "SA" ++ l = at_is 0 head_width refl (sym (head_length l w.0)) h in
        record {
          l = l;
          n = n;
          is = refl;
          valid = w.1;
          name = k;
          other = λ z. atom_bytes l z ∙ ap (λ (y : Bytes). y ++ name_field z) (sym e);
          size = atom_length l w.0;
          own_size = atom_length l w.0 n;
        }

-- the L of a record is one
pub valid_loc_of : (s : Sexp) → SexpFields s → ValidLoc (loc_of s)
unfolding loc_of SexpFields
valid_loc_of (SN l) p = p
valid_loc_of (SC l h t) p = p.0
valid_loc_of (SI l v) p = p.0
valid_loc_of (SQ l q n) p = p.0
valid_loc_of (SA l n) p = p.0

-- and stands in it behind the mark, so no record is shorter than the two
pub least_sexp : (s : Sexp) → SexpFields s → head_width ≤ length (sexp_bytes s)
unfolding SexpFields sexp_bytes record_bytes flatten ascii
least_sexp (SN l) w = simp length-append (omega arith)
least_sexp (SC l h t) w = simp length-append (omega (arith, w.0.width))
least_sexp (SI l v) w = simp length-append (omega (arith, w.0.width))
least_sexp (SQ l q n) w = simp length-append (omega (arith, w.0.width))
least_sexp (SA l n) w = simp length-append (omega (arith, w.0.width))
