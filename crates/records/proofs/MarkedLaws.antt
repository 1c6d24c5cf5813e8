-- What is known of a record by its mark: how long it is at least, and the trees of each B and H mark. Assumes nothing.
use mathlib.Core.Path.{◌≡◌, refl, ap, subst, ◌∙◌}
use mathlib.Core.List.{List, flatten}
use Prim.Native.Nat.{ℕ, zero, suc, ◌≤◌}
use Prim.Native.String.{String}
use native.Mathlib.Omega.{arith}
use lib.ListN.{length, take, length-append}
use Rattle.names.specs.Names.{Bytes, ascii, same}
use Rattle.names.specs.Segments.{At}
use Rattle.names.proofs.Places.{at_left}
use Rattle.records.specs.declared.Family.{Family}
use Rattle.records.specs.declared.Family.TheVariants.{Body as a_Body, Binding as a_binding, Helper as a_helper, Form as a_form}
use Rattle.records.specs.Parts.{family_part}
use Rattle.records.specs.Records.{mark_width, record_bytes, Loc, Sexp, Body, BL, BQ, BV, BC, BM, BF, body_bytes, Bodies, Tail, BB, binding_bytes, Bindings, Helper, HC, HM, HD, HN, HR, helper_bytes, Helpers, Form, CF, form_bytes}
use Rattle.records.specs.declared.Kind.{Kind}
use Rattle.records.specs.Scan.{mark_index, body_marks, helper_marks}

-- a record is no shorter than its mark
long : (m : String) (fs : List Bytes) → length (ascii m) ≡ mark_width → mark_width ≤ length (record_bytes m fs)
unfolding record_bytes
long m fs q = omega (arith, length-append (ascii m) (flatten fs))

pub family_long : (f : Family) (t : (family_part f).0) → mark_width ≤ length ((family_part f).1 t)
unfolding ascii body_bytes binding_bytes helper_bytes form_bytes
family_long a_Body (BL k l w h bs b) = long "BL" _ refl
family_long a_Body (BQ x) = long "BQ" _ refl
family_long a_Body (BV x) = long "BV" _ refl
family_long a_Body (BC l bs t) = long "BC" _ refl
family_long a_Body (BM l f) = long "BM" _ refl
family_long a_Body (BF l w ca c a b) = long "BF" _ refl
family_long a_binding (BB l nl p b) = long "BB" _ refl
family_long a_helper (HC l n r b) = long "HC" _ refl
family_long a_helper (HM l n r a f) = long "HM" _ refl
family_long a_helper (HD l i n r a b) = long "HD" _ refl
family_long a_helper (HN l n r hs) = long "HN" _ refl
family_long a_helper (HR l n r) = long "HR" _ refl
family_long a_form (CF l r a hs b) = long "CF" _ refl

-- the mark that s starts with
module _ {s : Bytes} (m : String) (fs : List Bytes) (ms : List String) (k : ℕ) where
  mark_there : length (ascii m) ≡ mark_width → mark_index (ascii m) ms ≡ k → At s 0 (record_bytes m fs) → mark_index (take mark_width s) ms ≡ k
  unfolding record_bytes
  mark_there q e a =
      let w = (at_left (ascii m) (flatten fs) a).there in
      let x : take mark_width s ≡ ascii m = rw q at w in
      ap (λ (y : Bytes). mark_index y ms) x ∙ e

-- P of every B record whose mark has that place among the marks; the same for the H records
unfoldable pub BodyOf : ℕ → (Body → Type 0) → Type 0
BodyOf zero P = (k : Kind) (l : Loc) (w h : Bytes) (bs : Bindings) (b : Body) → P (BL k l w h bs b)
BodyOf (suc zero) P = (x : Sexp) → P (BQ x)
BodyOf (suc (suc zero)) P = (x : Sexp) → P (BV x)
BodyOf (suc (suc (suc zero))) P = (l : Loc) (bs : Bodies) (t : Tail) → P (BC l bs t)
BodyOf (suc (suc (suc (suc zero)))) P = (l : Loc) (f : Form) → P (BM l f)
BodyOf (suc (suc (suc (suc (suc zero))))) P = (l : Loc) (w : Bytes) (ca : Sexp) (c : Body) (a : Sexp) (b : Body) → P (BF l w ca c a b)
BodyOf (suc (suc (suc (suc (suc (suc k)))))) P = Unit {0}

pub body_by_mark : {s : Bytes} {k : ℕ} (P : Body → Type 0) → k ≡ mark_index (take mark_width s) body_marks → BodyOf k P → (t : Body) → At s 0 (body_bytes t) → P t
unfolding BodyOf body_bytes ascii mark_index same
body_by_mark P q f (BL k l w h bs b) e = subst (λ (j : ℕ). BodyOf j P) (q ∙ mark_there "BL" _ body_marks 0 refl refl e) f k l w h bs b
body_by_mark P q f (BQ x) e = subst (λ (j : ℕ). BodyOf j P) (q ∙ mark_there "BQ" _ body_marks 1 refl refl e) f x
body_by_mark P q f (BV x) e = subst (λ (j : ℕ). BodyOf j P) (q ∙ mark_there "BV" _ body_marks 2 refl refl e) f x
body_by_mark P q f (BC l bs t) e = subst (λ (j : ℕ). BodyOf j P) (q ∙ mark_there "BC" _ body_marks 3 refl refl e) f l bs t
body_by_mark P q f (BM l c) e = subst (λ (j : ℕ). BodyOf j P) (q ∙ mark_there "BM" _ body_marks 4 refl refl e) f l c
body_by_mark P q f (BF l w ca c a b) e = subst (λ (j : ℕ). BodyOf j P) (q ∙ mark_there "BF" _ body_marks 5 refl refl e) f l w ca c a b

unfoldable pub HelperOf : ℕ → (Helper → Type 0) → Type 0
HelperOf zero P = (l : Loc) (n r : Bytes) (b : Body) → P (HC l n r b)
HelperOf (suc zero) P = (l : Loc) (n r : Bytes) (a : Sexp) (f : Form) → P (HM l n r a f)
HelperOf (suc (suc zero)) P = (l : Loc) (i : ℕ) (n r : Bytes) (a : Sexp) (b : Body) → P (HD l i n r a b)
HelperOf (suc (suc (suc zero))) P = (l : Loc) (n r : Bytes) (hs : Helpers) → P (HN l n r hs)
HelperOf (suc (suc (suc (suc zero)))) P = (l : Loc) (n r : Bytes) → P (HR l n r)
HelperOf (suc (suc (suc (suc (suc k))))) P = Unit {0}

pub helper_by_mark : {s : Bytes} {k : ℕ} (P : Helper → Type 0) → k ≡ mark_index (take mark_width s) helper_marks → HelperOf k P → (t : Helper) → At s 0 (helper_bytes t) → P t
unfolding HelperOf helper_bytes ascii mark_index same
helper_by_mark P q f (HC l n r b) e = subst (λ (j : ℕ). HelperOf j P) (q ∙ mark_there "HC" _ helper_marks 0 refl refl e) f l n r b
helper_by_mark P q f (HM l n r a c) e = subst (λ (j : ℕ). HelperOf j P) (q ∙ mark_there "HM" _ helper_marks 1 refl refl e) f l n r a c
helper_by_mark P q f (HD l i n r a b) e = subst (λ (j : ℕ). HelperOf j P) (q ∙ mark_there "HD" _ helper_marks 2 refl refl e) f l i n r a b
helper_by_mark P q f (HN l n r hs) e = subst (λ (j : ℕ). HelperOf j P) (q ∙ mark_there "HN" _ helper_marks 3 refl refl e) f l n r hs
helper_by_mark P q f (HR l n r) e = subst (λ (j : ℕ). HelperOf j P) (q ∙ mark_there "HR" _ helper_marks 4 refl refl e) f l n r
