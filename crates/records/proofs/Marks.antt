-- The mark that stands at a place of a table of marks, and the place of a mark. Assumes nothing.
use mathlib.Core.Path.{◌≡◌, ap, ◌∙◌}
use Prim.Native.Nat.{ℕ, zero, suc, ◌≤◌}
use native.Mathlib.Omega.{arith}
use Rattle.std.specs.declared.option.Option.{Option}
use Rattle.std.specs.declared.option.Option.TheVariants.{Some, None}
use Rattle.names.specs.Names.{Bytes}
use Rattle.records.specs.declared.SexpMark.{SexpMark}
use Rattle.records.specs.declared.SexpMark.TheVariants.{Nil, Pair, Integer, Text, Atom}
use Rattle.records.specs.declared.BodyMark.{BodyMark}
use Rattle.records.specs.declared.BodyMark.TheVariants.{Let, Quoted, Value, Call, Mod, Lambda}
use Rattle.records.specs.declared.HelperMark.{HelperMark}
use Rattle.records.specs.declared.HelperMark.TheVariants.{Constant, Macro, Function, Namespace, Reference}
use Rattle.records.specs.Scan.{mark_index, sexp_marks, sexp_mark_at, sexp_mark_of, body_marks, body_mark_at, body_mark_of, helper_marks, helper_mark_at, helper_mark_of}
use Rattle.records.proofs.RecordLaws.{index_bound}

-- the place of each mark
abbrev pub sexp_place : SexpMark → ℕ
sexp_place Nil = 0
sexp_place Pair = 1
sexp_place Integer = 2
sexp_place Text = 3
sexp_place Atom = 4

abbrev pub body_place : BodyMark → ℕ
body_place Let = 0
body_place Quoted = 1
body_place Value = 2
body_place Call = 3
body_place Mod = 4
body_place Lambda = 5

abbrev pub helper_place : HelperMark → ℕ
helper_place Constant = 0
helper_place Macro = 1
helper_place Function = 2
helper_place Namespace = 3
helper_place Reference = 4

-- where a mark stands at a place, it is its own
pub sexp_placed : {m n : SexpMark} {k : ℕ} → m ≡ n → Some m ≡ sexp_mark_at k → sexp_place n ≡ k
sexp_placed {m} {n} {k} q e = at k e
  where
    at : (k : ℕ) → Some m ≡ sexp_mark_at k → sexp_place n ≡ k
    at zero e = cc
    at (suc zero) e = cc
    at (suc (suc zero)) e = cc
    at (suc (suc (suc zero))) e = cc
    at (suc (suc (suc (suc zero)))) e = cc
    at (suc (suc (suc (suc (suc k))))) e = cc

pub body_placed : {m n : BodyMark} {k : ℕ} → m ≡ n → Some m ≡ body_mark_at k → body_place n ≡ k
body_placed {m} {n} {k} q e = at k e
  where
    at : (k : ℕ) → Some m ≡ body_mark_at k → body_place n ≡ k
    at zero e = cc
    at (suc zero) e = cc
    at (suc (suc zero)) e = cc
    at (suc (suc (suc zero))) e = cc
    at (suc (suc (suc (suc zero)))) e = cc
    at (suc (suc (suc (suc (suc zero))))) e = cc
    at (suc (suc (suc (suc (suc (suc k)))))) e = cc

pub helper_placed : {m n : HelperMark} {k : ℕ} → m ≡ n → Some m ≡ helper_mark_at k → helper_place n ≡ k
helper_placed {m} {n} {k} q e = at k e
  where
    at : (k : ℕ) → Some m ≡ helper_mark_at k → helper_place n ≡ k
    at zero e = cc
    at (suc zero) e = cc
    at (suc (suc zero)) e = cc
    at (suc (suc (suc zero))) e = cc
    at (suc (suc (suc (suc zero)))) e = cc
    at (suc (suc (suc (suc (suc k))))) e = cc

-- where none does, the place is past the table
pub no_sexp : (x : Bytes) → None ≡ sexp_mark_of x → 5 ≡ mark_index x sexp_marks
no_sexp x e = omega (arith, index_bound x sexp_marks, past (mark_index x sexp_marks) e)
  where
    past : (k : ℕ) → None ≡ sexp_mark_at k → 5 ≤ k
    past zero q = cc
    past (suc zero) q = cc
    past (suc (suc zero)) q = cc
    past (suc (suc (suc zero))) q = cc
    past (suc (suc (suc (suc zero)))) q = cc
    past (suc (suc (suc (suc (suc k))))) q = omega arith

pub no_body : (x : Bytes) → None ≡ body_mark_of x → 6 ≡ mark_index x body_marks
no_body x e = omega (arith, index_bound x body_marks, past (mark_index x body_marks) e)
  where
    past : (k : ℕ) → None ≡ body_mark_at k → 6 ≤ k
    past zero q = cc
    past (suc zero) q = cc
    past (suc (suc zero)) q = cc
    past (suc (suc (suc zero))) q = cc
    past (suc (suc (suc (suc zero)))) q = cc
    past (suc (suc (suc (suc (suc zero))))) q = cc
    past (suc (suc (suc (suc (suc (suc k)))))) q = omega arith

pub no_helper : (x : Bytes) → None ≡ helper_mark_of x → 5 ≡ mark_index x helper_marks
no_helper x e = omega (arith, index_bound x helper_marks, past (mark_index x helper_marks) e)
  where
    past : (k : ℕ) → None ≡ helper_mark_at k → 5 ≤ k
    past zero q = cc
    past (suc zero) q = cc
    past (suc (suc zero)) q = cc
    past (suc (suc (suc zero))) q = cc
    past (suc (suc (suc (suc zero)))) q = cc
    past (suc (suc (suc (suc (suc k))))) q = omega arith

-- where a mark doesn't stand, its place is another
pub body_other : {m : Option BodyMark} {k : ℕ} (n : BodyMark) → m ≡ body_mark_at k → (m ≡ Some n → ⊥) → k ≡ body_place n → ⊥
body_other Let e h z = h (e ∙ ap body_mark_at z)
body_other Quoted e h z = h (e ∙ ap body_mark_at z)
body_other Value e h z = h (e ∙ ap body_mark_at z)
body_other Call e h z = h (e ∙ ap body_mark_at z)
body_other Mod e h z = h (e ∙ ap body_mark_at z)
body_other Lambda e h z = h (e ∙ ap body_mark_at z)

pub helper_other : {m : Option HelperMark} {k : ℕ} (n : HelperMark) → m ≡ helper_mark_at k → (m ≡ Some n → ⊥) → k ≡ helper_place n → ⊥
helper_other Constant e h z = h (e ∙ ap helper_mark_at z)
helper_other Macro e h z = h (e ∙ ap helper_mark_at z)
helper_other Function e h z = h (e ∙ ap helper_mark_at z)
helper_other Namespace e h z = h (e ∙ ap helper_mark_at z)
helper_other Reference e h z = h (e ∙ ap helper_mark_at z)
