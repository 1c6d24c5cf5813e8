-- A mark is read back from its bytes, also where a record starts with it, and in too few bytes there is none. Assumes nothing.
use mathlib.Core.Path.{◌≡◌, refl, sym, ap, ◌∙◌}
use mathlib.Core.List.{List, [], ◌∷◌}
use Rattle.std.specs.declared.option.Option.{Option}
use Rattle.std.specs.declared.option.Option.TheVariants.{Some, None}
use native.Mathlib.Omega.{arith}
use Prim.Native.Nat.{suc, ◌<◌, ◌≤◌}
use Prim.Native.String.{String}
use lib.ListN.{length, take}
use Rattle.names.specs.Names.{Bytes, ascii, same}
use Rattle.names.specs.Segments.{At}
use Rattle.names.proofs.Places.{at_is, at_left, at_whole}
use Rattle.names.proofs.Same.{same_lengths}
use Rattle.records.specs.Records.{mark_width}
use Rattle.records.specs.Lists.{Each}
use Rattle.records.specs.Scan.{mark_index, sexp_marks, body_marks, helper_marks}
use Rattle.records.specs.declared.SexpMark.TheVariants as sexps
use Rattle.records.specs.declared.BodyMark.TheVariants as bodies
use Rattle.records.specs.declared.HelperMark.TheVariants as helpers
use Rattle.outline.specs.declared.Mark.{Mark}
use Rattle.outline.specs.declared.Mark.TheVariants as marks
use Rattle.outline.specs.Outline.{Outline, node, outline_mark, mark_bytes, outline_bytes, pieces_bytes}
use Rattle.outline.specs.Shape.{first_mark}

-- how long a mark is
pub mark_long : (m : Mark) → length (mark_bytes m) ≡ mark_width
unfolding mark_bytes ascii
mark_long (marks.Sexp sexps.Nil) = refl
mark_long (marks.Sexp sexps.Pair) = refl
mark_long (marks.Sexp sexps.Integer) = refl
mark_long (marks.Sexp sexps.Text) = refl
mark_long (marks.Sexp sexps.Atom) = refl
mark_long (marks.Body bodies.Let) = refl
mark_long (marks.Body bodies.Quoted) = refl
mark_long (marks.Body bodies.Value) = refl
mark_long (marks.Body bodies.Call) = refl
mark_long (marks.Body bodies.Mod) = refl
mark_long (marks.Body bodies.Lambda) = refl
mark_long marks.Binding = refl
mark_long (marks.Helper helpers.Constant) = refl
mark_long (marks.Helper helpers.Macro) = refl
mark_long (marks.Helper helpers.Function) = refl
mark_long (marks.Helper helpers.Namespace) = refl
mark_long (marks.Helper helpers.Reference) = refl
mark_long marks.Form = refl

-- a mark is read back
pub mark_known : (m : Mark) → first_mark (mark_bytes m) ≡ Some m
unfolding mark_bytes mark_index same ascii
mark_known (marks.Sexp sexps.Nil) = refl
mark_known (marks.Sexp sexps.Pair) = refl
mark_known (marks.Sexp sexps.Integer) = refl
mark_known (marks.Sexp sexps.Text) = refl
mark_known (marks.Sexp sexps.Atom) = refl
mark_known (marks.Body bodies.Let) = refl
mark_known (marks.Body bodies.Quoted) = refl
mark_known (marks.Body bodies.Value) = refl
mark_known (marks.Body bodies.Call) = refl
mark_known (marks.Body bodies.Mod) = refl
mark_known (marks.Body bodies.Lambda) = refl
mark_known marks.Binding = refl
mark_known (marks.Helper helpers.Constant) = refl
mark_known (marks.Helper helpers.Macro) = refl
mark_known (marks.Helper helpers.Function) = refl
mark_known (marks.Helper helpers.Namespace) = refl
mark_known (marks.Helper helpers.Reference) = refl
mark_known marks.Form = refl

-- a mark is not none
mark_some : {x : Option Mark} {m : Mark} → Some m ≡ x → None ≡ x → ⊥
mark_some e q = let no : ◌≡◌ {A = Option Mark} (Some _) None = e ∙ sym q in cc

-- a record starts with its mark
mark_first : {s : Bytes} (x : Outline) → At s 0 (outline_bytes x) → At s 0 (mark_bytes (outline_mark x))
unfolding outline_bytes outline_mark
mark_first (node m n ps) a = at_left (mark_bytes m) (pieces_bytes ps) a

-- which it is long enough for
pub mark_inside : (x : Outline) → mark_width ≤ length (outline_bytes x)
mark_inside x = omega (arith, (mark_first x (at_whole (outline_bytes x))).fits, mark_long (outline_mark x))

module _ {s : Bytes} (x : Outline) (a : At s 0 (outline_bytes x)) where
  -- its mark as it stands there
  pub mark_there : take mark_width s ≡ mark_bytes (outline_mark x)
  mark_there = at_is 0 mark_width refl (sym (mark_long (outline_mark x))) (mark_first x a)

  -- and as it is read
  mark_read : Some (outline_mark x) ≡ first_mark (take mark_width s)
  mark_read = sym (ap first_mark mark_there ∙ mark_known (outline_mark x))

  -- where there is no mark there is no record
  pub no_mark : None ≡ first_mark (take mark_width s) → ⊥
  no_mark is = mark_some mark_read is

  -- the mark that is read is that of the record
  pub mark_same : {m : Mark} → Some m ≡ first_mark (take mark_width s) → m ≡ outline_mark x
  mark_same {m} is = let e : ◌≡◌ {A = Option Mark} (Some m) (Some (outline_mark x)) = is ∙ sym mark_read in cc

-- too few bytes are none of such marks
index_short : (x : Bytes) → length x < mark_width → (ms : List String) → Each (λ m. length (ascii m) ≡ mark_width) ms → mark_index x ms ≡ length ms
unfolding mark_index Each
index_short x l [] h = refl
index_short x l (m ∷ ms) h = rw (same_lengths x (ascii m) (λ q. omega (arith, h.0)), mark_index) (ap suc (index_short x l ms h.1))

-- in them there is no mark
mark_short : (x : Bytes) → length x < mark_width → first_mark x ≡ None
unfolding Each ascii
mark_short x l =
    let of_sexp = index_short x l sexp_marks (refl, (refl, (refl, (refl, (refl, tt))))) in
    let of_body = index_short x l body_marks (refl, (refl, (refl, (refl, (refl, (refl, tt)))))) in
    let of_helper = index_short x l helper_marks (refl, (refl, (refl, (refl, (refl, tt))))) in
    rw (of_sexp, of_body, of_helper, same_lengths x (ascii "BB") (λ q. omega arith), same_lengths x (ascii "CF") (λ q. omega arith)) refl

-- so where there is one the bytes are enough
pub mark_fits : (x : Bytes) {m : Mark} → Some m ≡ first_mark x → mark_width ≤ length x
mark_fits [] e = absurd (mark_some e (sym (mark_short [] (omega arith))))
mark_fits (b ∷ []) e = absurd (mark_some e (sym (mark_short (b ∷ []) (omega arith))))
mark_fits (b ∷ c ∷ x) e = omega arith
