-- Worked cases of the rules, by computation: one row or more for each rule that the starred cases do not use.
-- Assumes nothing.
use mathlib.Core.Path.{refl}
use mathlib.Core.List.{List, [], ◌∷◌}
use Prim.Native.String.{String}
use Rattle.names.specs.Names.{Bytes, ascii}
use Rattle.records.specs.Records.{Sexp, SN, SI, Body, BQ, BC, BF, tail, Helper, HR, to_bodies, helper_bytes, form_bytes}
use Rattle.records.specs.declared.Kind.TheVariants.{Parallel, Sequential}
use Rattle.walk.specs.Calls.{computing_all}
use Rattle.walk.proofs.Cases.{Call, whole, children, single, Seen, accepted, at, var, number, atom, cons, named, complex, let_of, let_one, assign, call, nil, lambda, thunk, no_raw, constant, function, macro, namespace, form_with, constant_of, Holds}

-- let n = 1, body m
abbrev pub binds : String → String → Body
binds n m = let_one n (var m)

-- let s = 1, body m, with a pattern
abbrev pub matches : Sexp → String → Body
matches s m = let_of Parallel (complex s (number 1) ∷ []) (var m)

-- (w s), and (w x y)
abbrev pub pair : String → Sexp → Sexp
pair w s = cons (atom w) (cons s (SN at))

abbrev pub triple : String → Sexp
triple w = cons (atom w) (pair "x" (atom "y"))

-- a function with these args, body m
abbrev pub taking : Sexp → String → Bytes
taking s m = helper_bytes (function s (var m))

-- (qq (unquote x))
abbrev pub quasi : Sexp
quasi = pair "qq" (pair "unquote" (atom "x"))

-- a call of f with a tail
abbrev pub with_tail : Body → Body
with_tail t = BC at (to_bodies (var "f" ∷ [])) (tail t)

-- a form whose args are x, with one helper
abbrev pub about_x : String → Helper → Body → Bytes
about_x x h b = form_bytes (form_with (atom x) (h ∷ []) b)

abbrev pub sexp_rows : List (Call × Seen)
sexp_rows =
    -- pattern (quote x y) is kept; (quote x . 0) is a list of one element, and ends in nil then
    (single 0 (constant_of (matches (triple "quote") "y")), accepted 3 (constant_of (matches (triple "quote") "y_$_3")))
    ∷ (
      single 0 (constant_of (matches (cons (atom "quote") (cons (atom "x") (SI at (0 ∷ [])))) "x")),
      accepted 2 (constant_of (matches (pair "quote" (atom "x")) "x_$_2")),
    )
    -- args (qq x y) are kept; of (qq (unquote x y)) only the `qq` goes
    ∷ (single 0 (taking (triple "qq") "y"), accepted 3 (taking (triple "qq") "y_$_3"))
    ∷ (single 0 (taking (pair "qq" (triple "unquote")) "y"), accepted 4 (taking (triple "unquote") "y_$_4"))
    -- args (qq (x (unquote x))): the second x alone is renamed
    ∷ (single 0 (taking (pair "qq" (pair "x" (pair "unquote" (atom "x")))) "x"), accepted 4 (taking (pair "x" (atom "x_$_4")) "x_$_4"))
    -- args (x qq (unquote x)): a tail is tested like a whole list
    ∷ (single 0 (taking (cons (atom "x") quasi) "x"), accepted 4 (taking (cons (atom "x_$_4") (atom "x_$_4")) "x_$_4"))
    ∷ []

pub sexps_hold : Holds sexp_rows
unfolding computing_all
sexps_hold = refl

abbrev pub body_rows : List (Call × Seen)
body_rows =
    -- In-body: a quoted atom goes by the map, a quoted list is kept
    (single 0 (constant_of (let_one "x" (BQ (atom "x")))), accepted 1 (constant_of (let_one "x_$_1" (BQ (atom "x_$_1")))))
    ∷ (single 0 (constant_of (let_one "x" (BQ (pair "x" (atom "x"))))), accepted 1 (constant_of (let_one "x_$_1" (BQ (pair "x" (atom "x"))))))
    -- a call's tail, by In-body and by Own
    ∷ (single 0 (constant_of (let_one "x" (with_tail (var "x")))), accepted 1 (constant_of (let_one "x_$_1" (with_tail (var "x_$_1")))))
    ∷ (single 0 (constant_of (with_tail (binds "x" "x"))), accepted 1 (constant_of (with_tail (binds "x_$_1" "x_$_1"))))
    -- element 0 goes through In-body, which draws 3; then it is put back as it was
    ∷ (
      single 0 (constant_of (let_one "z" (call (thunk (binds "y" "y") ∷ thunk (var "z") ∷ [])))),
      accepted 3 (constant_of (let_one "z_$_1" (call (thunk (binds "y_$_2" "y_$_2") ∷ thunk (var "z_$_1") ∷ [])))),
    )
    -- In-body of a lambda: captures, capture args and body go by the map; in the capture args (qq x) `qq` is a name
    ∷ (
      single 0 (constant_of (let_one "x" (BF at (0 ∷ []) (pair "qq" (atom "x")) (var "x") (SN at) (var "x")))),
      accepted 1 (constant_of (let_one "x_$_1" (BF at (0 ∷ []) (pair "qq" (atom "x_$_1")) (var "x_$_1") (SN at) (var "x_$_1")))),
    )
    -- Own of a lambda: captures and capture args are kept; in the args (qq x) `qq` is a name
    ∷ (
      single 0 (constant_of (BF at (0 ∷ []) (atom "x") (binds "x" "x") (pair "qq" (atom "x")) (var "x"))),
      accepted 2 (constant_of (BF at (0 ∷ []) (atom "x") (binds "x" "x") (pair "qq_$_1" (atom "x_$_2")) (var "x_$_2"))),
    )
    -- In-body keeps the args of a lambda and the pattern of a let, and takes the bodies
    ∷ (single 0 (constant_of (let_one "y_$_2" (lambda (atom "y") (var "y")))), accepted 2 (constant_of (let_one "y_$_2_$_1" (lambda (atom "y_$_2") (var "y_$_2_$_1")))))
    ∷ (single 0 (constant_of (let_one "y_$_2" (binds "y" "y"))), accepted 2 (constant_of (let_one "y_$_2_$_1" (binds "y_$_2" "y_$_2_$_1"))))
    -- a let in a lambda is renamed again
    ∷ (single 0 (constant_of (let_one "z" (thunk (binds "y" "y")))), accepted 3 (constant_of (let_one "z_$_1" (thunk (binds "y_$_2_$_3" "y_$_2_$_3")))))
    -- a Name `@` of a let draws a number
    ∷ (single 0 (constant_of (binds "@" "@")), accepted 1 (constant_of (binds "@_$_1" "@_$_1")))
    -- so it is in the pattern (qq x) of a let, and of an assign
    ∷ (single 0 (constant_of (matches (pair "qq" (atom "x")) "x")), accepted 2 (constant_of (matches (pair "qq_$_1" (atom "x_$_2")) "x_$_2")))
    ∷ (
      single 0 (constant_of (assign (complex (pair "qq" (atom "x")) (number 1) ∷ []) (var "x"))),
      accepted 2 (constant_of (assign (complex (pair "qq_$_1" (atom "x_$_2")) (number 1) ∷ []) (var "x_$_2"))),
    )
    -- Own of the bodies of a let's bindings, which do not see its names
    ∷ (
      single 0 (constant_of (let_of Parallel (named "x" (binds "y" "x") ∷ named "y" (binds "x" "x") ∷ []) nil)),
      accepted 4 (constant_of (let_of Parallel (named "x_$_1" (binds "y_$_3" "x") ∷ named "y_$_2" (binds "x_$_4" "x_$_4") ∷ []) nil)),
    )
    -- a let* without bindings is its body
    ∷ (single 0 (constant_of (let_of Sequential [] (binds "x" "x"))), accepted 1 (constant_of (binds "x_$_1" "x_$_1")))
    -- a Name binding of an assign is copied, body and all
    ∷ (
      single 0 (constant_of (assign (named "x" (binds "y" "y") ∷ complex (atom "z") (var "x") ∷ []) (var "z"))),
      accepted 1 (constant_of (assign (complex (atom "z_$_1") (var "x") ∷ named "x" (binds "y" "y") ∷ []) (var "z_$_1"))),
    )
    ∷ []

pub bodies_hold : Holds body_rows
unfolding computing_all
bodies_hold = refl

abbrev pub helper_rows : List (Call × Seen)
helper_rows =
    -- a form's arg in a constant, in a function and in a macro's form and its helper
    (whole 0 (about_x "x" (constant (var "x")) nil), accepted 1 (about_x "x_$_1" (constant (var "x_$_1")) nil))
    ∷ (whole 0 (about_x "x" (function (atom "y") (var "x")) nil), accepted 2 (about_x "x_$_1" (function (atom "y_$_2") (var "x_$_1")) nil))
    ∷ (
      whole 0 (about_x "x" (macro (SN at) (form_with (SN at) (constant (var "x") ∷ []) (var "x"))) nil),
      accepted 1 (about_x "x_$_1" (macro (SN at) (form_with (SN at) (constant (var "x_$_1") ∷ []) (var "x_$_1"))) nil),
    )
    -- a namespace is left out: what it holds is renamed by Own, and does not see the form's arg
    ∷ (
      whole 0 (about_x "x" (namespace (constant (var "x") ∷ function (atom "x") (var "x") ∷ [])) (var "x")),
      accepted 2 (about_x "x_$_1" (namespace (constant (var "x") ∷ function (atom "x_$_2") (var "x_$_2") ∷ [])) (var "x_$_1")),
    )
    -- args of a function and of a macro's form stay where they are in the map of what is around
    ∷ (whole 0 (about_x "y_$_2" (function (atom "y") nil) nil), accepted 2 (about_x "y_$_2_$_1" (function (atom "y_$_2") nil) nil))
    ∷ (
      whole 0 (about_x "y_$_2" (macro (SN at) (form_with (atom "y") [] nil)) nil),
      accepted 2 (about_x "y_$_2_$_1" (macro (SN at) (form_with (atom "y_$_2") [] nil)) nil),
    )
    -- args (qq (unquote x)) of a function, of a macro and of a form: `qq` and `unquote` draw too, and are not written
    ∷ (single 0 (taking quasi "x"), accepted 3 (taking (atom "x_$_3") "x_$_3"))
    ∷ (single 0 (helper_bytes (macro quasi (form_with (SN at) [] (var "x")))), accepted 3 (helper_bytes (macro (atom "x_$_3") (form_with (SN at) [] (var "x_$_3")))))
    ∷ (whole 0 (form_bytes (form_with quasi [] (var "x"))), accepted 3 (form_bytes (form_with (atom "x_$_3") [] (var "x_$_3"))))
    -- Single helper: Own of a constant, of a macro's form with its helpers, of what a namespace holds; a reference is kept
    ∷ (single 7 (constant_of (binds "x" "x")), accepted 8 (constant_of (binds "x_$_8" "x_$_8")))
    ∷ (
      single 0 (helper_bytes (macro (atom "x") (form_with (atom "y") (constant (var "x") ∷ function (atom "z") (var "y") ∷ []) (var "x")))),
      accepted 3 (helper_bytes (macro (atom "x_$_1") (form_with (atom "y_$_2") (constant (var "x_$_1") ∷ function (atom "z_$_3") (var "y_$_2") ∷ []) (var "x_$_1")))),
    )
    ∷ (
      single 0 (helper_bytes (namespace (constant (binds "x" "x") ∷ namespace (function (atom "x") (var "x") ∷ []) ∷ []))),
      accepted 2 (helper_bytes (namespace (constant (binds "x_$_1" "x_$_1") ∷ namespace (function (atom "x_$_2") (var "x_$_2") ∷ []) ∷ []))),
    )
    ∷ (single 0 (helper_bytes (HR at (ascii "x") no_raw)), accepted 0 (helper_bytes (HR at (ascii "x") no_raw)))
    -- Children only: helpers before the body; the form's own arg stays, everywhere
    ∷ (
      children 0 (about_x "x" (function (atom "y") (call (var "f" ∷ var "x" ∷ var "y" ∷ []))) (binds "x" "x")),
      accepted 2 (about_x "x" (function (atom "y_$_1") (call (var "f" ∷ var "x" ∷ var "y_$_1" ∷ []))) (binds "x_$_2" "x_$_2")),
    )
    ∷ (children 0 (about_x "x" (constant (binds "y" "x")) (var "x")), accepted 1 (about_x "x" (constant (binds "y_$_1" "x")) (var "x")))
    -- a form of the other kind
    ∷ (children 0 (constant_of nil), (2, 0, 0, []))
    ∷ (single 0 (form_bytes (form_with (SN at) [] nil)), (2, 0, 0, []))
    ∷ []

pub helpers_hold : Holds helper_rows
unfolding computing_all
helpers_hold = refl
