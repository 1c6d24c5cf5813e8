-- Worked cases of the sums, by computation. A row has an input and the least F that is enough for it; one below, the answer is 7.
-- What a step adds last has no row of its own: the finished record, which is tested next, holds all that the sum then holds.
-- Assumes nothing.
use mathlib.Core.Path.{◌≡◌, refl}
use mathlib.Core.List.{List, [], ◌∷◌, map}
use Prim.Native.Nat.{ℕ, ◌-◌}
use Prim.Native.String.{String}
use lib.ListN.{replicate}
use Rattle.names.specs.CallAnswer.{max_counter}
use Rattle.names.specs.Names.{Bytes}
use Rattle.records.specs.Records.{Sexp, SN, Body, BF, helper_bytes, form_bytes}
use Rattle.records.specs.declared.Kind.TheVariants.{Parallel, Sequential}
use Rattle.walk.specs.Calls.{computing_all}
use Rattle.walk.proofs.Cases.{Call, whole_in, children_in, single_in, answer, Seen, seen, accepted, at, var, atom, cons, named, complex, let_of, assign, self_bound, call, nil, lambda, thunk, captures, constant, function, macro, namespace, form_with, constant_of}

-- a call with its F still to be given, its input, the least F that is enough, and the answer at this F
abbrev pub Tight : Type 0
Tight = (ℕ → ℕ → ℕ → Bytes → Call) × Bytes × ℕ × Seen

-- the answer with a buffer of F bytes, at the greatest counter, where each made name is 13 bytes longer than the old one
abbrev pub answer_at : ℕ → Tight → Seen
answer_at F r = seen (answer (r.0 F F max_counter r.1))

-- the name that x gets there
abbrev pub new_x : String
new_x = "x_$_4294967296"

-- (x y y ..), with so many y; element 0 stays under In-body
abbrev pub uses : String → ℕ → Body
uses y n = call (var "x" ∷ replicate n (var y))

-- let y = (), and this body
abbrev pub let_nil : String → Body → Body
let_nil y b = let_of Parallel (named y nil ∷ []) b

-- let x = (), body (x x ..): it grows by Own
abbrev pub growing : ℕ → Body
growing n = let_nil "x" (uses "x" n)

-- a deadlock that In-body comes to and Own does not
abbrev pub trap : Body
trap = captures (thunk self_bound)

-- an assign in a lambda, for a form in a macro whose arg y gets the second number: read a third time, it is a deadlock
abbrev pub third : Body
third = thunk (assign (named "y_$_4294967297" (var "y") ∷ []) nil)

-- (a b c d)
abbrev pub four : Sexp
four = cons (atom "a") (cons (atom "b") (cons (atom "c") (cons (atom "d") (SN at))))

-- the answer of a deadlock
abbrev pub stops : Seen
stops = (5, 7, max_counter, [])

-- What a step holds, for each kind of step: at F the sum is just F, and the call comes to a deadlock behind it.
abbrev pub sum_rows : List Tight
sum_rows =
    -- Own of a call: its elements
    (single_in, constant_of (call (nil ∷ growing 5 ∷ self_bound ∷ [])), 185, stops)
    -- Own of a parallel let: patterns, binding bodies, Own of the body
    ∷ (single_in, constant_of (let_of Parallel (complex (atom "y") (growing 2) ∷ named "z" nil ∷ []) trap), 240, stops)
    -- both patterns, and the binding bodies before the last
    ∷ (single_in, constant_of (let_of Parallel (complex four nil ∷ complex (atom "y") (growing 3) ∷ named "z" self_bound ∷ []) nil), 274, stops)
    -- Own of a sequential let: the desugared let
    ∷ (single_in, constant_of (let_of Sequential (named "x" nil ∷ named "y" nil ∷ named "z" nil ∷ []) self_bound), 142, stops)
    -- Own of an assign: Own of a binding body and the pattern, before In-body of the binding body
    ∷ (single_in, constant_of (assign (complex four trap ∷ []) nil), 217, stops)
    -- patterns and In-body of binding bodies, Own of the body
    ∷ (single_in, constant_of (assign (complex (atom "x") nil ∷ complex (atom "y") (uses "x" 2) ∷ []) trap), 217, stops)
    -- Own of a lambda: args, Own of the body
    ∷ (single_in, constant_of (lambda four trap), 217, stops)
    -- In-body of a let: binding bodies
    ∷ (
      single_in,
      helper_bytes (function (atom "x") (captures (let_of Parallel (named "y" nil ∷ named "z" (uses "x" 14) ∷ named "w" (thunk self_bound) ∷ []) nil))),
      348,
      stops,
    )
    -- In-body of a call: element 0 as it was, other elements
    ∷ (single_in, helper_bytes (function (atom "x") (call (var "x" ∷ uses "x" 11 ∷ trap ∷ []))), 281, stops)
    -- In-body of a lambda: captures, capture args, Own of the body
    ∷ (single_in, helper_bytes (function (atom "x") (captures (BF at (0 ∷ []) (atom "x") (uses "x" 5) (SN at) trap))), 257, stops)
    -- a function: args, Own of the body
    ∷ (single_in, helper_bytes (function (atom "x") trap), 124, stops)
    -- a macro: args, Own of its form
    ∷ (single_in, helper_bytes (macro (atom "x") (form_with (atom "y") [] third)), 145, stops)
    -- its form by the in-rule: helpers
    ∷ (single_in, helper_bytes (macro (atom "x") (form_with (atom "y") (constant nil ∷ constant (uses "x" 12) ∷ []) third)), 322, stops)
    -- a namespace: helpers
    ∷ (single_in, helper_bytes (namespace (constant nil ∷ constant (growing 5) ∷ constant self_bound ∷ [])), 205, stops)
    -- a form: args, helpers, Own of the body
    ∷ (whole_in, form_bytes (form_with (atom "x") (constant trap ∷ []) nil), 142, stops)
    -- the first helper by the in-rule in place of Own, before the second
    ∷ (whole_in, form_bytes (form_with (atom "x") (constant (uses "x" 1) ∷ constant trap ∷ []) nil), 193, stops)
    -- Children only: helpers
    ∷ (children_in, form_bytes (form_with (SN at) (constant nil ∷ constant (growing 5) ∷ []) self_bound), 205, stops)
    ∷ []

-- Results that leave the sum: at F what is written has just F bytes, and no sum passes them.
abbrev pub release_rows : List Tight
release_rows =
    -- Own of a body leaves before In-body of it is added: of a let, of an assign, of a lambda
    (
      single_in,
      constant_of (let_nil "x" (uses "x" 4)),
      164,
      accepted 4294967296 (constant_of (let_nil new_x (uses new_x 4))),
    )
    ∷ (
      single_in,
      constant_of (assign (complex (atom "x") nil ∷ []) (uses "x" 3)),
      147,
      accepted 4294967296 (constant_of (assign (complex (atom new_x) nil ∷ []) (uses new_x 3))),
    )
    ∷ (
      single_in,
      constant_of (lambda (atom "x") (uses "x" 2)),
      116,
      accepted 4294967296 (constant_of (lambda (atom new_x) (uses new_x 2))),
    )
    -- a desugared let leaves before Own of it is added
    ∷ (
      single_in,
      constant_of (let_of Sequential (named "x" nil ∷ []) (var "x")),
      77,
      accepted 4294967296 (constant_of (let_nil new_x (var new_x))),
    )
    -- In-body of element 0 leaves before the element is put back
    ∷ (
      single_in,
      constant_of (let_nil "x" (call (uses "x" 3 ∷ var "x" ∷ []))),
      133,
      accepted 4294967296 (constant_of (let_nil new_x (call (uses "x" 3 ∷ var new_x ∷ [])))),
    )
    -- Own of a function's body, of a macro's form, of a form's helpers and of its body
    ∷ (
      single_in,
      helper_bytes (function (atom "x") (call (nil ∷ var "x" ∷ []))),
      71,
      accepted 4294967296 (helper_bytes (function (atom new_x) (call (nil ∷ var new_x ∷ [])))),
    )
    ∷ (
      single_in,
      helper_bytes (macro (atom "x") (form_with (SN at) [] (var "x"))),
      69,
      accepted 4294967296 (helper_bytes (macro (atom new_x) (form_with (SN at) [] (var new_x)))),
    )
    ∷ (
      whole_in,
      form_bytes (form_with (atom "x") (constant (var "x") ∷ []) nil),
      71,
      accepted 4294967296 (form_bytes (form_with (atom new_x) (constant (var new_x) ∷ []) nil)),
    )
    ∷ (
      whole_in,
      form_bytes (form_with (atom "x") [] (call (nil ∷ var "x" ∷ []))),
      69,
      accepted 4294967296 (form_bytes (form_with (atom new_x) [] (call (nil ∷ var new_x ∷ [])))),
    )
    ∷ []

-- the answers at F and one below, and those wanted
abbrev pub both_answers : Tight → Seen × Seen
both_answers r = (answer_at r.2 r, answer_at (r.2 - 1) r)

abbrev pub both_wanted : Tight → Seen × Seen
both_wanted r = (r.3, (7, 0, max_counter, []))

-- each row's call answers as the row says, and one below its F it is refused with 7
abbrev pub HoldsTight : List Tight → Type 0
HoldsTight rows = map both_answers rows ≡ map both_wanted rows

pub sums_hold : HoldsTight sum_rows
unfolding computing_all
sums_hold = refl

pub releases_hold : HoldsTight release_rows
unfolding computing_all
releases_hold = refl
