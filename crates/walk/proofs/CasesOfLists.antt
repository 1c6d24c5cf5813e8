-- Worked cases of the lists of reached assigns, by computation: what a call answers, and each assign that it reaches, as it then reads.
-- Assumes nothing.
use mathlib.Core.Path.{◌≡◌, refl}
use mathlib.Core.List.{List, [], ◌∷◌, map}
use mathlib.Core.Option.{Option, none, some}
use Prim.Native.Nat.{ℕ}
use Prim.Native.String.{String}
use lib.ListN.{replicate}
use Rattle.names.specs.CallAnswer.{max_counter}
use Rattle.names.specs.Names.{ascii}
use Rattle.records.specs.Records.{SN, SA, Body, BL, BM, to_bindings, form_bytes}
use Rattle.records.specs.declared.Kind.TheVariants.{Assign}
use Rattle.walk.specs.Steps.{Visit, events, names_made}
use Rattle.walk.specs.Calls.{computing_all, whole_run, whole_visits, children_visits, helper_visits}
use Rattle.walk.proofs.Cases.{Call, name, order, whole, children, single, whole_in, children_in, single_in, answer, Seen, seen, accepted, at, var, number, atom, named, complex, let_one, assign, outer, self_bound, call, lambda, thunk, captures, constant, form_with, form_of, constant_of}

-- the assigns that a call reaches
abbrev pub reached_by : Call → List Visit
reached_by (name c r) = []
reached_by (order c r) = []
reached_by (whole c r) = whole_visits 1024 262144 c r
reached_by (children c r) = children_visits 1024 262144 c r
reached_by (single c r) = helper_visits 1024 262144 c r
reached_by (whole_in F n c r) = whole_visits F 262144 c r
reached_by (children_in F n c r) = children_visits F 262144 c r
reached_by (single_in F n c r) = helper_visits F 262144 c r

-- of a reached assign: the counter, the record as it then reads, and the record given back
abbrev pub Reading : Type 0
Reading = ℕ × Body × Option Body

abbrev pub reading : Visit → Reading
reading e = (e.counter, BL Assign e.loc e.keyword e.hint (to_bindings e.bindings) e.body, e.back)

-- a call, its answer and its list
abbrev pub Walked : Type 0
Walked = Call × Seen × List Reading

abbrev pub walked : Walked → Walked
walked r = (r.0, seen (answer r.0), map reading (reached_by r.0))

-- assign y = 2, body y
abbrev pub inner : String → Body
inner y = outer y (number 2)

-- an assign whose binding body holds a BM
abbrev pub with_mod : Body
with_mod = outer "x" (BM at (form_with (SN at) [] (number 1)))

-- assign n = 2, body 3, where n has 252 bytes
abbrev pub long_name : Body
long_name = assign (complex (SA at (replicate 252 97)) (number 2) ∷ []) (number 3)

-- assign y = 2, body (y y y y y)
abbrev pub wide : String → Body
wide y = assign (complex (atom y) (number 2) ∷ []) (call (var "y" ∷ replicate 4 (var y)))

-- assign x = y, body x, with a Name
abbrev pub copied : String → String → Body
copied x y = assign (named x (var y) ∷ []) (var x)

-- assign w = an assign that has no order, body w, with a Name
abbrev pub unseen : Body
unseen = assign (named "w" self_bound ∷ []) (var "w")

-- assign p = x and x_$_2 = 2, and the same in the other sequence; body p
abbrev pub first_p : String → Body
first_p x = assign (named "p" (var x) ∷ named "x_$_2" (number 2) ∷ []) (var "p")

abbrev pub last_p : Body
last_p = assign (named "x_$_2" (number 2) ∷ named "p" (var "x") ∷ []) (var "p")

abbrev pub lists : List Walked
lists =
    -- an assign in a lambda is reached again, as it then reads
    (
      children 0 (form_of (let_one "z" (thunk (inner "y")))),
      accepted 3 (form_of (let_one "z_$_1" (thunk (inner "y_$_2_$_3")))),
      (1, inner "y", some (inner "y_$_2")) ∷ (2, inner "y_$_2", some (inner "y_$_2_$_3")) ∷ [],
    )
    -- it may then have another order: p = x waits for nothing, p = x_$_2 waits for x_$_2
    ∷ (
      children 0 (form_of (let_one "z" (lambda (atom "x") last_p))),
      accepted 2 (form_of (let_one "z_$_1" (lambda (atom "x_$_2") (first_p "x_$_2")))),
      (2, last_p, some (first_p "x")) ∷ (2, first_p "x_$_2", some (first_p "x_$_2")) ∷ [],
    )
    -- or none: x_$_2 = x has one, x_$_2 = x_$_2 is a deadlock
    ∷ (
      children 0 (form_of (let_one "z" (lambda (atom "x") (copied "x_$_2" "x")))),
      (5, 7, 0, []),
      (2, copied "x_$_2" "x", some (copied "x_$_2" "x")) ∷ (2, copied "x_$_2" "x_$_2", none) ∷ [],
    )
    -- an assign stands before those that its binding bodies lead to; each comes back, also where the buffer is too short
    ∷ (
      children 0 (form_of (outer "x" (inner "y"))),
      accepted 2 (form_of (outer "x_$_1" (inner "y_$_2"))),
      (0, outer "x" (inner "y"), some (outer "x_$_1" (inner "y_$_2"))) ∷ (1, inner "y", some (inner "y_$_2")) ∷ [],
    )
    ∷ (
      children_in 1024 16 0 (form_of (outer "x" (inner "y"))),
      (8, 0, 0, []),
      (0, outer "x" (inner "y"), some (outer "x_$_1" (inner "y_$_2"))) ∷ (1, inner "y", some (inner "y_$_2")) ∷ [],
    )
    -- a deadlock ends the list, and what is around it does not come back; what was finished before it does
    ∷ (children 0 (form_of (outer "y" self_bound)), (5, 7, 0, []), (0, outer "y" self_bound, none) ∷ (1, self_bound, none) ∷ [])
    ∷ (
      children 0 (form_of (call (inner "y" ∷ self_bound ∷ inner "z" ∷ []))),
      (5, 7, 0, []),
      (0, inner "y", some (inner "y_$_1")) ∷ (1, self_bound, none) ∷ [],
    )
    -- so does 6 in an assign in another
    ∷ (children 0 (form_of (outer "x" long_name)), (6, 0, 0, []), (0, outer "x" long_name, none) ∷ (1, long_name, none) ∷ [])
    -- and 7: of the inner one, and a byte later of the outer one, after the inner one is finished
    ∷ (
      children_in 161 161 max_counter (form_of (outer "x" (wide "y"))),
      (7, 0, max_counter, []),
      (max_counter, outer "x" (wide "y"), none) ∷ (4294967296, wide "y", none) ∷ [],
    )
    ∷ (
      children_in 162 162 max_counter (form_of (outer "x" (wide "y"))),
      (7, 0, max_counter, []),
      (max_counter, outer "x" (wide "y"), none) ∷ (4294967296, wide "y", some (wide "y_$_4294967297")) ∷ [],
    )
    -- none in captures is reached, with an order or without; one in a lambda there is
    ∷ (children 0 (form_of (let_one "z" (captures (inner "y")))), accepted 1 (form_of (let_one "z_$_1" (captures (inner "y")))), [])
    ∷ (children 0 (form_of (let_one "z" (captures self_bound))), accepted 1 (form_of (let_one "z_$_1" (captures self_bound))), [])
    ∷ (
      children 0 (form_of (let_one "z" (captures (thunk (inner "y"))))),
      accepted 2 (form_of (let_one "z_$_1" (captures (thunk (inner "y_$_2"))))),
      (1, inner "y", some (inner "y_$_2")) ∷ [],
    )
    -- none in a Name binding of an assign is reached
    ∷ (children 0 (form_of unseen), accepted 0 (form_of unseen), (0, unseen, some unseen) ∷ [])
    -- Whole form: those of the helpers, and then of the body; Single helper
    ∷ (
      whole 0 (form_bytes (form_with (atom "x") (constant (inner "y") ∷ []) (inner "z"))),
      accepted 3 (form_bytes (form_with (atom "x_$_1") (constant (inner "y_$_2") ∷ []) (inner "z_$_3"))),
      (1, inner "y", some (inner "y_$_2")) ∷ (2, inner "z", some (inner "z_$_3")) ∷ [],
    )
    ∷ (single 0 (constant_of (inner "y")), accepted 1 (constant_of (inner "y_$_1")), (0, inner "y", some (inner "y_$_1")) ∷ [])
    -- refused with 3 or 4: none is reached, not even the assign before it
    ∷ (children_in 64 64 0 (form_of (outer "x" (inner "y"))), (3, 0, 0, []), [])
    ∷ (children 0 (form_of (call (inner "y" ∷ with_mod ∷ []))), (4, 100, 0, []), [])
    ∷ []

-- each row's call answers and reaches as the row says
pub lists_hold : map walked lists ≡ lists
unfolding computing_all
lists_hold = refl

-- the names made, in their sequence
pub names_drawn : names_made (events (whole_run 1024 262144 0 (form_of (outer "x" (inner "y"))))) ≡ (ascii "x", ascii "x_$_1") ∷ (ascii "y", ascii "y_$_2") ∷ []
unfolding computing_all
names_drawn = refl
