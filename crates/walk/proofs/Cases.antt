-- Worked cases, by computation: what all tables of cases are written in; one table of calls and what each answers; and the edges of the refusals 6, 7 and 8.
-- The other tables stand in CasesOfFields, CasesOfRules, CasesOfSums and CasesOfLists.
-- Assumes nothing.
use mathlib.Core.Path.{◌≡◌, refl}
use mathlib.Core.List.{List, [], ◌∷◌, ◌++◌, map}
use Prim.Native.Nat.{ℕ}
use Prim.Native.String.{String}
use lib.ListN.{length, replicate, take}
use Rattle.names.specs.Names.{Bytes, ascii}
use Rattle.records.specs.Records.{Loc, Sexp, SN, SC, SI, SA, Name, Complex, Body, BL, BV, BC, BF, no_tail, Binding, BB, Helper, HC, HM, HD, HN, Form, CF, to_bodies, to_bindings, to_helpers, body_bytes, helper_bytes, form_bytes}
use Rattle.records.specs.declared.Kind.{Kind}
use Rattle.records.specs.declared.Kind.TheVariants.{Parallel, Sequential, Assign}
use Rattle.walk.specs.Calls.{computing_all, whole_call, children_call, helper_call}
use Rattle.names.specs.CallAnswer.{CallResult, name_call}
use Rattle.names.specs.Refusals.{refusal_number, refusal_place}
use Rattle.ordering.specs.OrderCall.{order_call}

-- a call, its counter and its input; those in -in have F and the length of the buffer first
pub data Call : Type 0 where
  name order whole children single : ℕ → Bytes → Call
  whole_in children_in single_in : ℕ → ℕ → ℕ → Bytes → Call

-- a buffer of zeros
abbrev pub room : ℕ → Bytes
room n = replicate n 0

abbrev pub answer : Call → CallResult
answer (name c n) = name_call n c (room 1024)
answer (order c r) = order_call 1024 262144 c r (room 1024)
answer (whole c r) = whole_call 1024 262144 c r (room 1024)
answer (children c r) = children_call 1024 262144 c r (room 1024)
answer (single c r) = helper_call 1024 262144 c r (room 1024)
answer (whole_in F n c r) = whole_call F 262144 c r (room n)
answer (children_in F n c r) = children_call F 262144 c r (room n)
answer (single_in F n c r) = helper_call F 262144 c r (room n)

-- number, place, counter, and the bytes written
abbrev pub Seen : Type 0
Seen = ℕ × ℕ × ℕ × Bytes

abbrev pub seen : CallResult → Seen
seen r = (refusal_number r.0.refusal, (refusal_place r.0.refusal).start, r.0.counter, take r.0.len r.1)

abbrev pub accepted : ℕ → Bytes → Seen
accepted c bs = (0, 0, c, bs)

-- records at location 0
abbrev pub at : Loc
at = replicate 4 0

abbrev pub var : String → Body
var n = BV (SA at (ascii n))

abbrev pub number : ℕ → Body
number n = BV (SI at (n ∷ []))

abbrev pub atom : String → Sexp
atom n = SA at (ascii n)

abbrev pub cons : Sexp → Sexp → Sexp
cons x y = SC at x y

abbrev pub named : String → Body → Binding
named n b = BB at at (Name (ascii n)) b

abbrev pub complex : Sexp → Body → Binding
complex s b = BB at at (Complex s) b

abbrev pub let_of : Kind → List Binding → Body → Body
let_of k bs b = BL k at (0 ∷ []) (0 ∷ []) (to_bindings bs) b

-- let n = 1 around this
abbrev pub let_one : String → Body → Body
let_one n b = let_of Parallel (named n (number 1) ∷ []) b

-- a call without a tail
abbrev pub call : List Body → Body
call bs = BC at (to_bodies bs) no_tail

-- a body that is nil
abbrev pub nil : Body
nil = BV (SN at)

-- a lambda with these args, and without captures
abbrev pub lambda : Sexp → Body → Body
lambda a b = BF at (0 ∷ []) (SN at) nil a b

-- a lambda without args
abbrev pub thunk : Body → Body
thunk b = lambda (SN at) b

-- a lambda whose captures are this: Own keeps them, In-body takes them
abbrev pub captures : Body → Body
captures b = BF at (0 ∷ []) (SN at) b (SN at) nil

-- an R of no bytes
abbrev pub no_raw : Bytes
no_raw = 0 ∷ 0 ∷ []

-- helpers: a constant c, a function f, a macro m and a namespace n
abbrev pub constant : Body → Helper
constant b = HC at (ascii "c") no_raw b

abbrev pub function : Sexp → Body → Helper
function a b = HD at 0 (ascii "f") no_raw a b

abbrev pub macro : Sexp → Form → Helper
macro a f = HM at (ascii "m") no_raw a f

abbrev pub namespace : List Helper → Helper
namespace hs = HN at (ascii "n") no_raw (to_helpers hs)

-- a form with these args and helpers
abbrev pub form_with : Sexp → List Helper → Body → Form
form_with a hs b = CF at no_raw a (to_helpers hs) b

-- a form without args and helpers
abbrev pub form_of : Body → Bytes
form_of b = form_bytes (form_with (SN at) [] b)

-- a constant that is this body
abbrev pub constant_of : Body → Bytes
constant_of b = helper_bytes (constant b)

-- the document's CF of 27 bytes
abbrev pub given : Bytes
given =
    0x43 ∷ 0x46 ∷ 0 ∷ 0 ∷ 0 ∷ 1 ∷ 0 ∷ 0 ∷ 0x53 ∷ 0x41 ∷ 0 ∷ 0 ∷ 0 ∷ 2 ∷ 1 ∷ 0x78 ∷ 0 ∷ 0x42 ∷ 0x56 ∷ 0x53 ∷ 0x41 ∷ 0 ∷ 0 ∷ 0 ∷ 3 ∷ 1
    ∷ 0x78 ∷ []

abbrev pub given_renamed : Bytes
given_renamed =
    0x43 ∷ 0x46 ∷ 0 ∷ 0 ∷ 0 ∷ 1 ∷ 0 ∷ 0 ∷ 0x53 ∷ 0x41 ∷ 0 ∷ 0 ∷ 0 ∷ 2 ∷ 5 ∷ 0x78 ∷ 0x5f ∷ 0x24 ∷ 0x5f ∷ 0x31 ∷ 0 ∷ 0x42 ∷ 0x56 ∷ 0x53 ∷ 0x41
    ∷ 0 ∷ 0 ∷ 0 ∷ 3 ∷ 5 ∷ 0x78 ∷ 0x5f ∷ 0x24 ∷ 0x5f ∷ 0x31 ∷ []

-- an assign at location 7
abbrev pub assign : List Binding → Body → Body
assign bs b = BL Assign (0 ∷ 0 ∷ 0 ∷ 7 ∷ []) (0 ∷ []) (0 ∷ []) (to_bindings bs) b

-- assign x = b, body x
abbrev pub outer : String → Body → Body
outer x b = assign (complex (atom x) b ∷ []) (var x)

-- assign x = x, body x
abbrev pub self_bound : Body
self_bound = outer "x" (var "x")

abbrev pub table : List (Call × Seen)
table =
    (name 0 (ascii "x"), accepted 1 (ascii "x_$_1"))
    ∷ (name 41 [], accepted 42 (ascii "_$_42"))
    ∷ (name 0 (replicate 251 97), accepted 1 (replicate 251 97 ++ ascii "_$_1"))
    ∷ (name 0 (replicate 252 97), (6, 0, 0, []))
    ∷ (whole 0 given, accepted 1 given_renamed)
    -- let* x = 1, y = x, body y
    ∷ (
      whole 0 (form_of (let_of Sequential (named "x" (number 1) ∷ named "y" (var "x") ∷ []) (var "y"))),
      accepted 2 (form_of (let_of Parallel (named "x_$_1" (number 1) ∷ []) (let_of Parallel (named "y_$_2" (var "x_$_1") ∷ []) (var "y_$_2")))),
    )
    -- pattern (x . x)
    ∷ (
      whole 0 (form_of (let_of Parallel (complex (cons (atom "x") (atom "x")) (number 1) ∷ []) (var "x"))),
      accepted 2 (form_of (let_of Parallel (complex (cons (atom "x_$_2") (atom "x_$_2")) (number 1) ∷ []) (var "x_$_2"))),
    )
    -- pattern (a q b): b stays
    ∷ (
      whole 0 (form_of (let_of Parallel (complex (cons (atom "a") (cons (atom "q") (cons (atom "b") (SN at)))) (number 1) ∷ []) (var "b"))),
      accepted 3 (form_of (let_of Parallel (complex (cons (atom "a_$_1") (cons (atom "q") (cons (atom "b") (SN at)))) (number 1) ∷ []) (var "b_$_3"))),
    )
    -- let f = 1, body (f f)
    ∷ (
      whole 0 (form_of (let_of Parallel (named "f" (number 1) ∷ []) (call (var "f" ∷ var "f" ∷ [])))),
      accepted 1 (form_of (let_of Parallel (named "f_$_1" (number 1) ∷ []) (call (var "f" ∷ var "f_$_1" ∷ [])))),
    )
    -- assign y = x, x = 1, body y
    ∷ (
      whole 0 (form_of (assign (complex (atom "y") (var "x") ∷ complex (atom "x") (number 1) ∷ []) (var "y"))),
      accepted 2 (form_of (assign (complex (atom "y_$_2") (var "x_$_1") ∷ complex (atom "x_$_1") (number 1) ∷ []) (var "y_$_2"))),
    )
    -- assign x = x, x = 1: its order, and what is written; x = x alone
    ∷ (order 0 (body_bytes (assign (complex (atom "x") (var "x") ∷ complex (atom "x") (number 1) ∷ []) (var "x"))), accepted 0 (1 ∷ 0 ∷ []))
    ∷ (
      whole 0 (form_of (assign (complex (atom "x") (var "x") ∷ complex (atom "x") (number 1) ∷ []) (var "x"))),
      accepted 2 (form_of (assign (complex (atom "x_$_2") (var "x_$_2") ∷ complex (atom "x_$_1") (number 1) ∷ []) (var "x_$_2"))),
    )
    ∷ (order 0 (body_bytes (assign (complex (atom "x") (var "x") ∷ []) (var "x"))), (5, 7, 0, 0 ∷ []))
    ∷ (whole 0 (form_of (assign (complex (atom "x") (var "x") ∷ []) (var "x"))), (5, 7, 0, []))
    -- assign a = 97
    ∷ (order 0 (body_bytes (assign (complex (atom "a") (number 97) ∷ []) (var "a"))), (5, 7, 0, 0 ∷ []))
    -- the empty assign
    ∷ (order 0 (body_bytes (assign [] (var "a"))), accepted 0 [])
    ∷ []

-- each row's call answers as the row says
abbrev pub Holds : List (Call × Seen) → Type 0
Holds rows = map (λ r. seen (answer r.0)) rows ≡ map (λ r. r.1) rows

pub starred : Holds table
unfolding computing_all
starred = refl

-- a form whose argument is this name, with so many bytes of R, and whose body is that name
abbrev pub about : ℕ → Bytes → Bytes
about r n = form_bytes (CF at (0 ∷ r ∷ replicate r 0) (SA at n) (to_helpers []) (BV (SA at n)))

-- a let of f around a call whose element 0 is a call of many f
abbrev pub calls : String → String → Bytes
calls f g = form_of (let_of Parallel (named g (number 1) ∷ []) (call (call (replicate 21 (var f)) ∷ [])))

abbrev pub edges : List (Call × Seen)
edges =
    -- a let of two bindings: both are renamed, and the later of two equal names prevails in the body
    (
      whole 0 (form_of (let_of Parallel (named "x" (number 1) ∷ complex (cons (atom "x") (atom "@")) (var "x") ∷ []) (var "x"))),
      accepted 2 (form_of (let_of Parallel (named "x_$_1" (number 1) ∷ complex (cons (atom "x_$_2") (atom "@")) (var "x") ∷ []) (var "x_$_2"))),
    )
    -- 6: a made name of 255 bytes, and one of 256
    ∷ (whole 0 (about 0 (replicate 251 97)), accepted 1 (about 0 (replicate 251 97 ++ ascii "_$_1")))
    ∷ (whole 0 (about 0 (replicate 252 97)), (6, 0, 0, []))
    -- 7: a result as long as F, and one byte longer
    ∷ (whole_in 64 64 0 (about 1 (ascii "abcdefghijklmno")), accepted 1 (about 1 (ascii "abcdefghijklmno_$_1")))
    ∷ (whole_in 64 65 0 (about 2 (ascii "abcdefghijklmno")), (7, 0, 0, []))
    -- 7: element 0 of a call passes F before it is put back as it was, and the result would not
    ∷ (whole 0 (calls "f" "f"), accepted 1 (calls "f" "f_$_1"))
    ∷ (whole_in (length (calls "f" "f_$_1")) 1024 0 (calls "f" "f"), (7, 0, 0, []))
    -- 8: a buffer as long as the result, and one byte shorter
    ∷ (whole_in 1024 35 0 given, accepted 1 given_renamed)
    ∷ (whole_in 1024 34 0 given, (8, 0, 0, []))
    ∷ []

pub edges_hold : Holds edges
unfolding computing_all
edges_hold = refl
