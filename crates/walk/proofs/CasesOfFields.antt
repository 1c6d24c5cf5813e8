-- Worked cases of the fields, by computation: every L is another one, and keywords, hints and every R are set. A record that keeps its fields is written once,
-- as a function of the names in it.
-- Assumes nothing.
use mathlib.Core.Path.{refl}
use mathlib.Core.List.{List, [], ◌∷◌}
use Prim.Native.Nat.{ℕ}
use Prim.Native.String.{String}
use Rattle.names.specs.Names.{Bytes, ascii}
use Rattle.records.specs.Records.{Loc, Sexp, SN, SC, SI, SQ, SA, Name, Complex, Body, BL, BQ, BV, BC, BM, BF, tail, Binding, BB, Helper, HC, HM, HD, HN, HR, CF, to_bodies, to_bindings, to_helpers, form_bytes}
use Rattle.records.specs.declared.Kind.{Kind}
use Rattle.records.specs.declared.Kind.TheVariants.{Parallel, Sequential, Assign}
use Rattle.walk.specs.Calls.{computing_all}
use Rattle.walk.proofs.Cases.{Call, whole, single, Seen, accepted, constant_of, Holds}

-- the location of the bytes 1, 2, 3 and this one
abbrev pub location : ℕ → Loc
location l = 1 ∷ 2 ∷ 3 ∷ l ∷ []

-- a keyword; the hints Inline and NonInline; neither keyword nor hint
abbrev pub keyword_at : ℕ → Bytes
keyword_at l = 1 ∷ location l

abbrev pub inline_at : ℕ → Bytes
inline_at l = 2 ∷ location l

abbrev pub non_inline_at : ℕ → Bytes
non_inline_at l = 3 ∷ location l

abbrev pub unset : Bytes
unset = 0 ∷ []

-- an R of one byte
abbrev pub raw_of : ℕ → Bytes
raw_of n = 0 ∷ 1 ∷ n ∷ []

-- records at a location: atoms, pairs, variables, the number 9
abbrev pub atom_at : ℕ → String → Sexp
atom_at l n = SA (location l) (ascii n)

abbrev pub cons_at : ℕ → Sexp → Sexp → Sexp
cons_at l x y = SC (location l) x y

abbrev pub var_at : ℕ → String → Body
var_at l n = BV (atom_at l n)

abbrev pub nine_at : ℕ → Body
nine_at l = BV (SI (location l) (9 ∷ []))

-- bindings at a location, with that of the name
abbrev pub named_at : ℕ → ℕ → String → Body → Binding
named_at l nl n b = BB (location l) (location nl) (Name (ascii n)) b

abbrev pub complex_at : ℕ → ℕ → Sexp → Body → Binding
complex_at l nl s b = BB (location l) (location nl) (Complex s) b

-- a let at a location, with its keyword and its hint; a parallel one that has neither
abbrev pub let_at : Kind → ℕ → Bytes → Bytes → List Binding → Body → Body
let_at k l w h bs b = BL k (location l) w h (to_bindings bs) b

abbrev pub bare_at : ℕ → Binding → Body → Body
bare_at l e b = let_at Parallel l unset unset (e ∷ []) b

-- let* x = 9, y = x, body y; and what it becomes
abbrev pub sequential : Body
sequential = let_at Sequential 1 (keyword_at 2) (inline_at 3) (named_at 4 5 "x" (nine_at 6) ∷ named_at 7 8 "y" (var_at 9 "x") ∷ []) (var_at 10 "y")

abbrev pub nested : Body
nested = bare_at 4 (named_at 4 5 "x_$_1" (nine_at 6)) (bare_at 7 (named_at 7 8 "y_$_2" (var_at 9 "x_$_1")) (var_at 10 "y_$_2"))

-- let x = y, y = x, body y
abbrev pub parallel : String → String → Body
parallel x y = let_at Parallel 1 (keyword_at 2) (non_inline_at 3) (named_at 4 5 x (var_at 6 "y") ∷ complex_at 7 8 (atom_at 9 y) (var_at 10 "x") ∷ []) (var_at 11 y)

-- assign with these bindings, body y; x = 9; and y = x
abbrev pub ordered_at : List Binding → String → Body
ordered_at bs y = let_at Assign 1 (keyword_at 2) (inline_at 3) bs (var_at 4 y)

abbrev pub is_nine : String → Binding
is_nine x = complex_at 5 6 (atom_at 7 x) (nine_at 8)

abbrev pub is_var : String → String → Binding
is_var y x = complex_at 9 10 (atom_at 11 y) (var_at 12 x)

-- let x = 9 around a lambda that captures x and has the arg y
abbrev pub closure : String → String → Body
closure x y = bare_at 1 (named_at 2 3 x (nine_at 4)) (BF (location 5) (keyword_at 6) (atom_at 7 x) (var_at 8 x) (atom_at 9 y) (var_at 10 y))

-- let z = 9 around a lambda whose captures are this
abbrev pub capturing : String → Body → Body
capturing z b = bare_at 11 (named_at 12 13 z (nine_at 14)) (BF (location 15) unset (SN (location 16)) b (SN (location 17)) (nine_at 18))

-- let (quote x) = 9, with these locations of the SC around x and of the SN behind it, and this body
abbrev pub quoting : ℕ → ℕ → String → Body
quoting l₁ l₂ x = bare_at 1 (complex_at 2 3 (cons_at 4 (atom_at 5 "quote") (cons_at l₁ (atom_at 7 "x") (SN (location l₂)))) (nine_at 9)) (var_at 10 x)

-- (9 "s")
abbrev pub nine_and_s : Sexp
nine_and_s = cons_at 6 (SI (location 7) (9 ∷ [])) (cons_at 8 (SQ (location 9) 34 (ascii "s")) (SN (location 10)))

-- let (x 9 "s") = 9, body (x (q . x) &rest x), whose element 0 stays
abbrev pub listed : String → Body
listed x =
    bare_at 1 (complex_at 2 3 (cons_at 4 (atom_at 5 x) nine_and_s) (nine_at 11))
    (BC (location 12) (to_bodies (var_at 13 "x" ∷ BQ (atom_at 14 x) ∷ [])) (tail (var_at 15 x)))

-- a form with a constant, a function, a macro and a namespace that holds a reference
abbrev pub helpers_of : String → String → String → List Helper
helpers_of x y z =
    HC (location 4) (ascii "c") (raw_of 5) (var_at 6 x)
    ∷ HD (location 7) 1 (ascii "f") (raw_of 8) (atom_at 9 y) (var_at 10 y)
    ∷ HM (location 11) (ascii "m") (raw_of 12) (atom_at 13 z) (CF (location 14) (raw_of 15) (SN (location 16)) (to_helpers []) (var_at 17 z))
    ∷ HN (location 18) (ascii "n") (raw_of 19) (to_helpers (HR (location 20) (ascii "r") (raw_of 21) ∷ []))
    ∷ []

abbrev pub program : String → String → String → Bytes
program x y z = form_bytes (CF (location 1) (raw_of 2) (atom_at 3 x) (to_helpers (helpers_of x y z)) (var_at 22 x))

-- a form of x whose body is a BM of x
abbrev pub around_mod : String → Bytes
around_mod x =
    form_bytes (CF (location 1) (raw_of 2) (atom_at 3 x) (to_helpers []) (BM (location 4) (CF (location 5) (raw_of 6) (atom_at 7 "x") (to_helpers []) (var_at 8 "x"))))

abbrev pub field_rows : List (Call × Seen)
field_rows =
    -- the L, keyword and hint of a let* are gone; each parallel let has the L of its binding
    (single 0 (constant_of sequential), accepted 2 (constant_of nested))
    -- a parallel let keeps all its fields
    ∷ (single 0 (constant_of (parallel "x" "y")), accepted 2 (constant_of (parallel "x_$_1" "y_$_2")))
    -- so does an assign; its bindings stand in the reverse of their order, each with its own fields
    ∷ (
      single 0 (constant_of (ordered_at (is_nine "x" ∷ is_var "y" "x" ∷ []) "y")),
      accepted 2 (constant_of (ordered_at (is_var "y_$_2" "x_$_1" ∷ is_nine "x_$_1" ∷ []) "y_$_2")),
    )
    -- a deadlock's place is the L of the assign, as a number
    ∷ (single 0 (constant_of (ordered_at (is_var "x" "x" ∷ []) "x")), (5, 0x01020301, 0, []))
    -- a lambda keeps all its fields, by Own and by In-body
    ∷ (single 0 (constant_of (closure "x" "y")), accepted 2 (constant_of (closure "x_$_1" "y_$_2")))
    -- In-body keeps all fields of a let, its kind among them
    ∷ (single 0 (constant_of (capturing "z" sequential)), accepted 1 (constant_of (capturing "z_$_1" sequential)))
    -- pattern (quote x): the SC around x and the SN behind it get the L of x, and x stays
    ∷ (single 0 (constant_of (quoting 6 8 "x")), accepted 2 (constant_of (quoting 7 7 "x_$_2")))
    -- the parts of a pattern and of a call
    ∷ (single 0 (constant_of (listed "x")), accepted 1 (constant_of (listed "x_$_1")))
    -- every kind of helper, and a form; what a BM holds
    ∷ (whole 0 (program "x" "y" "z"), accepted 3 (program "x_$_1" "y_$_2" "z_$_3"))
    ∷ (whole 0 (around_mod "x"), accepted 1 (around_mod "x_$_1"))
    ∷ []

pub fields_hold : Holds field_rows
unfolding computing_all
fields_hold = refl
