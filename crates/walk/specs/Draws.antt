-- How many numbers a walk draws at most: the atoms of a record, for each pass over it one number for each SA of a pattern and of args and for each Name;
-- and where the counter of a walk can come to.
-- Assumes nothing.
use Rattle.std.specs.Prelude.{List, [], ◌∷◌, ℕ, zero, suc, ◌+◌, ◌^◌}
use Rattle.names.specs.CallAnswer.{max_counter}
use Rattle.records.specs.Records.{Sexp, SN, SC, SI, SQ, SA, Pattern, Name, Complex, Body, BL, BQ, BV, BC, BM, BF, Bodies, []ᵇ, ◌∷ᵇ◌, Tail, no_tail, tail, Binding, BB, Bindings, []ᵍ, ◌∷ᵍ◌, Helper, HC, HM, HD, HN, HR, Helpers, []ʰ, ◌∷ʰ◌, Form, CF}

-- the atoms of an S record
unfoldable pub sexp_atoms : Sexp → ℕ
sexp_atoms (SN l) = 0
sexp_atoms (SC l h t) = sexp_atoms h + sexp_atoms t
sexp_atoms (SI l v) = 0
sexp_atoms (SQ l q n) = 0
sexp_atoms (SA l n) = 1

-- and of a pattern
unfoldable pub pattern_atoms : Pattern → ℕ
pattern_atoms (Name n) = 1
pattern_atoms (Complex s) = sexp_atoms s

-- a BM is kept as it is
unfoldable mutual
  pub atoms : Body → ℕ
  atoms (BL k l w h bs b) = bindings_atoms bs + atoms b
  atoms (BQ s) = 0
  atoms (BV s) = 0
  atoms (BC l bs t) = bodies_atoms bs + tail_atoms t
  atoms (BM l f) = 0
  atoms (BF l w ca c a b) = atoms c + (sexp_atoms a + atoms b)

  pub bodies_atoms : Bodies → ℕ
  bodies_atoms []ᵇ = 0
  bodies_atoms (b ∷ᵇ bs) = atoms b + bodies_atoms bs

  pub tail_atoms : Tail → ℕ
  tail_atoms no_tail = 0
  tail_atoms (tail b) = atoms b

  pub binding_atoms : Binding → ℕ
  binding_atoms (BB l nl p b) = pattern_atoms p + atoms b

  pub bindings_atoms : Bindings → ℕ
  bindings_atoms []ᵍ = 0
  bindings_atoms (b ∷ᵍ bs) = binding_atoms b + bindings_atoms bs

unfoldable mutual
  pub helper_atoms : Helper → ℕ
  helper_atoms (HC l n x b) = atoms b
  helper_atoms (HM l n x a f) = sexp_atoms a + form_atoms f
  helper_atoms (HD l i n x a b) = sexp_atoms a + atoms b
  helper_atoms (HN l n x hs) = helpers_atoms hs
  helper_atoms (HR l n x) = 0

  pub helpers_atoms : Helpers → ℕ
  helpers_atoms []ʰ = 0
  helpers_atoms (h ∷ʰ hs) = helper_atoms h + helpers_atoms hs

  pub form_atoms : Form → ℕ
  form_atoms (CF l x a hs b) = sexp_atoms a + (helpers_atoms hs + atoms b)

-- of a list of bindings: in the patterns
unfoldable pub patterns_of : List Binding → ℕ
patterns_of [] = 0
patterns_of (BB l nl p b ∷ bs) = pattern_atoms p + patterns_of bs

-- in the bodies
unfoldable pub inside_of : List Binding → ℕ
inside_of [] = 0
inside_of (BB l nl p b ∷ bs) = atoms b + inside_of bs

-- in all
unfoldable pub list_atoms : List Binding → ℕ
list_atoms [] = 0
list_atoms (b ∷ bs) = binding_atoms b + list_atoms bs

-- n times 2 to the d
unfoldable pub dbl : ℕ → ℕ → ℕ
dbl zero n = n
dbl (suc d) n = dbl d (n + n)

-- the longest record times 2 to the deepest level
abbrev pub most : ℕ
most = 2 ^ 46

-- no counter of a walk passes this
unfoldable pub counter_most : ℕ
counter_most = max_counter + most
