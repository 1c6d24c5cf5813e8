-- What an assign's bindings need and provide (codegen.rs, frontend.rs): `make_provides_set` over a pattern, and over `to_sexp` of a body.
-- docs/FORMAT.md, 'Needs and provisions'.
-- Assumes nothing.
use Rattle.std.specs.Prelude.{true, false, List, [], ◌∷◌, ◌++◌, map}
use Rattle.names.specs.Names.{Bytes, ascii}
use Rattle.records.specs.Records.{Sexp, SN, SC, SI, SQ, SA, Pattern, Name, Complex, Body, BL, BQ, BV, BC, BM, BF, Bodies, []ᵇ, ◌∷ᵇ◌, Tail, no_tail, tail, Binding, BB, Bindings, []ᵍ, ◌∷ᵍ◌}
use Rattle.records.specs.declared.Kind.{Kind}
use Rattle.records.specs.declared.Kind.TheVariants.{Parallel, Sequential, Assign}
use Rattle.records.specs.Sexps.{truthy}
use Rattle.ordering.specs.Items.{Item}
use Rattle.ordering.specs.Toposort.{Toposorted, toposort}

-- `make_provides_set`: the names that an S record provides
unfoldable pub make_provides_set : Sexp → List Bytes
make_provides_set (SN l) = []
make_provides_set (SC l h t) = make_provides_set h ++ make_provides_set t
make_provides_set (SI l v) = v ∷ []
make_provides_set (SQ l q n) = n ∷ []
make_provides_set (SA l n) = n ∷ []

-- a Name provides itself
unfoldable pub pattern_provides : Pattern → List Bytes
pattern_provides (Name n) = n ∷ []
pattern_provides (Complex s) = make_provides_set s

-- the word that `to_sexp` writes for a let
unfoldable pub let_word : Kind → Bytes
let_word Parallel = ascii "let"
let_word Sequential = ascii "let*"
let_word Assign = ascii "assign"

-- the capture args that `to_sexp` writes, after `&`
unfoldable pub captured : Sexp → List Bytes
captured ca = elim (truthy ca) [ true ↦ ascii "&" ∷ make_provides_set ca | false ↦ [] ]

-- the names in `to_sexp` of a body. A BM does not stand where this is asked (refusal 4)
unfoldable mutual
  pub words : Body → List Bytes
  words (BL k l w h bs b) = let_word k ∷ (bindings_words bs ++ words b)
  words (BQ s) = ascii "q" ∷ make_provides_set s
  words (BV s) = make_provides_set s
  words (BC l bs t) = bodies_words bs ++ tail_words t
  words (BM l f) = []
  words (BF l w ca c a b) = ascii "lambda" ∷ (captured ca ++ (make_provides_set a ++ words b))

  -- those of the elements of a call
  pub bodies_words : Bodies → List Bytes
  bodies_words []ᵇ = []
  bodies_words (b ∷ᵇ bs) = words b ++ bodies_words bs

  -- those of its tail
  pub tail_words : Tail → List Bytes
  tail_words no_tail = []
  tail_words (tail b) = ascii "&rest" ∷ words b

  -- those of a binding
  pub binding_words : Binding → List Bytes
  binding_words (BB l nl p b) = pattern_provides p ++ words b

  -- those of the bindings of a let
  pub bindings_words : Bindings → List Bytes
  bindings_words []ᵍ = []
  bindings_words (b ∷ᵍ bs) = binding_words b ++ bindings_words bs

-- a binding as `toposort` is fed it (`TopoSortItem`)
unfoldable pub item : Binding → Item
item (BB l nl p b) = record { needs = words b; has = pattern_provides p }

-- the bindings of an assign
unfoldable pub items : List Binding → List Item
items bs = map item bs

-- `toposort_assign_bindings`: the exact order of an assign's bindings, or a deadlock
unfoldable pub toposort_assign_bindings : List Binding → Toposorted
toposort_assign_bindings bs = toposort (items bs)

-- unfolds with every definition of this file
unfoldable pub computing_words : Unit {0}
unfolding make_provides_set pattern_provides let_word captured words bodies_words tail_words binding_words bindings_words item items toposort_assign_bindings
computing_words = tt
