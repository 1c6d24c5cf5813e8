-- How many names a record can mention: each takes four bytes or more. Assumes nothing.
use mathlib.Core.Path.{◌≡◌}
use mathlib.Core.Bool.{Bool, true, false, cond}
use mathlib.Core.List.{List, [], ◌∷◌, ◌++◌, flatten}
use Prim.Native.Nat.{◌+◌, ◌*◌, ◌≤◌}
use Prim.Native.String.{String}
use native.Mathlib.Omega.{arith}
use lib.ListN.{length, length-append, length-map}
use Rattle.names.specs.Names.{Bytes, ascii, number_field, name_field}
use Rattle.names.proofs.Fields.{name_field_length, number_field_length}
use Rattle.records.specs.Records.{Loc, record_bytes, bodies_count, bindings_count, byte, integer_width, integer_field, kind_field, Sexp, SN, SC, SI, SQ, SA, sexp_bytes, Pattern, Name, Complex, pattern_field, Body, BL, BQ, BV, BC, BM, BF, body_bytes, Bodies, []ᵇ, ◌∷ᵇ◌, bodies_bytes, Tail, no_tail, tail, tail_bytes, Binding, BB, binding_bytes, Bindings, []ᵍ, ◌∷ᵍ◌, bindings_bytes}
use Rattle.records.specs.Sexps.{truthy}
use Rattle.records.specs.Valid.{SexpFields, ValidPattern, BodyFields, BodiesFields, TailFields, BindingFields, BindingsFields}
use Rattle.ordering.specs.Items.{Item, any, gives, keep}
use Rattle.ordering.specs.Needs.{providers, needs_of}
use Rattle.ordering.specs.Words.{make_provides_set, pattern_provides, captured, words, bodies_words, tail_words, binding_words, bindings_words}

-- the length of a record by its fields
fields_length : (m : String) (fs : List Bytes) → length (record_bytes m fs) ≡ length (ascii m) + length (flatten fs)
unfolding record_bytes
fields_length m fs = length-append (ascii m) (flatten fs)

field_length : (f : Bytes) (fs : List Bytes) → length (flatten (f ∷ fs)) ≡ length f + length (flatten fs)
unfolding flatten
field_length f fs = length-append f (flatten fs)

integer_length : (n : Bytes) → length (integer_field n) ≡ integer_width + length n
unfolding integer_field
integer_length n = omega (arith, length-append (number_field integer_width (length n)) n, number_field_length integer_width (length n))

-- S records
pub few_provided : (t : Sexp) → SexpFields t → 4 * length (make_provides_set t) + 3 ≤ length (sexp_bytes t)
unfolding SexpFields make_provides_set sexp_bytes ascii
few_provided (SN l) f = omega (arith, fields_length "SN" (l ∷ []), field_length l [])
few_provided (SC l h t) f =
    omega (
      arith,
      fields_length "SC" (l ∷ sexp_bytes h ∷ sexp_bytes t ∷ []),
      field_length l (sexp_bytes h ∷ sexp_bytes t ∷ []),
      field_length (sexp_bytes h) (sexp_bytes t ∷ []),
      field_length (sexp_bytes t) [],
      few_provided h f.1,
      few_provided t f.2,
      length-append (make_provides_set h) (make_provides_set t),
    )
few_provided (SI l v) f = omega (arith, fields_length "SI" (l ∷ integer_field v ∷ []), field_length l (integer_field v ∷ []), field_length (integer_field v) [], integer_length v, f.0)
few_provided (SQ l q n) f =
    omega (arith, fields_length "SQ" (l ∷ byte q ∷ name_field n ∷ []), field_length l (byte q ∷ name_field n ∷ []), field_length (byte q) (name_field n ∷ []), field_length (name_field n) [], name_field_length n, f.0)
few_provided (SA l n) f = omega (arith, fields_length "SA" (l ∷ name_field n ∷ []), field_length l (name_field n ∷ []), field_length (name_field n) [], name_field_length n, f.0)

pub few_pattern : (p : Pattern) → ValidPattern p → 4 * length (pattern_provides p) ≤ length (pattern_field p) + 2
unfolding ValidPattern pattern_provides pattern_field
few_pattern (Name n) f = omega (arith, name_field_length n)
few_pattern (Complex t) f = omega (arith, few_provided t f.0)

-- the capture args, after `&`
few_captured : (t : Sexp) → length (captured t) ≤ 1 + length (make_provides_set t)
unfolding captured
few_captured t = go (truthy t)
  where
    go : (b : Bool) → length {A = Bytes} (elim b as (λ _. List Bytes) [ true ↦ ascii "&" ∷ make_provides_set t | false ↦ [] ]) ≤ 1 + length (make_provides_set t)
    go true = omega arith
    go false = omega arith

mutual
  unfolding BodyFields BodiesFields TailFields BindingFields BindingsFields words bodies_words tail_words binding_words bindings_words body_bytes bodies_bytes tail_bytes binding_bytes bindings_bytes ascii

  -- bodies
  pub few_words : (b : Body) → BodyFields b → 4 * length (words b) ≤ length (body_bytes b)
  few_words (BL k l w h bs b) f =
      let rest : List Bytes = bindings_bytes bs ∷ body_bytes b ∷ [] in
      omega (
        arith,
        fields_length "BL" (kind_field k ∷ l ∷ w ∷ h ∷ byte (bindings_count bs) ∷ rest),
        field_length (kind_field k) (l ∷ w ∷ h ∷ byte (bindings_count bs) ∷ rest),
        field_length l (w ∷ h ∷ byte (bindings_count bs) ∷ rest),
        field_length w (h ∷ byte (bindings_count bs) ∷ rest),
        field_length h (byte (bindings_count bs) ∷ rest),
        field_length (byte (bindings_count bs)) rest,
        field_length (bindings_bytes bs) (body_bytes b ∷ []),
        field_length (body_bytes b) [],
        few_bindings bs f.4,
        few_words b f.5,
        length-append (bindings_words bs) (words b),
        f.0,
      )
  few_words (BQ s) f = omega (arith, fields_length "BQ" (sexp_bytes s ∷ []), field_length (sexp_bytes s) [], few_provided s f.0)
  few_words (BV s) f = omega (arith, fields_length "BV" (sexp_bytes s ∷ []), field_length (sexp_bytes s) [], few_provided s f.0)
  few_words (BC l bs t) f =
      let rest : List Bytes = bodies_bytes bs ∷ tail_bytes t ∷ [] in
      omega (
        arith,
        fields_length "BC" (l ∷ byte (bodies_count bs) ∷ rest),
        field_length l (byte (bodies_count bs) ∷ rest),
        field_length (byte (bodies_count bs)) rest,
        field_length (bodies_bytes bs) (tail_bytes t ∷ []),
        field_length (tail_bytes t) [],
        few_bodies bs f.2,
        few_tail t f.3,
        length-append (bodies_words bs) (tail_words t),
        f.0,
      )
  few_words (BM l c) f = omega arith
  few_words (BF l w ca c a b) f =
      let rest : List Bytes = body_bytes c ∷ sexp_bytes a ∷ body_bytes b ∷ [] in
      omega (
        arith,
        fields_length "BF" (l ∷ w ∷ sexp_bytes ca ∷ rest),
        field_length l (w ∷ sexp_bytes ca ∷ rest),
        field_length w (sexp_bytes ca ∷ rest),
        field_length (sexp_bytes ca) rest,
        field_length (body_bytes c) (sexp_bytes a ∷ body_bytes b ∷ []),
        field_length (sexp_bytes a) (body_bytes b ∷ []),
        field_length (body_bytes b) [],
        few_provided ca f.2.0,
        few_captured ca,
        few_provided a f.4.0,
        few_words b f.5,
        length-append (captured ca) (make_provides_set a ++ words b),
        length-append (make_provides_set a) (words b),
        f.0,
      )

  few_bodies : (bs : Bodies) → BodiesFields bs → 4 * length (bodies_words bs) ≤ length (bodies_bytes bs)
  few_bodies []ᵇ f = omega arith
  few_bodies (b ∷ᵇ bs) f = omega (arith, few_words b f.0, few_bodies bs f.1, length-append (words b) (bodies_words bs), length-append (body_bytes b) (bodies_bytes bs))

  few_tail : (t : Tail) → TailFields t → 4 * length (tail_words t) ≤ length (tail_bytes t) + 3
  few_tail no_tail f = omega arith
  few_tail (tail b) f = omega (arith, few_words b f)

  few_binding : (b : Binding) → BindingFields b → 4 * length (binding_words b) ≤ length (binding_bytes b)
  few_binding (BB l nl p b) f =
      omega (
        arith,
        fields_length "BB" (l ∷ nl ∷ pattern_field p ∷ body_bytes b ∷ []),
        field_length l (nl ∷ pattern_field p ∷ body_bytes b ∷ []),
        field_length nl (pattern_field p ∷ body_bytes b ∷ []),
        field_length (pattern_field p) (body_bytes b ∷ []),
        field_length (body_bytes b) [],
        few_pattern p f.2,
        few_words b f.3,
        length-append (pattern_provides p) (words b),
        f.0,
      )

  few_bindings : (bs : Bindings) → BindingsFields bs → 4 * length (bindings_words bs) ≤ length (bindings_bytes bs)
  few_bindings []ᵍ f = omega arith
  few_bindings (b ∷ᵍ bs) f = omega (arith, few_binding b f.0, few_bindings bs f.1, length-append (binding_words b) (bindings_words bs), length-append (binding_bytes b) (bindings_bytes bs))

-- a binding's own names, the 0 before them, and its body
pub few_entries : (l nl : Loc) (p : Pattern) (b : Body) → BindingFields (BB l nl p b) → 4 * (1 + length (pattern_provides p)) + length (body_bytes b) ≤ length (binding_bytes (BB l nl p b))
unfolding BindingFields binding_bytes ascii
few_entries l nl p b f =
    omega (
      arith,
      fields_length "BB" (l ∷ nl ∷ pattern_field p ∷ body_bytes b ∷ []),
      field_length l (nl ∷ pattern_field p ∷ body_bytes b ∷ []),
      field_length nl (pattern_field p ∷ body_bytes b ∷ []),
      field_length (pattern_field p) (body_bytes b ∷ []),
      field_length (body_bytes b) [],
      few_pattern p f.2,
      f.0,
      f.1,
    )

-- no more needs than names
pub few_needs : (bs : List Item) (xs : List Bytes) → length (needs_of bs xs) ≤ length xs
unfolding needs_of
few_needs bs xs = omega (arith, length-map (keep (λ x. any (gives x) bs) xs) (providers bs), few_kept (λ x. any (gives x) bs) xs)
  where
    few_kept : (f : Bytes → Bool) (xs : List Bytes) → length (keep f xs) ≤ length xs
    few_kept f [] = omega arith
    few_kept f (x ∷ xs) = go (f x) (few_kept f xs)
      where
        go : (b : Bool) → length (keep f xs) ≤ length xs → length (cond b (x ∷ keep f xs) (keep f xs)) ≤ length (x ∷ xs)
        go true h = omega arith
        go false h = omega arith
