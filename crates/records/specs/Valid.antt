-- Which trees the format has: what is asked of each field, and how deep records may nest. docs/FORMAT.md, 'Fields', 'Records' and 'Limits'.
-- A list of bytes is taken to hold bytes; a number or a length that stands in one byte has to fit it.
-- Assumes nothing.
use Rattle.std.specs.Prelude.{◌≡◌, true, ◌∷◌, ◌++◌, ◌⊎◌, ℕ, ◌+◌, ◌≤◌, ◌<◌, max, length, get_or}
use Rattle.names.specs.Names.{Bytes, name_limit, number_of}
use Rattle.records.specs.Limits.{level_limit, cons_limit, lambda_limit, count_limit}
use Rattle.records.specs.Records.{Loc, loc_width, raw_width, byte, Sexp, SN, SC, SI, SQ, SA, Pattern, Name, Complex, Body, BL, BQ, BV, BC, BM, BF, Bodies, []ᵇ, ◌∷ᵇ◌, Tail, no_tail, tail, Binding, BB, Bindings, []ᵍ, ◌∷ᵍ◌, Helper, HC, HM, HD, HN, HR, Helpers, []ʰ, ◌∷ʰ◌, Form, CF, bindings_count, bodies_count, helpers_count}
use Rattle.records.specs.declared.Kind.{Kind}
use Rattle.records.specs.declared.Kind.TheVariants.{Assign}
use Rattle.records.specs.Read.{Zone, Plain, InBinding, InMod, binding_zone}
use Rattle.records.specs.ReadFields.{shortest}
use Rattle.records.specs.Depth.{depth, helper_depth, form_depth}

-- a number that one byte can hold
abbrev pub IsByte : ℕ → Type 0
IsByte n = n < 256

-- every element is a byte
abbrev pub AreBytes : Bytes → Type 0
AreBytes bs = (i : ℕ) → IsByte (get_or bs i 0)

-- what is asked of L
pub record ValidLoc (l : Loc) : Type 0 where
  pub width : length l ≡ loc_width

-- N is not too long
abbrev pub ValidName : Bytes → Type 0
ValidName n = length n ≤ name_limit

-- a byte b, and an L
abbrev pub WithLoc : ℕ → Bytes → Type 0
WithLoc b w = (l : Loc) × ValidLoc l × (w ≡ b ∷ l)

-- K: 0, or 1 and an L
abbrev pub ValidKeyword : Bytes → Type 0
ValidKeyword w = (w ≡ byte 0) ⊎ WithLoc 1 w

-- a let's hint: 0 or 1, or 2 or 3 and an L
abbrev pub ValidHint : Bytes → Type 0
ValidHint h = (h ≡ byte 0) ⊎ (h ≡ byte 1) ⊎ WithLoc 2 h ⊎ WithLoc 3 h

-- R: a length, and so many bytes
abbrev pub ValidRaw : Bytes → Type 0
ValidRaw r = (b : Bytes) × (bs : Bytes) × (length b ≡ raw_width) × (length bs ≡ number_of b) × (r ≡ b ++ bs)

-- the bytes of a number: the shortest, and not too many
abbrev pub ValidInteger : Bytes → Type 0
ValidInteger v = (shortest v ≡ true) × IsByte (length v)

-- a count is within its limit
abbrev pub ValidCount : ℕ → Type 0
ValidCount n = n ≤ count_limit

-- how deep SC nest
unfoldable pub cons_depth : Sexp → ℕ
cons_depth (SN l) = 0
cons_depth (SC l h t) = 1 + max (cons_depth h) (cons_depth t)
cons_depth (SI l v) = 0
cons_depth (SQ l q n) = 0
cons_depth (SA l n) = 0

-- the fields of an S record
unfoldable pub SexpFields : Sexp → Type 0
SexpFields (SN l) = ValidLoc l
SexpFields (SC l h t) = ValidLoc l × SexpFields h × SexpFields t
SexpFields (SI l v) = ValidLoc l × ValidInteger v
SexpFields (SQ l q n) = ValidLoc l × IsByte q × ValidName n
SexpFields (SA l n) = ValidLoc l × ValidName n

-- an S record
abbrev pub ValidSexp : Sexp → Type 0
ValidSexp s = SexpFields s × (cons_depth s ≤ cons_limit)

-- a pattern
unfoldable pub ValidPattern : Pattern → Type 0
ValidPattern (Name n) = ValidName n
ValidPattern (Complex s) = ValidSexp s

unfoldable mutual
  -- the fields of a B record
  pub BodyFields : Body → Type 0
  BodyFields (BL k l w h bs b) = ValidLoc l × ValidKeyword w × ValidHint h × ValidCount (bindings_count bs) × BindingsFields bs × BodyFields b
  BodyFields (BQ s) = ValidSexp s
  BodyFields (BV s) = ValidSexp s
  BodyFields (BC l bs t) = ValidLoc l × ValidCount (bodies_count bs) × BodiesFields bs × TailFields t
  BodyFields (BM l f) = ValidLoc l × FormFields f
  BodyFields (BF l w ca c a b) = ValidLoc l × ValidKeyword w × ValidSexp ca × BodyFields c × ValidSexp a × BodyFields b

  -- of the elements of a call
  pub BodiesFields : Bodies → Type 0
  BodiesFields []ᵇ = Unit {0}
  BodiesFields (b ∷ᵇ bs) = BodyFields b × BodiesFields bs

  -- of its tail
  pub TailFields : Tail → Type 0
  TailFields no_tail = Unit {0}
  TailFields (tail b) = BodyFields b

  -- of a binding
  pub BindingFields : Binding → Type 0
  BindingFields (BB l nl p b) = ValidLoc l × ValidLoc nl × ValidPattern p × BodyFields b

  -- of the bindings of a let
  pub BindingsFields : Bindings → Type 0
  BindingsFields []ᵍ = Unit {0}
  BindingsFields (b ∷ᵍ bs) = BindingFields b × BindingsFields bs

  -- of an H record; the inline byte is 0 or 1
  pub HelperFields : Helper → Type 0
  HelperFields (HC l n r b) = ValidLoc l × ValidName n × ValidRaw r × BodyFields b
  HelperFields (HM l n r a f) = ValidLoc l × ValidName n × ValidRaw r × ValidSexp a × FormFields f
  HelperFields (HD l i n r a b) = ValidLoc l × (i ≤ 1) × ValidName n × ValidRaw r × ValidSexp a × BodyFields b
  HelperFields (HN l n r hs) = ValidLoc l × ValidName n × ValidRaw r × ValidCount (helpers_count hs) × HelpersFields hs
  HelperFields (HR l n r) = ValidLoc l × ValidName n × ValidRaw r

  -- of helpers
  pub HelpersFields : Helpers → Type 0
  HelpersFields []ʰ = Unit {0}
  HelpersFields (h ∷ʰ hs) = HelperFields h × HelpersFields hs

  -- of a CF
  pub FormFields : Form → Type 0
  FormFields (CF l r a hs b) = ValidLoc l × ValidRaw r × ValidSexp a × ValidCount (helpers_count hs) × HelpersFields hs × BodyFields b

unfoldable mutual
  -- how deep BF nest in a body, captures included
  pub lambda_depth : Body → ℕ
  lambda_depth (BL k l w h bs b) = max (bindings_lambda_depth bs) (lambda_depth b)
  lambda_depth (BQ s) = 0
  lambda_depth (BV s) = 0
  lambda_depth (BC l bs t) = max (bodies_lambda_depth bs) (tail_lambda_depth t)
  lambda_depth (BM l f) = form_lambda_depth f
  lambda_depth (BF l w ca c a b) = 1 + max (lambda_depth c) (lambda_depth b)

  -- in the elements of a call
  pub bodies_lambda_depth : Bodies → ℕ
  bodies_lambda_depth []ᵇ = 0
  bodies_lambda_depth (b ∷ᵇ bs) = max (lambda_depth b) (bodies_lambda_depth bs)

  -- in its tail
  pub tail_lambda_depth : Tail → ℕ
  tail_lambda_depth no_tail = 0
  tail_lambda_depth (tail b) = lambda_depth b

  -- in a binding
  pub binding_lambda_depth : Binding → ℕ
  binding_lambda_depth (BB l nl p b) = lambda_depth b

  -- in the bindings of a let
  pub bindings_lambda_depth : Bindings → ℕ
  bindings_lambda_depth []ᵍ = 0
  bindings_lambda_depth (b ∷ᵍ bs) = max (binding_lambda_depth b) (bindings_lambda_depth bs)

  -- in a helper
  pub helper_lambda_depth : Helper → ℕ
  helper_lambda_depth (HC l n r b) = lambda_depth b
  helper_lambda_depth (HM l n r a f) = form_lambda_depth f
  helper_lambda_depth (HD l i n r a b) = lambda_depth b
  helper_lambda_depth (HN l n r hs) = helpers_lambda_depth hs
  helper_lambda_depth (HR l n r) = 0

  -- in helpers
  pub helpers_lambda_depth : Helpers → ℕ
  helpers_lambda_depth []ʰ = 0
  helpers_lambda_depth (h ∷ʰ hs) = max (helper_lambda_depth h) (helpers_lambda_depth hs)

  -- in a compile form
  pub form_lambda_depth : Form → ℕ
  form_lambda_depth (CF l r a hs b) = max (helpers_lambda_depth hs) (lambda_depth b)

-- a B record that is an input of its own
abbrev pub ValidBody : Body → Type 0
ValidBody b = BodyFields b × (depth b ≤ level_limit) × (lambda_depth b ≤ lambda_limit)

-- an H record
abbrev pub ValidHelper : Helper → Type 0
ValidHelper h = HelperFields h × (helper_depth h ≤ level_limit) × (helper_lambda_depth h ≤ lambda_limit)

-- a compile form
abbrev pub ValidForm : Form → Type 0
ValidForm f = FormFields f × (form_depth f ≤ level_limit) × (form_lambda_depth f ≤ lambda_limit)

-- a let of kind x
unfoldable pub IsLet : Kind → Body → Type 0
IsLet x (BL k l w h bs b) = k ≡ x
IsLet x (BQ s) = ⊥
IsLet x (BV s) = ⊥
IsLet x (BC l bs t) = ⊥
IsLet x (BM l f) = ⊥
IsLet x (BF l w ca c a b) = ⊥

-- an assign
abbrev pub ValidAssign : Body → Type 0
ValidAssign b = IsLet Assign b × ValidBody b

-- not in a binding body of an assign, or in a BM
unfoldable pub Outside : Zone → Type 0
Outside Plain = Unit {0}
Outside InBinding = ⊥
Outside InMod = Unit {0}

unfoldable mutual
  -- a body that stands in zone z: no BM of it is in a binding body of an assign, unless inside another BM
  pub NoMod : Zone → Body → Type 0
  NoMod z (BL k l w h bs b) = BindingsNoMod (binding_zone k z) bs × NoMod z b
  NoMod z (BQ s) = Unit {0}
  NoMod z (BV s) = Unit {0}
  NoMod z (BC l bs t) = BodiesNoMod z bs × TailNoMod z t
  NoMod z (BM l f) = Outside z
  NoMod z (BF l w ca c a b) = NoMod z c × NoMod z b

  -- the elements of a call
  pub BodiesNoMod : Zone → Bodies → Type 0
  BodiesNoMod z []ᵇ = Unit {0}
  BodiesNoMod z (b ∷ᵇ bs) = NoMod z b × BodiesNoMod z bs

  -- its tail
  pub TailNoMod : Zone → Tail → Type 0
  TailNoMod z no_tail = Unit {0}
  TailNoMod z (tail b) = NoMod z b

  -- a binding
  pub BindingNoMod : Zone → Binding → Type 0
  BindingNoMod z (BB l nl p b) = NoMod z b

  -- the bindings of a let
  pub BindingsNoMod : Zone → Bindings → Type 0
  BindingsNoMod z []ᵍ = Unit {0}
  BindingsNoMod z (b ∷ᵍ bs) = BindingNoMod z b × BindingsNoMod z bs

  -- a helper
  pub HelperNoMod : Zone → Helper → Type 0
  HelperNoMod z (HC l n r b) = NoMod z b
  HelperNoMod z (HM l n r a f) = FormNoMod z f
  HelperNoMod z (HD l i n r a b) = NoMod z b
  HelperNoMod z (HN l n r hs) = HelpersNoMod z hs
  HelperNoMod z (HR l n r) = Unit {0}

  -- helpers
  pub HelpersNoMod : Zone → Helpers → Type 0
  HelpersNoMod z []ʰ = Unit {0}
  HelpersNoMod z (h ∷ʰ hs) = HelperNoMod z h × HelpersNoMod z hs

  -- a compile form
  pub FormNoMod : Zone → Form → Type 0
  FormNoMod z (CF l r a hs b) = HelpersNoMod z hs × NoMod z b
