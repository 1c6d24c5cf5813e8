-- What can be stepped over: the trees of each kind, their bytes, and which of them are within the format's limits.
-- Assumes nothing.
use Rattle.std.specs.Prelude.{◌≡◌, List, ◌++◌, ◌⊎◌, ℕ, ◌+◌, ◌≤◌, ◌<◌, length}
use Rattle.names.specs.Names.{Bytes, number_of, name_field}
use Rattle.names.specs.Segments.{At}
use Rattle.records.specs.declared.Family.{Family}
use Rattle.records.specs.declared.Family.TheVariants.{Body as a_Body, Binding as a_binding, Helper as a_helper, Form as a_form}
use Rattle.records.specs.Depth.{tail_depth, binding_depth}
use Rattle.records.specs.Lists.{joined, Each}
use Rattle.records.specs.Limits.{level_limit, lambda_limit}
use Rattle.records.specs.Records.{byte, Sexp, sexp_bytes, Pattern, pattern_field, Body, body_bytes, Tail, tail_bytes, Binding, binding_bytes, Helper, helper_bytes, Form, form_bytes}
use Rattle.records.specs.Valid.{WithLoc, ValidName, ValidRaw, ValidKeyword, ValidHint, SexpFields, ValidSexp, ValidPattern, TailFields, BindingFields, tail_lambda_depth, binding_lambda_depth, ValidBody, ValidHelper, ValidForm}

-- trees, their bytes, and which of them are meant
abbrev pub Part : Type 1
Part = (A : Type 0) × (A → Bytes) × (A → Type 0)

-- a binding that is taken by itself
abbrev pub ValidBinding : Binding → Type 0
ValidBinding b = BindingFields b × (binding_depth b ≤ level_limit) × (binding_lambda_depth b ≤ lambda_limit)

-- the records of each family
abbrev pub family_part : Family → Part
family_part a_Body = (Body, body_bytes, ValidBody)
family_part a_binding = (Binding, binding_bytes, ValidBinding)
family_part a_helper = (Helper, helper_bytes, ValidHelper)
family_part a_form = (Form, form_bytes, ValidForm)

-- S records; and S records of any depth
abbrev pub sexp_part : Part
sexp_part = (Sexp, sexp_bytes, ValidSexp)

abbrev pub fields_part : Part
fields_part = (Sexp, sexp_bytes, SexpFields)

-- the fields: so many bytes; a length of w bytes, and that many bytes; a byte, with an L behind it from `least` on; a name, R, K, a hint, a pattern
abbrev pub fixed_part : ℕ → Part
fixed_part w = (Bytes, (λ x. x), λ x. length x ≡ w)

abbrev pub counted_part : ℕ → Part
counted_part w = (Bytes, (λ x. x), λ x. (b : Bytes) × (bs : Bytes) × (length b ≡ w) × (length bs ≡ number_of b) × (x ≡ b ++ bs))

abbrev pub optional_part : ℕ → Part
optional_part least = (Bytes, (λ x. x), λ x. ((b : ℕ) × (b < least) × (x ≡ byte b)) ⊎ ((b : ℕ) × (least ≤ b) × WithLoc b x))

abbrev pub name_part : Part
name_part = (Bytes, name_field, ValidName)

abbrev pub raw_part : Part
raw_part = (Bytes, (λ x. x), ValidRaw)

abbrev pub keyword_part : Part
keyword_part = (Bytes, (λ x. x), ValidKeyword)

abbrev pub hint_part : Part
hint_part = (Bytes, (λ x. x), ValidHint)

abbrev pub pattern_part : Part
pattern_part = (Pattern, pattern_field, ValidPattern)

-- n of them, one after the other
abbrev pub list_part : Part → ℕ → Part
list_part p n = (List p.0, joined p.1, λ ts. (length ts ≡ n) × Each p.2 ts)

-- a count, and that many of them
abbrev pub many_part : Part → Part
many_part p = (List p.0, (λ ts. byte (length ts) ++ joined p.1 ts), Each p.2)

-- the tail of a call
abbrev pub tail_part : Part
tail_part = (Tail, tail_bytes, λ t. TailFields t × (tail_depth t ≤ level_limit) × (tail_lambda_depth t ≤ lambda_limit))

-- a name and R
abbrev pub named_part : Part
named_part = (Bytes × Bytes, (λ x. name_field x.0 ++ x.1), λ x. ValidName x.0 × ValidRaw x.1)

-- r is the length of the tree whose bytes s starts with, whatever follows
pub record Skips (p : Part) (s : Bytes) (r : ℕ) : Type 0 where
  pub within : r ≤ length s
  pub skips : (t : p.0) → p.2 t → At s 0 (p.1 t) → r ≡ length (p.1 t)

-- r is where the tree ends whose bytes stand in s from `at` on, and in no case before `at`
pub record Past (p : Part) (s : Bytes) (at r : ℕ) : Type 0 where
  pub within : r ≤ length s
  pub onward : at ≤ r
  pub past : (t : p.0) → p.2 t → At s at (p.1 t) → r ≡ at + length (p.1 t)

-- r is n bytes further on; where they are missing, the end of the bytes
pub record PastBytes (n : ℕ) (s : Bytes) (at r : ℕ) : Type 0 where
  pub past : Past (fixed_part n) s at r
  pub missing : length s < at + n → r ≡ length s
