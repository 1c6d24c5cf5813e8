-- Reading: bytes to one record, from left to right, or the first refusal, number and place. docs/FORMAT.md, 'Reading'.
-- Assumes nothing.
use Rattle.std.specs.Prelude.{List, [], ◌∷◌, ℕ, zero, suc, ◌-◌, eqb, Option, None, Some}
use Prim.Native.String.{String}
use Rattle.names.specs.Names.{Bytes}
use Rattle.names.specs.Refusals.{place_at}
use Rattle.names.specs.declared.Place.{Place}
pub use Rattle.records.specs.declared.Context.{Context}
pub use Rattle.records.specs.declared.Zone.{Zone}
pub use Rattle.records.specs.declared.Zone.TheVariants.{Plain, InBinding, InMod}
use Rattle.records.specs.Limits.{level_limit, cons_limit, lambda_limit}
use Rattle.records.specs.Records.{Sexp, SN, SC, SI, SQ, SA, Pattern, Name, Complex, Body, BL, BQ, BV, BC, BM, BF, Tail, no_tail, tail, Binding, BB, Helper, HC, HM, HD, HN, HR, Form, CF, to_bodies, to_bindings, to_helpers}
use Rattle.records.specs.declared.Kind.{Kind}
use Rattle.records.specs.declared.Kind.TheVariants.{Parallel, Sequential, Assign}
use Rattle.records.specs.ReadFields.{Fault, Input, Reader, ◌>>=◌, ◌>>◌, at_most, bytes, check, choose, count, counted, deeper, done, fault_reason, hint, in_lambda, in_zone, integer, keyword, loc, malformed, marked, name, next, optional_loc, over_limit, raw_field, refuse, refused, ret, shortest, times, up_to, with_loc}

-- the S records, whose SC is read by `cons`
abbrev pub sexp_kinds : Reader Sexp → List (String × Reader Sexp)
sexp_kinds cons =
    ("SN", (loc >>= λ l. ret (SN l)))
    ∷ ("SC", cons)
    ∷ (
      "SI",
      do
        l ← loc
        v ← integer
        ret (SI l v),
    )
    ∷ (
      "SQ",
      do
        l ← loc
        q ← next
        n ← name
        ret (SQ l q n),
    )
    ∷ (
      "SA",
      do
        l ← loc
        n ← name
        ret (SA l n),
    )
    ∷ []

-- an S record
unfoldable pub sexp_rule : Reader Sexp → Reader Sexp
sexp_rule cons = marked (sexp_kinds cons)

-- what stands after the mark of an SC, whose parts are read by `part`
unfoldable pub cons_rule : Reader Sexp → Reader Sexp
cons_rule part = do
  l ← loc
  h ← part
  t ← part
  ret (SC l h t)

-- at most this many SC deep
unfoldable pub sexp_at : ℕ → Reader Sexp
sexp_at zero = sexp_rule (refuse over_limit)
sexp_at (suc d) = sexp_rule (cons_rule (sexp_at d))

-- an S record within its limit
unfoldable pub sexp : Reader Sexp
sexp = sexp_at cons_limit

-- the readers of the records one level down
pub record Readers : Type 0 where
  pub body : Reader Body
  pub helper : Reader Helper
  pub form : Reader Form

-- the kind that a byte stands for
unfoldable pub kind_of : ℕ → Kind
kind_of zero = Parallel
kind_of (suc zero) = Sequential
kind_of (suc (suc n)) = Assign

-- a let of n bindings counts as one level; a sequential one as the larger of n and 1, so n - 1 more
unfoldable pub more_levels : Kind → ℕ → ℕ
more_levels Parallel n = 0
more_levels Sequential n = n - 1
more_levels Assign n = 0

-- the zone of a let's binding bodies
unfoldable pub binding_zone : Kind → Zone → Zone
binding_zone Parallel z = z
binding_zone Sequential z = z
binding_zone Assign Plain = InBinding
binding_zone Assign InBinding = InBinding
binding_zone Assign InMod = InMod

-- a BM at the innermost mark: noted if it is the first in a binding body of an assign
unfoldable pub noted : Zone → Option ℕ → ℕ → Option ℕ
noted Plain first p = first
noted InBinding None p = Some p
noted InBinding (Some q) p = Some q
noted InMod first p = first

-- a BM is met
unfoldable pub note : Reader Unit
note c i = done tt (record { offset = i.offset; rest = i.rest; first_mod = noted c.zone i.first_mod c.mark })

-- among the bindings of a let of kind k
unfoldable pub in_bindings : {A : Type 0} → Kind → Reader A → Reader A
in_bindings k m c i = in_zone (binding_zone k c.zone) m c i

-- what stands after the byte that says Name or Complex
unfoldable pub pattern_after : ℕ → Reader Pattern
pattern_after zero = name >>= λ n. ret (Name n)
pattern_after (suc b) = sexp >>= λ s. ret (Complex s)

-- a pattern
unfoldable pub pattern_of : Reader Pattern
pattern_of = up_to 1 >>= λ b. pattern_after b

-- what stands after the mark of a BB
abbrev pub binding_after : Reader Body → Reader Binding
binding_after body = do
  l ← loc
  nl ← loc
  p ← pattern_of
  b ← body
  ret (BB l nl p b)

-- BB
unfoldable pub binding : Reader Body → Reader Binding
binding body = marked (("BB", binding_after body) ∷ [])

-- a let after its kind byte
unfoldable pub let_of : Readers → Kind → Reader Body
let_of r k = do
  l ← loc
  w ← keyword
  h ← hint
  n ← count
  deeper (more_levels k n) (do
    bs ← in_bindings k (times n (binding r.body))
    b ← r.body
    ret (BL k l w h (to_bindings bs) b))

-- what stands after a call's tail byte
unfoldable pub tail_after : Reader Body → ℕ → Reader Tail
tail_after body zero = ret no_tail
tail_after body (suc b) = body >>= λ t. ret (tail t)

-- a call's tail
unfoldable pub call_tail : Reader Body → Reader Tail
call_tail body = up_to 1 >>= λ b. tail_after body b

-- what stands after the mark of each B record, one level down: BL, BQ and BV, BC, BM, BF
abbrev pub let_after : Readers → Reader Body
let_after r = up_to 2 >>= λ k. let_of r (kind_of k)

abbrev pub quoted_after : (Sexp → Body) → Reader Body
quoted_after k = sexp >>= λ s. ret (k s)

abbrev pub call_after : Readers → Reader Body
call_after r = do
  l ← loc
  n ← count
  bs ← times n r.body
  t ← call_tail r.body
  ret (BC l (to_bodies bs) t)

abbrev pub mod_after : Readers → Reader Body
mod_after r = do
  note
  l ← loc
  f ← in_zone InMod r.form
  ret (BM l f)

abbrev pub lambda_after : Readers → Reader Body
lambda_after r = do
  l ← loc
  w ← keyword
  ca ← sexp
  c ← r.body
  a ← sexp
  b ← r.body
  ret (BF l w ca c a b)

-- the B records
abbrev pub body_kinds : Readers → List (String × Reader Body)
body_kinds r =
    ("BL", deeper 1 (let_after r))
    ∷ ("BQ", deeper 1 (quoted_after BQ))
    ∷ ("BV", deeper 1 (quoted_after BV))
    ∷ ("BC", deeper 1 (call_after r))
    ∷ ("BM", deeper 1 (mod_after r))
    ∷ ("BF", deeper 1 (in_lambda (lambda_after r)))
    ∷ []

-- a B record
unfoldable pub body_rule : Readers → Reader Body
body_rule r = marked (body_kinds r)

-- what stands after the mark of each H record, one level down
abbrev pub constant_after : Readers → Reader Helper
constant_after r = do
  l ← loc
  n ← name
  x ← raw_field
  b ← r.body
  ret (HC l n x b)

abbrev pub macro_after : Readers → Reader Helper
macro_after r = do
  l ← loc
  n ← name
  x ← raw_field
  a ← sexp
  f ← r.form
  ret (HM l n x a f)

abbrev pub function_after : Readers → Reader Helper
function_after r = do
  l ← loc
  i ← up_to 1
  n ← name
  x ← raw_field
  a ← sexp
  b ← r.body
  ret (HD l i n x a b)

abbrev pub namespace_after : Readers → Reader Helper
namespace_after r = do
  l ← loc
  n ← name
  x ← raw_field
  k ← count
  hs ← times k r.helper
  ret (HN l n x (to_helpers hs))

abbrev pub reference_after : Reader Helper
reference_after = do
  l ← loc
  n ← name
  x ← raw_field
  ret (HR l n x)

-- the H records
abbrev pub helper_kinds : Readers → List (String × Reader Helper)
helper_kinds r =
    ("HC", deeper 1 (constant_after r))
    ∷ ("HM", deeper 1 (macro_after r))
    ∷ ("HD", deeper 1 (function_after r))
    ∷ ("HN", deeper 1 (namespace_after r))
    ∷ ("HR", deeper 1 reference_after)
    ∷ []

-- an H record
unfoldable pub helper_rule : Readers → Reader Helper
helper_rule r = marked (helper_kinds r)

-- what stands after the mark of a CF, one level down
abbrev pub form_after : Readers → Reader Form
form_after r = do
  l ← loc
  x ← raw_field
  a ← sexp
  n ← count
  hs ← times n r.helper
  b ← r.body
  ret (CF l x a (to_helpers hs) b)

-- CF
unfoldable pub form_rule : Readers → Reader Form
form_rule r = marked (("CF", deeper 1 (form_after r)) ∷ [])

-- all three
unfoldable pub rules : Readers → Readers
rules r = record { body = body_rule r; helper = helper_rule r; form = form_rule r }

-- `fuel` is at least the room that the context leaves, so the readers below the last are not reached
unfoldable pub readers : ℕ → Readers
readers zero = rules (record { body = refuse over_limit; helper = refuse over_limit; form = refuse over_limit })
readers (suc fuel) = rules (readers fuel)

-- one BL of kind 2
unfoldable pub assign_of : Reader Body
assign_of = marked (("BL", deeper 1 (next >>= λ k. check malformed (eqb k 2) (let_of (readers (level_limit - 1)) Assign))) ∷ [])

-- what a whole input holds: the tree, and the first BM in a binding body of an assign
pub data Whole (A : Type 0) : Type 0 where
  whole : A → Option ℕ → Whole A
  unread : Fault → Place → Whole A

-- 2 where bytes are left over
unfoldable pub left_over : {A : Type 0} → A → Input → Whole A
left_over a i = elim i.rest [ [] ↦ whole a i.first_mod | b ∷ bs ↦ unread malformed (place_at i.offset) ]

-- the context of a record that stands in no other
abbrev pub outermost : Context
outermost = record { mark = 0; room = level_limit; lambdas = lambda_limit; zone = Plain }

-- nothing is read yet
abbrev pub from_first : Bytes → Input
from_first bs = record { offset = 0; rest = bs; first_mod = None }

-- a whole input
unfoldable pub read_whole : {A : Type 0} → Reader A → Bytes → Whole A
read_whole m bs = elim (m outermost (from_first bs)) [ done a i ↦ left_over a i | refused f p ↦ unread f p ]

-- unfolds with every definition of this file
unfoldable pub computing_read : Unit {0}
unfolding fault_reason ◌>>=◌ ◌>>◌ ret refuse check times deeper in_lambda in_zone next bytes choose marked counted raw_field at_most with_loc optional_loc shortest integer sexp_rule cons_rule sexp_at sexp kind_of more_levels binding_zone noted note in_bindings pattern_after pattern_of binding let_of tail_after call_tail body_rule helper_rule form_rule rules readers assign_of left_over read_whole
computing_read = tt
