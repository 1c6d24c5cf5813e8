-- What the reader's code answers: a reading (Read.antt) whose tree is forgotten. `Scan`, `Context` and `Zone` are those of the code.
-- Assumes nothing.
use Rattle.std.specs.Prelude.{true, false, List, [], ◌∷◌, ◌≡◌, ℕ, zero, suc, ◌+◌, ◌-◌, ◌≤◌, get_or, drop, Option, Some, None, Result, Ok, Err, IfOk}
use Rattle.std.specs.Result.{OnErr}
use Rattle.std.specs.Borrow.{Bor}
use Rattle.std.proofs.Common.{zero-le}
use Prim.Native.String.{String}
use Rattle.names.specs.Names.{Bytes, ascii, same}
use Rattle.names.specs.Refusals.{refusing}
use Rattle.names.specs.declared.Refusal.{Refusal}
use Rattle.records.specs.declared.Scan.{Scan}
use Rattle.records.specs.declared.Family.{Family}
use Rattle.records.specs.declared.Family.TheVariants.{Body as a_Body, Binding as a_binding, Helper as a_helper, Form as a_form}
use Rattle.records.specs.declared.Wanted.{Wanted}
use Rattle.records.specs.declared.Wanted.TheVariants.{Form as a_whole_form, Helper as a_single_helper, Assign as an_assign}
use Rattle.records.specs.declared.SexpMark.{SexpMark}
use Rattle.records.specs.declared.SexpMark.TheVariants.{Nil, Pair, Integer, Text, Atom}
use Rattle.records.specs.declared.BodyMark.{BodyMark}
use Rattle.records.specs.declared.BodyMark.TheVariants.{Let, Quoted, Value, Call, Mod, Lambda}
use Rattle.records.specs.declared.HelperMark.{HelperMark}
use Rattle.records.specs.declared.HelperMark.TheVariants.{Constant, Macro, Function, Namespace, Reference}
use Rattle.records.specs.declared.Kind.{Kind}
use Rattle.records.specs.Limits.{level_limit}
use Rattle.records.specs.Opened.{Opened, opened, closed}
use Rattle.records.specs.Records.{Body, Tail, Binding, Helper, Form}
use Rattle.records.specs.Read.{Context, Zone, Readers, Whole, whole, unread, assign_of, binding, readers, let_of, call_tail, lambda_after}
use Rattle.records.specs.ReadFields.{Input, Read, done, refused, fault_reason, Reader, ◌>>=◌, times, count, in_lambda}

-- the place of a mark among these, or their number
unfoldable pub mark_index : Bytes → List String → ℕ
mark_index x [] = 0
mark_index x (m ∷ ms) = elim (same x (ascii m)) [ true ↦ 0 | false ↦ suc (mark_index x ms) ]

-- the marks of the S records
abbrev pub sexp_marks : List String
sexp_marks = "SN" ∷ "SC" ∷ "SI" ∷ "SQ" ∷ "SA" ∷ []

-- the marks of the B and of the H records
abbrev pub body_marks : List String
body_marks = "BL" ∷ "BQ" ∷ "BV" ∷ "BC" ∷ "BM" ∷ "BF" ∷ []

abbrev pub helper_marks : List String
helper_marks = "HC" ∷ "HM" ∷ "HD" ∷ "HN" ∷ "HR" ∷ []

-- the mark with that place
abbrev pub sexp_mark_at : ℕ → Option SexpMark
sexp_mark_at zero = Some Nil
sexp_mark_at (suc zero) = Some Pair
sexp_mark_at (suc (suc zero)) = Some Integer
sexp_mark_at (suc (suc (suc zero))) = Some Text
sexp_mark_at (suc (suc (suc (suc zero)))) = Some Atom
sexp_mark_at (suc (suc (suc (suc (suc k))))) = None

abbrev pub body_mark_at : ℕ → Option BodyMark
body_mark_at zero = Some Let
body_mark_at (suc zero) = Some Quoted
body_mark_at (suc (suc zero)) = Some Value
body_mark_at (suc (suc (suc zero))) = Some Call
body_mark_at (suc (suc (suc (suc zero)))) = Some Mod
body_mark_at (suc (suc (suc (suc (suc zero))))) = Some Lambda
body_mark_at (suc (suc (suc (suc (suc (suc k)))))) = None

abbrev pub helper_mark_at : ℕ → Option HelperMark
helper_mark_at zero = Some Constant
helper_mark_at (suc zero) = Some Macro
helper_mark_at (suc (suc zero)) = Some Function
helper_mark_at (suc (suc (suc zero))) = Some Namespace
helper_mark_at (suc (suc (suc (suc zero)))) = Some Reference
helper_mark_at (suc (suc (suc (suc (suc k))))) = None

-- the mark that these two bytes are, if any
abbrev pub sexp_mark_of : Bytes → Option SexpMark
sexp_mark_of x = sexp_mark_at (mark_index x sexp_marks)

abbrev pub body_mark_of : Bytes → Option BodyMark
body_mark_of x = body_mark_at (mark_index x body_marks)

abbrev pub helper_mark_of : Bytes → Option HelperMark
helper_mark_of x = helper_mark_at (mark_index x helper_marks)

-- a reader, of whatever it reads
abbrev pub AnyReader : Type 1
AnyReader = (A : Type 0) × Reader A

-- the reader of each kind of record, with so much fuel
abbrev pub reader_of : Family → ℕ → AnyReader
reader_of a_Body fuel = (Body, (readers fuel).body)
reader_of a_binding fuel = (Binding, binding (readers fuel).body)
reader_of a_helper fuel = (Helper, (readers fuel).helper)
reader_of a_form fuel = (Form, (readers fuel).form)

-- so many records of a kind; a count, and that many
abbrev pub times_of : ℕ → Family → ℕ → AnyReader
times_of n f fuel = (List (reader_of f fuel).0, times n (reader_of f fuel).1)

abbrev pub many_of : Family → ℕ → AnyReader
many_of f fuel = (List (reader_of f fuel).0, (count >>= λ n. times n (reader_of f fuel).1))

-- what stands after the mark of a B record, after a let's kind byte, and as a call's tail
abbrev pub body_after : (Readers → Reader Body) → ℕ → AnyReader
body_after m fuel = (Body, m (readers fuel))

abbrev pub lambda_within : Readers → Reader Body
lambda_within r = in_lambda (lambda_after r)

abbrev pub let_of_kind : Kind → ℕ → AnyReader
let_of_kind k fuel = (Body, let_of (readers fuel) k)

abbrev pub tail_of : ℕ → AnyReader
tail_of fuel = (Tail, call_tail (readers fuel).body)

-- what stands after the mark of an H record
abbrev pub helper_after : (Readers → Reader Helper) → ℕ → AnyReader
helper_after m fuel = (Helper, m (readers fuel))

-- the context n levels further down, in one BF more, in another zone
abbrev pub below : ℕ → Context → Context
below n x = record { mark = x.mark; room = x.room - n; lambdas = x.lambdas; zone = x.zone }

abbrev pub below_lambda : Context → Context
below_lambda x = record { mark = x.mark; room = x.room; lambdas = x.lambdas - 1; zone = x.zone }

abbrev pub in_zone_of : Zone → Context → Context
in_zone_of z x = record { mark = x.mark; room = x.room; lambdas = x.lambdas; zone = z }

-- where a reader comes to: the input that it leaves, or its refusal
unfoldable pub left_by : {A : Type 0} → Read A → Result Input Refusal
left_by (done a j) = Ok j
left_by (refused f p) = Err (refusing (fault_reason f) p)

-- the input that a reading c has come to, of a record with its mark there
unfoldable pub input_at : ℕ → Scan → Input
input_at mark c = record { offset = mark + c.at; rest = drop c.at c.s.now; first_mod = c.first }

-- the same of the code's answer
abbrev pub answer_at : ℕ → Result Scan Refusal → Result Input Refusal
answer_at mark (Ok d) = Ok (input_at mark d)
answer_at mark (Err e) = Err e

-- the code's answer, with the reading that it leaves where it refuses nothing
abbrev pub left_in : {A : Type 0} → Scan → Result A Refusal → Result Scan Refusal
left_in d (Ok a) = Ok d
left_in d (Err e) = Err e

-- the next byte of a reading
abbrev pub next_byte : Scan → ℕ
next_byte c = get_or c.s.now c.at 0

-- m goes on from the reading c
abbrev pub goes_on : {A : Type 0} → Reader A → Context → Scan → Result Input Refusal
goes_on m x c = left_by (m x (input_at x.mark c))

-- what is not refused is a reading of the same bytes
abbrev pub SameBytes : Scan → Result Scan Refusal → Type 0
SameBytes c r = IfOk r (λ d. d.s ≡ c.s)

-- a reading that is refused stays as it is
abbrev pub Stays : {A : Type 0} → Scan → Scan → Result A Refusal → Type 0
Stays c d r = OnErr r (d ≡ c)

-- r is where m comes from the reading c, in the context x
pub record Comes {A : Type 0} (m : Reader A) (x : Context) (c : Scan) (r : Result Scan Refusal) : Type 0 where
  pub there : answer_at x.mark r ≡ goes_on m x c
  pub same : SameBytes c r

-- the same in every context of that mark: a field asks nothing else of it
pub record Reads {A : Type 0} (m : Reader A) (mark : ℕ) (c : Scan) (r : Result Scan Refusal) : Type 0 where
  pub anywhere : (x : Context) → x.mark ≡ mark → answer_at mark r ≡ goes_on m x c
  pub same : SameBytes c r

-- the same for every fuel that the levels left do not pass
pub record Goes (m : ℕ → AnyReader) (x : Context) (c : Scan) (r : Result Scan Refusal) : Type 0 where
  pub enough : (fuel : ℕ) → x.room ≤ fuel → Comes (m fuel).1 x c r
  pub same : SameBytes c r

-- a reading that starts
abbrev pub starts : Bor Bytes → Option ℕ → Scan
starts s first = record { s = s; at = 0; first = first; in_bounds = zero-le }

-- the reader of the record that a call wants
abbrev pub wanted_reader : Wanted → AnyReader
wanted_reader a_whole_form = (Form, (readers level_limit).form)
wanted_reader a_single_helper = (Helper, (readers level_limit).helper)
wanted_reader an_assign = (Body, assign_of)

-- a whole input, of which only the first BM in a binding body of an assign is kept
unfoldable pub first_of : {A : Type 0} → Whole A → Opened (Option ℕ)
first_of (whole a m) = opened m
first_of (unread f p) = closed (refusing (fault_reason f) p)

-- the code's answer to an input that is opened or refused, with what is kept of it or without
abbrev pub kept_of : {A : Type 0} → Opened A → Result A Refusal
kept_of (opened a) = Ok a
kept_of (closed r) = Err r

abbrev pub opening_of : {A : Type 0} → Opened A → Result (Unit {0}) Refusal
opening_of (opened a) = Ok tt
opening_of (closed r) = Err r
