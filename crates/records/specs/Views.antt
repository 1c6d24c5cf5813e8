-- What a view of a record says: where its fields and children stand, from its mark on.
-- Assumes nothing.
use Rattle.std.specs.Prelude.{◌≡◌, ℕ, ◌+◌, ◌^◌, ◌≤◌, ◌<◌, length, take, drop}
use mathlib.Core.List.{List, [], ◌∷◌, ◌++◌, flatten}
use Rattle.names.specs.Names.{Bytes, ascii, number_of, number_field, name_width, name_field}
use Rattle.names.specs.Segments.{At}
use Rattle.records.specs.Records.{mark_width, head_width, integer_width, Loc, integer_field, Sexp, SN, SC, SI, SQ, SA, sexp_bytes, Pattern, Name, Complex, pattern_field, Body, BL, BQ, BV, BC, BF, body_bytes, Bodies, bodies_bytes, bodies_count, Tail, no_tail, tail, tail_bytes, Bindings, bindings_bytes, bindings_count, HC, HM, HD, HN, helper_bytes, Helpers, helpers_bytes, helpers_count, Form, CF, form_bytes}
use Rattle.records.specs.declared.Kind.{Kind}
use Rattle.records.specs.Scan.{mark_index, sexp_marks}
use Rattle.records.specs.Valid.{ValidLoc, ValidName, ValidInteger, ValidRaw, SexpFields, ValidSexp, ValidBody, ValidHelper, ValidForm}
use Rattle.records.specs.Parts.{Past, fixed_part}
use Rattle.records.specs.declared.NameView.{NameView}
use Rattle.records.specs.declared.TaggedView.{TaggedView}
use Rattle.records.specs.declared.LetView.{LetView}
use Rattle.records.specs.declared.CallView.{CallView}
use Rattle.records.specs.declared.LambdaView.{LambdaView}
use Rattle.records.specs.declared.FormView.{FormView}
use Rattle.records.specs.declared.NamedView.{NamedView}
use Rattle.records.specs.declared.ArgsView.{ArgsView}
use Rattle.records.specs.declared.NamespaceView.{NamespaceView}
use Rattle.records.specs.declared.SexpView.{SexpView}
use Rattle.records.specs.declared.SexpView.TheVariants.{Nil, Pair, Integer, Text, Atom, Unknown}

-- fields stand in s one after the other from p on
pub record Stands (s : Bytes) (p : ℕ) (fields : List Bytes) : Type 0 where
  pub there : At s p (flatten fields)

-- the last fields of a record of n bytes, which stand in s behind its mark
pub record Closes (s : Bytes) (p : ℕ) (fields : List Bytes) (n : ℕ) : Type 0 where
  pub there : Stands s p fields
  pub moved : 0 < p
  pub whole : n ≡ p + length (flatten fields)

-- r is where the mark and the L end that s starts with; where they are missing, the end of the bytes
pub record PastHead (s : Bytes) (r : ℕ) : Type 0 where
  pub within : r ≤ length s
  pub moved : 0 < length s → 0 < r
  pub missing : length s < head_width → r ≡ length s
  pub past : (m : Bytes) (l : Loc) (fields : List Bytes) → length m ≡ mark_width → ValidLoc l → Stands s 0 (m ∷ l ∷ fields) → Stands s r fields
  pub ends : (m : Bytes) (l : Loc) (fields : List Bytes) → length m ≡ mark_width → ValidLoc l → Stands s 0 (m ∷ l ∷ fields) → r ≡ length m + length l

-- the bytes of a name, whose field ends at e
pub record NameAt (s : Bytes) (v : NameView) (n : Bytes) (e : ℕ) : Type 0 where
  pub bytes : At s v.start n
  pub ends : v.end ≡ v.start + length n
  pub past : v.end ≡ e

-- bytes that stand at a place after their length of w bytes: where they start and end; where some are missing, none at the end of s
pub record SeesBytes (w : ℕ) (field : Bytes → Bytes) (Fits : Bytes → Type 0) (s : Bytes) (at : ℕ) (v : NameView) : Type 0 where
  pub onward : at ≤ v.start
  pub forward : v.start ≤ v.end
  pub within : v.end ≤ length s
  pub missing : length s < at + w + number_of (take w (drop at s)) → (v.start ≡ length s) × (v.end ≡ length s)
  pub sees : (n : Bytes) → Fits n → At s at (field n) → NameAt s v n (at + length (field n))

-- a length of w bytes, and that many bytes
unfoldable pub counted_field : ℕ → Bytes → Bytes
counted_field w n = number_field w (length n) ++ n

abbrev pub SeesCounted : ℕ → Bytes → ℕ → NameView → Type 0
SeesCounted w = SeesBytes w (counted_field w) (λ n. length n < 256 ^ w)

-- a name, a number
abbrev pub SeesName : Bytes → ℕ → NameView → Type 0
SeesName = SeesBytes name_width name_field ValidName

abbrev pub SeesInteger : Bytes → ℕ → NameView → Type 0
SeesInteger = SeesBytes integer_width integer_field ValidInteger

-- a byte, and what follows it
pub record TaggedAt (s : Bytes) (v : TaggedView) (b : ℕ) (bs : Bytes) : Type 0 where
  pub tag : v.tag ≡ b
  pub next : At s v.next bs

-- a pattern, a tail
unfoldable pub PatternAt : Bytes → TaggedView → Pattern → Type 0
PatternAt s v (Name n) = TaggedAt s v 0 (name_field n)
PatternAt s v (Complex x) = TaggedAt s v 1 (sexp_bytes x)

unfoldable pub TailAt : Bytes → TaggedView → Tail → Type 0
TailAt s v no_tail = v.tag ≡ 0
TailAt s v (tail b) = TaggedAt s v 1 (body_bytes b)

pub record SeesTagged (s : Bytes) (at : ℕ) (v : TaggedView) : Type 0 where
  pub within : v.next ≤ length s
  pub past : Past (fixed_part 1) s at v.next
  pub pattern : (p : Pattern) → At s at (pattern_field p) → PatternAt s v p
  pub tail_of : (t : Tail) → At s at (tail_bytes t) → TailAt s v t

-- a BC: how many elements; they and the tail
pub record CallAt (s : Bytes) (v : CallView) (bs : Bodies) (t : Tail) : Type 0 where
  pub count : v.count ≡ bodies_count bs
  pub rest : Stands s v.first (bodies_bytes bs ∷ tail_bytes t ∷ [])

pub record SeesCall (s : Bytes) (v : CallView) : Type 0 where
  pub within : v.first ≤ length s
  pub sees : (l : Loc) (bs : Bodies) (t : Tail) → ValidBody (BC l bs t) → At s 0 (body_bytes (BC l bs t)) → CallAt s v bs t
  pub closes : (l : Loc) (bs : Bodies) (t : Tail) → ValidBody (BC l bs t) → At s 0 (body_bytes (BC l bs t)) → Closes s v.first (bodies_bytes bs ∷ tail_bytes t ∷ []) (length (body_bytes (BC l bs t)))

-- a BL: its fields; how many bindings; they and the body
pub record LetAt (s : Bytes) (v : LetView) (k : Kind) (l : Loc) (w h : Bytes) (bs : Bindings) (b : Body) : Type 0 where
  pub kind : v.kind ≡ k
  pub loc : At s v.loc l
  pub keyword : At s v.keyword w
  pub hint : At s v.hint h
  pub count : v.count ≡ bindings_count bs
  pub rest : Stands s v.first (bindings_bytes bs ∷ body_bytes b ∷ [])

pub record SeesLet (s : Bytes) (v : LetView) : Type 0 where
  pub within : v.first ≤ length s
  pub sees : (k : Kind) (l : Loc) (w h : Bytes) (bs : Bindings) (b : Body) → ValidBody (BL k l w h bs b) → At s 0 (body_bytes (BL k l w h bs b)) → LetAt s v k l w h bs b
  pub closes : (k : Kind) (l : Loc) (w h : Bytes) (bs : Bindings) (b : Body) → ValidBody (BL k l w h bs b) → At s 0 (body_bytes (BL k l w h bs b)) → Closes s v.first (bindings_bytes bs ∷ body_bytes b ∷ []) (length (body_bytes (BL k l w h bs b)))

-- the bytes of a BF before its capture args
abbrev pub lambda_head : Loc → Bytes → Bytes
lambda_head l w = ascii "BF" ++ (l ++ w)

-- where capture args, args and body stand
pub record Parted (at args body : ℕ) (l : Loc) (w : Bytes) (ca : Sexp) (c : Body) (a : Sexp) : Type 0 where
  pub capture_args_at : at ≡ length (lambda_head l w)
  pub args_at : args ≡ at + length (sexp_bytes ca) + length (body_bytes c)
  pub body_at : body ≡ args + length (sexp_bytes a)

-- and the captures, in a view
pub record LambdaParted (v : LambdaView) (l : Loc) (w : Bytes) (ca : Sexp) (c : Body) (a : Sexp) : Type 0 where
  pub parted : Parted v.capture_args v.args v.body l w ca c a
  pub captures_at : v.captures ≡ v.capture_args + length (sexp_bytes ca)

-- a BF: K, capture args, captures, args and body
pub record LambdaAt (s : Bytes) (v : LambdaView) (w : Bytes) (ca : Sexp) (c : Body) (a : Sexp) (b : Body) : Type 0 where
  pub keyword : At s v.keyword w
  pub capture_args : At s v.capture_args (sexp_bytes ca)
  pub captures : At s v.captures (body_bytes c)
  pub args : At s v.args (sexp_bytes a)
  pub body : At s v.body (body_bytes b)

pub record SeesLambda (s : Bytes) (v : LambdaView) : Type 0 where
  pub capture_args_within : v.capture_args ≤ length s
  pub args_within : v.args ≤ length s
  pub sees : (l : Loc) (w : Bytes) (ca : Sexp) (c : Body) (a : Sexp) (b : Body) → ValidBody (BF l w ca c a b) → At s 0 (body_bytes (BF l w ca c a b)) → LambdaAt s v w ca c a b
  pub closes : (l : Loc) (w : Bytes) (ca : Sexp) (c : Body) (a : Sexp) (b : Body) → ValidBody (BF l w ca c a b) → At s 0 (body_bytes (BF l w ca c a b)) → Closes s v.args (sexp_bytes a ∷ body_bytes b ∷ []) (length (body_bytes (BF l w ca c a b)))
  pub parts : (l : Loc) (w : Bytes) (ca : Sexp) (c : Body) (a : Sexp) (b : Body) → ValidBody (BF l w ca c a b) → At s 0 (body_bytes (BF l w ca c a b)) → LambdaParted v l w ca c a

-- a BQ, a BV: its S record
abbrev pub SeesQuote : Bytes → ℕ → Type 0
SeesQuote s v = (x : Sexp) → At s 0 (body_bytes (BQ x)) → At s v (sexp_bytes x)

abbrev pub SeesValue : Bytes → ℕ → Type 0
SeesValue s v = (x : Sexp) → At s 0 (body_bytes (BV x)) → At s v (sexp_bytes x)

-- a CF: R and args; how many helpers; they and the body
pub record FormAt (s : Bytes) (v : FormView) (r : Bytes) (a : Sexp) (hs : Helpers) (b : Body) : Type 0 where
  pub raw : At s v.raw r
  pub args : At s v.args (sexp_bytes a)
  pub count : v.count ≡ helpers_count hs
  pub rest : Stands s v.first (helpers_bytes hs ∷ body_bytes b ∷ [])

-- of a CF: its helpers stand behind its args and the count byte; it ends with its body
pub record SeesForm (s : Bytes) (v : FormView) : Type 0 where
  pub sees : (l : Loc) (r : Bytes) (a : Sexp) (hs : Helpers) (b : Body) → ValidForm (CF l r a hs b) → At s 0 (form_bytes (CF l r a hs b)) → FormAt s v r a hs b
  pub ends : (l : Loc) (r : Bytes) (a : Sexp) (hs : Helpers) (b : Body) → ValidForm (CF l r a hs b) → At s 0 (form_bytes (CF l r a hs b)) → (v.first ≡ v.args + length (sexp_bytes a) + 1) × (v.first + length (helpers_bytes hs) + length (body_bytes b) ≡ length (form_bytes (CF l r a hs b)))

-- a name and R, and the fields after them
pub record NamedAt (s : Bytes) (v : NamedView) (n r : Bytes) (fields : List Bytes) : Type 0 where
  pub name : At s v.name (name_field n)
  pub raw : At s v.raw r
  pub rest : Stands s v.next fields

-- what a view of a name and R says, and where R ends
pub record PastNamed (s : Bytes) (at : ℕ) (v : NamedView) : Type 0 where
  pub within : v.next ≤ length s
  pub past : (n r : Bytes) (fields : List Bytes) → ValidName n → ValidRaw r → Stands s at (name_field n ∷ r ∷ fields) → NamedAt s v n r fields
  pub ends : (n r : Bytes) (fields : List Bytes) → ValidName n → ValidRaw r → Stands s at (name_field n ∷ r ∷ fields) → v.next ≡ at + length (name_field n) + length r

-- a name, R and args, and the fields after them
pub record ArgsAt (s : Bytes) (v : ArgsView) (n r : Bytes) (a : Sexp) (fields : List Bytes) : Type 0 where
  pub name : At s v.name (name_field n)
  pub raw : At s v.raw r
  pub args : At s v.args (sexp_bytes a)
  pub rest : Stands s v.next fields

-- what a view of a name, R and args says, and where R and args end
pub record PastArgs (s : Bytes) (at : ℕ) (v : ArgsView) : Type 0 where
  pub past : (n r : Bytes) (a : Sexp) (fields : List Bytes) → ValidName n → ValidRaw r → ValidSexp a → Stands s at (name_field n ∷ r ∷ sexp_bytes a ∷ fields) → ArgsAt s v n r a fields
  pub ends : (n r : Bytes) (a : Sexp) (fields : List Bytes) → ValidName n → ValidRaw r → ValidSexp a → Stands s at (name_field n ∷ r ∷ sexp_bytes a ∷ fields) → (v.args ≡ at + length (name_field n) + length r) × (v.next ≡ v.args + length (sexp_bytes a))

-- of an HD: its body stands right behind its args; it ends with it
pub record SeesFunction (s : Bytes) (v : ArgsView) : Type 0 where
  pub sees : (l : Loc) (i : ℕ) (n r : Bytes) (a : Sexp) (b : Body) → ValidHelper (HD l i n r a b) → At s 0 (helper_bytes (HD l i n r a b)) → ArgsAt s v n r a (body_bytes b ∷ [])
  pub ends : (l : Loc) (i : ℕ) (n r : Bytes) (a : Sexp) (b : Body) → ValidHelper (HD l i n r a b) → At s 0 (helper_bytes (HD l i n r a b)) → (v.next ≡ v.args + length (sexp_bytes a)) × (v.next + length (body_bytes b) ≡ length (helper_bytes (HD l i n r a b)))

-- of an HC: it ends with its body
pub record SeesConstant (s : Bytes) (v : NamedView) : Type 0 where
  pub sees : (l : Loc) (n r : Bytes) (b : Body) → ValidHelper (HC l n r b) → At s 0 (helper_bytes (HC l n r b)) → NamedAt s v n r (body_bytes b ∷ [])
  pub ends : (l : Loc) (n r : Bytes) (b : Body) → ValidHelper (HC l n r b) → At s 0 (helper_bytes (HC l n r b)) → v.next + length (body_bytes b) ≡ length (helper_bytes (HC l n r b))

-- of an HM: its CF stands right behind its args; it ends with it
pub record SeesMacro (s : Bytes) (v : ArgsView) : Type 0 where
  pub sees : (l : Loc) (n r : Bytes) (a : Sexp) (f : Form) → ValidHelper (HM l n r a f) → At s 0 (helper_bytes (HM l n r a f)) → ArgsAt s v n r a (form_bytes f ∷ [])
  pub ends : (l : Loc) (n r : Bytes) (a : Sexp) (f : Form) → ValidHelper (HM l n r a f) → At s 0 (helper_bytes (HM l n r a f)) → (v.next ≡ v.args + length (sexp_bytes a)) × (v.next + length (form_bytes f) ≡ length (helper_bytes (HM l n r a f)))

-- an HN: name and R; how many helpers; they
pub record NamespaceAt (s : Bytes) (v : NamespaceView) (n r : Bytes) (hs : Helpers) : Type 0 where
  pub name : At s v.name (name_field n)
  pub raw : At s v.raw r
  pub count : v.count ≡ helpers_count hs
  pub rest : At s v.first (helpers_bytes hs)

-- of an HN: its helpers stand behind the count byte; it ends with them
pub record SeesNamespace (s : Bytes) (v : NamespaceView) : Type 0 where
  pub sees : (l : Loc) (n r : Bytes) (hs : Helpers) → ValidHelper (HN l n r hs) → At s 0 (helper_bytes (HN l n r hs)) → NamespaceAt s v n r hs
  pub counted : (l : Loc) (n r : Bytes) (hs : Helpers) → ValidHelper (HN l n r hs) → At s 0 (helper_bytes (HN l n r hs)) → 1 ≤ v.first
  pub ends : (l : Loc) (n r : Bytes) (hs : Helpers) → ValidHelper (HN l n r hs) → At s 0 (helper_bytes (HN l n r hs)) → v.first + length (helpers_bytes hs) ≡ length (helper_bytes (HN l n r hs))

-- what a view says of the S record that s starts with: of an SN its end; of an SC where its head stands, with its tail behind; of an SI, SQ or SA
-- its bytes, with which it ends
pub data SexpAt (s : Bytes) : SexpView → Sexp → Type 0 where
  nil_at : {l : Loc} {e : ℕ} → e ≡ length (sexp_bytes (SN l)) → SexpAt s (Nil e) (SN l)
  pair_at : {l : Loc} {h t : Sexp} {p : ℕ} → Stands s p (sexp_bytes h ∷ sexp_bytes t ∷ []) → length (sexp_bytes (SC l h t)) ≡ p + length (sexp_bytes h) + length (sexp_bytes t) → SexpAt s (Pair p) (SC l h t)
  integer_at : {l : Loc} {b : Bytes} {v : NameView} → NameAt s v b (length (sexp_bytes (SI l b))) → SexpAt s (Integer v) (SI l b)
  text_at : {l : Loc} {q : ℕ} {n : Bytes} {v : NameView} → NameAt s v n (length (sexp_bytes (SQ l q n))) → SexpAt s (Text v) (SQ l q n)
  atom_at : {l : Loc} {n : Bytes} {v : NameView} → NameAt s v n (length (sexp_bytes (SA l n))) → SexpAt s (Atom v) (SA l n)

-- the place among the marks of S records of the mark that a view stands for; behind them all if it stands for none
abbrev pub view_index : SexpView → ℕ
view_index (Nil e) = 0
view_index (Pair p) = 1
view_index (Integer v) = 2
view_index (Text v) = 3
view_index (Atom v) = 4
view_index Unknown = 5

-- bytes from a place behind the mark on, within n bytes
pub record BytesIn (n : ℕ) (v : NameView) : Type 0 where
  pub moved : 0 < v.start
  pub forward : v.start ≤ v.end
  pub within : v.end ≤ n

-- the places of a view stand behind the mark and within n bytes
abbrev pub PlacesIn : ℕ → SexpView → Type 0
PlacesIn n (Nil e) = (0 < e) × (e ≤ n)
PlacesIn n (Pair p) = (0 < p) × (p ≤ n)
PlacesIn n (Integer v) = BytesIn n v
PlacesIn n (Text v) = BytesIn n v
PlacesIn n (Atom v) = BytesIn n v
PlacesIn n Unknown = Unit {0}

-- what the view of an S record says, whatever its depth: the view goes by the mark, and is none where the mark is none of the five
pub record SeesSexp (s : Bytes) (v : SexpView) : Type 0 where
  pub marked : view_index v ≡ mark_index (take mark_width s) sexp_marks
  pub places : PlacesIn (length s) v
  pub sees : (t : Sexp) → SexpFields t → At s 0 (sexp_bytes t) → SexpAt s v t
