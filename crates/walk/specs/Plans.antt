-- How an S record is substituted: what each plan of `plan_of` says of the record at the start.
-- Assumes nothing.
use Rattle.std.specs.Prelude.{Bool, true, false, ◌≡◌, ℕ, ◌+◌, ◌≤◌, ◌<◌, length, Option, Some, None, IfSome}
use Rattle.std.proofs.Math.Option.{none}
use Prim.Native.String.{String}
use Rattle.names.specs.Maps.{NameMap}
use Rattle.names.specs.Names.{Bytes, ascii}
use Rattle.names.specs.Segments.{At}
use Rattle.records.specs.Records.{head_width, Loc, Sexp, SN, SC, sexp_bytes}
use Rattle.records.specs.Sexps.{loc_of, nilp, is_atom, only}
use Rattle.records.specs.Valid.{SexpFields, cons_depth}
use Rattle.walk.specs.RenameInCons.{rename_in_cons, rename_in_qq, rename_atom}
use Rattle.walk.specs.declared.Plan.{Plan}
use Rattle.walk.specs.declared.Plan.TheVariants.{Kept, ByMap, Requoted, Alone, Parts}
use Rattle.walk.specs.declared.Quasi.{Quasi}
use Rattle.walk.specs.declared.Quasi.TheVariants.{Ignored, Outside, Inside}

-- the rule for each place of a `qq`
abbrev pub substitution : Quasi → NameMap → Sexp → Sexp
substitution Ignored = rename_in_cons false
substitution Outside = rename_in_cons true
substitution Inside = rename_in_qq true

-- an SC whose parts go on by the rule
pub record GoesByParts (rule : NameMap → Sexp → Sexp) (t : Sexp) : Type 0 where
  pub l : Loc
  pub h : Sexp
  pub u : Sexp
  pub is : t ≡ SC l h u
  pub makes : (m : NameMap) → rule m t ≡ SC l (rule m h) (rule m u)

-- an SC `(quote v)`, which is rebuilt
pub record Quoted (rule : NameMap → Sexp → Sexp) (t : Sexp) (at : ℕ) : Type 0 where
  pub l : Loc
  pub h : Sexp
  pub l₂ : Loc
  pub v : Sexp
  pub z : Sexp
  pub is : t ≡ SC l h (SC l₂ v z)
  pub place : at ≡ head_width + length (sexp_bytes h) + head_width
  pub makes : (m : NameMap) → rule m t ≡ SC l h (SC (loc_of v) v (SN (loc_of v)))

-- an SC whose only element x, which stands at `at`, goes on alone by the rule of `next`
pub record OnlyElement (rule : NameMap → Sexp → Sexp) (next : Quasi) (s : Bytes) (t : Sexp) (at : ℕ) : Type 0 where
  pub x : Sexp
  pub fields : SexpFields x
  pub there : At s at (sexp_bytes x)
  pub within : at + length (sexp_bytes x) ≤ length (sexp_bytes t)
  pub deeper : cons_depth x < cons_depth t
  pub makes : (m : NameMap) → rule m t ≡ substitution next m x

-- what the plan p says of the record t
pub data Planned (rule : NameMap → Sexp → Sexp) (s : Bytes) (p : Plan) (t : Sexp) : Type 0 where
  keeps : p ≡ Kept (length (sexp_bytes t)) → ((m : NameMap) → rule m t ≡ t) → Planned rule s p t
  renames : p ≡ ByMap → ((m : NameMap) → rule m t ≡ rename_atom m t) → Planned rule s p t
  quotes : (at : ℕ) → p ≡ Requoted at (length (sexp_bytes t)) → Quoted rule t at → Planned rule s p t
  goes_alone : (next : Quasi) (at : ℕ) → p ≡ Alone next at (length (sexp_bytes t)) → OnlyElement rule next s t at → Planned rule s p t
  goes_on : p ≡ Parts → GoesByParts rule t → Planned rule s p t

-- p is the plan for the record at the start
pub record Plans (rule : NameMap → Sexp → Sexp) (s : Bytes) (p : Plan) : Type 0 where
  pub plans : (t : Sexp) → SexpFields t → At s 0 (sexp_bytes t) → Planned rule s p t

-- an SC whose parts go on stands at the start
pub record PairAtStart (rule : NameMap → Sexp → Sexp) (s : Bytes) : Type 0 where
  pub goes : (t : Sexp) → SexpFields t → At s 0 (sexp_bytes t) → GoesByParts rule t

-- a record t that is a proper list of one element, which stands at r behind its mark; or is none
pub data OnlyAt (t : Sexp) (r : Option ℕ) : Type 0 where
  only_none : r ≡ None → only t ≡ none → OnlyAt t r
  only_one : (l : Loc) (x z : Sexp) → t ≡ SC l x z → nilp z ≡ true → r ≡ Some head_width → OnlyAt t r

pub record SeesOnly (s : Bytes) (r : Option ℕ) : Type 0 where
  pub within : IfSome r (λ at. at ≤ length s)
  pub onlys : (t : Sexp) → SexpFields t → At s 0 (sexp_bytes t) → OnlyAt t r

-- the head of an SC at the start stands at n
pub record HeadAt (s : Bytes) (n : ℕ) : Type 0 where
  pub within : n ≤ length s
  pub is : (l : Loc) (h u : Sexp) → SexpFields (SC l h u) → At s 0 (sexp_bytes (SC l h u)) → n ≡ head_width

-- a tail u that is a proper list of one element, which stands at r behind the head h; or is none
pub data OnlyOfTailAt (h u : Sexp) (r : Option ℕ) : Type 0 where
  single_none : r ≡ None → only u ≡ none → OnlyOfTailAt h u r
  single_one : (l : Loc) (x z : Sexp) → u ≡ SC l x z → nilp z ≡ true → r ≡ Some (head_width + length (sexp_bytes h) + head_width) → OnlyOfTailAt h u r

pub record SeesOnlyOfTail (s : Bytes) (r : Option ℕ) : Type 0 where
  pub singles : (l : Loc) (h u : Sexp) → SexpFields (SC l h u) → At s 0 (sexp_bytes (SC l h u)) → OnlyOfTailAt h u r

-- p is the plan for an SC at the start
pub record PlansPair (rule : NameMap → Sexp → Sexp) (s : Bytes) (p : Plan) : Type 0 where
  pub pairs : (l : Loc) (h u : Sexp) → SexpFields (SC l h u) → At s 0 (sexp_bytes (SC l h u)) → Planned rule s p (SC l h u)

-- r: the record that s starts with is the atom of this word
pub record IsAtom (s word : Bytes) (r : Bool) : Type 0 where
  pub is : (w : String) → word ≡ ascii w → (t : Sexp) → SexpFields t → At s 0 (sexp_bytes t) → r ≡ is_atom w t
