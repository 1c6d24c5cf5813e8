-- What the calls of a case ask of its input and of memory, and what a case tells of their answers. Assumes nothing.
use Rattle.std.specs.Prelude.{true, false, [], ◌≡◌, ℕ, zero, suc, ◌+◌, ◌-◌, ◌≤◌, ◌<◌, length, Option, Some, Result, Ok, Err}
use Rattle.names.specs.CallAnswer.{max_counter}
use Rattle.names.specs.Maps.{NameMap, map_bytes}
use Rattle.names.specs.Names.{Bytes}
use Rattle.names.specs.Segments.{At}
use Rattle.records.specs.Limits.{most_longest, cons_limit}
use Rattle.records.specs.Records.{Loc, Sexp, BV, []ʰ, Form, CF, sexp_bytes, form_bytes}
use Rattle.records.specs.StepAnswer.{Outcome, gives, refuses}
use Rattle.records.specs.Valid.{SexpFields, cons_depth, ValidSexp, ValidForm}
use Rattle.records.specs.declared.Step.{Step}
use Rattle.replays.specs.Judging.{filling, head_byte, head_field}
use Rattle.replays.specs.Told.{told, ◌>>=◌}
use Rattle.replay_sexps.specs.declared.sexps.Case.{Case}
use Rattle.replay_sexps.specs.declared.sexps.Rule.{Rule}
use Rattle.replay_sexps.specs.declared.sexps.Rule.TheVariants.{Substitute, IntoQq, InsideQq, Alone}
use Rattle.walk.specs.Arena.{MapAt, fitting, outcome}
use Rattle.walk.specs.DrawnMaps.{growth}
use Rattle.walk.specs.Invent.{invent_new_names_sexp}
use Rattle.walk.specs.RenameInCons.{rename_atom, rename_in_cons, rename_in_qq}
use Rattle.walk.specs.declared.Growth.{Growth}
use Rattle.names.specs.declared.Refusal.{Refusal}
use Rattle.records.specs.StepAnswer.{step_of}

-- an input and a counter that a call takes
pub record Taken (input : Bytes) (c : ℕ) : Type 0 where
  pub short : length input ≤ most_longest
  pub counts : c ≤ max_counter

-- a form stands at the start of the input
pub record FormIn (input : Bytes) (f : Form) : Type 0 where
  pub valid : ValidForm f
  pub there : At input 0 (form_bytes f)

-- two S records stand in the input: names are drawn from p, and t is substituted
pub record SexpsIn (input : Bytes) (a b : ℕ) (p t : Sexp) : Type 0 where
  pub pattern_fields : SexpFields p
  pub pattern_deep : cons_depth p ≤ cons_limit
  pub pattern : At input a (sexp_bytes p)
  pub target_valid : ValidSexp t
  pub target : At input b (sexp_bytes t)

-- t stands at a place of memory among its first n bytes, and a map at the end, with room for f bytes between
pub record Ready (mem : Bytes) (n at len f : ℕ) (t : Sexp) (m : NameMap) : Type 0 where
  pub valid : ValidSexp t
  pub there : At mem at (sexp_bytes t)
  pub within : at + length (sexp_bytes t) ≤ n
  pub map : MapAt mem len m
  pub fits : n + f + len ≤ length mem

-- the input stands at the front of memory and a map at its end; from a place up to the map all is what memory was filled with
pub record Holds (mem input : Bytes) (from : ℕ) (map : Bytes) : Type 0 where
  pub fits : from + length map ≤ length mem
  pub front : At mem 0 input
  pub between : At mem from (filling (length mem - length map - from))
  pub end : At mem (length mem - length map) map

-- the step that a case tells: so many bytes read and written and the counter where nothing is refused, else the refusal
abbrev pub due_step : Result (Unit {0}) Refusal → ℕ → ℕ → ℕ → Result Step Refusal
due_step (Ok u) read wrote c = step_of read wrote c
due_step (Err r) read wrote c = Err r

-- how far a case tells that names are drawn: to the end of the pattern, one byte before the body
pub record DueGrowth (c pattern body len : ℕ) (g : Growth) : Type 0 where
  pub before : pattern < body
  pub is : g ≡ growth len c (body - pattern - 1)

-- the rule of a number: 0 Substitute, 1 with `qq` looked into, 2 inside `qq`, else for an S record alone in a body
abbrev pub rule_of : ℕ → Rule
rule_of zero = Substitute
rule_of (suc zero) = IntoQq
rule_of (suc (suc zero)) = InsideQq
rule_of (suc (suc (suc n))) = Alone

-- what a rule makes of an S record
abbrev pub ruled : Rule → NameMap → Sexp → Sexp
ruled Substitute = rename_in_cons false
ruled IntoQq = rename_in_cons true
ruled InsideQq = rename_in_qq true
ruled Alone = rename_atom

-- a case tells this outcome: nothing is refused, and the wanted bytes and the counter are those given; or the refusal is that given
abbrev pub Tells : Result (Unit {0}) Refusal → ℕ → Bytes → Outcome Sexp → Type 0
Tells due after wanted (gives u c) = (due ≡ Ok tt) × (c ≡ after) × (sexp_bytes u ≡ wanted)
Tells due after wanted (refuses r) = due ≡ Err r

-- what the rule of a case makes of every S record and every map that stand there is what the case tells
abbrev pub Renamed : Case → Bytes → ℕ → ℕ → ℕ → Bytes → Type 0
Renamed c mem n at len wanted =
    (t : Sexp) (m : NameMap) → Ready mem n at len c.room t m
    → Tells c.substituted c.after wanted (fitting sexp_bytes c.room c.after (ruled c.rule m t))

-- a case tells this outcome of drawing names, and what its rule then makes of t: nothing is refused, and the map and the counter are those given;
-- or the refusal is that given
abbrev pub TellsDrawn : Case → Bytes → Bytes → Sexp → Outcome NameMap → Type 0
TellsDrawn c map wanted t (gives m k) =
    (c.invented ≡ Ok tt) × (k ≡ c.after) × (map_bytes m ≡ map)
    × Tells c.substituted c.after wanted (fitting sexp_bytes c.room c.after (ruled c.rule m t))
TellsDrawn c map wanted t (refuses r) = c.invented ≡ Err r

-- by the definitions, drawing names from p and then substituting t gives what a case tells
abbrev pub AsTold : Case → Bytes → Bytes → Sexp → Sexp → Type 0
AsTold c map wanted p t = TellsDrawn c map wanted t (outcome (invent_new_names_sexp [] p c.counter 0))

-- so it is of every two S records that stand in the input at these places
abbrev pub DrawsAsTold : Case → Bytes → ℕ → ℕ → Bytes → Bytes → Type 0
DrawsAsTold c input a b map wanted = (p t : Sexp) → SexpsIn input a b p t → AsTold c map wanted p t

-- a form of a case: it has no helpers, p is its args, and its body is the BV of t
pub record CaseForm (f : Form) (p t : Sexp) : Type 0 where
  pub loc : Loc
  pub raw : Bytes
  pub is : f ≡ CF loc raw p []ʰ (BV t)

-- drawing names from the args of a form and then substituting the S record of its body gives what a case tells
pub record FormAsTold (c : Case) (map wanted : Bytes) (f : Form) : Type 0 where
  pub pattern : Sexp
  pub target : Sexp
  pub form : CaseForm f pattern target
  pub told : AsTold c map wanted pattern target

-- so it is of every form that stands at the start of the input
abbrev pub FormsAsTold : Case → Bytes → Bytes → Bytes → Type 0
FormsAsTold c input map wanted = (f : Form) → FormIn input f → FormAsTold c map wanted f

-- the input is a form, and so it is of that form
pub record InputAsTold (c : Case) (input map wanted : Bytes) : Type 0 where
  pub form : Form
  pub valid : ValidForm form
  pub is : input ≡ form_bytes form
  pub told : FormAsTold c map wanted form

-- what a case tells of Substitute; after a refusal nothing is substituted, and the number is not looked at
abbrev pub told_after : Result (Unit {0}) Refusal → ℕ → Option (Result (Unit {0}) Refusal)
told_after (Ok u) n = told n 0
told_after (Err r) n = Some (Err r)

-- the head of a case: F, how long the result may be, the counter, the rule, the number that Invent gives, the counter after it and the number that
-- Substitute gives, 2, 2, 8, 1, 1, 8 and 1 bytes; a refusal names no place
abbrev pub case_from : Bytes → Option Case
case_from head = do
  invented ← told (head_byte head 13) 0
  substituted ← told_after invented (head_byte head 22)
  Some (record {
    f = head_field head 0 2;
    room = head_field head 2 2;
    counter = head_field head 4 8;
    rule = rule_of (head_byte head 12);
    invented = invented;
    after = head_field head 14 8;
    substituted = substituted;
  })
