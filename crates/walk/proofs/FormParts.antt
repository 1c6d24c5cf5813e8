-- Each H record and CF by its view, as a head and a rest, or a head, args and a rest: where these stand, that they are fine, and that the rule runs on them. Assumes
-- nothing.
use mathlib.Core.Path.{◌≡◌, refl, sym, ap, ◌∙◌}
use mathlib.Core.Bool.{Bool, true, false}
use mathlib.Core.List.{◌++◌, flatten, append_assoc, append-nil}
use native.Mathlib.Omega.{arith}
use Prim.Native.Nat.{ℕ, ◌+◌, ◌-◌, ◌≤◌}
use Prim.Native.String.{String}
use lib.ListN.{length, length-append}
use Rattle.names.specs.Maps.{NameMap}
use Rattle.names.specs.Names.{Bytes, ascii, name_field}
use Rattle.names.specs.Segments.{At}
use Rattle.records.specs.StepAnswer.{Outcome}
use Rattle.records.specs.Depth.{depth, helper_depth, helpers_depth, form_depth}
use Rattle.records.specs.Limits.{level_limit, lambda_limit}
use Rattle.records.specs.Records.{Loc, record_bytes, byte, Sexp, sexp_bytes, Body, body_bytes, Helper, HC, HM, HD, HN, helper_bytes, Helpers, []ʰ, ◌∷ʰ◌, helpers_bytes, Form, CF, form_bytes}
use Rattle.records.specs.Valid.{BodyFields, HelperFields, HelpersFields, FormFields, lambda_depth, helper_lambda_depth, helpers_lambda_depth, form_lambda_depth, NoMod, HelperNoMod, HelpersNoMod, FormNoMod}
use Rattle.records.specs.Views.{SeesForm, SeesConstant, SeesMacro, SeesFunction, SeesNamespace}
use Rattle.records.specs.declared.ArgsView.{ArgsView}
use Rattle.records.specs.declared.FormView.{FormView}
use Rattle.records.specs.declared.NamedView.{NamedView}
use Rattle.records.specs.declared.NamespaceView.{NamespaceView}
use Rattle.records.specs.declared.Zone.{Zone}
use Rattle.walk.specs.Arena.{outcome}
use Rattle.walk.specs.Bodyforms.{walk}
use Rattle.walk.specs.Draws.{sexp_atoms, atoms, helper_atoms, helpers_atoms, form_atoms}
use Rattle.walk.specs.FormWalks.{tree_size, FineHelper, FineForm, EachFineHelper, rest_bytes, FineRest, rest_by}
use Rattle.walk.specs.Helperforms.{form_walk, rename_args_helperform, rename_in_helperform, rename_children_compileform}
use Rattle.walk.specs.Steps.{◌>>=◌, ret, helper_size, form_size, step}
use Rattle.walk.specs.Walking.{AnyBody, Fine}
use Rattle.walk.specs.declared.Child.TheVariants.{Helperform, Compileform}
use Rattle.walk.specs.declared.Rest.TheVariants.{OneBody, OneForm, Listed, Parts}
use Rattle.walk.specs.declared.Task.{Task}
use Rattle.walk.specs.declared.Way.{Way}
use Rattle.walk.specs.declared.Way.TheVariants.{Own, In}
use Rattle.walk.proofs.FormRuns.{args_helper_step, in_helper_step, args_form_step, in_form_step, macro_run, function_run, form_run, in_form_run, children_run}
use Rattle.walk.proofs.Opening.{way_of, by_tree, Keeping, Renewing, kept_draws, renewed_draws}
use Rattle.walk.proofs.RunLaws.{step_same}
use Rattle.walk.proofs.Sizes.{positive, form_positive}

-- a part of a fine record, one level down
module _ {F d : ℕ} (z : Zone) where
  fine_body : {b : Body} → BodyFields b → 1 + depth b ≤ level_limit → lambda_depth b ≤ lambda_limit → NoMod z b → 1 + depth b ≤ d → length (body_bytes b) ≤ F → Fine AnyBody F (d - 1) b
  fine_body f l k n e s = record { valid = (f, omega arith, k); zone = z; clear = n; only = tt; deep = omega arith; short = s }

  fine_form : {f : Form} → FormFields f → 1 + form_depth f ≤ level_limit → form_lambda_depth f ≤ lambda_limit → FormNoMod z f → 1 + form_depth f ≤ d → length (form_bytes f) ≤ F → FineForm F (d - 1) f
  fine_form f l k n e s = record { valid = (f, omega arith, k); zone = z; clear = n; deep = omega arith; short = s }

  fine_helpers : (hs : Helpers) → HelpersFields hs → 1 + helpers_depth hs ≤ level_limit → helpers_lambda_depth hs ≤ lambda_limit → HelpersNoMod z hs → 1 + helpers_depth hs ≤ d → length (helpers_bytes hs) ≤ F
      → EachFineHelper F (d - 1) hs
  unfolding EachFineHelper HelpersFields helpers_depth helpers_lambda_depth HelpersNoMod helpers_bytes
  fine_helpers []ʰ f l k n e s = tt
  fine_helpers (h ∷ʰ hs) f l k n e s =
      let w = length-append (helper_bytes h) (helpers_bytes hs) in (
        record { valid = (f.0, omega arith, omega arith); zone = z; clear = n.0; deep = omega arith; short = omega arith },
        fine_helpers hs f.1 (omega arith) (omega arith) n.1 (omega arith) (omega arith),
      )

-- the head of each record, and its bytes as that head and what is behind it
abbrev named_head : String → Loc → Bytes → Bytes → Bytes
named_head w l n r = ascii w ++ (l ++ (name_field n ++ r))

abbrev function_head : Loc → ℕ → Bytes → Bytes → Bytes
function_head l i n r = ascii "HD" ++ (l ++ (byte i ++ (name_field n ++ r)))

abbrev form_head : Loc → Bytes → Bytes
form_head l r = ascii "CF" ++ (l ++ r)

constant_split : (l : Loc) (n r : Bytes) (b : Body) → helper_bytes (HC l n r b) ≡ named_head "HC" l n r ++ body_bytes b
unfolding helper_bytes record_bytes flatten ascii
constant_split l n r b = simp (append-nil, append_assoc)

macro_split : (l : Loc) (n r : Bytes) (a : Sexp) (f : Form) → helper_bytes (HM l n r a f) ≡ named_head "HM" l n r ++ (sexp_bytes a ++ form_bytes f)
unfolding helper_bytes record_bytes flatten ascii
macro_split l n r a f = simp (append-nil, append_assoc)

function_split : (l : Loc) (i : ℕ) (n r : Bytes) (a : Sexp) (b : Body) → helper_bytes (HD l i n r a b) ≡ function_head l i n r ++ (sexp_bytes a ++ body_bytes b)
unfolding helper_bytes record_bytes flatten ascii byte
function_split l i n r a b = simp (append-nil, append_assoc)

namespace_split : (l : Loc) (n r : Bytes) (hs : Helpers) → helper_bytes (HN l n r hs) ≡ named_head "HN" l n r ++ rest_bytes Listed hs
unfolding helper_bytes record_bytes flatten ascii byte
namespace_split l n r hs = simp (append-nil, append_assoc)

form_split : (l : Loc) (r : Bytes) (a : Sexp) (p : Helpers × Body) → form_bytes (CF l r a p.0 p.1) ≡ form_head l r ++ (sexp_bytes a ++ rest_bytes Parts p)
unfolding form_bytes record_bytes flatten ascii byte
form_split l r a p = simp (append-nil, append_assoc)

-- the length of a head and one part, or two
length_one : {bs : Bytes} (h x : Bytes) → bs ≡ h ++ x → length bs ≡ length h + length x
length_one h x e = ap length e ∙ length-append h x

length_two : {bs : Bytes} (h x y : Bytes) → bs ≡ h ++ (x ++ y) → length bs ≡ length h + length x + length y
length_two h x y e = omega (arith, ap length e, length-append h (x ++ y), length-append x y)

-- and of a count, helpers and a body
length_parts : (p : Helpers × Body) → length (rest_bytes Parts p) ≡ 1 + length (helpers_bytes p.0) + length (body_bytes p.1)
length_parts p = omega (arith, length-append (rest_bytes Listed p.0) (body_bytes p.1))

-- an HC
module _ {mem : Bytes} (t : Task) (owning : Bool) {v : NamedView} (see : SeesConstant mem v) where
  abbrev pub ConstantOpens : Helper → Type 0
  ConstantOpens u = FineHelper t.f t.depth u → At mem 0 (helper_bytes u) → Keeping Helperform OneBody (way_of owning) (by_tree Helperform owning t) t v.next u

  -- it is its head and its body
  pub constant_opens : (l : Loc) (n r : Bytes) (b : Body) → ConstantOpens (HC l n r b)
  unfolding HelperFields helper_depth helper_lambda_depth HelperNoMod helper_atoms rename_args_helperform rename_in_helperform
  constant_opens l n r b f at =
      let s = length_one (named_head "HC" l n r) (body_bytes b) (constant_split l n r b) in
      let le : 1 ≤ t.depth = omega (arith, f.deep) in
      record {
        head = named_head "HC" l n r;
        parts = b;
        again = HC l n r;
        is = refl;
        bytes = constant_split l n r;
        place = omega (arith, see.ends l n r b f.valid at);
        good = record { fine = fine_body f.zone f.valid.0.3 f.valid.1 f.valid.2 f.clear f.deep (omega (arith, f.short)); level = le; short = rw (constant_split l n r b) at f.short };
        few = kept_draws t.depth (atoms b) (atoms b) le (omega arith);
        runs = λ m. go owning m le;
      }
    where
      go : (o : Bool) (m : NameMap) → 1 ≤ t.depth
          → by_tree Helperform o t m (HC l n r b) ≡ outcome (step t.f (tree_size Helperform) (rest_by t.f OneBody (way_of o) (t.depth - 1) m b >>= λ v. ret (HC l n r v)) t.counter 0)
      go true m le = args_helper_step t.f t.depth m t.counter le (HC l n r b)
      go false m le = in_helper_step t.f t.depth m t.counter le (HC l n r b)

-- an HM
module _ {mem : Bytes} (t : Task) {v : ArgsView} (see : SeesMacro mem v) where
  abbrev pub MacroRenews : Helper → Type 0
  MacroRenews u = FineHelper t.f t.depth u → At mem 0 (helper_bytes u) → Renewing Helperform OneForm t v.args u

  -- it is its head, its args and its form
  pub macro_renews : (l : Loc) (n r : Bytes) (a : Sexp) (x : Form) → MacroRenews (HM l n r a x)
  unfolding HelperFields helper_depth helper_lambda_depth HelperNoMod helper_atoms rename_args_helperform
  macro_renews l n r a x f at =
      let s = length_two (named_head "HM" l n r) (sexp_bytes a) (form_bytes x) (macro_split l n r a x) in
      let e = see.ends l n r a x f.valid at in
      let le : 2 ≤ t.depth = omega (arith, f.deep, form_positive x) in
      record {
        head = named_head "HM" l n r;
        parts = (a, x);
        again = λ p. HM l n r p.0 p.1;
        is = refl;
        bytes = λ p. macro_split l n r p.0 p.1;
        place = omega (arith, e.0, e.1);
        good = record { args = f.valid.0.3; fine = fine_form f.zone f.valid.0.4 f.valid.1 f.valid.2 f.clear f.deep (omega (arith, f.short)); levels = le; short = rw (macro_split l n r a x) at f.short };
        few = renewed_draws t.depth (sexp_atoms a) (form_atoms x) _ (omega arith) (omega arith);
        runs = λ m. args_helper_step t.f t.depth m t.counter (omega arith) (HM l n r a x) ∙ step_same t.f helper_size _ _ t.counter t.counter 0 0 (macro_run t.f (t.depth - 1) t.counter l n r a x);
      }

  -- args kept
  abbrev pub MacroOpens : Helper → Type 0
  MacroOpens u = FineHelper t.f t.depth u → At mem 0 (helper_bytes u) → Keeping Helperform OneForm In (by_tree Helperform false t) t v.next u

  -- it is its head with its args, and its form
  pub macro_opens : (l : Loc) (n r : Bytes) (a : Sexp) (x : Form) → MacroOpens (HM l n r a x)
  unfolding HelperFields helper_depth helper_lambda_depth HelperNoMod helper_atoms rename_in_helperform
  macro_opens l n r a x f at =
      let head = named_head "HM" l n r in
      let s = length_two head (sexp_bytes a) (form_bytes x) (macro_split l n r a x) in
      let e = see.ends l n r a x f.valid at in
      let le : 1 ≤ t.depth = omega (arith, f.deep) in
      record {
        head = head ++ sexp_bytes a;
        parts = x;
        again = HM l n r a;
        is = refl;
        bytes = λ y. macro_split l n r a y ∙ sym (append_assoc head (sexp_bytes a) (form_bytes y));
        place = omega (arith, e.1, length-append head (sexp_bytes a));
        good = record {
          fine = fine_form f.zone f.valid.0.4 f.valid.1 f.valid.2 f.clear f.deep (omega (arith, f.short));
          level = le;
          short = omega (arith, f.short, length-append (head ++ sexp_bytes a) (form_bytes x), length-append head (sexp_bytes a));
        };
        few = kept_draws t.depth (form_atoms x) (sexp_atoms a + form_atoms x) le (omega arith);
        runs = λ m. in_helper_step t.f t.depth m t.counter le (HM l n r a x);
      }

-- an HN
module _ {mem : Bytes} (t : Task) {v : NamespaceView} (see : SeesNamespace mem v) where
  abbrev pub NamespaceOpens : Helper → Type 0
  NamespaceOpens u = FineHelper t.f t.depth u → At mem 0 (helper_bytes u) → Keeping Helperform Listed Own (by_tree Helperform true t) t (v.first - 1) u

  -- it is its head, and its helpers behind their count
  pub namespace_opens : (l : Loc) (n r : Bytes) (hs : Helpers) → NamespaceOpens (HN l n r hs)
  unfolding HelperFields helper_depth helper_lambda_depth HelperNoMod helper_atoms rename_args_helperform
  namespace_opens l n r hs f at =
      let s = length_one (named_head "HN" l n r) (rest_bytes Listed hs) (namespace_split l n r hs) in
      let le : 1 ≤ t.depth = omega (arith, f.deep) in
      record {
        head = named_head "HN" l n r;
        parts = hs;
        again = HN l n r;
        is = refl;
        bytes = namespace_split l n r;
        place = omega (arith, see.ends l n r hs f.valid at);
        good = record {
          fine = record { each = fine_helpers f.zone hs f.valid.0.4 f.valid.1 f.valid.2 f.clear f.deep (omega (arith, f.short)); many = f.valid.0.3 };
          level = le;
          short = rw (namespace_split l n r hs) at f.short;
        };
        few = kept_draws t.depth (helpers_atoms hs) (helpers_atoms hs) le (omega arith);
        runs = λ m. args_helper_step t.f t.depth m t.counter le (HN l n r hs);
      }

-- an HD
module _ {mem : Bytes} (t : Task) {v : ArgsView} (see : SeesFunction mem v) where
  abbrev pub FunctionRenews : Helper → Type 0
  FunctionRenews u = FineHelper t.f t.depth u → At mem 0 (helper_bytes u) → Renewing Helperform OneBody t v.args u

  -- it is its head, its args and its body
  pub function_renews : (l : Loc) (i : ℕ) (n r : Bytes) (a : Sexp) (b : Body) → FunctionRenews (HD l i n r a b)
  unfolding HelperFields helper_depth helper_lambda_depth HelperNoMod helper_atoms
  function_renews l i n r a b f at =
      let s = length_two (function_head l i n r) (sexp_bytes a) (body_bytes b) (function_split l i n r a b) in
      let e = see.ends l i n r a b f.valid at in
      let le : 2 ≤ t.depth = omega (arith, f.deep, positive b) in
      record {
        head = function_head l i n r;
        parts = (a, b);
        again = λ p. HD l i n r p.0 p.1;
        is = refl;
        bytes = λ p. function_split l i n r p.0 p.1;
        place = omega (arith, e.0, e.1);
        good = record {
          args = f.valid.0.4;
          fine = fine_body f.zone f.valid.0.5 f.valid.1 f.valid.2 f.clear f.deep (omega (arith, f.short));
          levels = le;
          short = rw (function_split l i n r a b) at f.short;
        };
        few = renewed_draws t.depth (sexp_atoms a) (atoms b) _ (omega arith) (omega arith);
        runs = λ m.
            args_helper_step t.f t.depth m t.counter (omega arith) (HD l i n r a b)
            ∙ step_same t.f helper_size _ _ t.counter t.counter 0 0 (function_run t.f (t.depth - 1) t.counter l i n r a b);
      }

  -- args kept
  abbrev pub FunctionOpens : Helper → Type 0
  FunctionOpens u = FineHelper t.f t.depth u → At mem 0 (helper_bytes u) → Keeping Helperform OneBody In (by_tree Helperform false t) t v.next u

  -- it is its head with its args, and its body
  pub function_opens : (l : Loc) (i : ℕ) (n r : Bytes) (a : Sexp) (b : Body) → FunctionOpens (HD l i n r a b)
  unfolding HelperFields helper_depth helper_lambda_depth HelperNoMod helper_atoms rename_in_helperform
  function_opens l i n r a b f at =
      let head = function_head l i n r in
      let s = length_two head (sexp_bytes a) (body_bytes b) (function_split l i n r a b) in
      let e = see.ends l i n r a b f.valid at in
      let le : 1 ≤ t.depth = omega (arith, f.deep) in
      record {
        head = head ++ sexp_bytes a;
        parts = b;
        again = HD l i n r a;
        is = refl;
        bytes = λ y. function_split l i n r a y ∙ sym (append_assoc head (sexp_bytes a) (body_bytes y));
        place = omega (arith, e.1, length-append head (sexp_bytes a));
        good = record {
          fine = fine_body f.zone f.valid.0.5 f.valid.1 f.valid.2 f.clear f.deep (omega (arith, f.short));
          level = le;
          short = omega (arith, f.short, length-append (head ++ sexp_bytes a) (body_bytes b), length-append head (sexp_bytes a));
        };
        few = kept_draws t.depth (atoms b) (sexp_atoms a + atoms b) le (omega arith);
        runs = λ m. in_helper_step t.f t.depth m t.counter le (HD l i n r a b);
      }

-- a CF
module _ {F d : ℕ} {l : Loc} {r : Bytes} {a : Sexp} {hs : Helpers} {b : Body} (f : FineForm F d (CF l r a hs b)) where
  form_length : length (form_bytes (CF l r a hs b)) ≡ length (form_head l r) + length (sexp_bytes a) + (1 + length (helpers_bytes hs) + length (body_bytes b))
  form_length = omega (arith, length_two (form_head l r) (sexp_bytes a) (rest_bytes Parts (hs, b)) (form_split l r a (hs, b)), length_parts (hs, b))

  -- its helpers and its body are fine
  form_parts : FineRest Parts F (d - 1) (hs, b)
  unfolding FormFields form_depth form_lambda_depth FormNoMod
  form_parts =
      let s = form_length in (
        record { each = fine_helpers f.zone hs f.valid.0.4 (omega (arith, f.valid.1)) (omega (arith, f.valid.2)) f.clear.0 (omega (arith, f.deep)) (omega (arith, f.short)); many = f.valid.0.3 },
        fine_body f.zone f.valid.0.5 (omega (arith, f.valid.1)) (omega (arith, f.valid.2)) f.clear.1 (omega (arith, f.deep)) (omega (arith, f.short)),
      )

  -- it has a level more than its body
  form_levels : 2 ≤ d
  unfolding form_depth
  form_levels = omega (arith, f.deep, positive b)

module _ {mem : Bytes} (t : Task) {v : FormView} (see : SeesForm mem v) where
  -- it is its head, its args, and its helpers and body
  pub form_renews : (u : Form) → FineForm t.f t.depth u → At mem 0 (form_bytes u) → Renewing Compileform Parts t v.args u
  unfolding FormFields form_atoms
  form_renews (CF l r a hs b) f at =
      let s = form_length f in
      let e = see.ends l r a hs b f.valid at in
      let le = form_levels f in
      record {
        head = form_head l r;
        parts = (a, (hs, b));
        again = λ p. CF l r p.0 p.1.0 p.1.1;
        is = refl;
        bytes = λ p. form_split l r p.0 p.1;
        place = omega (arith, e.0, e.1);
        good = record { args = f.valid.0.2; fine = form_parts f; levels = le; short = rw (form_split l r a (hs, b)) at f.short };
        few = renewed_draws t.depth (sexp_atoms a) (helpers_atoms hs + atoms b) _ (omega arith) (omega arith);
        runs = λ m.
            args_form_step t.f t.depth m t.counter (omega arith) (CF l r a hs b)
            ∙ step_same t.f form_size _ _ t.counter t.counter 0 0 (form_run t.f (t.depth - 1) t.counter l r a hs b);
      }

  -- args kept
  form_keeps : (way : Way) (answer : NameMap → Form → Outcome Form) (l : Loc) (r : Bytes) (a : Sexp) (hs : Helpers) (b : Body) → FineForm t.f t.depth (CF l r a hs b) → At mem 0 (form_bytes (CF l r a hs b))
      → ((m : NameMap) → answer m (CF l r a hs b) ≡ outcome (step t.f form_size (rest_by t.f Parts way (t.depth - 1) m (hs, b) >>= λ q. ret (CF l r a q.0 q.1)) t.counter 0))
      → Keeping Compileform Parts way answer t (v.first - 1) (CF l r a hs b)
  unfolding form_atoms
  form_keeps way answer l r a hs b f at run =
      let head = form_head l r in
      let s = form_length f in
      let e = see.ends l r a hs b f.valid at in
      let le : 1 ≤ t.depth = omega (arith, form_levels f) in
      record {
        head = head ++ sexp_bytes a;
        parts = (hs, b);
        again = λ q. CF l r a q.0 q.1;
        is = refl;
        bytes = λ q. form_split l r a q ∙ sym (append_assoc head (sexp_bytes a) (rest_bytes Parts q));
        place = omega (arith, e.1, length-append head (sexp_bytes a));
        good = record {
          fine = form_parts f;
          level = le;
          short = omega (arith, f.short, length-append (head ++ sexp_bytes a) (rest_bytes Parts (hs, b)), length-append head (sexp_bytes a), length_parts (hs, b));
        };
        few = kept_draws t.depth (helpers_atoms hs + atoms b) (sexp_atoms a + (helpers_atoms hs + atoms b)) le (omega arith);
        runs = run;
      }

  -- by the in-rule
  pub form_opens : (u : Form) → FineForm t.f t.depth u → At mem 0 (form_bytes u) → Keeping Compileform Parts In (by_tree Compileform false t) t (v.first - 1) u
  form_opens (CF l r a hs b) f at =
      form_keeps In (by_tree Compileform false t) l r a hs b f at λ m.
      in_form_step t.f t.depth m t.counter (omega (arith, form_levels f)) (CF l r a hs b) ∙ step_same t.f form_size _ _ t.counter t.counter 0 0 (in_form_run t.f (t.depth - 1) t.counter m l r a hs b)

  -- its children alone
  pub children_opens : (u : Form) → FineForm t.f t.depth u → At mem 0 (form_bytes u)
      → Keeping Compileform Parts Own (λ m u. outcome (step t.f form_size (rename_children_compileform t.f (walk t.f (t.depth - 1)) (form_walk t.f (t.depth - 1)) u) t.counter 0)) t (v.first - 1) u
  children_opens (CF l r a hs b) f at =
      form_keeps Own _ l r a hs b f at λ m. step_same t.f form_size _ _ t.counter t.counter 0 0 (children_run t.f (t.depth - 1) t.counter m l r a hs b)

  -- the count byte stands before the helpers
  pub form_counted : (u : Form) → FineForm t.f t.depth u → At mem 0 (form_bytes u) → 1 ≤ v.first
  form_counted (CF l r a hs b) f at = omega (arith, (see.ends l r a hs b f.valid at).0)
