-- Args by names that are drawn for them, in memory and as runs: Invent and then Substitute. Assumes nothing.
use mathlib.Core.Path.{◌≡◌, refl, sym, ap, subst, ◌∙◌}
use mathlib.Core.Bool.{Bool}
use mathlib.Core.List.{[]}
use native.Mathlib.Omega.{arith}
use Prim.Native.Nat.{ℕ, ◌+◌, ◌*◌, ◌≤◌, ◌<◌}
use lib.ListN.{length}
use Rattle.names.specs.Maps.{NameMap}
use Rattle.names.specs.Names.{Bytes}
use Rattle.names.specs.Segments.{At, SameOutside}
use Rattle.names.specs.declared.Refusal.{Refusal}
use Rattle.names.proofs.Frames.{same_then, same_wider, at_below}
use Rattle.records.specs.StepAnswer.{gives, refuses}
use Rattle.records.specs.Limits.{cons_limit}
use Rattle.records.specs.Records.{Sexp, sexp_bytes}
use Rattle.records.specs.Valid.{ValidSexp}
use Rattle.records.specs.declared.Step.{Step}
use Rattle.records.proofs.StepAnswers.{unmade}
use Rattle.walk.specs.Arena.{Substitutes, MapAt, Asks, Held, outcome}
use Rattle.walk.specs.Invent.{invent_new_names_sexp, rename_in_cons_step}
use Rattle.walk.specs.DrawnMaps.{Roomy, Drawable, InventsSexp, InventsFrom, map_growth}
use Rattle.walk.specs.NewNames.{names_task, beside, PutsNames, ArgsReady, ArgsDrawn, args_drew, args_long, args_refused, DrawsArgs}
use Rattle.walk.specs.RenameInCons.{rename_in_cons}
use Rattle.walk.specs.Steps.{M, ◌>>=◌, over_long, child, sexp_size}
use Rattle.walk.specs.declared.Drawn.{Drawn as Answer}
use Rattle.walk.specs.declared.Growth.{Growth}
use Rattle.walk.proofs.DoneLaws.{then_gives, then_refuses}
use Rattle.walk.proofs.Fits.{given, refused_long}
use Rattle.walk.proofs.Kept.{valid_cons}
use Rattle.walk.proofs.MapLaws.{no_map, map_after}
use Rattle.walk.proofs.Results.{limited_named}
use Rattle.walk.proofs.RunLaws.{neutral_invent}
use Rattle.walk.proofs.StepLaws.{substitute_gives, substitute_over}
use Rattle.walk.proofs.Unique.{unique_sexp}
use Rattle.std.specs.declared.result.Result.{Result}
use Rattle.std.specs.declared.result.Result.TheVariants.{Ok, Err}
use Rattle.walk.specs.RuleAnswers.{drawn_of}
use Rattle.walk.proofs.RuleAnswers.{drawn_same}

module _ {old : Bytes} {free f c : ℕ} (p : ArgsReady old free f c) where
  -- Invent has its room
  args_roomy : Roomy p.s old 0 0 c
  args_roomy = record { fields = p.valid.0; there = p.there; fits = omega (arith, p.below, p.room); counts = p.counts }

  pub args_drawable : Drawable old 0 c cons_limit
  args_drawable = record { t = p.s; room = args_roomy; deep = p.valid.1; m = []; map_at = no_map }

  -- the answer for the S record that is known to stand there is the answer for every one
  draws_of : {new : Bytes} {qq : Bool} {r : Result Answer Refusal} → SameOutside old new free (length old) → ArgsDrawn qq p.s new free f c r → DrawsArgs old new free qq f c r
  draws_of {new} {qq} {r} w a =
      record { frame = w; says = λ s v at. subst (λ (x : Sexp). ArgsDrawn qq x new free f c r) (unique_sexp old p.s s p.valid v p.there at) a }

  -- Invent refuses
  pub args_stopped : {new : Bytes} {o : Result Growth Refusal} (qq : Bool) (q : Refusal) → InventsSexp old new 0 0 c o → o ≡ Err q → DrawsArgs old new free qq f c (Err q)
  args_stopped {new} qq q i e =
      let j = subst (λ (x : Result Growth Refusal). InventsFrom old new 0 0 c p.s [] x) e (i p.s args_roomy [] no_map) in
      draws_of (same_wider free (length old) (omega (arith, p.below, p.room)) (omega arith) j.grown) (args_refused q (j.draws.runs 0 ∙ ap refuses (sym j.draws.is)) refl)

  -- Invent gives a map
  module _ {mid : Bytes} {o : Result Growth Refusal} (g : Growth) (i : InventsSexp old mid 0 0 c o) (e : o ≡ Ok g) where
    args_invented : InventsFrom old mid 0 0 c p.s [] (Ok g)
    args_invented = subst (λ (x : Result Growth Refusal). InventsFrom old mid 0 0 c p.s [] x) e (i p.s args_roomy [] no_map)

    kept_there : At mid 0 (sexp_bytes p.s)
    kept_there = at_below args_invented.grown.frame p.there (omega (arith, args_invented.draws.at_most, p.below, p.room))

    pub args_asked : Asks sexp_bytes (Held cons_limit) mid (names_task free f g)
    args_asked = record {
      tree = p.s;
      good = record { fields = p.valid.0; conses = p.valid.1 };
      there = kept_there;
      below = p.below;
      m = args_invented.draws.value;
      map = args_invented.draws.map_at;
      room = omega (arith, args_invented.grown.frame.size, args_invented.draws.at_most, p.room);
    }

    module _ {new : Bytes} {qq : Bool} where
      -- Substitute has written its result, or refused it
      written : {r : Result Answer Refusal} (o : Result Step Refusal) → Substitutes (rename_in_cons qq) mid new (names_task free f g) o → r ≡ beside g.len o → ArgsDrawn qq p.s new free f c r
      written (Ok o) w is =
          let m = args_invented.draws.value in
          let u = rename_in_cons qq m p.s in
          let x = given f g.counter u o.read o.written o.counter refl (w.says m args_invented.draws.map_at p.s kept_there p.below p.valid.0) in
          let at = map_after w.frame (omega (arith, args_invented.grown.frame.size, args_invented.draws.at_most, p.room)) args_invented.draws.map_at in
          args_drew m g.len g.counter (args_invented.draws.runs 0) at (omega (arith, args_invented.draws.at_most)) x.short x.out (rw (x.read, x.wrote, x.counter) at is)
      written (Err q) w is =
          let m = args_invented.draws.value in
          let u = rename_in_cons qq m p.s in
          let x = refused_long sexp_bytes f g.counter u q (unmade q refl (w.says m args_invented.draws.map_at p.s kept_there p.below p.valid.0)) in
          args_long m g.counter (args_invented.draws.runs 0) x.long (is ∙ ap Err x.is)

      pub args_drawn : {r : Result Answer Refusal} → PutsNames mid new free qq f g r → DrawsArgs old new free qq f c r
      args_drawn w =
          draws_of
          (same_then free (length old) (omega (arith, args_invented.draws.at_most, p.room)) (omega arith) (omega arith) (omega (arith, p.room)) args_invented.grown.frame w.1.frame)
          (written w.0 w.1 w.2)

-- what args that are drawn for give, whatever follows; beside results of x bytes, where f bytes are left
abbrev pub args_then : {B : Type 0} → ℕ → Bool → Sexp → (NameMap → Sexp → M B) → M B
args_then F qq s k = invent_new_names_sexp [] s >>= λ m. child F sexp_size (rename_in_cons_step F qq m s) >>= λ s'. k m s'

module _ {B : Type 0} (F : ℕ) (qq : Bool) (s : Sexp) (c x : ℕ) (k : NameMap → Sexp → M B) {m : NameMap} {d : ℕ} (e : outcome (invent_new_names_sexp [] s c 0) ≡ gives m d) where
  abbrev by_map : Sexp
  by_map = rename_in_cons qq m s

  invented : outcome (args_then F qq s k c x) ≡ outcome ((child F sexp_size (rename_in_cons_step F qq m s) >>= k m) d x)
  invented = then_gives (λ m. child F sexp_size (rename_in_cons_step F qq m s) >>= k m) (neutral_invent [] s) c x e

  pub args_go_on : x + length (sexp_bytes by_map) ≤ F → outcome (args_then F qq s k c x) ≡ outcome (k m by_map d (x + length (sexp_bytes by_map)))
  args_go_on le = invented ∙ substitute_gives F qq m s (k m) d x le

  pub args_over : F < x + length (sexp_bytes by_map) → outcome (args_then F qq s k c x) ≡ refuses over_long
  args_over lt = invented ∙ substitute_over F qq m s (k m) d x lt

pub args_refuse : {B : Type 0} (F : ℕ) (qq : Bool) (s : Sexp) (c x : ℕ) (k : NameMap → Sexp → M B) {q : Refusal} → outcome (invent_new_names_sexp [] s c 0) ≡ refuses q
    → outcome (args_then F qq s k c x) ≡ refuses q
args_refuse F qq s c x k e = then_refuses (λ m. child F sexp_size (rename_in_cons_step F qq m s) >>= k m) (neutral_invent [] s) c x e

-- what Substitute writes by a map in memory is an S record within the format
pub args_valid : (qq : Bool) (s : Sexp) {mem : Bytes} {len : ℕ} {m : NameMap} → ValidSexp s → MapAt mem len m → ValidSexp (rename_in_cons qq m s)
args_valid qq s {m = m} v at = valid_cons qq (limited_named m at.limited) s v

-- what an answer `Done i w len d` says
pub record ArgsGot (qq : Bool) (s : Sexp) (new : Bytes) (free f c i w len d : ℕ) : Type 0 where
  pub m : NameMap
  pub runs : outcome (invent_new_names_sexp [] s c 0) ≡ gives m d
  pub map : MapAt new len m
  pub small : len ≤ map_growth * length (sexp_bytes s)
  pub short : w ≤ f
  pub out : At new free (sexp_bytes (rename_in_cons qq m s))
  pub read : i ≡ length (sexp_bytes s)
  pub wrote : w ≡ length (sexp_bytes (rename_in_cons qq m s))

module _ {qq : Bool} {s : Sexp} {new : Bytes} {free f c : ℕ} {r : Result Answer Refusal} where
  pub args_got : (i w len d : ℕ) → r ≡ drawn_of i w len d → ArgsDrawn qq s new free f c r → ArgsGot qq s new free f c i w len d
  args_got i w len d e (args_drew m len' c' g at small short out is) =
      let same = drawn_same (sym e ∙ is) in
      let l : len' ≡ len = sym same.2 in
      let k : c' ≡ d = sym same.3 in
      let n : w ≡ length (sexp_bytes (rename_in_cons qq m s)) = same.1 in
      record { m = m; runs = rw k at g; map = rw l at at; small = omega arith; short = omega arith; out = out; read = same.0; wrote = n }
  args_got i w len d e (args_long m c' g lt is) = let z : ◌≡◌ {A = ℕ} 0 1 = cc in absurd (omega arith)
  args_got i w len d e (args_refused q g is) = let z : ◌≡◌ {A = ℕ} 0 1 = cc in absurd (omega arith)

  pub args_halted : {B : Type 0} (F x : ℕ) (k : NameMap → Sexp → M B) (q : Refusal) → x + f ≡ F → r ≡ Err q → ArgsDrawn qq s new free f c r → outcome (args_then F qq s k c x) ≡ refuses q
  args_halted F x k q n e (args_drew m len' c' g at small short out is) = let z : ◌≡◌ {A = ℕ} 0 1 = cc in absurd (omega arith)
  args_halted F x k q n e (args_long m c' g lt is) = let z : over_long ≡ q = cc in args_over F qq s c x k g (omega arith) ∙ ap refuses z
  args_halted F x k q n e (args_refused j g is) = let z : j ≡ q = cc in args_refuse F qq s c x k g ∙ ap refuses z
