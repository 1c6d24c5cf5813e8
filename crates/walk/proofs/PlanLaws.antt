-- What a plan says of the record at the start, and the answers that follow from it. Assumes nothing.
use mathlib.Core.Path.{◌≡◌, refl, sym, ap, subst, ◌∙◌}
use native.Mathlib.Omega.{arith}
use Prim.Native.Nat.{ℕ, ◌+◌, ◌-◌, ◌≤◌}
use lib.ListN.{length}
use Rattle.names.specs.Maps.{NameMap}
use Rattle.names.specs.Names.{Bytes}
use Rattle.names.specs.Segments.{At, SameOutside}
use Rattle.names.specs.declared.Refusal.{Refusal}
use Rattle.records.specs.StepAnswer.{Outcome, Gives, gave, refused}
use Rattle.records.proofs.StepAnswers.{made, unmade}
use Rattle.records.specs.Records.{Sexp, sexp_bytes}
use Rattle.records.specs.Valid.{SexpFields}
use Rattle.records.specs.declared.Step.{Step}
use Rattle.walk.specs.Arena.{MapAt, Asks, Held, fitting, Substitutes}
use Rattle.walk.specs.Plans.{substitution, GoesByParts, Quoted, OnlyElement, Planned, keeps, renames, quotes, goes_alone, goes_on, Plans}
use Rattle.walk.specs.RenameInCons.{rename_atom}
use Rattle.walk.specs.declared.Plan.{Plan}
use Rattle.walk.specs.declared.Plan.TheVariants.{Kept, ByMap, Requoted, Alone, Parts}
use Rattle.walk.specs.declared.Quasi.{Quasi}
use Rattle.walk.specs.declared.Task.{Task}
use Rattle.walk.proofs.Fits.{done_is}
use Rattle.walk.proofs.OnParts.{from, rejoin, asks_part, part_frame, part_gives}
use Rattle.std.specs.declared.result.Result.{Result}
use Rattle.std.specs.declared.result.Result.TheVariants.{Err}
use Rattle.records.specs.StepAnswer.{step_of}

-- what a plan says of a record
module _ (rule : NameMap → Sexp → Sexp) (s : Bytes) (t : Sexp) where
  abbrev pub PlanSays : Plan → Type 0
  PlanSays (Kept n) = (n ≡ length (sexp_bytes t)) × ((m : NameMap) → rule m t ≡ t)
  PlanSays ByMap = (m : NameMap) → rule m t ≡ rename_atom m t
  PlanSays (Requoted at n) = (n ≡ length (sexp_bytes t)) × Quoted rule t at
  PlanSays (Alone next at n) = (n ≡ length (sexp_bytes t)) × OnlyElement rule next s t at
  PlanSays Parts = GoesByParts rule t

pub plan_says : (rule : NameMap → Sexp → Sexp) {s : Bytes} {p : Plan} → Plans rule s p → (t : Sexp) → SexpFields t → At s 0 (sexp_bytes t) → PlanSays rule s t p
plan_says rule {s} {p} x t w a = go (x.plans t w a)
  where
    go : Planned rule s p t → PlanSays rule s t p
    go (keeps q r) = subst (PlanSays rule s t) (sym q) (refl, r)
    go (renames q r) = subst (PlanSays rule s t) (sym q) r
    go (quotes at q r) = subst (PlanSays rule s t) (sym q) (refl, r)
    go (goes_alone next at q r) = subst (PlanSays rule s t) (sym q) (refl, r)
    go (goes_on q r) = subst (PlanSays rule s t) (sym q) r

module _ (rule : NameMap → Sexp → Sexp) {mem : Bytes} {t : Task} where
  pub renamed_atom : {new : Bytes} {r : Result Step Refusal} → Plans rule mem ByMap → Substitutes rename_atom mem new t r → Substitutes rule mem new t r
  renamed_atom {new} {r} x k =
      record {
        frame = k.frame;
        says = λ m map s a b w. let y = plan_says rule x s w a m in
            subst (λ (u : Sexp). Gives sexp_bytes new t.free (length (sexp_bytes s)) (fitting sexp_bytes t.f t.counter u) r) (sym y) (k.says m map s a b w);
      }

  -- one element alone
  module _ {next : Quasi} {at n : ℕ} (x : Plans rule mem (Alone next at n)) (p : Asks sexp_bytes (Held t.depth) mem t) where
    -- what it is given
    abbrev alone_task : Task
    alone_task = record { free = t.free - at; map = t.map; f = t.f; depth = t.depth - 1; counter = t.counter }

    pub element : OnlyElement rule next mem p.tree at
    element = (plan_says rule x p.tree p.good.fields p.there).1

    pub element_low : at ≤ t.free
    element_low = omega (arith, element.within, p.below)

    pub element_deep : 1 ≤ t.depth
    element_deep = omega (arith, element.deeper, p.good.conses)

    fit : at + (t.free - at) + t.f + t.map ≤ length mem
    fit = omega (arith, element_low, p.room)

    pub alone_asks : Asks sexp_bytes (Held (t.depth - 1)) (from mem at) alone_task
    alone_asks =
        let k = element in
        asks_part at k.x (record { fields = k.fields; conses = omega (arith, k.deeper, p.good.conses) }) k.there (omega (arith, k.within, p.below)) p.map fit

    -- what is answered of it
    module _ {y : Bytes} {r : Result Step Refusal} (s : Substitutes (substitution next) (from mem at) y alone_task r) where
      abbrev end : Bytes
      end = rejoin mem at y

      alone_frame : SameOutside mem end t.free (t.free + t.f)
      alone_frame = let l = element_low in part_frame at fit s t.free (t.free + t.f) (omega arith) (omega arith)

      abbrev outcome : NameMap → Sexp → Outcome Sexp
      outcome m u = fitting sexp_bytes t.f t.counter (substitution next m u)

      alone_gives : {m : NameMap} {u : Sexp} → MapAt mem t.map m → length (sexp_bytes u) ≤ t.free → (k : OnlyElement rule next mem u at)
          → Gives sexp_bytes end t.free (length (sexp_bytes k.x)) (outcome m k.x) r
      alone_gives map below k = let l = element_low in part_gives at fit s t.free (omega arith) map k.x k.there (omega (arith, k.within)) k.fields

      pub alone_refused : (k : Refusal) → r ≡ Err k → Substitutes rule mem end t (Err k)
      alone_refused k g =
          record {
            frame = alone_frame;
            says = λ m map u a b w. let i = (plan_says rule x u w a).1 in
                refused k (ap (fitting sexp_bytes t.f t.counter) (i.makes m) ∙ unmade k g (alone_gives map b i)) refl;
          }

      pub alone_done : (hr hw d : ℕ) → r ≡ step_of hr hw d → Substitutes rule mem end t (step_of n hw d)
      alone_done hr hw d g =
          record {
            frame = alone_frame;
            says = λ m map u a b w. let j = plan_says rule x u w a in let i = j.1 in let z = made hr hw d g (alone_gives map b i) in
                gave z.u d (ap (fitting sexp_bytes t.f t.counter) (i.makes m) ∙ z.is) (done_is j.0 z.wrote refl) z.out;
          }
