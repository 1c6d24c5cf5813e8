-- What a rule gives of a fine body: it is at most F long, no deeper, with no more atoms, and the counter has come no further than they let it; what Own or In-body
-- gives is fine again; and the room and the draws of a level against those of the level below. Assumes nothing.
use mathlib.Core.Path.{◌≡◌, refl, sym, ap, subst, ◌∙◌}
use mathlib.Core.Bool.{Bool, true, false}
use mathlib.Core.List.{[], ◌∷◌}
use native.Mathlib.Omega.{arith}
use borrow.Author.Tests.{leb-true}
use Prim.Native.Nat.{ℕ, zero, suc, ◌+◌, ◌*◌, ◌-◌, ◌≤◌, ◌<◌}
use lib.Dec.{leb}
use lib.ListN.{length}
use Rattle.names.specs.Maps.{NameMap, Limited}
use Rattle.names.specs.Names.{Bytes}
use Rattle.records.specs.StepAnswer.{gives}
use Rattle.records.specs.Depth.{depth}
use Rattle.records.specs.Limits.{lambda_limit, most_longest}
use Rattle.records.specs.Records.{Sexp, SN, Body, BV, body_bytes}
use Rattle.records.specs.declared.Zone.{Zone}
use Rattle.walk.specs.Arena.{outcome}
use Rattle.walk.specs.Bodyforms.{walk, body_rules, rename_args_bodyform}
use Rattle.walk.specs.Draws.{sexp_atoms, atoms, dbl, counter_most}
use Rattle.walk.specs.Invent.{invent_new_names_sexp}
use Rattle.walk.specs.DrawnMaps.{counter_limit}
use Rattle.walk.specs.Room.{room}
use Rattle.walk.specs.Steps.{M, Out, done, refused, over_long, ◌>>=◌, ret, refuse, fits, step, after, body_size}
use Rattle.walk.specs.Walking.{rule, AnyBody, Fine, BodyReady}
use Rattle.walk.specs.declared.Task.{Task}
use Rattle.walk.proofs.Again.{keeps_walk}
use Rattle.walk.proofs.Keeping.{Fine as Of}
use Rattle.walk.proofs.All.{all_none, all_cons}
use Rattle.walk.proofs.Kept.{BodyKept, Named}
use Rattle.walk.proofs.Limits.{runs_walk, runs_invent_new_names_sexp, Bounded}
use Rattle.walk.proofs.RunBounds.{Fine as Within, Runs}
use Rattle.walk.proofs.RoomLaws.{room_level}
use Rattle.walk.proofs.RunLaws.{outcome_after, ended, outcome_log_assign, onward, bind_onward}
use Rattle.walk.proofs.Sizes.{positive, dbl_twice}

-- the new names of a map in memory are within their limit
pub limited_named : (m : NameMap) → Limited m → Named m
unfolding Limited
limited_named [] l = all_none
limited_named (e ∷ m) l = all_cons l.1 (limited_named m l.2)

-- a run that keeps what it is given: what it gives
pub of_outcome : {A : Type 0} (z : Zone) (P : A → Type 0) (o : Out A) {u : A} {c : ℕ} → Of z P o → outcome o ≡ gives u c → P u
of_outcome z P o p e = let f = subst (Of z P) (ended o e).1.1 p in f.1

-- a run within its bounds: what it gives, and its counter
pub within_outcome : {A : Type 0} (n : ℕ) (P : A → Type 0) (k : ℕ) (o : Out A) {u : A} {c : ℕ} → Within n P k o → outcome o ≡ gives u c → P u × (c ≤ k + n)
within_outcome n P k o p e = let f = subst (Within n P k) (ended o e).1.1 p in (f.2, f.1)

-- a run that leads on: its counter is where its bound lets it be
module _ {A : Type 0} {n : ℕ} {P : A → Type 0} {run : M A} (s : Runs n P run) (c x c' x' : ℕ) (u : A) (h : (k : A → M Body) → outcome ((run >>= k) c x) ≡ outcome (k u c' x')) where
  pub led_counter : c' ≤ c + n
  unfolding onward ret outcome
  led_counter = go (run c x) (s.fine c x) (sym (ap outcome (bind_onward end run c x)) ∙ h end)
    where
      end : A → M Body
      end a = ret (BV (SN []))

      go : (o : Out A) → Within n P c o → outcome (onward end o) ≡ outcome (end u c' x') → c' ≤ c + n
      go (done log a d y) w e = let z = sym (outcome_after log (end a d y)) ∙ e in let q : d ≡ c' = cc in omega (arith, w.1)
      go (refused log r) w e = let z : ◌≡◌ {A = ℕ} 0 1 = cc in absurd (omega arith)

-- names are drawn for each atom once
pub invent_draws : (m : NameMap) (s : Sexp) (c x : ℕ) {v : NameMap} {e : ℕ} → outcome (invent_new_names_sexp m s c x) ≡ gives v e → e ≤ c + sexp_atoms s
invent_draws m s c x q = (within_outcome _ _ c (invent_new_names_sexp m s c x) ((runs_invent_new_names_sexp 0 m s).fine c x) q).1

-- a rule is within its bounds
pub rule_bounded : (F : ℕ) (owning : Bool) (d : ℕ) (m : NameMap) → Bounded F d (rule F owning d m)
rule_bounded F true d m = (runs_walk F d).args_bodyform
rule_bounded F false d m = (runs_walk F d).in_bodyform m

-- how far the counter comes, and that depth and atoms do not grow
pub record Draws (d : ℕ) (b : Body) (c : ℕ) (u : Body) (e : ℕ) : Type 0 where
  pub counter : e ≤ c + dbl d (atoms b)
  pub deep : depth u ≤ depth b
  pub few : atoms u ≤ atoms b

pub rule_draws : (F d : ℕ) (b : Body) (owning : Bool) (m : NameMap) (c : ℕ) {u : Body} {e : ℕ} → depth b ≤ d → outcome (rule F owning d m b c 0) ≡ gives u e → Draws d b c u e
rule_draws F d b owning m c h q =
    let w = within_outcome _ _ c (rule F owning d m b c 0) ((rule_bounded F owning d m b h).fine c 0) q in
    record { counter = w.1; deep = w.0.0; few = w.0.1 }

-- a step's result is at most F long
module _ {A : Type 0} (F : ℕ) (size : A → ℕ) where
  fits_short : (a : A) (c x : ℕ) {u : A} {e : ℕ} → outcome (fits F size a c x) ≡ gives u e → size u ≤ F
  unfolding fits outcome
  fits_short a c x {u} {e} q = go (leb (size a) F) refl q
    where
      go : (b : Bool) → leb (size a) F ≡ b → outcome {A = A} (elim b as (λ _. Out A) [ true ↦ done [] a c x | false ↦ refused [] over_long ]) ≡ gives u e → size u ≤ F
      go true l q = let p : a ≡ u = cc in subst (λ (v : A). size v ≤ F) p (leb-true _ _ l)
      go false l q = let z : ◌≡◌ {A = ℕ} 0 1 = cc in absurd (omega arith)

  pub step_short : (m : M A) (c x : ℕ) {u : A} {e : ℕ} → outcome (step F size m c x) ≡ gives u e → size u ≤ F
  unfolding step outcome
  step_short m c x {u} {e} q = go (m c 0) q
    where
      go : (o : Out A) → outcome {A = A} (elim o as (λ _. Out A) [ done log a c' x' ↦ after log (fits F size a c' x) | refused log r ↦ refused log r ]) ≡ gives u e → size u ≤ F
      go (done log a d y) h = fits_short a d x (sym (outcome_after log (fits F size a d x)) ∙ h)
      go (refused log r) h = let z : ◌≡◌ {A = ℕ} 0 1 = cc in absurd (omega arith)

pub rule_short : (F : ℕ) (owning : Bool) (d : ℕ) (m : NameMap) (b : Body) (c : ℕ) {u : Body} {e : ℕ} → outcome (rule F owning d m b c 0) ≡ gives u e → length (body_bytes u) ≤ F
unfolding walk body_rules body_size outcome refuse
rule_short F true zero m b c q = let z : ◌≡◌ {A = ℕ} 0 1 = cc in absurd (omega arith)
rule_short F true (suc d) m b c q = step_short F body_size (rename_args_bodyform F (walk F d) b) c 0 (sym (outcome_log_assign F b _ c 0) ∙ q)
rule_short F false zero m b c q = let z : ◌≡◌ {A = ℕ} 0 1 = cc in absurd (omega arith)
rule_short F false (suc d) m b c q = step_short F body_size _ c 0 q

-- what a rule gives is fine again
pub rule_fine : {Only : Body → Type 0} {F d : ℕ} {b : Body} (owning : Bool) (m : NameMap) (c : ℕ) {u : Body} {e : ℕ} → Limited m → Fine Only F d b → outcome (rule F owning d m b c 0) ≡ gives u e
    → Fine AnyBody F d u
rule_fine {F = F} {d} {b} owning m c {u} {e} l f q =
    let w = rule_draws F d b owning m c f.deep q in
    let kept = go owning q in
    record {
      valid = (kept.fields, omega (arith, f.valid.1, w.deep), kept.lambdas);
      zone = f.zone;
      clear = kept.clear;
      only = tt;
      deep = omega (arith, f.deep, w.deep);
      short = rule_short F owning d m b c q;
    }
  where
    given : BodyKept f.zone lambda_limit b
    given = record { fields = f.valid.0; lambdas = f.valid.2; clear = f.clear }

    go : (owning : Bool) → outcome (rule F owning d m b c 0) ≡ gives u e → BodyKept f.zone lambda_limit u
    go true q = of_outcome f.zone (BodyKept f.zone lambda_limit) ((walk F d).args_bodyform b c 0) (((keeps_walk F d).args_bodyform f.zone lambda_limit b given).fine c 0) q
    go false q = of_outcome f.zone (BodyKept f.zone lambda_limit) ((walk F d).in_bodyform m b c 0) (((keeps_walk F d).in_bodyform m (limited_named m l) f.zone lambda_limit b given).fine c 0) q

-- a body of one kind as one of another
pub fine_as : {P Q : Body → Type 0} {F d : ℕ} {b : Body} → Q b → Fine P F d b → Fine Q F d b
fine_as q f = record { valid = f.valid; zone = f.zone; clear = f.clear; only = q; deep = f.deep; short = f.short }

-- and what is asked of it
pub ready_as : {P Q : Body → Type 0} {owning : Bool} {mem : Bytes} {t : Task} (p : BodyReady P owning mem t) → Q p.tree → BodyReady Q owning mem t
ready_as p q =
    record { tree = p.tree; good = fine_as q p.good; there = p.there; below = p.below; m = p.m; map = p.map; lone = p.lone; room = p.room; counts = p.counts; longest = p.longest }

-- a body has a level at least, and each level a result's room
pub some_level : {Only : Body → Type 0} {F d : ℕ} {b : Body} → Fine Only F d b → 1 ≤ d
some_level {b = b} f = omega (arith, positive b, f.deep)

pub least_room : (F d : ℕ) → 1 ≤ d → F ≤ room F d
unfolding room
least_room F zero le = absurd (omega arith)
least_room F (suc d) le = omega arith

-- a level, and the one below
pub level_above : (d : ℕ) → 1 ≤ d → suc (d - 1) ≡ d
level_above d le = omega arith

pub dbl_down : (d n : ℕ) → 1 ≤ d → dbl (d - 1) n + dbl (d - 1) n ≡ dbl d n
dbl_down d n le = sym (dbl_twice (d - 1) n) ∙ ap (λ (k : ℕ). dbl k n) (level_above d le)

-- the room of a level, and of the one below
pub room_down : (F d : ℕ) → 2 ≤ d → room F d ≡ 8 * F + room F (d - 1)
room_down F zero le = absurd (omega arith)
room_down F (suc zero) le = absurd (omega arith)
room_down F (suc (suc d)) le = let e : suc (suc d) - 1 ≡ suc d = omega arith in rw e (room_level F d)

-- a counter of a walk, and the draws of a record more
pub counter_least : (c n : ℕ) → c ≤ counter_most → n ≤ most_longest → c + n < counter_limit
unfolding counter_most
counter_least c n le₁ le₂ = omega arith
