-- What a run gives and reaches: a value of which P holds, and assigns that have no BM in a binding body; and how runs are joined so. Assumes nothing.
use mathlib.Core.Bool.{Bool, true, false}
use mathlib.Core.List.{List}
use Prim.Native.Nat.{ℕ, ◌≤◌}
use lib.ListN.{length}
use Rattle.names.specs.Names.{Bytes}
use Rattle.names.specs.Maps.{NameMap}
use Rattle.names.specs.declared.Refusal.{Refusal}
use Rattle.records.specs.declared.Zone.{Zone}
use Rattle.records.specs.declared.Zone.TheVariants.{Plain, InBinding, InMod}
use Rattle.records.specs.Read.{binding_zone}
use Rattle.records.specs.Records.{Body, Helper, Form, to_bindings}
use Rattle.records.specs.declared.Kind.{Kind}
use Rattle.records.specs.declared.Kind.TheVariants.{Parallel, Sequential, Assign}
use Rattle.records.specs.Valid.{BindingsNoMod}
use Rattle.walk.specs.Steps.{M, Out, Event, done, refused, Visit, visits, ret, refuse, ◌>>=◌, after}
use Rattle.walk.specs.Bodyforms.{Rules}
use Rattle.walk.specs.Helperforms.{FormRules}
use Rattle.walk.proofs.All.{All, all_none, all_map}
use Rattle.walk.proofs.Reached.{all_visits}
use Rattle.walk.proofs.Kept.{Named, BodyKept, HelperKept, FormKept}

-- an assign that stands in zone z has no BM in a binding body
abbrev pub ClearIn : Zone → Visit → Type 0
ClearIn z e = BindingsNoMod (binding_zone Assign z) (to_bindings e.bindings)

-- P of a value that is given; and each assign reached is clear in zone z
abbrev pub Fine : {A : Type 0} → Zone → (A → Type 0) → Out A → Type 0
Fine z P (done log a c x) = All (ClearIn z) (visits log) × P a
Fine z P (refused log r) = All (ClearIn z) (visits log)

-- so of what m gives, from any counter and sum
pub record Gives {A : Type 0} (z : Zone) (P : A → Type 0) (m : M A) : Type 0 where
  pub fine : (c x : ℕ) → Fine z P (m c x)

pub fine_after : {A : Type 0} (z : Zone) (P : A → Type 0) (log : List Event) (o : Out A) → All (ClearIn z) (visits log) → Fine z P o → Fine z P (after log o)
unfolding after
fine_after z P log (done log₂ a c x) g f = (all_visits log log₂ g f.0, f.1)
fine_after z P log (refused log₂ r) g f = all_visits log log₂ g f

pub gives_weaken : {A : Type 0} {z : Zone} {P Q : A → Type 0} {m : M A} → ((a : A) → P a → Q a) → Gives z P m → Gives z Q m
gives_weaken {A} {z} {P} {Q} {m} w s = record { fine = λ c x. go (m c x) (s.fine c x) }
  where
    go : (o : Out A) → Fine z P o → Fine z Q o
    go (done log a c x) p = (p.0, w a p.1)
    go (refused log r) q = q

-- what is clear in a binding body of a let is clear around it
clear_around : (x : Kind) (z : Zone) (e : Visit) → ClearIn (binding_zone x z) e → ClearIn z e
unfolding binding_zone
clear_around Parallel z e p = p
clear_around Sequential z e p = p
clear_around Assign Plain e p = p
clear_around Assign InBinding e p = p
clear_around Assign InMod e p = p

pub gives_around : {A : Type 0} {P : A → Type 0} {m : M A} (x : Kind) (z : Zone) → Gives (binding_zone x z) P m → Gives z P m
gives_around {A} {P} {m} y z s = record { fine = λ c x. go (m c x) (s.fine c x) }
  where
    go : (o : Out A) → Fine (binding_zone y z) P o → Fine z P o
    go (done log a c x) f = (all_map (clear_around y z) f.0, f.1)
    go (refused log r) f = all_map (clear_around y z) f

pub gives_ret : {A : Type 0} {z : Zone} {P : A → Type 0} (a : A) → P a → Gives z P (ret a)
unfolding ret
gives_ret a p = record { fine = λ c x. (all_none, p) }

pub gives_refuse : {A : Type 0} {z : Zone} {P : A → Type 0} (r : Refusal) → Gives {A = A} z P (refuse r)
unfolding refuse
gives_refuse r = record { fine = λ c x. all_none }

pub gives_bind : {A B : Type 0} {z : Zone} {P : A → Type 0} {Q : B → Type 0} {m : M A} {f : A → M B} → Gives z P m → ((a : A) → P a → Gives z Q (f a)) → Gives z Q (m >>= f)
unfolding ◌>>=◌
gives_bind {A} {B} {z} {P} {Q} {m} {f} s t = record { fine = λ c x. go (m c x) (s.fine c x) }
  where
    go : (o : Out A) → Fine z P o → Fine {A = B} z Q (elim o [ done log a c' x' ↦ after log (f a c' x') | refused log r ↦ refused log r ])
    go (done log a c' x') p = fine_after z Q log (f a c' x') p.0 ((t a p.1).fine c' x')
    go (refused log r) q = q

pub gives_either : {A : Type 0} {z : Zone} {P : A → Type 0} {m k : M A} (b : Bool) → Gives z P m → Gives z P k → Gives {A = A} z P (elim b [ true ↦ m | false ↦ k ])
gives_either true s t = s
gives_either false s t = t

-- P, and a record at most F long
abbrev pub Fits : {A : Type 0} → ℕ → (A → Bytes) → (A → Type 0) → A → Type 0
Fits F bytes P a = P a × (length (bytes a) ≤ F)

-- a rule of bodies keeps what it is given
abbrev pub Keeps : (Body → M Body) → Type 0
Keeps f = (z : Zone) (k : ℕ) (b : Body) → BodyKept z k b → Gives z (BodyKept z k) (f b)

-- of helpers, and of forms
abbrev pub KeepsHelper : (Helper → M Helper) → Type 0
KeepsHelper f = (z : Zone) (k : ℕ) (x : Helper) → HelperKept z k x → Gives z (HelperKept z k) (f x)

abbrev pub KeepsForm : (Form → M Form) → Type 0
KeepsForm f = (z : Zone) (k : ℕ) (x : Form) → FormKept z k x → Gives z (FormKept z k) (f x)

pub record KeepsRules (r : Rules) : Type 0 where
  pub args_bodyform : Keeps r.args_bodyform
  pub in_bodyform : (m : NameMap) → Named m → Keeps (r.in_bodyform m)

pub record KeepsForms (q : FormRules) : Type 0 where
  pub args_helperform : KeepsHelper q.args_helperform
  pub in_helperform : (m : NameMap) → Named m → KeepsHelper (q.in_helperform m)
  pub args_compileform : KeepsForm q.args_compileform
  pub in_compileform : (m : NameMap) → Named m → KeepsForm (q.in_compileform m)
