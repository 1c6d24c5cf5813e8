-- A run from a counter: how far it draws, at each assign reached too, and what holds of its result; and how runs are joined so. Assumes nothing.
use mathlib.Core.Path.{◌≡◌, refl}
use mathlib.Core.Logic.{◌⊎◌, inl}
use mathlib.Core.List.{List}
use Prim.Native.Nat.{ℕ, ◌+◌, ◌≤◌}
use native.Mathlib.Omega.{arith}
use lib.ListN.{length}
use Rattle.names.specs.Refusals.{reason_number}
use Rattle.records.specs.Depth.{depth, helper_depth, form_depth, list_depth}
use Rattle.records.specs.Records.{Loc, Body, Binding, Helper, Form}
use Rattle.walk.specs.Steps.{M, Out, Event, done, refused, Visit, visits, ret, refuse, ◌>>=◌, after}
use Rattle.walk.specs.Bodyforms.{deadlocked}
use Rattle.walk.specs.Draws.{atoms, helper_atoms, form_atoms, patterns_of, inside_of}
use Rattle.walk.proofs.All.{All, all_none, all_map}
use Rattle.walk.proofs.Reached.{all_visits}

abbrev pub Below : ℕ → Visit → Type 0
Below k e = e.counter ≤ k

-- a walk refuses as deadlocked, for a made name that is too long, or for a record that is too long
abbrev pub WalkRefusal : ℕ → Type 0
WalkRefusal n = (n ≡ 5) ⊎ ((n ≡ 6) ⊎ (n ≡ 7))

-- from the counter c: at most n further, at each assign reached too, and P of the result; or a refusal of the walk
abbrev pub Fine : {A : Type 0} → ℕ → (A → Type 0) → ℕ → Out A → Type 0
Fine n P c (done log a c' x) = All (Below (c + n)) (visits log) × (c' ≤ c + n) × P a
Fine n P c (refused log r) = All (Below (c + n)) (visits log) × WalkRefusal (reason_number r.reason)

pub record Runs {A : Type 0} (n : ℕ) (P : A → Type 0) (m : M A) : Type 0 where
  pub fine : (c x : ℕ) → Fine n P c (m c x)

pub runs_ret : {A : Type 0} {P : A → Type 0} {n : ℕ} (a : A) → P a → Runs n P (ret a)
unfolding ret
runs_ret a p = record { fine = λ c x. (all_none, omega arith, p) }

pub runs_deadlock : {A : Type 0} {P : A → Type 0} {n : ℕ} (l : Loc) → Runs {A = A} n P (refuse (deadlocked l))
unfolding refuse
runs_deadlock l = record { fine = λ c x. (all_none, inl refl) }

module _ {A : Type 0} {P Q : A → Type 0} where
  fine_more : (n k c d : ℕ) (o : Out A) → d + n ≤ c + k → ((a : A) → P a → Q a) → Fine n P d o → Fine k Q c o
  fine_more n k c d (done log a c' x) h w f = (all_map (λ e q. omega arith) f.0, omega arith, w a f.2)
  fine_more n k c d (refused log r) h w f = (all_map (λ e q. omega arith) f.0, f.1)

  pub runs_weaken : {n k : ℕ} {m : M A} → n ≤ k → ((a : A) → P a → Q a) → Runs n P m → Runs k Q m
  runs_weaken {n} {k} {m} h w s = record { fine = λ c x. fine_more n k c c (m c x) (omega arith) w (s.fine c x) }

-- as `runs_weaken`, of the number alone
pub runs_more : {A : Type 0} {P : A → Type 0} {n k : ℕ} {m : M A} → n ≤ k → Runs n P m → Runs k P m
runs_more h s = runs_weaken h (λ a p. p) s

pub fine_after : {A : Type 0} (n : ℕ) (P : A → Type 0) (c : ℕ) (log : List Event) (o : Out A) → All (Below (c + n)) (visits log) → Fine n P c o → Fine n P c (after log o)
unfolding after
fine_after n P c log (done log₂ a c' x) g f = (all_visits log log₂ g f.0, f.1, f.2)
fine_after n P c log (refused log₂ r) g f = (all_visits log log₂ g f.0, f.1)

pub runs_bind : {A B : Type 0} {n k : ℕ} {P : A → Type 0} {Q : B → Type 0} {m : M A} {f : A → M B} → Runs n P m → ((a : A) → P a → Runs k Q (f a)) → Runs (n + k) Q (m >>= f)
unfolding ◌>>=◌
runs_bind {A} {B} {n} {k} {P} {Q} {m} {f} s t = record { fine = λ c x. go c (m c x) (s.fine c x) }
  where
    go : (c : ℕ) (o : Out A) → Fine n P c o → Fine {A = B} (n + k) Q c (elim o [ done log a c' x' ↦ after log (f a c' x') | refused log r ↦ refused log r ])
    go c (done log a c' x') r = fine_after (n + k) Q c log (f a c' x') (all_map (λ e q. omega arith) r.0) (fine_more k (n + k) c c' (f a c' x') (omega arith) (λ b q. q) ((t a r.2).fine c' x'))
    go c (refused log y) r = (all_map (λ e q. omega arith) r.0, r.1)

-- at most so deep, and so many atoms
abbrev pub Small : ℕ → ℕ → Body → Type 0
Small d n b = (depth b ≤ d) × (atoms b ≤ n)

abbrev pub SmallHelper : ℕ → ℕ → Helper → Type 0
SmallHelper d n x = (helper_depth x ≤ d) × (helper_atoms x ≤ n)

abbrev pub SmallForm : ℕ → ℕ → Form → Type 0
SmallForm d n f = (form_depth f ≤ d) × (form_atoms f ≤ n)

-- as deep and as long as l, and no more atoms in the patterns, nor in the bodies
pub record Like (l k : List Binding) : Type 0 where
  pub deep : list_depth k ≤ list_depth l
  pub long : length k ≡ length l
  pub patterns : patterns_of k ≤ patterns_of l
  pub inside : inside_of k ≤ inside_of l
