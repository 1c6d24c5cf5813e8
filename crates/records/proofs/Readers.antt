-- What is known of a reader that is done, and of an input that is read whole. Assumes nothing.
use mathlib.Core.Path.{◌≡◌, refl, ap, ◌∙◌}
use mathlib.Core.Bool.{Bool, true, false}
use mathlib.Core.List.{[], ◌∷◌}
use Rattle.std.specs.Prelude.{Option}
use Prim.Native.Nat.{ℕ}
use native.Mathlib.Omega.{arith}
use lib.Dec.{T}
use Rattle.names.specs.Names.{Bytes}
use Rattle.names.specs.Refusals.{place_at}
use Rattle.names.specs.declared.Place.{Place}
use Rattle.records.specs.Read.{Whole, whole, unread, left_over, outermost, from_first, read_whole}
use Rattle.records.specs.ReadFields.{Input, Fault, malformed, Read, done, refused, Reader}

-- nothing is said of the result
abbrev pub Any : {A : Type 0} → A → Type 0
Any a = Unit {0}

pub not_done : {A : Type 0} {n : Fault} {p : Place} {a : A} {j : Input} → ◌≡◌ {A = Read A} (refused n p) (done a j) → ⊥
not_done e = let z : ◌≡◌ {A = ℕ} 0 1 = cc in omega arith

pub same_value : {A : Type 0} {a b : A} {i j : Input} → ◌≡◌ {A = Read A} (done a i) (done b j) → a ≡ b
same_value e = cc

pub same_input : {A : Type 0} {a b : A} {i j : Input} → ◌≡◌ {A = Read A} (done a i) (done b j) → i ≡ j
same_input e = cc

-- a test as an equation
pub T_of : {b : Bool} → b ≡ true → T b
T_of e = rw e tt

pub true_of : (b : Bool) → T b → b ≡ true
true_of true t = refl
true_of false t = absurd t

-- m reads the whole input as a
pub record ReadsWhole {A : Type 0} (m : Reader A) (input : Bytes) (a : A) : Type 0 where
  pub end : Input
  pub ran : m outermost (from_first input) ≡ done a end
  pub nothing_left : end.rest ≡ []

module _ {A : Type 0} where
  left_over_none : (a b : A) (i : Input) (o : Option ℕ) → left_over a i ≡ whole b o → (i.rest ≡ []) × (a ≡ b)
  unfolding left_over
  left_over_none a b i o h = go i.rest refl h
    where
      go : (r : Bytes) → i.rest ≡ r → ◌≡◌ {A = Whole A} (elim r [ [] ↦ whole a i.first_mod | x ∷ xs ↦ unread malformed (place_at i.offset) ]) (whole b o) → (i.rest ≡ []) × (a ≡ b)
      go [] q h' = (q, cc)
      go (x ∷ xs) q h' = absurd (let z : ◌≡◌ {A = ℕ} 0 1 = cc in omega arith)

  pub reads_whole : (m : Reader A) (input : Bytes) (a : A) (o : Option ℕ) → read_whole m input ≡ whole a o → ReadsWhole m input a
  unfolding read_whole
  reads_whole m input a o h = go (m outermost (from_first input)) refl h
    where
      go : (r : Read A) → m outermost (from_first input) ≡ r → ◌≡◌ {A = Whole A} (elim r [ done b i ↦ left_over b i | refused n p ↦ unread n p ]) (whole a o) → ReadsWhole m input a
      go (done b i) q h' = let l = left_over_none b a i o h' in record { end = i; ran = q ∙ ap (λ (x : A). done x i) l.1; nothing_left = l.0 }
      go (refused n p) q h' = absurd (let z : ◌≡◌ {A = ℕ} 0 1 = cc in omega arith)
