-- A step on the part of memory from a place on: what it is asked there, and what it answers, said of the whole. Assumes nothing.
use mathlib.Core.Path.{◌≡◌, ◌∙◌}
use native.Mathlib.Omega.{arith}
use Prim.Native.Nat.{ℕ, ◌+◌, ◌-◌, ◌≤◌}
use lib.ListN.{length}
use Rattle.names.specs.Maps.{NameMap}
use Rattle.names.specs.Names.{Bytes}
use Rattle.names.specs.Segments.{At, SameOutside}
use Rattle.names.proofs.Frames.{same_wider}
use Rattle.names.proofs.Parts.{part, back, part_length, same_back, into}
use Rattle.records.specs.StepAnswer.{Outcome, Gives}
use Rattle.records.specs.declared.Step.{Step}
use Rattle.records.proofs.StepAnswers.{gives_back}
use Rattle.walk.specs.Arena.{MapAt, Asks, Says}
use Rattle.walk.specs.declared.Task.{Task}
use Rattle.walk.proofs.MapLaws.{map_of_part}
use Rattle.std.specs.declared.result.Result.{Result}
use Rattle.names.specs.declared.Refusal.{Refusal}

-- the part from a on, and the whole that it comes back in
abbrev pub from : Bytes → ℕ → Bytes
from xs a = part xs a (length xs - a)

abbrev pub rejoin : Bytes → ℕ → Bytes → Bytes
rejoin xs a ys = back xs a (length xs - a) ys

-- what is asked of a tree that stands at a
pub asks_part : {A : Type 0} {bytes : A → Bytes} {Good : A → Type 0} {xs : Bytes} {t : Task} {m : NameMap} (a : ℕ) (x : A) → Good x → At xs a (bytes x)
    → length (bytes x) ≤ t.free → MapAt xs t.map m → a + t.free + t.f + t.map ≤ length xs → Asks bytes Good (from xs a) t
asks_part {xs = xs} {m = m} a x good there below map fit =
    let l = part_length xs a (length xs - a) (omega arith) in
    record { tree = x; good = good; there = into there; below = below; m = m; map = map_of_part a (omega arith) map; room = omega arith }

-- what is answered of it
module _ {A B : Type 0} {bytes : A → Bytes} {Good : A → Type 0} {made : B → Bytes} {rule : NameMap → A → Outcome B} {xs ys : Bytes} {t : Task} {r : Result Step Refusal} (a : ℕ)
    (fit : a + t.free + t.f + t.map ≤ length xs) (s : Says bytes Good made rule (from xs a) ys t r) where
  pub part_frame : (lo hi : ℕ) → lo ≤ a + t.free → a + t.free + t.f ≤ hi → SameOutside xs (rejoin xs a ys) lo hi
  part_frame lo hi le₁ le₂ = same_wider lo hi le₁ (omega arith) (same_back xs a (length xs - a) (omega arith) s.frame (omega arith) (omega arith))

  pub part_gives : {m : NameMap} (p : ℕ) → a + t.free ≡ p → MapAt xs t.map m → (x : A) → At xs a (bytes x) → length (bytes x) ≤ t.free → Good x
      → Gives made (rejoin xs a ys) p (length (bytes x)) (rule m x) r
  part_gives {m} p e map x there below good =
      let l = s.frame.size ∙ part_length xs a (length xs - a) (omega arith) in
      rw e at (gives_back xs a (length xs - a) (omega arith) l (s.says m (map_of_part a (omega arith) map) x (into there) below good))
