-- What a piece of a rule answers: on a part of memory, said of the whole; and what such an answer says. Assumes nothing.
use mathlib.Core.Path.{◌≡◌, sym, ◌∙◌}
use native.Mathlib.Omega.{arith}
use Prim.Native.Nat.{ℕ, ◌+◌, ◌-◌, ◌≤◌}
use lib.ListN.{length}
use Rattle.names.specs.Names.{Bytes}
use Rattle.names.specs.Segments.{At, SameOutside}
use Rattle.names.specs.declared.Refusal.{Refusal}
use Rattle.names.proofs.Parts.{part, back}
use Rattle.walk.specs.FormWalks.{ComesOut, came, stayed}
use Rattle.walk.specs.Steps.{M, DoneWith, RefusedWith}
use Rattle.walk.specs.declared.Piece.{Piece}
use Rattle.walk.proofs.OnParts.{from, rejoin}
use Rattle.walk.proofs.Wholes.{cut_at}
use Rattle.std.specs.declared.result.Result.{Result}
use Rattle.std.specs.declared.result.Result.TheVariants.{Err}
use Rattle.walk.specs.RuleAnswers.{piece_of}
use Rattle.walk.proofs.RuleAnswers.{piece_same}

module _ {A : Type 0} {bytes : A → Bytes} {F : ℕ} where
  -- the answer of a part of k bytes from a on
  pub cut_comes : (xs : Bytes) (a k : ℕ) → a + k ≤ length xs → {y : Bytes} (q len : ℕ) → q + len ≤ k → SameOutside (part xs a k) y q (length (part xs a k) - len)
      → {n c x : ℕ} {run : M A} {r : Result Piece Refusal} (p : ℕ) → a + q ≡ p → ComesOut bytes F y q n run c x r → ComesOut bytes F (back xs a k y) p n run c x r
  cut_comes xs a k le q len fit s p e (came u c' x' g l o h) = came u c' x' g l o (cut_at xs a k le q len fit s p e h)
  cut_comes xs a k le q len fit s p e (stayed z g o) = stayed z g o

  -- of the part from a on to the end of memory
  pub whole_comes : (xs : Bytes) (a : ℕ) {y : Bytes} (q len : ℕ) → a + q + len ≤ length xs → SameOutside (from xs a) y q (length (from xs a) - len)
      → {n c x : ℕ} {run : M A} {r : Result Piece Refusal} (p : ℕ) → a + q ≡ p → ComesOut bytes F y q n run c x r → ComesOut bytes F (rejoin xs a y) p n run c x r
  whole_comes xs a q len fit s = cut_comes xs a (length xs - a) (omega arith) q len (omega arith) s

-- what an answer `Took i w s d` says
pub record Came {A : Type 0} (bytes : A → Bytes) (F : ℕ) (new : Bytes) (free n : ℕ) (run : M A) (c x i w s d : ℕ) : Type 0 where
  pub u : A
  pub run_done : DoneWith (run c x) u d s
  pub within : s ≤ F
  pub read : i ≡ n
  pub wrote : w ≡ length (bytes u)
  pub out : At new free (bytes u)

module _ {A : Type 0} {bytes : A → Bytes} {F : ℕ} {new : Bytes} {free n : ℕ} {run : M A} {c x : ℕ} {r : Result Piece Refusal} where
  -- so an answer says
  pub came_as : (i w s d : ℕ) → r ≡ piece_of i w s d → ComesOut bytes F new free n run c x r → Came bytes F new free n run c x i w s d
  came_as i w s d e (came u c' x' g l q o) =
      let same = piece_same (sym e ∙ q) in
      let a : c' ≡ d = sym same.3 in
      let b : x' ≡ s = sym same.2 in
      record { u = u; run_done = rw (a, b) at g; within = rw b at l; read = same.0; wrote = same.1; out = o }
  came_as i w s d e (stayed z g q) = let y : ◌≡◌ {A = ℕ} 0 1 = cc in absurd (omega arith)

  -- what a refusal says
  pub stayed_as : (z : Refusal) → r ≡ Err z → ComesOut bytes F new free n run c x r → RefusedWith (run c x) z
  stayed_as z e (came u c' x' g l q o) = let y : ◌≡◌ {A = ℕ} 0 1 = cc in absurd (omega arith)
  stayed_as z e (stayed y g q) = let a : y ≡ z = cc in rw a at g
