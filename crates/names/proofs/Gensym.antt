-- Made names: their length, and how they are written piece by piece. Assumes nothing.
use mathlib.Core.Path.{◌≡◌, ap, ◌∙◌}
use mathlib.Core.List.{◌++◌}
use native.Mathlib.Omega.{arith}
use Prim.Native.Nat.{ℕ, ◌+◌, ◌≤◌}
use lib.ListN.{length, length-append}
use Rattle.names.specs.CallAnswer.{written}
use Rattle.names.specs.Names.{Bytes, ascii, decimal, gensym}
use Rattle.names.specs.Segments.{Filled}
use Rattle.names.proofs.Segments.{filled_then, filled_written}

module _ (n : Bytes) (c : ℕ) where
  pub gensym_length : length (gensym n c) ≡ length n + length (ascii "_$_") + length (decimal (c + 1))
  unfolding gensym
  gensym_length = length-append (n ++ ascii "_$_") (decimal (c + 1)) ∙ ap (λ (k : ℕ). k + length (decimal (c + 1))) (length-append n (ascii "_$_"))

  pub gensym_written : {xs ys zs ws : Bytes} → Filled xs ys 0 n (length n) → Filled ys zs (length n) (ascii "_$_") (length (ascii "_$_"))
      → Filled zs ws (length n + length (ascii "_$_")) (decimal (c + 1)) (length (decimal (c + 1))) → length (gensym n c) ≤ length xs → ws ≡ written (gensym n c) xs
  unfolding gensym
  gensym_written f g h fit =
      let l = length-append n (ascii "_$_") in
      filled_written (filled_then (filled_then f g (omega arith) (omega (arith, gensym_length))) h (omega arith) (omega arith))
