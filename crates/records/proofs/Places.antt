-- What stands at a place of a list of bytes. Assumes nothing.
use mathlib.Core.Path.{◌≡◌, ap, sym, ◌∙◌}
use mathlib.Core.List.{[], ◌∷◌}
use Prim.Native.Nat.{ℕ, suc, ◌<◌}
use native.Mathlib.Omega.{arith}
use lib.ListN.{length, take, drop, get_or}
use lib.Seq.{drop-cons}
use Rattle.names.specs.Names.{Bytes}
use Rattle.names.specs.Segments.{At}
use Rattle.records.specs.Records.{byte}

module _ {s : Bytes} {p : ℕ} (b : ℕ) where
  -- one byte that stands at a place
  byte_fits : At s p (byte b) → p < length s
  unfolding byte
  byte_fits a = omega (arith, a.fits)

  pub byte_there : At s p (byte b) → get_or s p 0 ≡ b
  unfolding byte
  byte_there a =
      let h : p < length s = byte_fits a in
      let e : take 1 (drop p s) ≡ b ∷ [] = a.there in
      let d : drop p s ≡ get_or s p 0 ∷ drop (suc p) s = drop-cons s p 0 h in
      let q : get_or s p 0 ∷ [] ≡ b ∷ [] = sym (ap (take 1) d) ∙ e in
      cc
