-- `crate::sexps::all_zero` meets its contract. Assumes nothing.
use mathlib.Core.Path.{◌≡◌, refl, ap, ◌∙◌}
use mathlib.Core.Bool.{Bool, ◌&&◌}
use mathlib.Core.List.{[], ◌∷◌}
use lib.Dec.{eqb}
use borrow.Author.Rules.{rules}
use borrow.Author.Tests.{tests}
use Rattle.std.specs.List.{list_all}
use Rattle.std.proofs.lemmas.Iterator.{YieldsList-from_slice}
use Rattle.std.proofs.lemmas.Iterator.Search.{all_from_yields_List}
use Rattle.names.specs.Names.{Bytes}
use Rattle.records.specs.Sexps.{all_zero}
use Rattle.records.proofs.sexps.all_zero.Goals as goal

zeros : (s : Bytes) → list_all (λ b. eqb b 0) s ≡ all_zero s
unfolding all_zero
zeros [] = refl
zeros (b ∷ s) = ap (λ (t : Bool). eqb b 0 && t) (zeros s)

pub returns : goal.returns
returns c = all_from_yields_List (λ b. eqb b 0) _ _ _ c.all.ensures.ran (YieldsList-from_slice c.args.s.now cc) (λ x b q k. search (rules, tests)) ∙ zeros _
