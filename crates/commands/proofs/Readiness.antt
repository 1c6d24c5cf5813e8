-- Whether a body is ready: what the test of each need says of the body's words.
-- Assumes nothing.
use mathlib.Core.Bool.{Bool, true, false, not}
use mathlib.Core.List.{List, [], ◌∷◌, map}
use mathlib.Core.Path.{◌≡◌, refl, sym, ◌∙◌}
use native.Mathlib.Omega.{arith}
use borrow.Author.Tests.{eqb-true, eqb-false}
use Prim.Native.Nat.{ℕ, ◌-◌}
use lib.Bits.{bit_and}
use lib.Dec.{eqb}
use lib.ListN.{length, take, drop}
use lib.Seq.{take-length}
use Rattle.std.specs.List.{list_all}
use Rattle.names.specs.Names.{Bytes}
use Rattle.names.proofs.Parts.{into}
use Rattle.ordering.specs.Assign.{need_limit}
use Rattle.ordering.specs.declared.listed.Listed.{Listed}
use Rattle.ordering.specs.declared.provides.Provided.{Provided}
use Rattle.ordering.specs.Items.{Item, item_at, any, all, keep, gives}
use Rattle.ordering.specs.Listing.{ListsBody}
use Rattle.ordering.specs.Needs.{bits, marks, providers, needs_of}
use Rattle.ordering.specs.Words.{words, items}
use Rattle.ordering.proofs.Bits.{none_gives, some_gives}
use Rattle.ordering.proofs.Collected.{items_length}
use Rattle.ordering.proofs.Few.{few_needs, few_words}
use Rattle.commands.specs.Ready.{TellsReady}

-- a need is met by one of the bindings before
abbrev pub met : ℕ → ℕ → Bool
met before n = not (eqb (bit_and n before) 0)

-- needs that are met are names that are provided
module _ (is : List Item) (placed : List ℕ) where
  abbrev provided : Bytes → Bool
  provided x = any (λ j. gives x (item_at is j)) placed

  met_is : (x : Bytes) → met (bits (marks (length is) placed)) (providers is x) ≡ provided x
  met_is x = go (eqb n 0) refl
    where
      n : ℕ
      n = bit_and (providers is x) (bits (marks (length is) placed))

      go : (b : Bool) → eqb n 0 ≡ b → not b ≡ provided x
      go true e = sym (none_gives is x placed (eqb-true n 0 e))
      go false e = sym (some_gives is x placed (eqb-false n 0 e))

  met_all : (xs : List Bytes) → list_all (met (bits (marks (length is) placed))) (map (providers is) xs) ≡ all provided xs
  met_all [] = refl
  met_all (x ∷ xs) = rw (met_is x, met_all xs)

-- so the needs of a body say whether its words are provided
pub tells_ready : {given : Provided} {fresh needs : Listed ℕ} {body before end : ℕ} {r : Bool} → ListsBody given (take (length given.bytes.now - body) (drop body given.bytes.now)) 0 fresh needs end
    → fresh.count ≡ 0 → length fresh.items.now ≡ need_limit → r ≡ list_all (met before) (take needs.count needs.items.now) → TellsReady given body before r
unfolding needs_of
tells_ready {needs = needs} h empty size e top bs b placed v at p m =
    let n = (h.lists b v (into at)).lists bs p (omega (arith, few_needs (items bs) (words b), few_words b v.0, at.fits)) in
    let k : needs.count ≡ length (needs_of (items bs) (words b)) = omega (arith, n.counted) in
    let g : take needs.count needs.items.now ≡ needs_of (items bs) (words b) = rw k (rw empty at n.filled.got ∙ take-length _) in
    e ∙ rw (g, m, ← items_length bs) (met_all (items bs) placed (keep (λ x. any (gives x) (items bs)) (words b)))
