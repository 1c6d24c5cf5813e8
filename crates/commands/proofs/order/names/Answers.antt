-- `commands::order::names` is safe and ends: an assign stands in s, so its names can be listed. Assumes nothing.
use mathlib.Core.List.{List}
use mathlib.Core.Path.{◌≡◌, sym}
use native.Mathlib.Omega.{arith}
use Prim.Native.Nat.{ℕ, ◌≤◌}
use lib.ListN.{length, take}
use lib.Seq.{length-take-le}
use Rattle.names.specs.Names.{Bytes}
use Rattle.records.specs.declared.LetView.{LetView}
use Rattle.records.specs.Records.{Loc, Body, Bindings}
use Rattle.records.specs.declared.Kind.{Kind}
use Rattle.records.specs.Views.{SeesLet}
use Rattle.ordering.specs.Assign.{Let, FindsAllNames}
use Rattle.ordering.specs.Needs.{binding_limit}
use Rattle.ordering.specs.Provisions.{Given}
use Rattle.ordering.proofs.Bound.{let_bound, bound_of}
use Rattle.ordering.proofs.Collected.{provisions_given}
use Rattle.commands.proofs.order.names.Goals as goal

-- what was listed, where the places of the bodies take the front of an array xs
listed : {s : Bytes} {v : LetView} {k : Kind} {l : Loc} {w h : Bytes} {bs : Bindings} {b : Body} {entries bodies : List ℕ} {m n : ℕ} (xs : List ℕ)
    → m ≡ v.count → SeesLet s v → Let s k l w h bs b → binding_limit ≤ length xs → FindsAllNames s v.first (length (take m xs)) entries bodies n
    → (n ≤ length entries) × Given s (take n entries)
listed {m = m} xs count sees at room finds =
    let w = let_bound count sees at in
    let f = finds _ (bound_of _ (sym (length-take-le m xs (omega (arith, w.1)))) w.0) in
    (f.few, provisions_given _ _ _ f.provisions (omega (arith, w.0.count, w.1)))

pub slice_bounds-bodies-end : goal.slice_bounds-bodies-end
slice_bounds-bodies-end g c = (let_bound c.from-count.ensures c.let_view-v.ensures c.requires.fact.6).1

pub slice_bounds-find_names-end-2 : goal.slice_bounds-find_names-end-2
slice_bounds-find_names-end-2 g c = sym (length-take-le _ _ (let_bound c.from-count.ensures c.let_view-v.ensures c.requires.fact.6).1)

pub find_names-n-requires-clause-bound : goal.find_names-n-requires-clause-bound
find_names-n-requires-clause-bound g c =
    let w = let_bound c.from-count.ensures c.let_view-v.ensures c.requires.fact.6 in
    (_, bound_of _ (sym (length-take-le _ _ w.1)) w.0)

pub slice_bounds-entries-end : goal.slice_bounds-entries-end
slice_bounds-entries-end g c = (listed _ c.from-count.ensures c.let_view-v.ensures c.requires.fact.6 (omega arith) c.find_names-n.ensures).0

pub slice_bounds-given-end : goal.slice_bounds-given-end
slice_bounds-given-end g c =
    sym (length-take-le _ _ (listed _ c.from-count.ensures c.let_view-v.ensures c.requires.fact.6 (omega arith) c.find_names-n.ensures).0)

pub invariant_of-given : goal.invariant_of-given
invariant_of-given g c = record { given = (listed _ c.from-count.ensures c.let_view-v.ensures c.requires.fact.6 (omega arith) c.find_names-n.ensures).1 }

pub invariant_of-given-else-rounds-eq0 : goal.invariant_of-given-else-rounds-eq0
invariant_of-given-else-rounds-eq0 g c = record { given = (listed _ c.from-count.ensures c.let_view-v.ensures c.requires.fact.6 (omega arith) c.find_names-n.ensures).1 }
