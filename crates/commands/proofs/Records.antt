-- As many entries as the index of an input has are the records of its tree; and how long an input is that is accepted. Assumes nothing.
use mathlib.Core.Path.{◌≡◌, sym, subst, ◌∙◌}
use native.Mathlib.Omega.{arith}
use Prim.Native.Nat.{ℕ, ◌≤◌}
use lib.ListN.{length}
use Rattle.names.proofs.Places.{at_whole}
use Rattle.names.specs.Names.{Bytes}
use Rattle.names.specs.Segments.{At}
use Rattle.std.specs.Prelude.{Ok}
use Rattle.records.specs.declared.Wanted.{Wanted}
use Rattle.records.specs.Limits.{most_longest}
use Rattle.records.specs.Opened.{open_input}
use Rattle.records.specs.Scan.{opening_of, wanted_reader}
use Rattle.records.proofs.InputLaws.{is_opened}
use Rattle.records.proofs.Opened.{Start, start}
use Rattle.outline.specs.declared.Counted.{Counted}
use Rattle.outline.specs.Index.{nothing_around}
use Rattle.outline.specs.Outline.{outline_bytes, family_outline}
use Rattle.outline.specs.Shape.{Indexes}
use Rattle.outline.proofs.Listed.{listing_counts}
use Rattle.outline.proofs.OutlineBytes.{family_outline_bytes}
use Rattle.outline.proofs.ShapedTrees.{shaped_family}
use Rattle.commands.specs.Records.{RecordsIn}

-- what is listed of an input is counted
pub counts_records : {s mem mem' : Bytes} {r : Counted} → Indexes s mem mem' nothing_around r → RecordsIn s r.count
counts_records {s} h = record {
  counts = λ f t v e.
      let x = family_outline f t in
      let a : At s 0 (outline_bytes x) = rw (family_outline_bytes f t, ← e) (at_whole s) in
      h.counts x (shaped_family f t v) a ∙ listing_counts nothing_around x;
}

-- an input that is accepted is no longer than the longest record
pub accepted_size : (w : Wanted) (F work c : ℕ) (s : Bytes) → Ok tt ≡ opening_of (open_input (wanted_reader w).1 F work c s) → length s ≤ most_longest
accepted_size w F work c s e =
    let reader = (wanted_reader w).1 in
    let o = is_opened (open_input reader F work c s) (sym e) in
    let h = subst (Start reader F work c s) o.1 (start reader F work c s) in
    omega (arith, h.longest, h.size)
