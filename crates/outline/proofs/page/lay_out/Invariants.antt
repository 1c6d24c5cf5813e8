-- `outline::page::lay_out` meets its contract. The invariant: the first k lines of the page are written. Assumes nothing.
use Prim.Native.Nat.{◌+◌, ◌*◌}
use Rattle.names.specs.Segments.{Filled}
use Rattle.records.specs.Records.{Form}
use Rattle.outline.specs.Page.{line_width, page}
use Rattle.outline.specs.PageWork.{Indexed}
use Rattle.outline.proofs.page.lay_out.Given as goal

abbrev pub invariant-loop-k : goal.invariant-loop-k
invariant-loop-k l = ((f : Form) → Indexed l.input l.entries l.n f → Filled l.initial.out l.out 0 (page f) ((line_width + 1) * l.k))
