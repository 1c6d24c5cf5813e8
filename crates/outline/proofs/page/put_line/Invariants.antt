-- `outline::page::put_line` meets its contract. The invariant: the first i characters are drawn. Assumes nothing.
use Rattle.names.specs.Segments.{Filled}
use Rattle.outline.proofs.Drawn.{drawn_line}
use Rattle.outline.proofs.page.put_line.Given as goal

abbrev pub invariant-loop-i : goal.invariant-loop-i
invariant-loop-i l = Filled l.initial.out l.out 0 (drawn_line l.s l.depth l.name) l.i
