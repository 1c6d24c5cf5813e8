-- `outline::page::named` meets its contract. Assumes nothing.
use native.Mathlib.Omega.{arith}
use Rattle.outline.proofs.NamePlaces.{no_name_past, name_seen}
use Rattle.outline.proofs.page.named.Goals as goal

pub returns-then-s-at : goal.returns-then-s-at
returns-then-s-at c = no_name_past (omega arith)

pub returns : goal.returns
returns c = name_seen c.name_view.ensures
