-- `crate::skip::past_sexp` meets its contract. Assumes nothing.
use borrow.Author.Rules.{rules}
use Rattle.records.proofs.Parts.{skips_past, past_fewer}
use Rattle.records.proofs.skip.past_sexp.Goals as goal

pub returns : goal.returns
returns c = past_fewer (λ t v. v.0) (skips_past (search rules) c.skip_sexp.ensures)
