-- `crate::substitute::rename_atom` meets its contract. Assumes nothing.
use Rattle.records.specs.Records.{sexp_bytes}
use Rattle.walk.specs.RenameInCons.{rename_atom}
use Rattle.walk.proofs.Substitutes.{trees_kept, others_kept}
use Rattle.walk.proofs.substitute.rename_atom.Goals as goal

pub returns : goal.returns
returns c =
    trees_kept sexp_bytes rename_atom c.keep.ensures
    (λ b t a w. (c.skip_sexp-n.ensures.skips t w a, others_kept b c.in_default.not-Atom (c.sexp_view-v.ensures.sees t w a)))
