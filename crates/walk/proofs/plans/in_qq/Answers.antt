-- `crate::plans::in_qq` meets its contract. Assumes nothing.
use mathlib.Core.Path.{refl}
use Rattle.names.specs.Names.{ascii}
use Rattle.walk.proofs.HeadLaws.{heads, plans_on, plans_unquote, plans_unquote_none}
use Rattle.walk.proofs.plans.in_qq.Goals as goal

pub returns-in-Some : goal.returns-in-Some
unfolding ascii
returns-in-Some c = plans_unquote (heads "unquote" c.requires c.is_atom.ensures refl c.if-is_atom.true) c.single.ensures c.in-Some.is c.skip_sexp.ensures

pub returns-in_default : goal.returns-in_default
unfolding ascii
returns-in_default c = plans_unquote_none (heads "unquote" c.requires c.is_atom.ensures refl c.if-is_atom.true) c.single.ensures c.in_default.is

pub returns-else-is_atom : goal.returns-else-is_atom
unfolding ascii
returns-else-is_atom c = plans_on (heads "unquote" c.requires c.is_atom.ensures refl c.if-is_atom.false)
