-- `crate::plans::in_cons` meets its contract. Assumes nothing.
use mathlib.Core.Path.{refl}
use Rattle.names.specs.Names.{ascii}
use Rattle.walk.proofs.HeadLaws.{heads, looks, no_qq, not_looked}
use Rattle.walk.proofs.HeadLaws.{plans_q, plans_go_on, plans_quote, plans_quote_none, plans_qq, plans_qq_none}
use Rattle.walk.proofs.plans.in_cons.Goals as goal

pub returns-then-is_atom : goal.returns-then-is_atom
unfolding ascii
returns-then-is_atom c = plans_q c.args.qq (heads "q" c.requires c.is_atom.ensures refl c.if-is_atom.true) c.skip_sexp.ensures

pub returns-in-Some : goal.returns-in-Some
unfolding ascii
returns-in-Some c =
    plans_quote c.args.qq (heads "q" c.requires c.is_atom.ensures refl c.if-is_atom.false) c.single.ensures c.skip_sexp-end.ensures
    (heads "quote" c.requires c.is_atom-2.ensures refl c.if-is_atom-2.true) c.in-Some.is

pub returns-in-None : goal.returns-in-None
unfolding ascii
returns-in-None c =
    plans_quote_none c.args.qq (heads "q" c.requires c.is_atom.ensures refl c.if-is_atom.false) c.single.ensures c.skip_sexp-end.ensures
    (heads "quote" c.requires c.is_atom-2.ensures refl c.if-is_atom-2.true) c.in-None.is

pub returns-in-Some-single : goal.returns-in-Some-single
unfolding ascii
returns-in-Some-single c =
    plans_qq c.args.qq (heads "q" c.requires c.is_atom.ensures refl c.if-is_atom.false) c.single-then-is_atom-3.ensures c.skip_sexp-end-then-is_atom-3.ensures
    (heads "quote" c.requires c.is_atom-2.ensures refl c.if-is_atom-2.false) (heads "qq" c.requires c.is_atom-then-qq.ensures refl c.if-is_atom-3.true) c.if-qq.true
    c.in-Some-single.is

pub returns-in-None-single : goal.returns-in-None-single
unfolding ascii
returns-in-None-single c =
    plans_qq_none c.args.qq (heads "q" c.requires c.is_atom.ensures refl c.if-is_atom.false) c.single-then-is_atom-3.ensures c.skip_sexp-end-then-is_atom-3.ensures
    (heads "quote" c.requires c.is_atom-2.ensures refl c.if-is_atom-2.false)
    (looks (heads "qq" c.requires c.is_atom-then-qq.ensures refl c.if-is_atom-3.true) c.if-qq.true) c.in-None-single.is

pub returns-else-is_atom-3 : goal.returns-else-is_atom-3
unfolding ascii
returns-else-is_atom-3 c =
    plans_go_on c.args.qq (heads "q" c.requires c.is_atom.ensures refl c.if-is_atom.false) (heads "quote" c.requires c.is_atom-2.ensures refl c.if-is_atom-2.false)
    (no_qq c.args.qq (heads "qq" c.requires c.is_atom-then-qq.ensures refl c.if-is_atom-3.false))

pub returns-else-qq : goal.returns-else-qq
unfolding ascii
returns-else-qq c =
    plans_go_on c.args.qq (heads "q" c.requires c.is_atom.ensures refl c.if-is_atom.false) (heads "quote" c.requires c.is_atom-2.ensures refl c.if-is_atom-2.false)
    (not_looked c.if-qq.false)
