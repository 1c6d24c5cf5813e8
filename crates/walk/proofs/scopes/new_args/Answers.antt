-- `crate::scopes::new_args` meets its contract. Assumes nothing.
use Rattle.std.proofs.lemmas.Result.{err_from_is_err_and}
use Rattle.walk.proofs.NewNameLaws.{args_drawable, args_stopped, args_asked, args_drawn}
use Rattle.walk.proofs.scopes.new_args.Goals as goal

pub invent_new_names_sexp-requires : goal.invent_new_names_sexp-requires
invent_new_names_sexp-requires c = args_drawable c.requires

pub returns-in_err-g : goal.returns-in_err-g
returns-in_err-g c =
    let e = err_from_is_err_and c.from_residual.result c.from_residual.ensures.1 in
    rw (e.1, e.2) (args_stopped c.requires _ _ c.invent_new_names_sexp.ensures c.in_err-g.was)

pub by_names-requires : goal.by_names-requires
by_names-requires c = args_asked c.requires _ c.invent_new_names_sexp.ensures c.in_ok-g.was

pub returns : goal.returns
returns c = args_drawn c.requires _ c.invent_new_names_sexp.ensures c.in_ok-g.was c.by_names.ensures
