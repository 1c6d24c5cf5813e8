-- `crate::call::walk` meets its contract. Assumes nothing.
use Rattle.walk.specs.declared.Request.TheVariants.{WholeForm, ChildrenOnly, SingleHelper}
use Rattle.walk.proofs.RenameLaws.{ready_by, walks_whole, walks_children, walks_helper}
use Rattle.walk.proofs.call.walk.Goals as goal

pub args_compileform-requires : goal.args_compileform-requires
args_compileform-requires c = ready_by WholeForm c.in-WholeForm.is c.requires

pub children_compileform-requires : goal.children_compileform-requires
children_compileform-requires c = ready_by ChildrenOnly c.in-ChildrenOnly.is c.requires

pub args_helperform-requires : goal.args_helperform-requires
args_helperform-requires c = ready_by SingleHelper c.in-SingleHelper.is c.requires

pub returns-in-WholeForm : goal.returns-in-WholeForm
returns-in-WholeForm c = walks_whole _ _ _ c.in-WholeForm.is c.args_compileform.ensures

pub returns-in-ChildrenOnly : goal.returns-in-ChildrenOnly
returns-in-ChildrenOnly c = walks_children _ _ _ c.in-ChildrenOnly.is c.children_compileform.ensures

pub returns-in-SingleHelper : goal.returns-in-SingleHelper
returns-in-SingleHelper c = walks_helper _ _ _ c.in-SingleHelper.is c.args_helperform.ensures
