-- `exports::name::rename_name` meets its contract. Assumes nothing.
use Rattle.exports.proofs.ToldAnswers.{handed}
use Rattle.exports.proofs.name.rename_name.Goals as goal

pub returns : goal.returns
returns c = handed c.name_call-a.ensures c.tell.ensures
