-- `exports::page::rename_page` meets its contract. Assumes nothing.
use Rattle.exports.proofs.ToldAnswers.{handed}
use Rattle.exports.proofs.page.rename_page.Goals as goal

pub returns : goal.returns
returns c = handed c.page_call-a.ensures c.tell.ensures
