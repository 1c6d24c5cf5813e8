-- `replay_calls::calls::agrees` meets its contract. The result buffer is as long as asked for, since memory is not shorter.
-- Assumes nothing.
use lib.ListN.{length}
use Rattle.replay_calls.proofs.CallLaws.{agrees_with}
use Rattle.replay_calls.proofs.calls.agrees.Goals as goal

pub returns : goal.returns
returns c =
    agrees_with c.args.c (length c.args.work.now) c.args.input.now c.args.wanted.now (length c.args.mem.now) c.args.buffer c.if-buffer-mem.false
    c.fill.ensures c.answer-a.ensures c.answer-a.auto.res c.same_result.ensures
