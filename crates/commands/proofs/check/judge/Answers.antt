-- `commands::check::judge` is safe and ends: an input that is accepted is no longer than the longest record. Assumes nothing.
use Rattle.commands.proofs.Records.{accepted_size}
use Rattle.commands.proofs.check.judge.Goals as goal

pub records_in-n-requires : goal.records_in-n-requires
records_in-n-requires g c = accepted_size c.args.wanted c.args.f _ _ c.args.input.now c.in-Ok.ensures
