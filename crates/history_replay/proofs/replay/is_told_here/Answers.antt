use Rattle.std.proofs.Common.{sym}
use Rattle.history_replay.proofs.Replaying.{told_here}
use Rattle.history_replay.proofs.replay.is_told_here.Goals as goal

pub returns : goal.returns
returns c =
    told_here c.args.core.now.opening c.args.core.now.entries c.args.passes.now c.args.pair.pass c.args.pair.index c.in-Some.answer.now c.is_told.result (sym c.in-Some.ensures) (c.is_look_here.ensures.0 c.if-not-is_look_here.false)
    c.is_told.ensures
