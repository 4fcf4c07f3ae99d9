use Rattle.std.proofs.Common.{rules}
use Rattle.heartbeats.proofs.heartbeats.Heartbeats.is_recent.Goals as goal

pub returns : goal.returns
returns c = search rules
