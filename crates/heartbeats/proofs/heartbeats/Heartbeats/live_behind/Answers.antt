use Rattle.std.proofs.Common.{rules}
use Rattle.heartbeats.proofs.heartbeats.Heartbeats.live_behind.Goals as goal

pub returns-then-is_ok : goal.returns-then-is_ok
returns-then-is_ok c = search rules
