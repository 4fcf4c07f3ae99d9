use Rattle.std.proofs.Common.{rules}
use Rattle.replica_steps.proofs.judge.judge_packet.Goals as goal

pub returns-then-count-gt-PACKET_LIMIT : goal.returns-then-count-gt-PACKET_LIMIT
returns-then-count-gt-PACKET_LIMIT c = search rules

pub returns : goal.returns
returns c = search rules
