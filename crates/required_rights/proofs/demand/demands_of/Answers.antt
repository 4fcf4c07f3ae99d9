use Rattle.std.proofs.Common.{rules}
use Rattle.required_rights.proofs.demand.demands_of.Goals as goal

pub returns-in-Renew : goal.returns-in-Renew
returns-in-Renew c = search rules

pub returns-in-Open : goal.returns-in-Open
returns-in-Open c = search rules

pub returns-in-Heartbeat : goal.returns-in-Heartbeat
returns-in-Heartbeat c = search rules
