use Rattle.placement_laws.proofs.Leading.{heard_last, live_leads, somebody_leads}
use Rattle.placement_laws.proofs.laws.leaders_were_heard_last.Goals as goal

pub returns-clause-live : goal.returns-clause-live
returns-clause-live c = live_leads

pub returns-clause-last : goal.returns-clause-last
returns-clause-last c = heard_last

pub returns-clause-some : goal.returns-clause-some
returns-clause-some c = somebody_leads
