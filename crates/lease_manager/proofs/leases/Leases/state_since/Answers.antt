use Rattle.std.proofs.Common.{rules}
use Rattle.lease_manager.proofs.leases.Leases.state_since.Goals as goal

pub returns-then-age-self : goal.returns-then-age-self
returns-then-age-self c = search rules
