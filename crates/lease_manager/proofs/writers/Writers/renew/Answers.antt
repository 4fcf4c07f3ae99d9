use Rattle.std.proofs.Common.{ap, refl}
use Rattle.lease_manager.specs.Leases.{Leases}
use Rattle.lease_manager.proofs.Leasing.{leased_renew}
use Rattle.lease_manager.proofs.writers.Writers.renew.Goals as goal

pub returns-clause-leased : goal.returns-clause-leased
returns-clause-leased c = λ last some leased.
    leased_renew c.args.self.now (record { leases = c.take.new.self; files = c.args.self.now.files }) c.args.client.now c.args.now last (ap (λ (l : Leases). l.renewals) c.in_ok-take.ensures.ok) refl some leased
