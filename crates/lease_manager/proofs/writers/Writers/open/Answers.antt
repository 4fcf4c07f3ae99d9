use Rattle.std.proofs.Common.{ap}
use Rattle.lease_manager.specs.Leases.{Leases}
use Rattle.lease_manager.proofs.Counts.{taken_back}
use Rattle.lease_manager.proofs.Leasing.{leased_open}
use Rattle.lease_manager.proofs.writers.Writers.open.Goals as goal

pub returns-clause-leased : goal.returns-clause-leased
returns-clause-leased c = λ last leased.
    leased_open c.args.self.now (record { leases = c.take.new.self; files = c.add_making_room.new.self }) c.args.client.now c.args.now last (ap (λ (l : Leases). l.renewals) c.in-Ok.ensures.ok) c.in_ok-add_making_room.ensures.ok leased

pub returns-in_default-clause-err : goal.returns-in_default-clause-err
returns-in_default-clause-err c = record {
  leases = c.in_default.ensures.err;
  files = taken_back c.args.self.now.files c.add_making_room.new.self c.take-in_default.new.self c.args.client.now c.in_ok-add_making_room.ensures.ok c.take-in_default.ensures.counts;
}
