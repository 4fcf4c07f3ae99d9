use Rattle.std.proofs.Common.{ap, refl}
use Rattle.hdfs_values.proofs.Texts.{same_self}
use Rattle.lease_manager.specs.Leases.{Leases}
use Rattle.lease_manager.proofs.Leasing.{leased_kept, leased_ended, some_left, nothing_left}
use Rattle.lease_manager.proofs.writers.Writers.close_some.Goals as goal

pub returns-then-take_some-gt0-clause-leased : goal.returns-then-take_some-gt0-clause-leased
returns-then-take_some-gt0-clause-leased c = λ last leased.
    leased_kept c.args.self.now (record { leases = c.args.self.now.leases; files = c.take_some.new.self }) c.args.client.now c.args.number last refl c.take_some.ensures.counts
    (some_left _ _ _ _ _ _ (same_self c.args.client.now) (c.take_some.ensures.counts c.args.client.now) c.take_some.ensures.left c.if-take_some-gt0.true) leased

pub returns-clause-leased : goal.returns-clause-leased
returns-clause-leased c = λ last leased.
    leased_ended c.args.self.now (record { leases = c.release.new.self; files = c.take_some.new.self }) c.args.client.now c.args.number last
    (ap (λ (l : Leases). l.renewals) c.release.ensures.released) c.take_some.ensures.counts
    (nothing_left _ _ _ _ _ _ (same_self c.args.client.now) (c.take_some.ensures.counts c.args.client.now) c.take_some.ensures.left c.if-take_some-gt0.false) leased
