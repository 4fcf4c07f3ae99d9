use Rattle.std.proofs.Common.{◌≡◌, ◌++◌}
use Rattle.std.specs.Iterator.Adapters.{rev_source}
use Rattle.lease_manager.specs.Leases.{AreInOrder, clients, renewals_past_hard}
use Rattle.lease_manager.specs.Shown.{renewals_of}
use Rattle.lease_manager.proofs.leases.Leases.past_hard.Given as goal

abbrev pub invariant-loop-client : goal.invariant-loop-client
invariant-loop-client l = record {
  can_next : (goal.iterator-loop-client).can_next l.client-iterator;
  is_finite : (goal.iterator-loop-client).is_finite l.client-iterator;
  order : AreInOrder (renewals_of (rev_source l.client-iterator));
  kept : l.past.items ++ clients (renewals_past_hard l.self.limits l.now (renewals_of (rev_source l.client-iterator))) ≡ clients (renewals_past_hard l.self.limits l.now l.self.renewals);
}
