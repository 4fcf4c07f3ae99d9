use Rattle.std.proofs.Common.{◌≡◌, ◌++◌, length}
use Rattle.cluster_core.specs.World.{run_past, run_outcomes}
use Rattle.cluster_core.proofs.world.run_each.Given as goal

abbrev pub invariant-loop-event : goal.invariant-loop-event
invariant-loop-event l = record {
  told : l.outcomes.items ++ run_outcomes l.world l.events.items ≡ l.fn.outcomes.items ++ run_outcomes l.fn.world l.fn.events.items;
  past : run_past l.world l.events.items ≡ run_past l.fn.world l.fn.events.items;
}

abbrev pub decreases-loop-event : goal.decreases-loop-event
decreases-loop-event l = length l.events.items
