-- What steps leave of a world, and how it is kept.
use Rattle.std.specs.Prelude.{◌≡◌, List, [], ◌∷◌, reverse}
use Rattle.history.specs.declared.entry.HistoryEntry.{HistoryEntry}
use Rattle.cluster_trace.specs.Trace.{Cluster, after, event_outcome}
use Rattle.cluster_trace.specs.Typed.{GrantsFit, AreTyped}
use Rattle.cluster_trace.specs.declared.event.Event.{Event}
use Rattle.cluster_trace.specs.declared.outcome.Outcome.{Outcome}
use Rattle.cluster_parts.specs.Kept.{AreWithin, events_kept}
use Rattle.cluster_core.specs.Past.{World}
use Rattle.cluster_core.specs.declared.world.World.TheInside.{Inside}

abbrev pub state_after : World → Cluster
state_after past = after past.opening past.events

abbrev pub with_event : World → Event → World
with_event past event = record { opening = past.opening; events = event ∷ past.events }

-- ---- several events, the oldest first

abbrev pub run_past : World → List Event → World
run_past past [] = past
run_past past (event ∷ events) = run_past (with_event past event) events

abbrev pub run_outcomes : World → List Event → List Outcome
run_outcomes past [] = []
run_outcomes past (event ∷ events) = event_outcome (state_after past) event ∷ run_outcomes (with_event past event) events

-- ---- how a world is kept

-- the NameNode's history, the oldest entry first
abbrev pub history_of : Inside → List HistoryEntry
history_of world = reverse world.cluster.entries

abbrev pub past_of : Inside → World
past_of world = record {
  opening = record { name = world.cluster.opening; nodes = world.ids.items };
  events = reverse (events_kept (history_of world) world.events.items);
}

-- its events lead from its opening to its state, those that asked the NameNode stand in its history, and all values fit their types
pub record IsReached (world : Inside) : Type 0 where
  pub within : AreWithin (history_of world) world.events.items
  pub state : world.cluster ≡ state_after (past_of world)
  pub typed : AreTyped (past_of world).opening (past_of world).events
  pub fits : GrantsFit world.cluster
