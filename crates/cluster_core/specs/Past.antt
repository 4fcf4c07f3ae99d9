-- A world by how it began and by the events that it stepped, the newest first.
use Rattle.std.specs.Prelude.{List}
use Rattle.cluster_trace.specs.Trace.{ClusterOpening}
use Rattle.cluster_trace.specs.declared.event.Event.{Event}

pub record World : Type 0 where
  pub opening : ClusterOpening
  pub events : List Event
