-- Laws about clusters, which follow from their definitions.
use Rattle.std.specs.Prelude.{List}
use Rattle.cluster_trace.specs.Trace.{ClusterOpening}
use Rattle.cluster_trace.specs.Provenance.{AllRight}
use Rattle.cluster_trace.specs.Typed.{AreTyped}
use Rattle.cluster_trace.specs.declared.event.Event.{Event}

-- over every list of events
abbrev pub TokensAreGranted : Type 0
TokensAreGranted = (opening : ClusterOpening) (events : List Event) → AreTyped opening events → AllRight opening events
