use Rattle.std.proofs.Common.{◌≡◌, [], fold, drop}
use Rattle.cluster_trace.specs.Trace.{with_no_plan}
use Rattle.cluster_parts.proofs.leaders.Leaders.of.Given as goal

abbrev pub invariant-loop-id : goal.invariant-loop-id
invariant-loop-id l = fold with_no_plan l.leaders (drop l.id-index l.ids) ≡ fold with_no_plan [] l.ids
