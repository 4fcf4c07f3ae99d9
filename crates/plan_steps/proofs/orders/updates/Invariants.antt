use Rattle.std.proofs.Common.{◌≡◌, ◌++◌, drop}
use Rattle.node_calls.specs.declared.call.TokenCall.TheVariants.{UpdateReplica}
use Rattle.plan_steps.specs.PlanStep.{to_each}
use Rattle.plan_steps.proofs.orders.updates.Given as goal

abbrev pub invariant-loop-node : goal.invariant-loop-node
invariant-loop-node l =
    l.sent.items ++ to_each l.presented (UpdateReplica l.length) (drop l.node-index l.nodes) ≡ to_each l.presented (UpdateReplica l.length) l.nodes
