use Rattle.std.proofs.Common.{◌≡◌, ◌++◌, drop}
use Rattle.node_calls.specs.declared.call.TokenCall.TheVariants.{InitRecovery}
use Rattle.plan_steps.specs.PlanStep.{to_each}
use Rattle.plan_steps.proofs.orders.inits.Given as goal

abbrev pub invariant-loop-node : goal.invariant-loop-node
invariant-loop-node l = l.sent.items ++ to_each l.presented InitRecovery (drop l.node-index l.nodes) ≡ to_each l.presented InitRecovery l.nodes
