use Rattle.std.proofs.Common.{◌≡◌, take}
use Rattle.recovery_queue.specs.Queue.{without_each}
use Rattle.recovery_queue.proofs.queue.RecoveryQueue.forget_each.Given as goal

abbrev pub invariant-loop-block : goal.invariant-loop-block
invariant-loop-block l = l.self ≡ without_each l.initial.self (take l.block-index l.blocks)
