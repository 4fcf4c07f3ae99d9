use Rattle.std.proofs.Common.{◌≡◌, take}
use Rattle.recovery_queue.specs.Queue.{all_put}
use Rattle.recovery_queue.proofs.queue.RecoveryQueue.put_each.Given as goal

abbrev pub invariant-loop-own : goal.invariant-loop-own
invariant-loop-own l = l.self ≡ all_put l.initial.self (take l.own-index l.begun)
