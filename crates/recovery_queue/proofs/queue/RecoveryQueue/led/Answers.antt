use Rattle.std.proofs.Common.{◌≡◌, ◌∙◌, ap, subst, IfOk}
use Rattle.recovery_queue.specs.Queue.{led_by}
use Rattle.recovery_queue.proofs.Queued.{led_blocks}
use Rattle.recovery_queue.proofs.queue.RecoveryQueue.led.Goals as goal

pub returns : goal.returns
returns c = subst
    (λ own. IfOk c.blocks-2.result (λ blocks. blocks.items ≡ own))
    (led_blocks c.self.inside.primaries.entries c.self.inside.blocks c.args.node c.self.invariant c.len-count.ensures.ordered c.blocks-2.ensures.ascending
    ∙ ap (led_by c.args.node) c.self.view_is)
    c.blocks-2.ensures.blocks
