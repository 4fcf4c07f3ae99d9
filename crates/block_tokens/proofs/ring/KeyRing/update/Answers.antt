use Rattle.block_tokens.proofs.Ascending.{update_ascends}
use Rattle.block_tokens.proofs.ring.KeyRing.update.Goals as goal

pub returns-clause-ascend : goal.returns-clause-ascend
returns-clause-ascend c =
    update_ascends c.args.now c.self.inside.older c.as_slice-serial-items.result.now c.loop-serial.keys c.push-2.new.self c.loop-serial.serial-index c.self.inside.serial c.key.result
    c.as_slice-serial-items.ensures c.loop-serial-test.false c.loop-serial.invariant c.in_ok-push-2.ensures.ok (rw c.key.ensures c.self.invariant)
