use Rattle.std.proofs.Common.{None, rules}
use Rattle.block_tokens.proofs.Ascending.{keys_push, next_above}
use Rattle.block_tokens.proofs.ring.KeyRing.roll.Goals as goal

pub invariant_of-self-2 : goal.invariant_of-self-2
invariant_of-self-2 c =
    rw c.in_ok-push.ensures.ok (keys_push c.self.inside.older c.self.inside.serial c.in-Some.next
    (record { key = c.self.inside.key; expiry = None }) _ _
    c.self.invariant (next_above c.self.inside.serial c.in-Some.next c.in-Some.ensures))

pub returns-clause-rolled : goal.returns-clause-rolled
returns-clause-rolled c = search rules
