use Rattle.std.proofs.Common.{None}
use Rattle.block_tokens.proofs.Ascending.{first_key}
use Rattle.block_tokens.proofs.ring.KeyRing.new.Goals as goal

pub invariant_of-result : goal.invariant_of-result
invariant_of-result c = rw c.new.ensures (first_key c.args.serial (record { key = c.args.key; expiry = None }))
