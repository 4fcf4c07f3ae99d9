-- What is left of a node's replicas once what is held of a block was lent.
use Rattle.std.specs.Prelude.{ℕ, Option}
use Rattle.std.specs.Borrow.{LendsIf, MutBor, Fml}
use Rattle.std.specs.Map.{set_value}
use Rattle.block_records.specs.Numbers.{is_number}
use Rattle.replica_steps.specs.ReplicaStep.{Replicas}
use Rattle.replica_steps.specs.contracts.held.Held as held
use Rattle.replicas.specs.contracts.replicas.Replicas as all
use Rattle.replica_steps.specs.declared.held.Held.{Held}

-- of the block is held what was left behind the reference, and of all others what was
abbrev pub LendsHeld : ℕ → MutBor Replicas → Option (MutBor Held) → Fml
LendsHeld block replicas lent = LendsIf all.the_row held.the_row replicas lent (set_value (is_number block) replicas.now) replicas.now
