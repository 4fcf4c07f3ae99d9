use Rattle.std.proofs.Common.{◌≡◌, ◌++◌, map, drop}
use Rattle.flat_rows.specs.NodeOutcome.{recover_command}
use Rattle.node_commands.specs.Granted.{tokens_of, recovery_row}
use Rattle.node_commands.proofs.commands.recover_commands.Given as goal

abbrev pub invariant-loop-recovery : goal.invariant-loop-recovery
invariant-loop-recovery l =
    (l.commands.items ++ map (recover_command (tokens_of l.ring l.now) l.principal) (drop l.recovery-index l.recoveries)
    ≡ map (recover_command (tokens_of l.ring l.now) l.principal) l.recoveries)
    × (l.rows.items ++ map (recovery_row l.place l.ring l.now l.principal) (drop l.recovery-index l.recoveries)
    ≡ l.initial.rows.items ++ map (recovery_row l.place l.ring l.now l.principal) l.recoveries)
