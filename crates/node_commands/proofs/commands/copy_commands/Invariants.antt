use Rattle.std.proofs.Common.{◌≡◌, ◌++◌, map, drop}
use Rattle.flat_rows.specs.NodeOutcome.{copy_command}
use Rattle.node_commands.specs.Granted.{tokens_of, copy_row}
use Rattle.node_commands.proofs.commands.copy_commands.Given as goal

abbrev pub invariant-loop-copy : goal.invariant-loop-copy
invariant-loop-copy l =
    (l.commands.items ++ map (copy_command (tokens_of l.ring l.now) l.principal) (drop l.copy-index l.copies)
    ≡ map (copy_command (tokens_of l.ring l.now) l.principal) l.copies)
    × (l.rows.items ++ map (copy_row l.place l.ring l.now l.principal) (drop l.copy-index l.copies)
    ≡ l.initial.rows.items ++ map (copy_row l.place l.ring l.now l.principal) l.copies)
