use Rattle.std.proofs.Common.{◌≡◌, ◌++◌, map, drop}
use Rattle.flat_rows.specs.NodeOutcome.{removal_of}
use Rattle.node_commands.proofs.commands.removals.Given as goal

abbrev pub invariant-loop-mark : goal.invariant-loop-mark
invariant-loop-mark l = l.removals.items ++ map removal_of (drop l.mark-index l.marks) ≡ map removal_of l.marks
