use Rattle.std.proofs.Common.{◌≡◌, length}
use Rattle.block_records.specs.Marks.{with_marks}
use Rattle.block_records.proofs.mark.settle.Given as goal

abbrev pub invariant-loop-mark : goal.invariant-loop-mark
invariant-loop-mark l = with_marks l.ordered.keys l.latest.items ≡ with_marks l.initial.ordered.keys l.initial.latest.items

abbrev pub decreases-loop-mark : goal.decreases-loop-mark
decreases-loop-mark l = length l.latest.items
