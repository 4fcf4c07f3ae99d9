use Rattle.std.proofs.Common.{◌≡◌, take}
use Rattle.block_records.specs.Marks.{with_marks}
use Rattle.block_records.proofs.mark.insert_each.Given as goal

abbrev pub invariant-loop-mark : goal.invariant-loop-mark
invariant-loop-mark l = l.ordered.keys ≡ with_marks l.initial.ordered.keys (take l.mark-index l.marks)
