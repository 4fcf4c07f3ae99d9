use Rattle.std.proofs.Common.{◌≡◌, ◌++◌, ◌≤◌}
use Rattle.std.specs.List.{AllByRecursion}
use Rattle.std.specs.List.Sorted.{IsStrictlySortedBy}
use Rattle.block_records.specs.Marks.{mark_cmp, marks_for}
use Rattle.block_records.specs.declared.mark.Mark.{Mark}
use Rattle.block_records.proofs.mark.marks_of.Given as goal

abbrev pub invariant-loop-mark : goal.invariant-loop-mark
invariant-loop-mark l = record {
  found : l.marks.items ++ marks_for l.node l.mark-iterator ≡ marks_for l.node l.ordered.keys;
  sorted : IsStrictlySortedBy mark_cmp l.mark-iterator;
  above : AllByRecursion (λ (mark : Mark). l.node ≤ mark.node) l.mark-iterator;
}
