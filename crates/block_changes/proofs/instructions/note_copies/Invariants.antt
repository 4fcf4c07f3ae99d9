use Rattle.std.proofs.Common.{◌≡◌, drop}
use Rattle.known_blocks.specs.Known.{with_copies_told}
use Rattle.block_changes.specs.Orders.{copied_blocks}
use Rattle.block_changes.proofs.instructions.note_copies.Given as goal

abbrev pub invariant-loop-copy : goal.invariant-loop-copy
invariant-loop-copy l = with_copies_told l.known (copied_blocks (drop l.copy-index l.copies)) l.now ≡ with_copies_told l.initial.known (copied_blocks l.copies) l.now
