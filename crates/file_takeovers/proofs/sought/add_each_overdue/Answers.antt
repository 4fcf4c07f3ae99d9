use Rattle.file_takeovers.proofs.sought.add_each_overdue.Goals as goal

pub loop-block-preserved : goal.loop-block-preserved
loop-block-preserved c = record {
  unfinished = λ all. c.in_ok-add_overdue.ensures.unfinished (c.loop-block.invariant.unfinished all);
  some = λ past all. c.in_ok-add_overdue.ensures.some past (c.loop-block.invariant.some past all);
}
