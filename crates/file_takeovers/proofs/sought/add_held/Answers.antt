use Rattle.file_takeovers.proofs.sought.add_held.Goals as goal

pub loop-block-preserved : goal.loop-block-preserved
loop-block-preserved c = record {
  unfinished = λ all. c.in_ok-add_held_by.ensures.unfinished (c.loop-block.invariant.unfinished all);
  some = λ expiry among all. c.in_ok-add_held_by.ensures.some expiry among (c.loop-block.invariant.some expiry among all);
}
