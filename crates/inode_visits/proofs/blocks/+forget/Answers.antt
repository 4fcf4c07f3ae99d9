use Rattle.std.proofs.Common.{arith}
use Rattle.inode_visits.proofs.Visits.{shorter}
use Rattle.inode_visits.proofs.FileBlocks.{forgotten_next}
use Rattle.inode_visits.proofs.blocks.+forget.Goals as goal

pub forget_in-loop-name-preserved-then-not-is_bare : goal.forget_in-loop-name-preserved-then-not-is_bare
forget_in-loop-name-preserved-then-not-is_bare t c =
    let less = shorter c.loop-name._name-iterator c.next.new.self c.in-Some._name.now c.in-Some.child.now c.in-Some.ensures.steps in
    record {
      can_next = tt;
      is_finite = tt;
      left_over = λ k. forgotten_next k c.loop-name._name-iterator c.next.new.self c.in-Some._name.now c.in-Some.child.now c.loop-name.files c.forget.new.files _ c.in-Some.ensures.steps (c.forget.ensures k) (c.loop-name.invariant.left_over k);
      left = omega (arith, less, c.loop-name.invariant.left);
    }
