use Rattle.std.proofs.Common.{ap, arith}
use Rattle.flat_rows.proofs.Holders.{bit}
use Rattle.inode_nodes.specs.Node.{flatten}
use Rattle.inode_visits.proofs.Visits.{shorter}
use Rattle.inode_files.proofs.Closings.{Closes, closed_next, closes_left, count_closed, kept_closed}
use Rattle.inode_files.proofs.closing.+close.Goals as goal

pub close_beneath_in-loop-name-preserved : goal.close_beneath_in-loop-name-preserved
close_beneath_in-loop-name-preserved t c =
    let less = shorter c.loop-name._name-iterator c.next.new.self c.in-Some._name.now c.in-Some.child.now c.in-Some.ensures.steps in
    let closes : Closes c.args.client.now c.args.files.now c.loop-name.files =
    closes_left c.args.client.now c.args.files.now c.loop-name.files (flatten c.loop-name._name-iterator) (flatten c.args.nodes.now.entries) c.loop-name.invariant.left_over in
    record {
      can_next = tt;
      is_finite = tt;
      left_over = λ k.
          closed_next c.args.client.now k c.loop-name._name-iterator c.next.new.self c.in-Some._name.now c.in-Some.child.now c.loop-name.files c.close_beneath.new.files _ c.in-Some.ensures.steps (c.close_beneath.ensures.closed k)
          (c.loop-name.invariant.left_over k);
      count = λ all kept few.
          let before = c.loop-name.invariant.count all kept few in
          let here = c.close_beneath.ensures.count all (kept_closed c.args.client.now c.args.files.now c.loop-name.files closes all kept) (omega (arith, before, few)) in
          omega (arith, before, here, few);
      left = omega (arith, less, c.loop-name.invariant.left);
    }

pub close_beneath-returns-in-File-clause-count : goal.close_beneath-returns-in-File-clause-count
close_beneath-returns-in-File-clause-count t c = λ all kept few.
    omega (
      arith,
      c.from.ensures,
      ap bit c.close_finished.ensures.told,
      count_closed c.args.client.now c.args.files.now c.close_finished.new.self c.in-File.place c.close_finished.ensures.closed all kept,
    )
