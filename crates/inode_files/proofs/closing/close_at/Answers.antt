use Rattle.std.proofs.Common.{◌≡◌, ◌+◌, ◌≤◌, ap, ◌∙◌, arith}
use Rattle.flat_rows.proofs.Holders.{bit}
use Rattle.inode_files.proofs.Closings.{closes_at, kept_closed, rows_closed, told_next}
use Rattle.inode_files.proofs.closing.close_at.Goals as goal
use Rattle.inode_files.proofs.closing.close_at.Goals.{then-close_finished, else-close_finished}

pub loop-place-preserved : goal.loop-place-preserved
loop-place-preserved c =
    let is : c.if-close_finished.closed ≡ c.loop-place.closed + bit c.close_finished.result =
    elim c.if-close_finished.branch [ then-close_finished w ↦ omega (arith, ap bit w.if-close_finished.true) | else-close_finished w ↦ omega (arith, ap bit w.if-close_finished.false) ] in
    let few : c.if-close_finished.closed ≤ c.loop-place.place-index + 1 =
    elim c.if-close_finished.branch [ then-close_finished w ↦ omega arith | else-close_finished w ↦ omega arith ] in
    record {
      few = few;
      closes = λ k. closes_at c.args.client.now c.loop-place.files c.close_finished.new.self c.place-item.result c.close_finished.ensures.closed k ∙ c.loop-place.invariant.closes k;
      count = λ rows kept.
          told_next c.args.client.now c.args.files.now c.loop-place.files c.close_finished.new.self c.place-item.result c.close_finished.result c.loop-place.closed c.if-close_finished.closed rows c.close_finished.ensures.told
          c.close_finished.ensures.closed is c.loop-place.invariant.closes kept (c.loop-place.invariant.count rows kept);
    }

pub returns-clause-kept : goal.returns-clause-kept
returns-clause-kept c = kept_closed c.args.client.now c.args.files.now c.loop-place.files c.loop-place.invariant.closes

pub returns-clause-closed : goal.returns-clause-closed
returns-clause-closed c = λ rows kept. rows_closed c.args.client.now c.args.files.now c.loop-place.files c.loop-place.invariant.closes rows
