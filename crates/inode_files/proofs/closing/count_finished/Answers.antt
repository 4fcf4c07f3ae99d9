use Rattle.std.proofs.Common.{◌≡◌, ◌+◌, ◌≤◌, ap, arith}
use Rattle.flat_rows.proofs.Holders.{bit, tally}
use Rattle.inode_files.proofs.Closings.{is_counted, count_next, counted_finished}
use Rattle.inode_files.proofs.closing.count_finished.Goals as goal
use Rattle.inode_files.proofs.closing.count_finished.Goals.{then-is_finished_at, else-is_finished_at}

pub loop-place-preserved : goal.loop-place-preserved
loop-place-preserved c =
    let is : c.if-is_finished_at.count ≡ c.loop-place.count + bit c.is_finished_at.result =
    elim c.if-is_finished_at.branch [ then-is_finished_at w ↦ omega (arith, ap bit w.if-is_finished_at.true) | else-is_finished_at w ↦ omega (arith, ap bit w.if-is_finished_at.false) ] in
    let few : c.if-is_finished_at.count ≤ c.loop-place.place-index + 1 = elim c.if-is_finished_at.branch [ then-is_finished_at w ↦ omega arith | else-is_finished_at w ↦ omega arith ] in
    let next : c.in_ok-least.least ≡ c.place-item.result + 1 = omega (arith, c.in_ok-least.ensures) in
    record {
      few = few;
      counted = λ rows kept.
          omega (
            arith,
            is,
            ap bit c.is_finished_at.ensures,
            count_next c.args.client.now c.args.files.now c.loop-place.least c.place-item.result (omega arith) rows kept,
            ap (λ n. tally (is_counted c.args.client.now c.args.files.now n) rows) next,
            c.loop-place.invariant.counted rows kept,
          );
    }

pub returns : goal.returns
returns c = λ rows kept. omega (arith, counted_finished c.args.client.now c.args.files.now c.loop-place.least rows, c.loop-place.invariant.counted rows kept)
