use Rattle.std.proofs.Common.{arith}
use Rattle.cluster_runs.proofs.Writing.{batch_length, batch_written, none_of_batch, front_of_batch}
use Rattle.cluster_runs.proofs.audit.write_entries.Goals as goal

pub returns-in-Err-clause-no_memory : goal.returns-in-Err-clause-no_memory
returns-in-Err-clause-no_memory g c = λ count e.
    none_of_batch (g.W.Write.contents c.args.writer.now) (g.W.Write.contents c.loop-done.writer) (g.W.Write.contents c.write_batch.new.writer) c.args.entries.now c.loop-done.done count
    c.loop-done.invariant.within
    c.loop-done.invariant.written
    (c.in-Err.ensures.no_memory count e)

pub returns-in-Err-clause-unwritten : goal.returns-in-Err-clause-unwritten
returns-in-Err-clause-unwritten g c = λ e.
    front_of_batch (g.W.Write.contents c.args.writer.now) (g.W.Write.contents c.loop-done.writer) (g.W.Write.contents c.write_batch.new.writer) c.args.entries.now c.batch_behind-batch.result.now c.loop-done.done
    c.batch_behind-batch.ensures
    c.loop-done.invariant.written
    (c.in-Err.ensures.unwritten e)

pub loop-done-preserved : goal.loop-done-preserved
loop-done-preserved g c =
    let entries = c.args.entries.now in
    let batch = c.batch_behind-batch.result.now in
    let size = batch_length entries batch c.loop-done.done c.batch_behind-batch.ensures in
    record {
      within = omega (arith, size, c.loop-done.invariant.within);
      written = batch_written _ _ _ entries batch c.loop-done.done c.batch_behind-batch.ensures c.loop-done.invariant.written c.in-Ok.ensures.ok;
    }
