use Rattle.std.proofs.Common.{Err, ap, sym}
use Rattle.std.specs.String.{string_bytes}
use Rattle.script_runs.proofs.Endings.{fault_in, served_in}
use Rattle.cluster_runs.proofs.Endings.{ended_front, partly_written, nothing_at}
use Rattle.cluster_runs.proofs.script.run_script.Goals as goal

pub returns-in-Err-clause-no_memory : goal.returns-in-Err-clause-no_memory
returns-in-Err-clause-no_memory g c = λ served e. nothing_at (g.R.Read.remaining c.args.reader.now) (g.W.Write.contents c.args.writer.now) served (c.in-Err.ensures.unserved served (ap Err (ap fault_in e)))

pub returns-in_default-clause-no_memory : goal.returns-in_default-clause-no_memory
returns-in_default-clause-no_memory g c = λ served e. nothing_at (g.R.Read.remaining c.args.reader.now) (g.W.Write.contents c.args.writer.now) served (sym (ap served_in e))

pub returns-in_err-map_err-clause-unwritten : goal.returns-in_err-map_err-clause-unwritten
returns-in_err-map_err-clause-unwritten g c = λ _.
    partly_written (g.R.Read.remaining c.args.reader.now) (g.W.Write.contents c.args.writer.now) (g.W.Write.contents c.write_text.new.writer) c.deref.result.now (string_bytes c.in-Ok-run_alone.ran.text)
    (rw c.deref.ensures c.in-Ok.ensures.ok)
    (ended_front c.in-Ok-run_alone.ran.ended c.in-Ok-run_alone.ran.served c.deref.result.now (string_bytes c.in-Ok-run_alone.ran.text) c.in-Ok-run_alone.ensures.ok c.in-Ok-run_alone.ensures.err)
    (rw c.as_bytes.ensures.value at c.write_text.ensures.front)
