use Rattle.std.specs.String.{string_bytes}
use Rattle.cluster_runs.specs.Audit.{history_after, history_of_script}
use Rattle.cluster_runs.proofs.Growing.{first_or_all}
use Rattle.cluster_runs.proofs.Writing.{first_of_history, front_of_history, known_first, known_front}
use Rattle.cluster_runs.proofs.audit.audit.Goals as goal

pub returns-clause-no_memory : goal.returns-clause-no_memory
returns-clause-no_memory g c = λ count e.
    let script = c.deref.result.now in
    let entries = history_after c.in-Ok.recorded.recording.world in
    let first = first_or_all c.in-Ok.recorded.ended (history_of_script script) entries c.in-Ok.ensures.ok c.in-Ok.ensures.err in
    known_first (g.R.Read.remaining c.args.reader.now) (g.W.Write.contents c.args.writer.now) (g.W.Write.contents c.write_recorded-ended.new.writer) script count
    (rw c.deref.ensures c.in_ok-script.ensures.ok)
    (first_of_history (g.W.Write.contents c.args.writer.now) (g.W.Write.contents c.write_recorded-ended.new.writer) (history_of_script script) entries count first (c.write_recorded-ended.ensures.no_memory count e))

pub returns-clause-unwritten : goal.returns-clause-unwritten
returns-clause-unwritten g c = λ e.
    let script = c.deref.result.now in
    let entries = history_after c.in-Ok.recorded.recording.world in
    let first = first_or_all c.in-Ok.recorded.ended (history_of_script script) entries c.in-Ok.ensures.ok c.in-Ok.ensures.err in
    known_front (g.R.Read.remaining c.args.reader.now) (g.W.Write.contents c.args.writer.now) (g.W.Write.contents c.write_recorded-ended.new.writer) script
    (rw c.deref.ensures c.in_ok-script.ensures.ok)
    (front_of_history (g.W.Write.contents c.args.writer.now) (g.W.Write.contents c.write_recorded-ended.new.writer) (history_of_script script) entries first (c.write_recorded-ended.ensures.unwritten e))
