use Rattle.std.proofs.Common.{Err, ap, subst}
use Rattle.script_runs.proofs.Endings.{fault_in}
use Rattle.cluster_runs.specs.Audit.{AppendsFirst}
use Rattle.cluster_runs.proofs.audit.write_recorded.Goals as goal

pub returns-in-Err-clause-no_memory : goal.returns-in-Err-clause-no_memory
returns-in-Err-clause-no_memory g c = λ count e.
    subst (λ entries. AppendsFirst count (g.W.Write.contents c.args.writer.now) (g.W.Write.contents c.write_entries.new.writer) entries) c.history-entries.ensures
    (c.in-Err.ensures.no_memory count (ap Err (ap fault_in e)))
