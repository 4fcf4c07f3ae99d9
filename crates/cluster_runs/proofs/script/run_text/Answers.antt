use Rattle.script_runs.proofs.Endings.{on_err}
use Rattle.cluster_runs.specs.Output.{no_lines}
use Rattle.cluster_runs.proofs.Endings.{first_served}
use Rattle.cluster_runs.proofs.script.run_text.Goals as goal

pub returns-in_err-serve_text-clause-err : goal.returns-in_err-serve_text-clause-err
returns-in_err-serve_text-clause-err c = on_err c.from_residual.result (first_served c.args.script.now c.serve_text.new.self (c.in_err-serve_text.ensures.err no_lines c.requires))
