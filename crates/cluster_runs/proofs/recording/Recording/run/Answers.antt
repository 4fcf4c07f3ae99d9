use Rattle.std.proofs.Common.{◌∙◌, ap, map, take}
use Rattle.cluster_runs.specs.Output.{no_lines, after_lines}
use Rattle.script_runs.proofs.Endings.{on_err}
use Rattle.cluster_runs.proofs.Growing.{first_lines}
use Rattle.cluster_runs.proofs.recording.Recording.run.Goals as goal

pub returns-in_err-serve_all-clause-err : goal.returns-in_err-serve_all-clause-err
returns-in_err-serve_all-clause-err c =
    let held = c.in_err-serve_all.ensures.err no_lines c.requires in
    on_err c.from_residual-in_err-serve_all.result
    (first_lines c.args.script.now held.count c.serve_all.new.self.world
    (held.world ∙ ap (λ lines. (after_lines (take held.count lines)).past) (ap (map (λ line. line.now)) c.deref.ensures.value ∙ c.in_ok-lines.ensures)))
