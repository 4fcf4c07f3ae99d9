use Rattle.std.proofs.Common.{ℕ, List, [], Bor, map, take, arith, ◌<◌, length}
use Rattle.cluster_runs.specs.Output.{after_lines}
use Rattle.hdfs_cli.specs.Hinted.{numbered_fault}
use Rattle.hdfs_cli.proofs.Hinting.{number_next, shows_next, hints_next}
use Rattle.hdfs_cli.proofs.hints.run_with_hints.Goals as goal

pub loop-line-preserved : goal.loop-line-preserved
loop-line-preserved c =
    let d : Bor (List ℕ) = record { ref_ptr = (0, 0); now = [] } in
    let lines = c.args.lines.now in
    let i = c.loop-line.line-index in
    let within : i < length lines = omega arith in
    let before = c.loop-line.invariant in
    let served = rw c.from_ref.ensures.value at c.in_ok-serve_all.ensures.ok (after_lines (take i (map (λ line. line.now) lines))) before.shows in
    record {
      number = number_next lines i d within c.loop-line.session c.serve_all.new.self before.number before.shows served;
      shows = shows_next lines i d within c.serve_all.new.self served;
      hints = hints_next lines i d within c.loop-line.session (map numbered_fault c.loop-line.hints.items) (map numbered_fault c.push_hint.new.hints.items) before.shows before.hints c.in_ok-push_hint.ensures;
    }
