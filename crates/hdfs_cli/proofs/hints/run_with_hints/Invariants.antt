use Rattle.std.proofs.Common.{◌≡◌, map, take}
use Rattle.cluster_runs.specs.Output.{after_lines}
use Rattle.cluster_runs.specs.Shown.{Shows}
use Rattle.hdfs_cli.specs.Hinted.{numbered_fault, bad_answers}
use Rattle.hdfs_cli.proofs.hints.run_with_hints.Given as goal

-- the lines so far were run, and those of them that are answered `bad` have their hints
abbrev pub invariant-loop-line : goal.invariant-loop-line
invariant-loop-line l = record {
  number : l.session.number ≡ l.line-index;
  shows : Shows (after_lines (take l.line-index (map (λ line. line.now) l.lines))) l.session;
  hints : map numbered_fault l.hints.items ≡ bad_answers (after_lines (take l.line-index (map (λ line. line.now) l.lines))).answers;
}
