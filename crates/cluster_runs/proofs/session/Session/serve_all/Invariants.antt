use Rattle.std.proofs.Common.{◌≡◌, ◌+◌, map, take}
use Rattle.cluster_runs.specs.Output.{State, behind_lines}
use Rattle.cluster_runs.specs.Shown.{Shows}
use Rattle.cluster_runs.proofs.session.Session.serve_all.Given as goal

-- the session holds what the lines so far leave
abbrev pub invariant-loop-line : goal.invariant-loop-line
invariant-loop-line l = record {
  number : l.self.number ≡ l.initial.self.number + l.line-index;
  shows : (state : State) → Shows state l.initial.self → Shows (behind_lines state (take l.line-index (map (λ line. line.now) l.lines))) l.self;
}
