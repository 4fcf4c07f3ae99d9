use Rattle.std.proofs.Common.{map, take}
use Rattle.cluster_runs.specs.Output.{State, behind_lines}
use Rattle.cluster_runs.specs.Recorded.{Holds}
use Rattle.cluster_runs.proofs.recording.Recording.serve_all.Given as goal

-- the recording holds what the lines so far leave
abbrev pub invariant-loop-line : goal.invariant-loop-line
invariant-loop-line l = (state : State) → Holds state l.initial.self → Holds (behind_lines state (take l.line-index (map (λ line. line.now) l.lines))) l.self
