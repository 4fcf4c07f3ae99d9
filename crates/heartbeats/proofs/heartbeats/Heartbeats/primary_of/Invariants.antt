use Rattle.std.proofs.Common.{◌≡◌, None, drop}
use Rattle.std.specs.List.{fold}
use Rattle.heartbeats.specs.Best.{better}
use Rattle.heartbeats.proofs.heartbeats.Heartbeats.primary_of.Given as goal

abbrev pub invariant-loop-node : goal.invariant-loop-node
invariant-loop-node l = fold (better l.self l.now) l.best (drop l.node-index l.nodes) ≡ fold (better l.self l.now) None l.nodes
