use Rattle.std.proofs.Common.{◌≡◌, ◌++◌, filter, drop}
use Rattle.std.specs.Map.{keys_of}
use Rattle.heartbeats.proofs.Live.{is_recent_entry}
use Rattle.heartbeats.proofs.heartbeats.Heartbeats.recent_nodes.Given as goal

abbrev pub invariant-loop-entry : goal.invariant-loop-entry
invariant-loop-entry l = l.nodes.items ++ keys_of (filter (is_recent_entry l.self.dead l.now) (drop l.entry-index l.self.last)) ≡ keys_of (filter (is_recent_entry l.self.dead l.now) l.self.last)
