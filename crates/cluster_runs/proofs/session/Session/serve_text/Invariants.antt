use denote.Text.{Utf8}
use denote.Shadow.{shadow}
use Rattle.std.proofs.Common.{length}
use Rattle.cluster_runs.proofs.Served.{ServedTo}
use Rattle.cluster_runs.proofs.session.Session.serve_text.Given as goal

-- the session holds what the lines before the rest leave
abbrev pub invariant-loop-line : goal.invariant-loop-line
invariant-loop-line l = shadow (Utf8 l.rest) × ServedTo l.text l.rest l.initial.self l.self

abbrev pub decreases-loop-line : goal.decreases-loop-line
decreases-loop-line l = length l.rest
