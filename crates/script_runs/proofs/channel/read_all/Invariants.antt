use Rattle.std.specs.Io.KnownBytes.{Consumes}
use Rattle.script_runs.proofs.channel.read_all.Given as goal

-- what was read is what the reader has given
abbrev pub invariant-loop-turn : goal.invariant-loop-turn
invariant-loop-turn g l = Consumes (g.R.Read.remaining l.initial.reader) (g.R.Read.remaining l.reader) l.bytes.items
