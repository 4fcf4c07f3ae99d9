use Rattle.std.proofs.Common.{◌≡◌, take, map}
use Rattle.token_provenance.specs.Provenance.{source_of, records_of}
use Rattle.token_provenance.proofs.provenance.provenance.Given as goal

abbrev pub invariant-loop-log : goal.invariant-loop-log
invariant-loop-log l = l.sources.items ≡ map (source_of l.ledger.rows) (records_of (take l.log-index l.log-items))
