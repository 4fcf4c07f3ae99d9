use Rattle.std.proofs.Common.{◌≡◌, ◌++◌, take, map, List}
use Rattle.grant_ledger.specs.declared.ledger.LedgerRow.{LedgerRow}
use Rattle.token_provenance.specs.Index.{IsIndex}
use Rattle.token_provenance.specs.Provenance.{source_of}
use Rattle.token_provenance.proofs.provenance.add_sources.Given as goal

abbrev pub invariant-loop-entry : goal.invariant-loop-entry
invariant-loop-entry l = (rows : List LedgerRow) → IsIndex l.index rows → l.sources.items ≡ l.initial.sources.items ++ map (source_of rows) (take l.entry-index l.log)
