use Rattle.std.proofs.Common.{sym, ap, ◌∙◌, ◌++◌, map, arith, subst, List}
use Rattle.grant_ledger.specs.declared.ledger.LedgerRow.{LedgerRow}
use Rattle.call_parts.specs.declared.access_log.AccessRecord.{AccessRecord}
use Rattle.token_provenance.specs.declared.source.Source.{Source}
use Rattle.token_provenance.specs.Provenance.{source_of}
use Rattle.token_provenance.specs.Index.{IsIndex}
use Rattle.token_provenance.proofs.Places.{sources_step}
use Rattle.token_provenance.proofs.provenance.provenance.Goals as goal

pub loop-log-preserved : goal.loop-log-preserved
loop-log-preserved c =
    c.in_ok-add_sources.ensures c.args.ledger.now.rows (subst (λ (rows : List LedgerRow). IsIndex c.in_ok-index.index rows) c.as_slice.ensures c.in_ok-index.ensures)
    ∙ (ap (λ (log : List AccessRecord). c.loop-log.sources.items ++ map (source_of c.args.ledger.now.rows) log) c.as_slice-in-loop-log.ensures
    ∙ (ap (λ (l : List Source). l ++ map (source_of c.args.ledger.now.rows) c.log-item.result) c.loop-log.invariant
    ∙ sym (sources_step (source_of c.args.ledger.now.rows) c.as_slice-log-items.result.now c.loop-log.log-index c.log-item.result (omega arith) c.log-item.is)))
