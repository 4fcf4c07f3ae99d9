use Rattle.std.proofs.Common.{ap, ◌∙◌, unwrap_or, [], Option, List}
use Rattle.grant_ledger.specs.declared.ledger.LedgerRow.{LedgerRow}
use Rattle.std.specs.BTreeMap.{is_at}
use Rattle.std.specs.Map.{lookup}
use Rattle.hdfs_values.specs.Text.{text_cmp}
use Rattle.token_provenance.specs.Provenance.{least_place}
use Rattle.token_provenance.specs.Index.{rows_at, TokenIndex}
use Rattle.token_provenance.proofs.index.TokenIndex.least_place.Goals as goal

pub returns-in-Some : goal.returns-in-Some
returns-in-Some c = λ rows law.
    c.least_place.ensures
    ∙ (ap (λ (found : Option (List LedgerRow)). least_place (unwrap_or found []) c.args.entry.now) (c.in-Some.ensures.value ∙ ap (λ bytes. lookup (is_at (λ key. text_cmp bytes key.now)) c.self.inside.tokens.entries) c.as_bytes.ensures)
    ∙ (ap (λ (table : TokenIndex). least_place (rows_at c.args.entry.now.token table) c.args.entry.now) c.self.view_is ∙ law c.args.entry.now))
