use Rattle.std.proofs.Common.{◌≡◌, sym, ap, ◌∙◌, unwrap_or, [], subst, None, Some, Option, List, cond, rules}
use Rattle.grant_ledger.specs.declared.ledger.LedgerRow.{LedgerRow}
use Rattle.std.specs.BTreeMap.{is_at}
use Rattle.std.specs.Map.{lookup}
use Rattle.hdfs_values.specs.Text.{same, text_cmp}
use Rattle.token_provenance.specs.Index.{TokenIndex, IsIndex}
use Rattle.token_provenance.specs.Provenance.{lesser, place_of, least_place}
use Rattle.token_provenance.proofs.Places.{indexed_more, listed_tells}
use Rattle.token_provenance.proofs.index.TokenIndex.add.Goals as goal

pub returns-in-Some : goal.returns-in-Some
returns-in-Some c = λ rows law.
    indexed_more c.self.inside.tokens.entries (c.get_mut.follows.lender c.add.new.self).entries c.args.row.now c.add.new.self
    (λ q. ((c.get_mut.follows.holds c.add.new.self).3 (search rules)).0 q ∙ ap (λ token. cond (same token q.now) (Some c.add.new.self) (lookup (is_at (λ key. text_cmp q.now key.now)) c.self.inside.tokens.entries)) c.as_bytes-token.ensures)
    (λ entry. ap (λ l. least_place l entry) c.in_ok-add.ensures ∙ listed_tells _ c.args.row.now entry ∙ ap (λ l. lesser (least_place l entry) (place_of c.args.row.now entry)) (ap (λ (found : Option (List LedgerRow)). unwrap_or found []) (c.in-Some.ensures.value ∙ ap (λ bytes. lookup (is_at (λ key. text_cmp bytes key.now)) c.self.inside.tokens.entries) c.as_bytes-token.ensures)))
    rows (subst (λ (table : TokenIndex). IsIndex table rows) (sym c.self.view_is) law)

pub returns : goal.returns
returns c = λ rows law.
    let kept : c.get_mut.follows.lender-at-none.entries ≡ c.self.inside.tokens.entries = search (rules, c.get_mut.follows.holds-at-none) in
    let none : None ≡ lookup (is_at (λ key. text_cmp c.args.row.now.grant.token key.now)) c.self.inside.tokens.entries = c.in_default.ensures.value ∙ ap (λ bytes. lookup (is_at (λ key. text_cmp bytes key.now)) c.self.inside.tokens.entries) c.as_bytes-token.ensures in
    indexed_more c.self.inside.tokens.entries c.insert.new.self.entries c.args.row.now c.in_ok-rows.rows
    (λ q. c.in_ok-insert.ensures.updates.0 q
    ∙ (ap (λ token. cond (same token q.now) (Some c.in_ok-rows.rows) (lookup (is_at (λ key. text_cmp q.now key.now)) c.get_mut.follows.lender-at-none.entries)) c.as_bytes-token.ensures
    ∙ ap (λ (table : TokenIndex). cond (same c.args.row.now.grant.token q.now) (Some c.in_ok-rows.rows) (lookup (is_at (λ key. text_cmp q.now key.now)) table)) kept))
    (λ entry. ap (λ l. least_place l entry) c.in_ok-rows.ensures ∙ ap (λ (found : Option (List LedgerRow)). lesser (least_place (unwrap_or found []) entry) (place_of c.args.row.now entry)) none)
    rows (subst (λ (table : TokenIndex). IsIndex table rows) (sym c.self.view_is) law)
