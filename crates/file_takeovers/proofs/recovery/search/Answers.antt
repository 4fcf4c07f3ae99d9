use Rattle.std.proofs.Common.{◌≡◌, ◌+◌, ◌++◌, ◌∷◌, [], take, true, ap, sym, ◌∙◌}
use Rattle.std.proofs.lemmas.List.{take_more, take_all}
use Rattle.std.specs.List.{list_any}
use Rattle.namespace_rows.specs.Namespace.{is_ascending}
use Rattle.namespace_rows.specs.Rows.{row_at}
use Rattle.namespace_rows.proofs.Namespaces.{namespace_tests}
use Rattle.namespace_rows.specs.Changes.{rows_under}
use Rattle.file_takeovers.specs.Recovered.{recovers_at}
use Rattle.file_takeovers.proofs.SoughtFiles.{rows_of_root}
use Rattle.file_takeovers.proofs.Recovering.{recovers_row, none_more, found_row}
use Rattle.file_takeovers.proofs.recovery.search.Goals as goal

pub loop-row-preserved : goal.loop-row-preserved
loop-row-preserved c =
    let xs = c.deref-row-items.result.now in
    let i = c.loop-row.row-index in
    let next : take (i + 1) xs ≡ take i xs ++ c.row-item.result ∷ [] = take_more xs i c.row-item.result c.loop-row-test.true ∙ ap (λ x. take i xs ++ x ∷ []) (sym c.row-item.is) in
    none_more c.args.block xs i c.row-item.result next (sym c.recovers_in.ensures ∙ c.if-recovers_in.false) c.loop-row.invariant

pub returns-then-recovers_in : goal.returns-then-recovers_in
returns-then-recovers_in c =
    let xs = c.deref-row-items.result.now in
    let i = c.loop-row.row-index in
    let rows = c.args.tree.now in
    let next : take (i + 1) xs ≡ take i xs ++ c.row-item.result ∷ [] = take_more xs i c.row-item.result c.loop-row-test.true ∙ ap (λ x. take i xs ++ x ∷ []) (sym c.row-item.is) in
    let whole : xs ≡ rows = c.deref-row-items.ensures.value ∙ (c.in_ok-rows.ensures ∙ (ap (λ path. rows_under path rows) c.root.ensures ∙ rows_of_root rows)) in
    let up : is_ascending xs ≡ true = ap is_ascending whole ∙ (namespace_tests rows c.requires).ascending in
    ap (λ path. recovers_at c.args.block (row_at path rows)) c.in_ok-path.ensures.cases
    ∙ (ap (λ some. recovers_at c.args.block (row_at c.row-item.result.path some)) (sym whole) ∙ found_row c.args.block xs i c.row-item.result up next (sym c.recovers_in.ensures ∙ c.if-recovers_in.true))

pub returns : goal.returns
returns c =
    let xs = c.deref-row-items.result.now in
    let rows = c.args.tree.now in
    let whole : xs ≡ rows = c.deref-row-items.ensures.value ∙ (c.in_ok-rows.ensures ∙ (ap (λ path. rows_under path rows) c.root.ensures ∙ rows_of_root rows)) in
    ap (list_any (recovers_row c.args.block)) (sym (take_all c.loop-row.row-index xs c.loop-row-test.false ∙ whole)) ∙ c.loop-row.invariant
