use Rattle.std.proofs.Common.{◌≡◌, ◌+◌, ◌++◌, ◌∷◌, [], take, drop, true, ap, sym, ◌∙◌, subst}
use Rattle.std.proofs.lemmas.List.{take_more, take_all, take-append-drop}
use Rattle.namespace_rows.specs.Namespace.{is_ascending}
use Rattle.namespace_rows.proofs.Namespaces.{namespace_tests}
use Rattle.namespace_rows.specs.Changes.{rows_under}
use Rattle.file_takeovers.specs.Expiry.{Expiry, AreAll, sought_entries}
use Rattle.file_takeovers.proofs.SoughtFiles.{ascending_take, rows_of_root}
use Rattle.file_takeovers.proofs.sought.all_sought.Goals as goal

pub loop-row-preserved : goal.loop-row-preserved
loop-row-preserved c =
    let xs = c.deref-row-items.result.now in
    let i = c.loop-row.row-index in
    let expiry : Expiry = record { past = c.args.past.now; retry = c.args.retry; now = c.args.now } in
    let next : take (i + 1) xs ≡ take i xs ++ c.row-item.result ∷ [] = take_more xs i c.row-item.result c.loop-row-test.true ∙ ap (λ x. take i xs ++ x ∷ []) (sym c.row-item.is) in
    let whole : xs ≡ c.args.tree.now = c.deref-row-items.ensures.value ∙ (c.in_ok-rows.ensures ∙ (ap (λ path. rows_under path c.args.tree.now) c.root.ensures ∙ rows_of_root c.args.tree.now)) in
    let up : is_ascending xs ≡ true = ap is_ascending whole ∙ (namespace_tests c.args.tree.now c.requires).ascending in
    let front : is_ascending (take (i + 1) xs) ≡ true = ascending_take (take (i + 1) xs) (drop (i + 1) xs) (ap is_ascending (take-append-drop (i + 1) xs) ∙ up) in
    subst (λ some. AreAll expiry some c.add_row.new.files) (sym next) (c.in_ok-add_row.ensures (take i xs) (ap is_ascending (sym next) ∙ front) c.loop-row.invariant)

pub returns : goal.returns
returns c =
    let xs = c.deref-row-items.result.now in
    let expiry : Expiry = record { past = c.args.past.now; retry = c.args.retry; now = c.args.now } in
    let whole : xs ≡ c.args.tree.now = c.deref-row-items.ensures.value ∙ (c.in_ok-rows.ensures ∙ (ap (λ path. rows_under path c.args.tree.now) c.root.ensures ∙ rows_of_root c.args.tree.now)) in
    c.loop-row.invariant ∙ ap (sought_entries expiry) (take_all c.loop-row.row-index xs c.loop-row-test.false ∙ whole)
