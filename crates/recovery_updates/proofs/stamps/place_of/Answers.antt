use Rattle.std.proofs.Common.{rules}
use Rattle.std.proofs.lemmas.List.Sorted.{answers_always}
use Rattle.block_records.proofs.Standing.{searched, is_known}
use Rattle.recovery_updates.proofs.stamps.place_of.Goals as goal

pub returns-clause-known : goal.returns-clause-known
returns-clause-known g c =
    let facts = c.binary_search_by_key.ensures in
    let found = searched c.args.stamp c.args.table.now c.binary_search_by_key.result c.requires facts.bound (facts.position (λ entry. entry.0) (answers_always _ _ _ (λ f a r g called. search rules))) in
    is_known c.args.stamp c.args.table.now c.binary_search_by_key.result c.requires found.there found.absent

pub returns-clause-there : goal.returns-clause-there
returns-clause-there g c =
    let facts = c.binary_search_by_key.ensures in
    (searched c.args.stamp c.args.table.now c.binary_search_by_key.result c.requires facts.bound (facts.position (λ entry. entry.0) (answers_always _ _ _ (λ f a r g called. search rules)))).there

pub returns-clause-absent : goal.returns-clause-absent
returns-clause-absent g c =
    let facts = c.binary_search_by_key.ensures in
    (searched c.args.stamp c.args.table.now c.binary_search_by_key.result c.requires facts.bound (facts.position (λ entry. entry.0) (answers_always _ _ _ (λ f a r g called. search rules)))).absent
