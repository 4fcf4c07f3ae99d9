use Rattle.std.proofs.Common.{rules}
use Rattle.flat_rows.proofs.Changes.{row_fits}
use Rattle.core_tests.proofs.namespaces.put_among_rows.Goals as goal

pub insert-requires : goal.insert-requires
insert-requires c = search (rules, row_fits)
