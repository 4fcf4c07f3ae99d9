use Rattle.namespace_rows.specs.Rows.{directories_above}
use Rattle.perm_walk.proofs.Traversals.{none_shut}
use Rattle.perm_walk.proofs.judge.follow.Goals as goal

pub unreachable-requires : goal.unreachable-requires
unreachable-requires c = none_shut (directories_above c.args.path.now c.args.tree.now) c.in-Closed.field-0 c.in-Closed.ensures
