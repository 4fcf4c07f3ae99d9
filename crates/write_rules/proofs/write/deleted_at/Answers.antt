use Rattle.std.proofs.Common.{arith, subst}
use Rattle.std.specs.Prelude.{IfSome}
use Rattle.namespace_rows.specs.Rows.{is_directory}
use Rattle.namespace_rows.specs.Changes.{rows_under}
use Rattle.perm_walk.specs.Reached.{IsCounted}
use Rattle.write_rules.proofs.Deleting.{alone_is_one, parted}
use Rattle.write_rules.proofs.write.deleted_at.Goals as goal

pub returns-in-Some-checked_add : goal.returns-in-Some-checked_add
returns-in-Some-checked_add c =
    omega (arith, c.in-Some-checked_add.ensures.1, c.in_ok-counts.ensures.directories, c.in_ok-counts.ensures.files, parted is_directory (rows_under c.args.path.now c.args.tree.now))

pub returns-then-not-recursive : goal.returns-then-not-recursive
returns-then-not-recursive c = alone_is_one c.args.path.now c.args.tree.now c.requires.there (c.requires.alone c.if-not-recursive.true)

pub returns-in-Some : goal.returns-in-Some
returns-in-Some c = c.number_in.ensures c.args.path.now c.args.tree.now (subst (λ counted. IfSome counted (IsCounted c.args.path.now c.args.tree.now)) c.in-Some.is c.requires.counted)
