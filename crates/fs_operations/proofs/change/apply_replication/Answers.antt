use Rattle.std.proofs.Common.{refl}
use Rattle.hdfs_types.specs.declared.op.Op.TheVariants as op
use Rattle.fs_operations.proofs.Stepped.{as_stepped}
use Rattle.fs_operations.proofs.change.apply_replication.Goals as goal

pub returns-clause-ok : goal.returns-clause-ok
returns-clause-ok c = λ facts.
    let what = op.SetReplication c.args.path.now c.args.replication in
    as_stepped facts c.args.tree.now c.set_replication.new.tree c.args.users.now c.args.users.now c.args.caller.now c.caller_for_rights-asking.result c.args.needs.now what what c.set_replication.result
    c.caller_for_rights-asking.ensures c.requires refl (c.set_replication.ensures.ok facts c.args.users.now)
