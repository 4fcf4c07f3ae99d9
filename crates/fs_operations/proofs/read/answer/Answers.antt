use Rattle.std.proofs.Common.{ap}
use Rattle.hdfs_types.specs.Verb.{read_op}
use Rattle.hdfs_types.specs.declared.op.Op.TheVariants as op
use Rattle.fs_operations.proofs.Stepped.{as_stepped}
use Rattle.fs_operations.proofs.read.answer.Goals as goal

pub returns-in-Stat : goal.returns-in-Stat
returns-in-Stat c = λ facts.
    as_stepped facts c.args.tree.now c.args.tree.now c.args.users.now c.args.users.now c.args.caller.now c.caller_for_rights-asking.result c.args.needs.now (read_op c.args.read) (op.Stat c.in-Stat.path.now) c.stat.result
    c.caller_for_rights-asking.ensures c.requires (ap read_op c.in-Stat.is) (c.stat.ensures facts c.args.users.now)

pub returns-in-List : goal.returns-in-List
returns-in-List c = λ facts.
    as_stepped facts c.args.tree.now c.args.tree.now c.args.users.now c.args.users.now c.args.caller.now c.caller_for_rights-asking.result c.args.needs.now (read_op c.args.read) (op.List c.in-List.path.now) c.list.result
    c.caller_for_rights-asking.ensures c.requires (ap read_op c.in-List.is) (c.list.ensures facts c.args.users.now)

pub returns-in-Summary : goal.returns-in-Summary
returns-in-Summary c = λ facts.
    as_stepped facts c.args.tree.now c.args.tree.now c.args.users.now c.args.users.now c.args.caller.now c.caller_for_rights-asking.result c.args.needs.now (read_op c.args.read) (op.Summary c.in-Summary.path.now) c.summary.result
    c.caller_for_rights-asking.ensures c.requires (ap read_op c.in-Summary.is) (c.summary.ensures facts c.args.users.now)

pub returns-in-GetAcl : goal.returns-in-GetAcl
returns-in-GetAcl c = λ facts.
    as_stepped facts c.args.tree.now c.args.tree.now c.args.users.now c.args.users.now c.args.caller.now c.caller_for_rights-asking.result c.args.needs.now (read_op c.args.read) (op.GetAcl c.in-GetAcl.path.now) c.get_acl.result
    c.caller_for_rights-asking.ensures c.requires (ap read_op c.in-GetAcl.is) (c.get_acl.ensures facts c.args.users.now)
