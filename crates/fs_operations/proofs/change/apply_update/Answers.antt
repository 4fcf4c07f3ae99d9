use Rattle.std.proofs.Common.{refl, ap}
use Rattle.hdfs_types.specs.Verb.{update_op}
use Rattle.hdfs_types.specs.declared.op.Op.TheVariants as op
use Rattle.principals.specs.Users.{caller_of}
use Rattle.fs_operations.proofs.Stepped.{as_stepped}
use Rattle.fs_operations.proofs.change.apply_update.Goals as goal

pub returns-in-Mkdirs-clause-ok : goal.returns-in-Mkdirs-clause-ok
returns-in-Mkdirs-clause-ok c = λ facts.
    as_stepped facts c.args.tree.now c.mkdirs.new.tree c.args.users.now c.args.users.now c.args.caller.now c.caller_for_rights-asking.result c.args.needs.now (update_op c.args.update.now) (op.Mkdirs c.in-Mkdirs.path.now c.in-Mkdirs.mode) c.mkdirs.result
    c.caller_for_rights-asking.ensures c.requires (ap update_op c.in-Mkdirs.is) (c.mkdirs.ensures.ok facts c.args.users.now)

pub returns-in-Rename-clause-ok : goal.returns-in-Rename-clause-ok
returns-in-Rename-clause-ok c = λ facts.
    as_stepped facts c.args.tree.now c.rename.new.tree c.args.users.now c.args.users.now c.args.caller.now c.caller_for_rights-asking-in-Rename.result c.args.needs.now (update_op c.args.update.now) (op.Rename c.in-Rename.from.now c.in-Rename.to.now) c.rename.result
    c.caller_for_rights-asking-in-Rename.ensures c.requires (ap update_op c.in-Rename.is) (c.rename.ensures.ok facts c.args.users.now)

pub returns-in-SetMode-clause-ok : goal.returns-in-SetMode-clause-ok
returns-in-SetMode-clause-ok c = λ facts.
    as_stepped facts c.args.tree.now c.set_mode.new.tree c.args.users.now c.args.users.now c.args.caller.now c.caller-asking.result c.args.needs.now (update_op c.args.update.now) (op.SetMode c.in-SetMode.path.now c.in-SetMode.mode) c.set_mode.result
    c.caller-asking.ensures c.requires (ap update_op c.in-SetMode.is) (c.set_mode.ensures.ok facts c.args.users.now)

pub returns-in-SetOwner-clause-ok : goal.returns-in-SetOwner-clause-ok
returns-in-SetOwner-clause-ok c = λ facts.
    as_stepped facts c.args.tree.now c.set_owner.new.tree c.args.users.now c.args.users.now c.args.caller.now c.caller-asking-in-SetOwner.result c.args.needs.now (update_op c.args.update.now) (op.SetOwner c.in-SetOwner.path.now c.in-SetOwner.owner.now c.in-SetOwner.group.now) c.set_owner.result
    c.caller-asking-in-SetOwner.ensures c.requires (ap update_op c.in-SetOwner.is) (c.set_owner.ensures.ok facts c.args.users.now)

pub returns-in-SetAcl-clause-ok : goal.returns-in-SetAcl-clause-ok
returns-in-SetAcl-clause-ok c = λ facts.
    as_stepped facts c.args.tree.now c.set_acl.new.tree c.args.users.now c.args.users.now c.args.caller.now c.caller-asking-in-SetAcl.result c.args.needs.now (update_op c.args.update.now) (op.SetAcl c.in-SetAcl.path.now c.in-SetAcl.change.now) c.set_acl.result
    c.caller-asking-in-SetAcl.ensures c.requires (ap update_op c.in-SetAcl.is) (c.set_acl.ensures.ok facts c.args.users.now)

pub returns-in-AddUser-clause-ok : goal.returns-in-AddUser-clause-ok
returns-in-AddUser-clause-ok c = λ facts.
    as_stepped facts c.args.tree.now c.args.tree.now c.args.users.now c.add_user.new.users c.args.caller.now (caller_of c.args.users.now c.args.caller.now) c.args.needs.now (update_op c.args.update.now) (op.AddUser c.in-AddUser.user.now c.in-AddUser.groups.now) c.add_user.result
    refl c.requires (ap update_op c.in-AddUser.is) (c.add_user.ensures.ok facts)

pub returns-in-SetGroups-clause-ok : goal.returns-in-SetGroups-clause-ok
returns-in-SetGroups-clause-ok c = λ facts.
    as_stepped facts c.args.tree.now c.args.tree.now c.args.users.now c.set_groups.new.users c.args.caller.now (caller_of c.args.users.now c.args.caller.now) c.args.needs.now (update_op c.args.update.now) (op.SetGroups c.in-SetGroups.user.now c.in-SetGroups.groups.now) c.set_groups.result
    refl c.requires (ap update_op c.in-SetGroups.is) (c.set_groups.ensures.ok facts)

pub returns-in-SetChecking-clause-ok : goal.returns-in-SetChecking-clause-ok
returns-in-SetChecking-clause-ok c = λ facts.
    as_stepped facts c.args.tree.now c.args.tree.now c.args.users.now c.switch_checking.new.users c.args.caller.now (caller_of c.args.users.now c.args.caller.now) c.args.needs.now (update_op c.args.update.now) (op.SetChecking c.in-SetChecking.on) c.switch_checking.result
    refl c.requires (ap update_op c.in-SetChecking.is) (c.switch_checking.ensures.ok facts)
