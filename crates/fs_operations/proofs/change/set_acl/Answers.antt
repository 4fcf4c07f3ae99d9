use Rattle.std.proofs.Common.{◌∙◌, sym, ap, subst}
use Rattle.partial_acl.specs.AclChange.{acl_change}
use Rattle.perm_walk.specs.Target.{IsTarget}
use Rattle.fs_operations.proofs.Suiting.{changed_list_suits}
use Rattle.fs_operations.proofs.change.set_acl.Goals as goal

pub rewrite-requires : goal.rewrite-requires
rewrite-requires c =
    let at = subst (IsTarget c.args.path.now c.args.tree.now c.args.caller.now c.args.needs.now) c.in-There.is c.in_ok-denial.ensures in
    let kind = c.kind.ensures ∙ ap (λ row. row.kind) c.inode-inode.ensures in
    let acl = c.acl.ensures ∙ ap (λ row. row.acl) c.inode-inode.ensures in
    changed_list_suits c.args.change.now c.args.path.now c.args.tree.now c.in-There.component c.in-Ok.acl at.tree at.there.at
    (sym (c.in_ok-acl.ensures ∙ ap (λ k. acl_change c.args.change.now k c.acl.result.now) kind ∙ ap (λ a. acl_change c.args.change.now c.in-There.component.kind a) acl) ∙ c.in-Ok.is)
