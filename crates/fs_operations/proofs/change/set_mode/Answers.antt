use Rattle.std.proofs.Common.{◌∙◌, ap, subst}
use Rattle.partial_acl.specs.AclChange.{with_mode}
use Rattle.perm_walk.specs.Target.{IsTarget}
use Rattle.fs_operations.proofs.Suiting.{list_of_mode_suits}
use Rattle.fs_operations.proofs.change.set_mode.Goals as goal

pub rewrite-requires : goal.rewrite-requires
rewrite-requires c =
    let at = subst (IsTarget c.args.path.now c.args.tree.now c.args.caller.now c.args.needs.now) c.in-There.is c.in_ok-denial.ensures in
    let kind = c.kind.ensures ∙ ap (λ row. row.kind) c.inode-inode.ensures in
    let acl = c.in_ok-acl.ensures.cases ∙ c.acl.ensures ∙ ap (λ row. row.acl) c.inode-inode.ensures in
    list_of_mode_suits c.args.mode c.args.path.now c.args.tree.now c.in-There.component c.chmod.new.acl at.tree at.there.at
    (c.chmod.ensures ∙ ap (λ a. with_mode c.args.mode c.kind.result a) acl ∙ ap (λ k. with_mode c.args.mode k c.in-There.component.acl) kind)
