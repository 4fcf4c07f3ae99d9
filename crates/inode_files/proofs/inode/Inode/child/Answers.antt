use Rattle.std.proofs.Common.{None, Some, ap, sym, subst}
use Rattle.std.specs.Option.{option_copied}
use Rattle.inode_nodes.specs.Part.{IsPart}
use Rattle.inode_visits.specs.SeenNode.{seen_branch}
use Rattle.inode_files.proofs.SeenParts.{seen_part}
use Rattle.inode_files.proofs.inode.Inode.child.Goals as goal

pub returns-in_err-node-clause-part : goal.returns-in_err-node-clause-part
returns-in_err-node-clause-part c =
    rw c.from_residual.ensures
    (seen_part c.args.self.now.files.now c.args.name.now c.args.self.now.node.now.beneath None (subst (IsPart c.args.name.now c.args.self.now.node.now.beneath) (ap option_copied c.in_err-node.was) c.child.ensures.part))

pub returns-clause-part : goal.returns-clause-part
returns-clause-part c =
    subst (λ branch. IsPart c.args.name.now (seen_branch c.args.self.now.files.now c.args.self.now.node.now).beneath (Some branch)) (sym c.new.ensures)
    (seen_part c.args.self.now.files.now c.args.name.now c.args.self.now.node.now.beneath (Some c.in_ok-node.node.now) (subst (IsPart c.args.name.now c.args.self.now.node.now.beneath) (ap option_copied c.in_ok-node.was) c.child.ensures.part))
