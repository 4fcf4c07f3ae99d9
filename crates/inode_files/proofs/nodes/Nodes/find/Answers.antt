use Rattle.std.proofs.Common.{None, Some, ◌∙◌, ap, sym, subst}
use Rattle.std.specs.Option.{option_copied}
use Rattle.inode_nodes.specs.Node.{rows}
use Rattle.inode_nodes.specs.Part.{IsWhole}
use Rattle.inode_visits.specs.SeenNode.{seen_branch}
use Rattle.inode_files.proofs.SeenParts.{seen_whole}
use Rattle.inode_files.proofs.nodes.Nodes.find.Goals as goal

pub returns-in_err-node : goal.returns-in_err-node
returns-in_err-node c =
    rw c.from_residual.ensures
    (subst (λ all. IsWhole c.args.path.now all None) c.self.view_is (seen_whole c.self.inside.files c.args.path.now (rows c.self.inside.root) None (subst (IsWhole c.args.path.now (rows c.self.inside.root)) (ap option_copied c.in_err-node.was) c.find.ensures)))

pub returns : goal.returns
returns c =
    subst (IsWhole c.args.path.now c.args.self.now) (ap Some (sym c.new.ensures))
    (subst (λ all. IsWhole c.args.path.now all (Some (seen_branch c.self.inside.files c.in_ok-node.node.now))) c.self.view_is
    (seen_whole c.self.inside.files c.args.path.now (rows c.self.inside.root) (Some c.in_ok-node.node.now) (subst (IsWhole c.args.path.now (rows c.self.inside.root)) (ap option_copied c.in_ok-node.was) c.find.ensures)))
