use Rattle.std.proofs.Common.{◌+◌, ◌*◌, length}
use Rattle.inode_nodes.proofs.+rewrite.Given as goal

abbrev pub decreases-node::Node::rewrite_by : goal.decreases-node::Node::rewrite_by
decreases-node::Node::rewrite_by l = 2 * length l.path.now

abbrev pub decreases-change::rewrite_in : goal.decreases-change::rewrite_in
decreases-change::rewrite_in l = 2 * length l.rest.now + 1
