use Rattle.std.proofs.Common.{◌+◌, ◌*◌, length}
use Rattle.inode_nodes.proofs.+make.Given as goal

abbrev pub decreases-node::Node::make : goal.decreases-node::Node::make
decreases-node::Node::make l = 2 * length l.path.now

abbrev pub decreases-change::make_in : goal.decreases-change::make_in
decreases-change::make_in l = 2 * length l.rest.now + 1
