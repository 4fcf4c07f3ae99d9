use Rattle.std.proofs.Common.{◌+◌, ◌*◌, length}
use Rattle.inode_nodes.proofs.+fill.Given as goal

abbrev pub decreases-node::Node::fill : goal.decreases-node::Node::fill
decreases-node::Node::fill l = 2 * length l.above.now + 1

abbrev pub decreases-change::fill_in : goal.decreases-change::fill_in
decreases-change::fill_in l = 2 * length l.above.now
