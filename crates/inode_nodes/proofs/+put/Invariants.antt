use Rattle.std.proofs.Common.{◌+◌, ◌*◌, length}
use Rattle.inode_nodes.proofs.+put.Given as goal

abbrev pub decreases-node::Node::put : goal.decreases-node::Node::put
decreases-node::Node::put l = 2 * length l.above.now + 1

abbrev pub decreases-change::put_in : goal.decreases-change::put_in
decreases-change::put_in l = 2 * length l.above.now
