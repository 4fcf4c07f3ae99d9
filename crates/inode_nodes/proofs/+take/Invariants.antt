use Rattle.std.proofs.Common.{◌+◌, ◌*◌, length}
use Rattle.inode_nodes.proofs.+take.Given as goal

abbrev pub decreases-node::Node::take : goal.decreases-node::Node::take
decreases-node::Node::take l = 2 * length l.rest.now + 1

abbrev pub decreases-change::take_in : goal.decreases-change::take_in
decreases-change::take_in l = 2 * length l.rest.now
