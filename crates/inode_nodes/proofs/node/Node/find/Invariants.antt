use Rattle.std.proofs.Common.{drop, Option}
use Rattle.inode_nodes.specs.Node.{Node, rows}
use Rattle.inode_nodes.specs.Part.{IsWhole}
use Rattle.inode_nodes.proofs.node.Node.find.Given as goal

-- what stands at the names that are left beneath the node stands at the path
abbrev pub invariant-loop-name : goal.invariant-loop-name
invariant-loop-name l = (part : Option Node) → IsWhole (drop l.name-index l.path) (rows l.node) part → IsWhole l.path (rows l.self) part
